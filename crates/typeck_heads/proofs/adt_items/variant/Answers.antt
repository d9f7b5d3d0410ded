use Rattle.typeck_heads.proofs.Fields.{as_many_names}
use Rattle.typeck_heads.proofs.adt_items.variant.Goals as goal

pub returns-clause-known : goal.returns-clause-known
returns-clause-known c =
    record {
      fields = c.in_ok-ids.ensures.known;
      names = as_many_names _ _ _ _ _ _ c.in_ok-ids.ensures.answers c.in_ok-field_names.ensures.names;
    }
