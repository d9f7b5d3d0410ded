use Rattle.std.proofs.Common.{◌≡◌, ◌++◌, map, drop}
use Rattle.src_meaning.specs.FieldKeys.{field_keys}
use Rattle.typed_tree.specs.View.{field_of, fields_from}
use Rattle.lower_code.specs.View.{keys_seen}
use Rattle.lower_code.proofs.operations.keys_of_fields.Given as goal

abbrev pub invariant-loop-field : goal.invariant-loop-field
invariant-loop-field l =
    keys_seen l.keys ++ map (λ f. f.1) (field_keys (fields_from (map field_of (drop l.field-index l.fields))))
    ≡ map (λ f. f.1) (field_keys (fields_from (map field_of l.fields)))
