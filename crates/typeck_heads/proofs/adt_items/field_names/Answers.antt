use Rattle.std.proofs.Common.{ap, ◌∙◌}
use Rattle.src_ast.specs.Seen.{syn_of}
use Rattle.typing_rules.specs.Collected.{field_name}
use Rattle.typeck_heads.proofs.Fields.{names_behind}
use Rattle.typeck_heads.proofs.adt_items.field_names.Goals as goal

pub loop-split-preserved : goal.loop-split-preserved
loop-split-preserved c =
    names_behind _ _ _ _ _ _ _ c.loop-split.invariant c.in-Some.ensures
    (c.in_ok-name.ensures.name ∙ ap (λ k. field_name k (syn_of c.in-Some.split.first.now)) c.len.ensures)
    c.in_ok-push_to.ensures.pushed
