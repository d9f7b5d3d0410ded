use Rattle.std.proofs.Common.{arith, ap, sym, ◌∙◌}
use Rattle.typing_rules.specs.Collected.{field_type, starting_with}
use Rattle.typing_rules.specs.Written as types
use Rattle.typeck_heads.specs.Forms.{around_of}
use Rattle.typeck_heads.proofs.Sequences.{each_behind}
use Rattle.typeck_heads.proofs.Types.{ids_behind}
use Rattle.typeck_heads.proofs.adt_items.field_types.Goals as goal

pub loop-split-preserved : goal.loop-split-preserved
loop-split-preserved c =
    record {
      answers =
          each_behind (λ f. types.written (around_of c.args.scope.now) (field_type f)) _ _ _ _ _ _ _ _ _ c.loop-split.invariant.answers
          c.in-Some.ensures
          (ap (λ x. types.written (around_of c.args.scope.now) x (starting_with c.loop-split.items)) (sym c.field_type.ensures) ∙ c.in_ok-id.ensures.answers)
          c.in_ok-push_to.ensures.pushed;
      grows = omega arith;
      known = ids_behind _ _ _ _ _ c.loop-split.invariant.known c.resolve_type.ensures.grows c.in_ok-id.ensures.known c.in_ok-push_to.ensures.pushed;
    }
