use Rattle.std.proofs.Common.{ap, sym, ◌∙◌}
use Rattle.typeck_calls.proofs.Steps.{next, none_of}
use Rattle.typeck_calls.specs.Fields.{part_seen, wanted_by}
use Rattle.typeck_checker.specs.Stand.{stack, state, top}
use Rattle.typing_rules.specs.Places.{through}
use Rattle.well_typed.specs.Types.{inside_of}
use Rattle.typeck_calls.proofs.fields.through.Goals as goal

pub loop-step-preserved : goal.loop-step-preserved
loop-step-preserved c =
    let first = c.args.checker.now in
    let before = c.loop-step.checker in
    let after = c.go_inside.new.checker in
    let member = wanted_by c.args.wanted in
    let gone = c.in_ok-go_inside-in-Some.ensures in
    record {
      going =
          next member c.args.at c.most_steps-count.result (top (stack before)) (state before)
          (through member c.args.at (top (stack first)) (state first)) c.loop-step._step c.loop-step.invariant.going c.loop-step-test.true
          c.in-Some.inside (top (stack after)) (state after)
          (sym (ap (member before.walk.items) c.last_ty-ty.ensures) ∙ none_of part_seen c.member-found.result (member before.walk.items c.last_ty-ty.result) c.is_some.result c.member-found.ensures c.is_some.ensures c.if-is_some.false)
          (sym (ap (inside_of before.walk.items) c.last_ty-ty.ensures) ∙ sym c.in-Some.ensures)
          gone.gives;
      others = gone.kept.0 ∙ c.loop-step.invariant.others;
      place = (gone.kept.1.0 ∙ c.loop-step.invariant.place.0, gone.kept.1.1 ∙ c.loop-step.invariant.place.1);
    }
