use Rattle.std.proofs.Common.{◌≡◌, true, false, Some, sym, ◌∙◌, arith}
use Rattle.std.proofs.lemmas.Grind.{common_steps}
use Rattle.std.proofs.lemmas.Option.{slice_get_within}
use Rattle.std.specs.Prelude.{slice_get}
use Rattle.mir_machine.proofs.RunsTold.{is_main, main_at_first, main_found, main_passed, no_main}
use Rattle.mir_machine.proofs.runs.main_number.Goals as goal

pub loop-n-init : goal.loop-n-init
loop-n-init c =
    record {
      found = main_at_first c.args.items.now;
      short = omega arith;
    }

pub returns-then-is_main : goal.returns-then-is_main
returns-then-is_main c =
    let there : slice_get c.args.items.now.bodies c.loop-n.n ≡ Some c.in-Some.sig.now = grind (arith, common_steps) in
    let is : is_main c.in-Some.sig.now ≡ true = sym c.is_main.ensures ∙ c.if-is_main.true in
    sym (c.loop-n.invariant.found ∙ main_found c.args.items.now.bodies c.loop-n.n c.in-Some.sig.now there is)

pub returns-in-None : goal.returns-in-None
returns-in-None c = sym (c.loop-n.invariant.found ∙ no_main c.args.items.now.bodies c.loop-n.n (sym c.in-None.ensures.value))

pub loop-n-preserved : goal.loop-n-preserved
loop-n-preserved c =
    let there : slice_get c.args.items.now.bodies c.loop-n.n ≡ Some c.in-Some.sig.now = grind (arith, common_steps) in
    let is : is_main c.in-Some.sig.now ≡ false = sym c.is_main.ensures ∙ c.if-is_main.false in
    record {
      found = c.loop-n.invariant.found ∙ main_passed c.args.items.now.bodies c.loop-n.n c.in-Some.sig.now there is;
      short = omega (arith, slice_get_within c.args.items.now.bodies c.loop-n.n c.in-Some.sig.now there, c.in-Some.ensures.sound.short.bodies);
    }

pub unreachable-requires : goal.unreachable-requires
unreachable-requires c = omega (arith, c.loop-n.invariant.short, c.loop-n-test.false)
