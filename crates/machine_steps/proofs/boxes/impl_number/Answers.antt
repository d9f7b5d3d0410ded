use Rattle.std.proofs.Common.{◌≡◌, ◌&&◌, ◌==◌, true, false, Some, sym, ◌∙◌, arith}
use Rattle.std.proofs.lemmas.Grind.{common_steps}
use Rattle.std.proofs.lemmas.Option.{slice_get_within}
use Rattle.std.specs.Prelude.{slice_get}
use Rattle.machine_steps.proofs.BoxesDone.{is_impl, impl_at_first, impl_found, impl_passed, no_impl}
use Rattle.machine_steps.proofs.boxes.impl_number.Goals as goal
use Rattle.machine_steps.proofs.boxes.impl_number.Goals.{else-of-trait_no-via-then-of-trait_no+else-of-adt, else-of-trait_no-via-else-of-trait_no}

pub loop-n-init : goal.loop-n-init
loop-n-init c =
    record {
      found = impl_at_first c.args.items.now c.args.trait_no c.args.adt;
      short = omega arith;
    }

pub returns-then-of-adt : goal.returns-then-of-adt
returns-then-of-adt c =
    let there : slice_get c.args.items.now.impls c.loop-n.n ≡ Some c.in-Some.of.now = grind (arith, common_steps) in
    let is : is_impl c.args.trait_no c.args.adt c.in-Some.of.now ≡ true = grind (arith, common_steps) in
    sym (c.loop-n.invariant.found ∙ impl_found c.args.trait_no c.args.adt c.args.items.now.impls c.loop-n.n c.in-Some.of.now there is)

pub returns-in-None : goal.returns-in-None
returns-in-None c =
    sym (c.loop-n.invariant.found ∙ no_impl c.args.trait_no c.args.adt c.args.items.now.impls c.loop-n.n (sym c.in-None.ensures.value))

pub loop-n-preserved : goal.loop-n-preserved
loop-n-preserved c =
    let there : slice_get c.args.items.now.impls c.loop-n.n ≡ Some c.in-Some.of.now = grind (arith, common_steps) in
    let is : is_impl c.args.trait_no c.args.adt c.in-Some.of.now ≡ false =
    elim c.else-of-trait_no.branch [
      | else-of-trait_no-via-then-of-trait_no+else-of-adt w ↦ grind (arith, common_steps)
      | else-of-trait_no-via-else-of-trait_no w ↦ grind (arith, common_steps)
    ]
    in
    record {
      found = c.loop-n.invariant.found ∙ impl_passed c.args.trait_no c.args.adt c.args.items.now.impls c.loop-n.n c.in-Some.of.now there is;
      short = omega (arith, slice_get_within c.args.items.now.impls c.loop-n.n c.in-Some.of.now there, c.in-Some.ensures.sound.short.others);
    }

pub unreachable-requires : goal.unreachable-requires
unreachable-requires c = omega (arith, c.loop-n.invariant.short, c.loop-n-test.false)
