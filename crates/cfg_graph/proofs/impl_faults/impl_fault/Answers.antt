use Rattle.std.proofs.Common.{[], drop, refl, ap, not}
use Rattle.cfg_graph.proofs.FirstBroken.{unless_more}
use Rattle.cfg_graph.specs.WellFormed.ItemFaults.{impl_tests}
use Rattle.cfg_graph.proofs.impl_faults.impl_fault.Goals as goal

pub returns : goal.returns
returns c =
    let tests = impl_tests c.args.items.now c.args.bodies c.args.n c.args.def.now in
    let named = unless_more 7 _ _ _ _ [] (ap not c.impl_repeats.ensures) refl c.unless-named.ensures in
    let typed = unless_more 3 _ _ _ _ (drop 2 tests) c.impl_is_typed.ensures named c.unless-typed.ensures in
    unless_more 1 _ _ _ _ (drop 1 tests) c.impl_exists.ensures typed c.unless.ensures
