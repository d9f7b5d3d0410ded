use Rattle.std.proofs.Common.{[], drop, refl}
use Rattle.cfg_graph.proofs.FirstBroken.{unless_more}
use Rattle.cfg_graph.specs.WellFormed.ItemFaults.{closure_tests}
use Rattle.cfg_graph.proofs.impl_faults.closure_fault.Goals as goal

pub returns : goal.returns
returns c =
    let tests = closure_tests c.args.items.now c.args.bodies c.args.n c.args.def.now in
    let typed = unless_more 3 _ _ _ _ [] c.closure_is_typed.ensures refl c.unless-typed.ensures in
    unless_more 1 _ _ _ _ (drop 1 tests) c.closure_exists.ensures typed c.unless.ensures
