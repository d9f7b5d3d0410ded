use Rattle.std.proofs.Common.{[], drop, refl, ap, not}
use Rattle.cfg_graph.proofs.FirstBroken.{unless_more}
use Rattle.cfg_graph.specs.WellFormed.LineFaults.{local_tests}
use Rattle.cfg_graph.proofs.line_faults.local_fault.Goals as goal

pub returns : goal.returns
returns c =
    let tests = local_tests c.args.items.now c.args.bodies c.args.id in
    let placed = unless_more 3 _ _ _ _ [] (ap not c.misplaces_dyn.ensures) refl c.unless-placed.ensures in
    unless_more 1 _ _ _ _ (drop 1 tests) c.ty_exists.ensures placed c.unless.ensures
