use Rattle.std.proofs.Common.{[], drop, refl, ap}
use Rattle.std.specs.Prelude.{nat_lt}
use Rattle.cfg_graph.proofs.FirstBroken.{unless_more}
use Rattle.cfg_graph.specs.WellFormed.LineFaults.{body_tests}
use Rattle.cfg_graph.proofs.line_faults.body_fault.Goals as goal

pub returns : goal.returns
returns c =
    let tests = body_tests c.args.items.now c.args.bodies c.args.n c.args.body.now in
    let named = unless_more 7 _ _ _ _ [] c.has_own_name.ensures refl c.unless-named.ensures in
    let typed = unless_more 3 _ _ _ _ (drop 3 tests) c.has_sig.ensures named c.unless-typed.ensures in
    let placed = unless_more 2 _ _ _ _ (drop 2 tests) (ap (nat_lt c.args.body.now.params) c.len.ensures) typed c.unless-placed.ensures in
    unless_more 1 _ _ _ _ (drop 1 tests) (ap (nat_lt 0) c.len-2.ensures) placed c.unless.ensures
