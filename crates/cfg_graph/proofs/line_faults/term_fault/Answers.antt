use Rattle.std.proofs.Common.{[], drop, refl}
use Rattle.cfg_graph.proofs.FirstBroken.{unless_more}
use Rattle.cfg_graph.specs.WellFormed.LineFaults.{term_tests}
use Rattle.cfg_graph.proofs.line_faults.term_fault.Goals as goal

pub returns : goal.returns
returns c =
    let tests = term_tests c.args.items.now c.args.bodies c.args.body.now c.args.block.now in
    let same = c.as_slice-locals.ensures in
    let clean = unless_more 5 _ _ _ _ [] c.keeps_to_cleanup.ensures refl c.unless-clean.ensures in
    let ranked = unless_more 4 _ _ _ _ (drop 4 tests) c.edges_pass.ensures clean c.unless-ranked.ensures in
    let typed = unless_more 3 _ _ _ _ (drop 3 tests) (rw same at c.is_typed_term.ensures) ranked c.unless-typed.ensures in
    let placed = unless_more 2 _ _ _ _ (drop 2 tests) (rw same at c.term_passes-passes.ensures) typed c.unless-placed.ensures in
    unless_more 1 _ _ _ _ (drop 1 tests) c.targets_exist.ensures placed c.unless.ensures
