use Rattle.std.proofs.Common.{[], drop, refl}
use Rattle.cfg_graph.proofs.FirstBroken.{unless_more}
use Rattle.cfg_graph.specs.WellFormed.LineFaults.{stmt_tests}
use Rattle.cfg_graph.proofs.line_faults.stmt_fault.Goals as goal

pub returns : goal.returns
returns c =
    let tests = stmt_tests c.args.items.now c.args.bodies c.args.body.now c.args.stmt.now in
    let same = c.as_slice-locals.ensures in
    let row = unless_more 6 _ _ _ _ [] (rw same at c.stmt_has_row.ensures) refl c.unless-row.ensures in
    let typed = unless_more 3 _ _ _ _ (drop 3 tests) (rw same at c.is_typed_stmt.ensures) row c.unless-typed.ensures in
    let placed = unless_more 2 _ _ _ _ (drop 2 tests) (rw same at c.stmt_passes-passes.ensures) typed c.unless-placed.ensures in
    unless_more 1 _ _ _ _ (drop 1 tests) c.stmt_numbers_exist.ensures placed c.unless.ensures
