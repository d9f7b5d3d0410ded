use Rattle.std.proofs.Common.{◌≡◌, Bool, false, [], length, IfOk, sym, ap, subst, ◌∙◌}
use Rattle.std.specs.Prelude.{slice_index_or}
use Rattle.std.specs.Option.{option_copied}
use Rattle.std.proofs.lemmas.Option.{get_or_from_slice_get}
use Rattle.init_flow.specs.Carried.{Bits}
use Rattle.move_errors.specs.Runs.{problem}
use Rattle.move_errors.specs.Shown.{ShowsNone}
use Rattle.move_errors.proofs.decide.row_shows.Goals as goal

pub block_shows-requires-clause-row : goal.block_shows-requires-clause-row
block_shows-requires-clause-row c =
    sym (ap length (get_or_from_slice_get c.args.rows.now c.args.block c.in-Some.row.now [] (sym c.at.ensures ∙ ap option_copied c.in-Some.is))) ∙ c.requires.row

pub returns-in-Some-clause-shown : goal.returns-in-Some-clause-shown
returns-in-Some-clause-shown c =
    let w = c.args.watch.now in
    let is : slice_index_or c.args.rows.now c.args.block [] ≡ c.in-Some.row.now =
    get_or_from_slice_get c.args.rows.now c.args.block c.in-Some.row.now [] (sym c.at.ensures ∙ ap option_copied c.in-Some.is) in
    subst (λ (z : Bits). IfOk c.block_shows.result (λ (shown : Bool). shown ≡ false → ShowsNone (problem w.items.now w.body.now w.forest.paths) c.args.block z)) (sym is) c.block_shows.ensures.shown
