use Rattle.std.proofs.Common.{◌≡◌, ℕ, ◌<◌, false, length}
use Rattle.std.specs.Prelude.{slice_index_or}
use Rattle.init_flow.specs.Fits.{start_bit}
use Rattle.init_flow.specs.Marks.{place_at}
use Rattle.init_flow.proofs.maybe.first_row.Given as goal

abbrev pub invariant-loop-path : goal.invariant-loop-path
invariant-loop-path l =
    (length l.row ≡ length l.forest.paths)
    × ((n : ℕ) → n < l.path → slice_index_or l.row n false ≡ start_bit l.body l.gone (place_at l.forest.paths n))
