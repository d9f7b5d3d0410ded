use Rattle.std.proofs.Common.{◌≡◌, ◌&&◌, [], ℕ, ◌<◌, length, List, Bool, sym, ap, ◌∙◌, arith}
use Rattle.std.specs.Prelude.{slice_index_or}
use Rattle.std.proofs.lemmas.List.{length-map, get_or-map}
use Rattle.store_model.specs.Places.Place.{Place, whole_local}
use Rattle.cfg_graph.specs.Moves.Gone.{is_at_or_above}
use Rattle.bit_rows.specs.Words.{any_both}
use Rattle.init_flow.specs.Carried.{Bits}
use Rattle.init_flow.specs.Moved.{masks_of, mask_of}
use Rattle.move_errors.specs.Rows.{some_on, place_at}
use Rattle.move_errors.proofs.OnRows.{both-some}
use Rattle.move_errors.proofs.bad.is_gone_within.Goals as goal

mask-at : (paths : List Place) (below : List Bits) (n : ℕ) → below ≡ masks_of paths → n < length paths → slice_index_or below n [] ≡ mask_of paths (place_at paths n)
mask-at paths below n is within = ap (λ (z : List Bits). slice_index_or z n []) is ∙ get_or-map (mask_of paths) paths n (whole_local 0) [] within

as-many : (paths : List Place) (below : List Bits) → below ≡ masks_of paths → length paths ≡ length below
as-many paths below is = sym (ap length is ∙ length-map paths (mask_of paths))

pub meets-requires-clause-path : goal.meets-requires-clause-path
meets-requires-clause-path c =
    let long = as-many c.args.watch.now.forest.paths c.args.watch.now.below c.requires.masks in let within = c.requires.path in omega (long, within, arith)

pub meets-requires-clause-paths : goal.meets-requires-clause-paths
meets-requires-clause-paths c = c.requires.row ∙ as-many c.args.watch.now.forest.paths c.args.watch.now.below c.requires.masks

pub meets-requires-clause-mask : goal.meets-requires-clause-mask
meets-requires-clause-mask c =
    let paths : List Place = c.args.watch.now.forest.paths in
    c.requires.row ∙ sym (ap length (mask-at paths c.args.watch.now.below c.args.path c.requires.masks c.requires.path) ∙ length-map paths (is_at_or_above (place_at paths c.args.path)))

pub returns-then-asked : goal.returns-then-asked
returns-then-asked c =
    let paths : List Place = c.args.watch.now.forest.paths in
    c.meets.ensures ∙ ap (λ (z : Bits). any_both z c.args.row.now) (mask-at paths c.args.watch.now.below c.args.path c.requires.masks c.requires.path)
    ∙ both-some (is_at_or_above (place_at paths c.args.path)) paths c.args.row.now
    ∙ ap (λ (z : Bool). z && some_on (is_at_or_above (place_at paths c.args.path)) paths c.args.row.now) (sym c.if-asked.true)
