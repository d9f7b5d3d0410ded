use Rattle.std.proofs.Common.{◌≡◌, ◌∙◌, ◌+◌, ◌<◌, ◌≤◌, ◌++◌, ◌∷◌, [], ℕ, List, Some, get_or, length, map, take, slice_get, ap, subst, sym, arith}
use Rattle.std.proofs.lemmas.List.{get_or-map, length-map, length-take-le, take_more}
use Rattle.std.proofs.lemmas.Option.{slice_get-get_or}
use Rattle.store_model.specs.Places.Place as plain
use Rattle.cfg_graph.specs.Places.{named}
use Rattle.cfg_graph.specs.declared.place.Place.{Place}
use Rattle.drop_plans.specs.Tables.{AreTable}
use Rattle.drop_plans.proofs.Tabled.{fresh, table-more}
use Rattle.drop_plans.proofs.tables.flag_table.Goals as goal

pub loop-place-preserved : goal.loop-place-preserved
loop-place-preserved c =
    let paths = c.args.forest.now.paths in
    let places : List Place = c.args.flagged.now in
    let flagged : List plain.Place = map named places in
    let item : Place = c.place-item.result in
    let i = c.loop-place.place-index in
    let first = c.args.first in
    let inside : i < length places = c.loop-place-test.true in
    let within : i < length flagged = (let l = length-map places named in omega (l, inside, arith)) in
    let here : get_or flagged i (named item) ≡ named item =
    get_or-map named places i item (named item) inside ∙ ap named (sym c.place-item.is) in
    let more : take (i + 1) flagged ≡ take i flagged ++ named item ∷ [] =
    take_more flagged i (named item) within ∙ ap (λ (p : plain.Place). take i flagged ++ p ∷ []) here in
    let at : slice_get flagged i ≡ Some (named item) = slice_get-get_or flagged i (named item) within ∙ ap Some here in
    let below : i ≤ length flagged = omega (within, arith) in
    let flag_is : c.loop-place.flag ≡ first + length (take i flagged) =
    c.loop-place.invariant.0 ∙ ap (λ (n : ℕ). first + n) (sym (length-take-le i flagged below)) in
    let so_far = c.loop-place.invariant.0 in (
      (let e : c.loop-place.flag + 1 ≡ first + (i + 1) = omega (so_far, arith) in e),
      subst (λ (z : List plain.Place). AreTable paths z first c.mark.new.table) (sym more)
          (table-more paths c.requires.forest first (take i flagged) (named item) c.loop-place.table c.mark.new.table
          (fresh flagged i (named item) c.requires.flagged at) c.loop-place.invariant.1 c.loop-place.flag flag_is c.mark.ensures),
    )
