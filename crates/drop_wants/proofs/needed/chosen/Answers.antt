use Rattle.std.proofs.Common.{◌≡◌, ◌∙◌, ◌+◌, ◌<◌, ◌∷◌, ◌++◌, [], List, length, drop, map, ap, subst, refl, sym, arith}
use Rattle.std.proofs.lemmas.List.{map-append}
use Rattle.store_model.specs.Places.Place as plain
use Rattle.store_model.specs.Places.Place.{whole_local}
use Rattle.cfg_graph.specs.Places.{named}
use Rattle.cfg_graph.specs.declared.place.Place.{Place}
use Rattle.move_paths.specs.Forest.{path_at}
use Rattle.drop_wants.specs.Marks as marks
use Rattle.drop_wants.proofs.Chosen.{chosen-on, chosen-off}
use Rattle.drop_wants.proofs.needed.chosen.Goals.{then-get+in_ok-place+in_ok-push, else-get}
use Rattle.drop_wants.proofs.needed.chosen.Goals as goal

pub loop-n-preserved : goal.loop-n-preserved
loop-n-preserved c =
    let row = c.args.row.now in
    let paths : List plain.Place = c.args.forest.now.paths in
    let n = c.loop-n.n in
    let less : n < length paths =
    (let t = c.loop-n-test.true in let l = c.len-n-end.ensures in let r = c.requires in omega (t, l, r, arith)) in
    elim c.if-get.branch [
      | then-get+in_ok-place+in_ok-push w ↦
          subst (λ (z : List Place). map named z ++ marks.chosen (drop (n + 1) row) (drop (n + 1) paths)
          ≡ marks.chosen row paths)
          (sym (w.some-is ∙ w.in_ok-push.ensures.pushed))
          (ap (λ (z : List plain.Place). z ++ marks.chosen (drop (n + 1) row) (drop (n + 1) paths))
          (map-append named c.loop-n.some (w.in_ok-place.field-0 ∷ []))
          ∙ chosen-on row paths c.requires n (named w.in_ok-place.field-0) (whole_local 0) less w.in_ok-place.ensures
          (sym c.get.ensures ∙ w.if-get.true) (map named c.loop-n.some) c.loop-n.invariant)
      | else-get w ↦
          subst (λ (z : List Place). map named z ++ marks.chosen (drop (n + 1) row) (drop (n + 1) paths)
          ≡ marks.chosen row paths)
          (sym w.some-is)
          (chosen-off row paths c.requires n (path_at paths n) (whole_local 0) less refl
          (sym c.get.ensures ∙ w.if-get.false) (map named c.loop-n.some) c.loop-n.invariant)
    ]
