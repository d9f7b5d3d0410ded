use Rattle.std.proofs.Common.{◌≡◌, ℕ, ◌<◌, length, Option, Some, None, List, subst, sym, ap, ◌∙◌}
use Rattle.std.specs.Option.{MatchOption}
use Rattle.std.proofs.lemmas.Option.{none-some, same_Some, slice_get_within}
use Rattle.store_model.specs.Places.Place.{Place}
use Rattle.move_paths.specs.Forest.{IsRoot, IsStepBelow}
use Rattle.move_paths.proofs.Above.{above-refl}
use Rattle.move_errors.specs.Rows.{some_on, above, place_at}
use Rattle.move_errors.proofs.OnRows.{some-at, some-none, above-up}
use Rattle.move_errors.proofs.bad.is_gone_above.Goals as goal

inside : (paths : List Place) (of : ℕ) (up : Option ℕ) → MatchOption up (IsRoot paths of) (λ p. IsStepBelow paths p of) → (n : ℕ) → up ≡ Some n → n < length paths
inside paths of None root n e = absurd (none-some n e)
inside paths of (Some p) step n e = let same = same_Some p n e in let k = slice_get_within paths p step.place step.above in subst (λ (z : ℕ). z < length paths) same k

pub returns-then-get : goal.returns-then-get
returns-then-get c =
    let paths : List Place = c.args.forest.now.paths in
    let within = c.loop-at.invariant.1 c.in-Some.of c.in-Some.is in
    sym (c.loop-at.invariant.0 ∙ ap (λ (z : Option ℕ). some_on (above paths z) paths c.args.row.now) c.in-Some.is
    ∙ some-at (above paths (Some c.in-Some.of)) paths c.args.row.now c.in-Some.of within (sym c.get.ensures ∙ c.if-get.true) (above-refl (place_at paths c.in-Some.of)))

pub loop-at-preserved : goal.loop-at-preserved
loop-at-preserved c =
    let paths : List Place = c.args.forest.now.paths in
    let within = c.loop-at.invariant.1 c.in-Some.of c.in-Some.is in (
      c.loop-at.invariant.0 ∙ ap (λ (z : Option ℕ). some_on (above paths z) paths c.args.row.now) c.in-Some.is
          ∙ above-up paths c.args.row.now c.in-Some.of c.parent-at.result c.requires.once within (sym c.get.ensures ∙ c.if-get.false) c.parent-at.ensures,
      inside paths c.in-Some.of c.parent-at.result c.parent-at.ensures,
    )

pub returns : goal.returns
returns c =
    let paths : List Place = c.args.forest.now.paths in
    sym (c.loop-at.invariant.0 ∙ ap (λ (z : Option ℕ). some_on (above paths z) paths c.args.row.now) c.in_default.is ∙ some-none paths c.args.row.now)
