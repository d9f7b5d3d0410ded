use Rattle.std.proofs.Common.{◌≡◌, ℕ, List, ◌++◌, Bool, map, reverse, slice_get, slice_index_or, Option, Some, None, refl, sym, ap, ◌∙◌, arith}
use Rattle.std.proofs.lemmas.Option.{slice_get-get_or}
use Rattle.std.proofs.lemmas.List.{append_assoc, reverse-append, map-append}
use Rattle.move_errors.specs.declared.point.Stage.{Stage}
use Rattle.move_errors.specs.declared.search.Visit.{Visit}
use Rattle.move_errors.specs.Runs.{Trip, met, met_at, number_of, optional, beginning}
use Rattle.move_errors.specs.Stands.{source}
use Rattle.move_errors.proofs.trail.trail.Goals as goal

-- what is added last comes first
turned : {X : Type 0} (path before items more new : List X) → reverse more ≡ more → path ≡ before ++ more → new ≡ items ++ more → before ++ reverse new ≡ path ++ reverse items
turned path before items more new one is added =
    ap (λ z. before ++ reverse z) added ∙ ap (λ z. before ++ z) (reverse-append items more) ∙ ap (λ z. before ++ (z ++ reverse items)) one
    ∙ sym (append_assoc before more (reverse items)) ∙ ap (λ z. z ++ reverse items) (sym is)

met-one : (n : ℕ) (stage : Stage) → reverse (met_at n stage) ≡ met_at n stage
met-one n Stage.Entry = refl
met-one n Stage.Inside = refl
met-one n (Stage.Leaving way) = refl

choice-one : (o : Option Bool) → reverse (map number_of (optional o)) ≡ map number_of (optional o)
choice-one None = refl
choice-one (Some b) = refl

pub loop-at-preserved : goal.loop-at-preserved
loop-at-preserved c =
    let n : ℕ = c.in-Some.n in
    let none : Visit = record { at = record { block = 0; stage = Stage.Entry }; from = None; choice = None } in
    let visit : Visit = slice_index_or c.args.visits.now n none in
    let there : slice_get c.args.visits.now n ≡ Some visit = slice_get-get_or c.args.visits.now n none (c.loop-at.invariant.0 n c.in-Some.is) in (
      λ m from. (let k = c.requires.earlier n visit m there from in let l = c.loop-at.invariant.0 n c.in-Some.is in omega (k, l, arith)),
      λ f done logged.
          let trip : Trip = slice_index_or done n (beginning f) in
          turned trip.path (source f done visit.from).path c.loop-at.path.items (met visit.at) _ (met-one visit.at.block visit.at.stage)
          (ap (λ (z : Trip). z.path) (logged.each n visit there)) c.in_ok-add_block.ensures
          ∙ ap (λ (z : Option ℕ). (source f done z).path ++ reverse c.loop-at.path.items) (sym c.in-Some.is) ∙ c.loop-at.invariant.1 f done logged,
      λ f done logged.
          let trip : Trip = slice_index_or done n (beginning f) in
          turned (map number_of trip.given) (map number_of (source f done visit.from).given) c.loop-at.answers.items (map number_of (optional visit.choice)) _ (choice-one visit.choice)
          (ap (λ (z : Trip). map number_of z.given) (logged.each n visit there) ∙ map-append number_of (source f done visit.from).given (optional visit.choice)) c.in_ok-add_choice.ensures
          ∙ ap (λ (z : Option ℕ). map number_of (source f done z).given ++ reverse c.loop-at.answers.items) (sym c.in-Some.is) ∙ c.loop-at.invariant.2 f done logged,
    )
