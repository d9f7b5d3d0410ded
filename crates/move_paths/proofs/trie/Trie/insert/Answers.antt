use Rattle.std.proofs.Common.{◌≡◌, ◌↔◌, ◌⊎◌, true, ◌<◌, inl, inr, ℕ, List, [], ◌∷◌, map, length, slice_get, slice_index_or, Contains, Some, ap, sym, ◌∙◌, arith, subst}
use Rattle.std.specs.Option.{option_map}
use Rattle.std.proofs.lemmas.Option.{slice_get_within, slice_get-map, slice_get-get_or, get_or_from_slice_get}
use Rattle.std.proofs.lemmas.List.{length-map}
use Rattle.mir_ty.proofs.ListLemmas.{Contains-slice_get}
use Rattle.store_model.specs.Places.Place.{Place, whole_local}
use Rattle.cfg_graph.specs.Places.{named, named_step}
use Rattle.cfg_graph.specs.Moves.Gone.{below, is_at_or_above}
use Rattle.cfg_graph.specs.declared.place.Step.{Step}
use Rattle.move_paths.specs.Trie.{upto, Grows, place_of}
use Rattle.move_paths.proofs.Growth.{upto-more}
use Rattle.move_paths.proofs.Above.{above-local, upto-all, grows-keeps, grows-members}
use Rattle.move_paths.proofs.trie.Trie.insert.Goals as goal

-- the places of a list are those of another, and those at or above a place
abbrev Members : (first new : List Place) → Place → Type 0
Members first new place = (q : Place) → Contains new q ↔ (Contains first q ⊎ (is_at_or_above q place ≡ true))

next-step : (xs steps : List Step) (i : ℕ) → xs ≡ steps → i < length xs → slice_get (map named_step steps) i ≡ Some (named_step (slice_index_or xs i (Step.Part 0)))
next-step xs steps i same within =
    slice_get-map named_step steps i
    ∙ ap (λ (z : List Step). option_map named_step (slice_get z i)) (sym same)
    ∙ ap (option_map named_step) (slice_get-get_or xs i (Step.Part 0) within)

pub loop-step-init : goal.loop-step-init
loop-step-init c = (
  c.requires,
  λ n q h. h,
  λ q. (
    λ has. inl has,
    λ either. elim either [
      | inl has ↦ has
      | inr up ↦ subst (Contains c.args.self.now) (sym (above-local q c.args.place.now.local up)) (Contains-slice_get c.args.self.now c.args.place.now.local (whole_local c.args.place.now.local) c.requires)
    ],
  ),
)

pub step_from-requires : goal.step_from-requires
step_from-requires c = slice_get_within c.loop-step.self c.loop-step.path (upto c.loop-step.step-index (named c.args.place.now)) c.loop-step.invariant.0

pub loop-step-preserved : goal.loop-step-preserved
loop-step-preserved c =
    let q : Place = named c.args.place.now in
    let i = c.loop-step.step-index in
    let old : List Place = c.loop-step.self in
    let new : List Place = c.step_from.new.self in
    let next : Step = slice_index_or c.as_slice-step-items.result.now i (Step.Part 0) in
    let here = next-step c.as_slice-step-items.result.now c.args.place.now.steps i c.as_slice-step-items.ensures c.loop-step-test.true in
    let place : place_of old (record { of = c.loop-step.path; step = next }) ≡ below (upto i q) (named_step next ∷ []) =
    ap (λ (p : Place). below p (named_step next ∷ [])) (get_or_from_slice_get old c.loop-step.path (upto i q) (whole_local 0) c.loop-step.invariant.0) in
    let grows : Grows old new (below (upto i q) (named_step next ∷ [])) = subst (Grows old new) place c.in_ok-path.ensures.grows in
    let more = upto-more q i (named_step next) here in (
      c.in_ok-path.ensures.path ∙ ap Some (place ∙ sym more),
      λ n p h. grows-keeps old new (below (upto i q) (named_step next ∷ [])) grows n p (c.loop-step.invariant.1 n p h),
      subst (Members c.args.self.now new) (sym more) (grows-members c.args.self.now old new (upto i q) (named_step next) c.loop-step.invariant.2 grows),
    )

pub returns-clause-paths : goal.returns-clause-paths
returns-clause-paths c =
    let q : Place = named c.args.place.now in
    let i = c.loop-step.step-index in
    let long = length-map c.args.place.now.steps named_step in
    let same = ap length c.as_slice-step-items.ensures in
    let past = c.loop-step-test.false in
    subst (Members c.args.self.now c.loop-step.self) (upto-all i q (omega (long, same, past, arith))) c.loop-step.invariant.2
