-- What the tests of a free run say of places whose steps are sure to lead on: no container on the way is gone, what
-- is used is whole, and what is done at an element or behind a reference counts for no place.
use Rattle.std.proofs.Common.{◌≡◌, ◌⊎◌, inl, inr, ℕ, ◌&&◌, not, Bool, true, false, List, [], ◌∷◌, ◌++◌, Option, Some, None, refl, ap, sym, ◌∙◌}
use Rattle.std.specs.Prelude.{option_and_then}
use Rattle.std.specs.Cmp.{first_so, second_so}
use Rattle.std.specs.Cmp.Derive.{both_true}
use Rattle.std.proofs.lemmas.Bool.{false≢true}
use Rattle.mir_ty.specs.declared.ty.Ty.{Ty}
use Rattle.mir_ty.specs.declared.ty.TyId.{TyId}
use Rattle.mir_ty.specs.ItemTable.{ItemTable, type_at}
use Rattle.store_model.specs.Abstract.Effects.{may_use, may_test, may_store, acted}
use Rattle.store_model.specs.Abstract.Presence.{Presence, itself_gone, presence_at, presence_along, after_action, all_present, containers_present, is_whole_at, is_there_at}
use Rattle.store_model.specs.Places.Place.{Step, ToPart, ToField, ToContent, ToElement, step_ty, is_reference, Watched, Whole, ByElement, watched, watched_step, watched_content, content_of, before_element}
use Rattle.soundness_values.proofs.Along.{containers_along}
use Rattle.soundness_values.proofs.Leading.{sure_step, then_sure, is_sure, are_sure}
use Rattle.soundness_values.proofs.Ways.{whole_along, has_index}

-- how far a place of a local is watched: to its end, or to the array of which it takes an element
abbrev pub watched_own : List Step → Watched
watched_own [] = record { steps = []; reach = Whole }
watched_own (ToElement i ∷ steps) = record { steps = []; reach = ByElement }
watched_own (ToPart n ∷ steps) = watched_step (ToPart n) (watched_own steps)
watched_own (ToField v n ∷ steps) = watched_step (ToField v n) (watched_own steps)
watched_own (ToContent ∷ steps) = watched_step ToContent (watched_own steps)

pub own_whole : (steps : List Step) → has_index steps ≡ false →
    watched_own steps ≡ record { steps = steps; reach = Whole }
own_whole [] h = refl
own_whole (ToElement i ∷ steps) h = absurd (false≢true (sym h))
own_whole (ToPart n ∷ steps) h = ap (watched_step (ToPart n)) (own_whole steps h)
own_whole (ToField v n ∷ steps) h = ap (watched_step (ToField v n)) (own_whole steps h)
own_whole (ToContent ∷ steps) h = ap (watched_step ToContent) (own_whole steps h)

pub own_element : (steps : List Step) → has_index steps ≡ true →
    watched_own steps ≡ record { steps = before_element steps; reach = ByElement }
own_element [] h = absurd (false≢true h)
own_element (ToElement i ∷ steps) h = refl
own_element (ToPart n ∷ steps) h = ap (watched_step (ToPart n)) (own_element steps h)
own_element (ToField v n ∷ steps) h = ap (watched_step (ToField v n)) (own_element steps h)
own_element (ToContent ∷ steps) h = ap (watched_step ToContent) (own_element steps h)

-- ---- steps without an index

pub containers_are : (steps : List Step) (p : Presence) → has_index steps ≡ false →
    containers_present steps p ≡ containers_along steps p
containers_are [] p h = refl
containers_are (ToElement i ∷ steps) p h = absurd (false≢true (sym h))
containers_are (ToPart n ∷ steps) p h = ap (λ b. not (itself_gone p) && b)
    (containers_are steps (presence_at (ToPart n) p) h)
containers_are (ToField v n ∷ steps) p h = ap (λ b. not (itself_gone p) && b)
    (containers_are steps (presence_at (ToField v n) p) h)
containers_are (ToContent ∷ steps) p h = ap (λ b. not (itself_gone p) && b)
    (containers_are steps (presence_at ToContent p) h)

pub whole_is : (steps : List Step) (p : Presence) → has_index steps ≡ false → all_present (presence_along steps p)
    ≡ whole_along steps p
whole_is [] p h = refl
whole_is (ToElement i ∷ steps) p h = absurd (false≢true (sym h))
whole_is (ToPart n ∷ steps) p h = whole_is steps (presence_at (ToPart n) p) h
whole_is (ToField v n ∷ steps) p h = whole_is steps (presence_at (ToField v n) p) h
whole_is (ToContent ∷ steps) p h = whole_is steps (presence_at ToContent p) h

-- ---- steps with one: the array before it is whole

array_whole : (steps : List Step) (p : Presence) → has_index steps ≡ true →
    containers_present (before_element steps) p
    ≡ true → all_present (presence_along (before_element steps) p) ≡ true →
    (containers_along steps p ≡ true) × (whole_along steps p ≡ true)
array_whole [] p h c w = absurd (false≢true h)
array_whole (ToElement i ∷ steps) p h c w = (w, w)
array_whole (ToPart n ∷ steps) p h c w =
    let later = array_whole steps (presence_at (ToPart n) p) h
    (second_so (not (itself_gone p)) (containers_present (before_element steps) (presence_at (ToPart n) p)) c) w in (
      both_true (first_so (not (itself_gone p))
          (containers_present (before_element steps) (presence_at (ToPart n) p)) c)
          later.0,
      later.1,
    )
array_whole (ToField v n ∷ steps) p h c w =
    let later = array_whole steps (presence_at (ToField v n) p) h
    (second_so (not (itself_gone p)) (containers_present (before_element steps) (presence_at (ToField v n) p)) c)
    w in (
      both_true (first_so (not (itself_gone p))
          (containers_present (before_element steps) (presence_at (ToField v n) p))
          c) later.0,
      later.1,
    )
array_whole (ToContent ∷ steps) p h c w =
    let later = array_whole steps (presence_at ToContent p) h
    (second_so (not (itself_gone p)) (containers_present (before_element steps) (presence_at ToContent p)) c) w in (
      both_true (first_so (not (itself_gone p)) (containers_present (before_element steps) (presence_at ToContent p))
          c)
          later.0,
      later.1,
    )

by_element : (steps : List Step) (p : Presence) → has_index steps ≡ true → is_whole_at (before_element steps) p
    ≡ true →
    (containers_along steps p ≡ true) × (whole_along steps p ≡ true)
by_element steps p h u =
    array_whole steps p h
    (first_so (containers_present (before_element steps) p) (all_present (presence_along (before_element steps) p))
    u)
    (second_so (containers_present (before_element steps) p) (all_present (presence_along (before_element steps) p))
    u)

-- ---- the tests of a free run

pub use_own : (steps : List Step) (p : Presence) → may_use (watched_own steps) p ≡ true →
    (containers_along steps p ≡ true) × (whole_along steps p ≡ true)
use_own steps p u = by (has_index steps) refl
  where
    by : (b : Bool) → has_index steps ≡ b → (containers_along steps p ≡ true) × (whole_along steps p ≡ true)
    by true h = by_element steps p h (sym (ap (λ w. may_use w p) (own_element steps h)) ∙ u)
    by false h =
        let whole : is_whole_at steps p ≡ true = sym (ap (λ w. may_use w p) (own_whole steps h)) ∙ u in (
          sym (containers_are steps p h) ∙ first_so (containers_present steps p)
              (all_present (presence_along steps p))
              whole,
          sym (whole_is steps p h) ∙ second_so (containers_present steps p) (all_present (presence_along steps p))
              whole,
        )

pub test_own : (steps : List Step) (p : Presence) → may_test (watched_own steps) p ≡ true →
    (containers_along steps p ≡ true)
    × (((has_index steps ≡ false) × (itself_gone (presence_along steps p) ≡ false)) ⊎ (whole_along steps p ≡ true))
test_own steps p u = by (has_index steps) refl
  where
    not_true : (b : Bool) → not b ≡ true → b ≡ false
    not_true true e = absurd (false≢true e)
    not_true false e = refl

    by : (b : Bool) → has_index steps ≡ b →
        (containers_along steps p ≡ true)
        × (((has_index steps ≡ false) × (itself_gone (presence_along steps p) ≡ false))
        ⊎ (whole_along steps p ≡ true))
    by true h = let e = by_element steps p h (sym (ap (λ w. may_test w p) (own_element steps h)) ∙ u) in
        (e.0, inr e.1)
    by false h =
        let there : is_there_at steps p ≡ true = sym (ap (λ w. may_test w p) (own_whole steps h)) ∙ u in (
          sym (containers_are steps p h) ∙ first_so (containers_present steps p)
              (not (itself_gone (presence_along steps p))) there,
          inl (
            h,
            not_true (itself_gone (presence_along steps p))
                (second_so (containers_present steps p) (not (itself_gone (presence_along steps p))) there),
          ),
        )

pub store_own : (steps : List Step) (p : Presence) → may_store (watched_own steps) p ≡ true →
    (containers_along steps p ≡ true) × ((has_index steps ≡ false) ⊎ (whole_along steps p ≡ true))
store_own steps p u = by (has_index steps) refl
  where
    by : (b : Bool) → has_index steps ≡ b →
        (containers_along steps p ≡ true) × ((has_index steps ≡ false) ⊎ (whole_along steps p ≡ true))
    by true h = let e = by_element steps p h (sym (ap (λ w. may_store w p) (own_element steps h)) ∙ u) in
        (e.0, inr e.1)
    by false h = (sym (containers_are steps p h) ∙ sym (ap (λ w. may_store w p) (own_whole steps h)) ∙ u, inl h)

pub acted_whole : (takes : Bool) (steps : List Step) (p : Presence) → has_index steps ≡ false →
    acted takes (watched_own steps) p ≡ after_action takes steps p
acted_whole takes steps p h = ap (λ w. acted takes w p) (own_whole steps h)

pub acted_element : (takes : Bool) (steps : List Step) (p : Presence) → has_index steps ≡ true →
    acted takes (watched_own steps) p ≡ p
acted_element takes steps p h = ap (λ w. acted takes w p) (own_element steps h)

-- ---- how a place is watched that is sure to lead on

module _ (items : ItemTable) (is_bounded : ℕ → ℕ → Bool) (is_variant : List Step → ℕ → Bool) where
  -- what a sure step tells
  pub record SureStep (so_far : List Step) (step : Step) (steps : List Step) (id : TyId) : Type 0 where
    pub ty : Ty
    pub is_ty : type_at items id ≡ Some ty
    pub sure : is_sure items is_bounded is_variant so_far step ty ≡ true
    pub next : TyId
    pub is_next : step_ty items step ty ≡ Some next
    pub rest : are_sure items is_bounded is_variant (so_far ++ step ∷ []) steps next ≡ true

  pub sure_first : (so_far : List Step) (step : Step) (steps : List Step) (id : TyId) →
      are_sure items is_bounded is_variant so_far (step ∷ steps) id ≡ true → SureStep so_far step steps id
  sure_first so_far step steps id s = by (type_at items id) refl s
    where
      then_by : (ty : Ty) → type_at items id ≡ Some ty → is_sure items is_bounded is_variant so_far step ty ≡ true →
          (o : Option TyId) → step_ty items step ty ≡ o →
          then_sure items is_bounded is_variant o (are_sure items is_bounded is_variant (so_far ++ step ∷ []) steps)
          ≡ true → SureStep so_far step steps id
      then_by ty t sure None e s = absurd (false≢true s)
      then_by ty t sure (Some next) e s =
          record { ty = ty; is_ty = t; sure = sure; next = next; is_next = e; rest = s }

      by : (o : Option Ty) → type_at items id ≡ o → sure_step items is_bounded is_variant so_far step o
          (are_sure items is_bounded is_variant (so_far ++ step ∷ []) steps) ≡ true → SureStep so_far step steps id
      by None t s = absurd (false≢true s)
      by (Some ty) t s =
          then_by ty t (first_so (is_sure items is_bounded is_variant so_far step ty) _ s)
          (step_ty items step ty) refl
          (second_so (is_sure items is_bounded is_variant so_far step ty) _ s)

  not_by_reference : (so_far : List Step) (ty : Ty) → is_sure items is_bounded is_variant so_far ToContent ty
      ≡ true →
      is_reference (Some ty) ≡ false
  not_by_reference so_far (Ty.Shared x) h = absurd (false≢true h)
  not_by_reference so_far (Ty.Unique x) h = absurd (false≢true h)
  not_by_reference so_far other h = refl

  pub watched_sure : (so_far steps : List Step) (id : TyId) → are_sure items is_bounded is_variant so_far steps id
      ≡ true → watched items (Some id) steps ≡ watched_own steps
  watched_sure so_far [] id s = refl
  watched_sure so_far (ToElement i ∷ steps) id s = refl
  watched_sure so_far (ToPart n ∷ steps) id s =
      let f = sure_first so_far (ToPart n) steps id s in
      ap (λ o. watched_step (ToPart n) (watched items o steps))
      (ap (option_and_then (step_ty items (ToPart n))) f.is_ty
      ∙ f.is_next) ∙ ap (watched_step (ToPart n)) (watched_sure (so_far ++ ToPart n ∷ []) steps f.next f.rest)
  watched_sure so_far (ToField v n ∷ steps) id s =
      let f = sure_first so_far (ToField v n) steps id s in
      ap (λ o. watched_step (ToField v n) (watched items o steps))
      (ap (option_and_then (step_ty items (ToField v n))) f.is_ty ∙ f.is_next) ∙ ap (watched_step (ToField v n))
      (watched_sure (so_far ++ ToField v n ∷ []) steps f.next f.rest)
  watched_sure so_far (ToContent ∷ steps) id s =
      let f = sure_first so_far ToContent steps id s in
      ap (λ b. watched_content b (watched items (option_and_then content_of (type_at items id)) steps))
      (ap is_reference f.is_ty ∙ not_by_reference so_far f.ty f.sure)
      ∙ ap (λ o. watched_step ToContent (watched items o steps))
      (ap (option_and_then content_of) f.is_ty ∙ f.is_next)
      ∙ ap (watched_step ToContent) (watched_sure (so_far ++ ToContent ∷ []) steps f.next f.rest)
