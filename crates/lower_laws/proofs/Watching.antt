-- What is behind a reference, or in an element by a local, is gone where the place is at which watching ends.
use Rattle.std.proofs.Common.{◌≡◌, ◌⊎◌, inl, inr, ℕ, Bool, true, false, not, ◌&&◌, if◌then◌else◌, List, [], ◌∷◌, ◌++◌, Option, None, refl, sym, ap, subst, ◌∙◌}
use Rattle.std.specs.Prelude.{◌==◌, unwrap_or, option_and_then}
use Rattle.std.specs.Option.{option_or}
use Rattle.std.specs.Cmp.{first_so, second_so}
use Rattle.std.specs.Cmp.Derive.{both_true}
use Rattle.std.proofs.lemmas.Bool.{false≢true}
use Rattle.std.proofs.lemmas.Bool.Decides.{Decides-eqb}
use Rattle.mir_ty.specs.declared.ty.TyId.{TyId}
use Rattle.mir_ty.specs.ItemTable.{ItemTable, type_at}
use Rattle.store_model.specs.Places.Place.{Step, ToPart, ToField, ToContent, ToElement, same_step, Place, Watched, Whole, ThroughReference, ByElement, watched, watched_step, watched_content, step_ty, content_of, is_reference, before_element}
use Rattle.cfg_graph.specs.declared.graph.Body.{Body}
use Rattle.cfg_graph.specs.Moves.Gone.{PathAction, leaves_gone, are_first, is_at_or_above, has_index, counts, left_by, last_left, is_param, is_gone_after}
use Rattle.cfg_graph.proofs.WholePlaces.{same_step-sound, same_step-refl}
use Rattle.init_flow.proofs.Upward.{counts-up}

-- How far a place is watched: to its end; or to a step through a reference, or into an element.
pub data Seen (items : ItemTable) (id : Option TyId) (steps : List Step) : Watched → Type 0 where
  whole : has_index steps ≡ false → Seen items id steps (record { steps = steps; reach = Whole })
  reference : (upto more : List Step) → steps ≡ upto ++ ToContent ∷ more
      → (watched items id (upto ++ ToContent ∷ [])).reach ≡ ThroughReference
      → before_element steps ≡ upto ++ ToContent ∷ before_element more
      → Seen items id steps (record { steps = upto; reach = ThroughReference })
  element : (upto more : List Step) (i : ℕ) → steps ≡ upto ++ ToElement i ∷ more
      → (watched items id (upto ++ ToElement i ∷ [])).reach ≡ ByElement
      → before_element steps ≡ upto → has_index steps ≡ true
      → Seen items id steps (record { steps = upto; reach = ByElement })

module _ (items : ItemTable) where
  after-step : (id next : Option TyId) (s : Step) (steps : List Step) (w : Watched)
      → ((more : List Step) → watched items id (s ∷ more) ≡ watched_step s (watched items next more))
      → (before_element (s ∷ steps) ≡ s ∷ before_element steps) → (has_index (s ∷ steps) ≡ has_index steps)
      → Seen items next steps w → Seen items id (s ∷ steps) (watched_step s w)
  after-step id next s steps _ on before index (whole none) = whole (index ∙ none)
  after-step id next s steps _ on before index (reference upto more is not_whole array) =
      reference (s ∷ upto) more (ap (λ (z : List Step). s ∷ z) is) (ap (λ (w : Watched). w.reach) (on (upto ++ ToContent ∷ [])) ∙ not_whole)
      (before ∙ ap (λ (z : List Step). s ∷ z) array)
  after-step id next s steps _ on before index (element upto more i is not_whole array has) =
      element (s ∷ upto) more i (ap (λ (z : List Step). s ∷ z) is) (ap (λ (w : Watched). w.reach) (on (upto ++ ToElement i ∷ [])) ∙ not_whole)
      (before ∙ ap (λ (z : List Step). s ∷ z) array) (index ∙ has)

  pub seen : (id : Option TyId) (steps : List Step) → Seen items id steps (watched items id steps)
  seen id [] = whole refl
  seen id (ToPart n ∷ steps) =
      after-step id (option_and_then (step_ty items (ToPart n)) (option_and_then (type_at items) id)) (ToPart n) steps _ (λ more. refl) refl refl
      (seen (option_and_then (step_ty items (ToPart n)) (option_and_then (type_at items) id)) steps)
  seen id (ToField v n ∷ steps) =
      after-step id (option_and_then (step_ty items (ToField v n)) (option_and_then (type_at items) id)) (ToField v n) steps _ (λ more. refl) refl refl
      (seen (option_and_then (step_ty items (ToField v n)) (option_and_then (type_at items) id)) steps)
  seen id (ToContent ∷ steps) = by (is_reference (option_and_then (type_at items) id)) refl (seen (option_and_then content_of (option_and_then (type_at items) id)) steps)
    where
      next : Option TyId
      next = option_and_then content_of (option_and_then (type_at items) id)

      by : (b : Bool) → is_reference (option_and_then (type_at items) id) ≡ b → Seen items next steps (watched items next steps)
          → Seen items id (ToContent ∷ steps) (watched_content b (watched items next steps))
      by true e rest = reference [] steps refl (ap (λ (b : Bool). (watched_content b (record { steps = []; reach = Whole })).reach) e) refl
      by false e rest =
          after-step id next ToContent steps (watched items next steps) (λ more. ap (λ (b : Bool). watched_content b (watched items next more)) e) refl refl rest
  seen id (ToElement i ∷ steps) = element [] steps i refl refl refl refl

-- Beyond the step at which watching ends.

first-cases : (xs upto : List Step) (s : Step) (more : List Step) → are_first xs (upto ++ s ∷ more) ≡ true
    → (are_first xs upto ≡ true) ⊎ (are_first (upto ++ s ∷ []) xs ≡ true)
first-cases [] upto s more h = inl refl
first-cases (x ∷ xs) [] s more h =
    inr (both_true (subst (λ (z : Step). same_step s z ≡ true) (sym (same_step-sound x s (first_so (same_step x s) (are_first xs more) h))) (same_step-refl s)) refl)
first-cases (x ∷ xs) (u ∷ upto) s more h =
    let one = same_step-sound x u (first_so (same_step x u) (are_first xs (upto ++ s ∷ more)) h) in
    elim (first-cases xs upto s more (second_so (same_step x u) (are_first xs (upto ++ s ∷ more)) h)) [
      | inl up ↦ inl (both_true (first_so (same_step x u) (are_first xs (upto ++ s ∷ more)) h) up)
      | inr low ↦ inr (both_true (subst (λ (z : Step). same_step u z ≡ true) (sym one) (same_step-refl u)) low)
    ]

first-longer : (xs upto more : List Step) → are_first xs upto ≡ true → are_first xs (upto ++ more) ≡ true
first-longer [] upto more h = refl
first-longer (x ∷ xs) [] more h = absurd (false≢true h)
first-longer (x ∷ xs) (u ∷ upto) more h =
    both_true (first_so (same_step x u) (are_first xs upto) h) (first-longer xs upto more (second_so (same_step x u) (are_first xs upto) h))

same_number : (n m : ℕ) → (n == m) ≡ true → n ≡ m
same_number n m h = (Decides-eqb n m).0 h

number-refl : (n : ℕ) → (n == n) ≡ true
number-refl n = (Decides-eqb n n).1 refl

left-same : (c a b : Bool) (x : Option Bool) → (a ≡ true → b ≡ true) → (c ≡ true → b ≡ true → a ≡ true)
    → (if c && b then x else None) ≡ (if c && a then x else None)
left-same false a b x ab ba = refl
left-same true true true x ab ba = refl
left-same true false false x ab ba = refl
left-same true true false x ab ba = absurd (false≢true (ab refl))
left-same true false true x ab ba = absurd (false≢true (ba refl refl))

module _ (items : ItemTable) (body : Body) (local : ℕ) (upto : List Step) (s : Step) where
  abbrev at : List Step → Place
  at steps = record { local = local; steps = steps }

  module _ (ends : counts items body (at (upto ++ s ∷ [])) ≡ false) (more : List Step) where
    left-beyond : (a : PathAction) → left_by items body (at (upto ++ s ∷ more)) a ≡ left_by items body (at upto) a
    left-beyond a =
        left-same (counts items body a.place) (is_at_or_above a.place (at upto)) (is_at_or_above a.place (at (upto ++ s ∷ more))) (leaves_gone a.how) down up
      where
        down : is_at_or_above a.place (at upto) ≡ true → is_at_or_above a.place (at (upto ++ s ∷ more)) ≡ true
        down h = both_true (first_so (a.place.local == local) (are_first a.place.steps upto) h)
            (first-longer a.place.steps upto (s ∷ more) (second_so (a.place.local == local) (are_first a.place.steps upto) h))

        up : counts items body a.place ≡ true → is_at_or_above a.place (at (upto ++ s ∷ more)) ≡ true → is_at_or_above a.place (at upto) ≡ true
        up c h = elim (first-cases a.place.steps upto s more (second_so (a.place.local == local) (are_first a.place.steps (upto ++ s ∷ more)) h)) [
          | inl first ↦ both_true (first_so (a.place.local == local) (are_first a.place.steps (upto ++ s ∷ more)) h) first
          | inr low ↦ absurd (false≢true (sym ends
              ∙ counts-up items body (at (upto ++ s ∷ [])) a.place
              (both_true (subst (λ (n : ℕ). (local == n) ≡ true) (sym (same_number a.place.local local (first_so (a.place.local == local) (are_first a.place.steps (upto ++ s ∷ more)) h))) (number-refl local)) low)
              c))
        ]

    last-beyond : (actions : List PathAction) → last_left items body (at (upto ++ s ∷ more)) actions ≡ last_left items body (at upto) actions
    last-beyond [] = refl
    last-beyond (a ∷ later) = λ i. option_or (last-beyond later i) (left-beyond a i)

    pub gone-beyond : (actions : List PathAction) → is_gone_after items body actions (at (upto ++ s ∷ more)) ≡ is_gone_after items body actions (at upto)
    gone-beyond actions = ap (λ (z : Option Bool). unwrap_or z (not (is_param items body local))) (last-beyond actions)
