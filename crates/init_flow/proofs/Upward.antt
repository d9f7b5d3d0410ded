-- A container of a place that counts counts.
use Rattle.std.proofs.Common.{◌≡◌, ℕ, Bool, true, false, not, ◌&&◌, ◌||◌, List, [], ◌∷◌, Option, slice_get, refl, sym, ap, ◌∙◌}
use Rattle.std.specs.Prelude.{option_and_then, ◌==◌}
use Rattle.std.specs.Cmp.{first_so, second_so}
use Rattle.std.specs.Cmp.Derive.{both_true}
use Rattle.std.proofs.lemmas.Bool.{false≢true, eqb-true}
use Rattle.mir_ty.specs.declared.ty.TyId.{TyId}
use Rattle.mir_ty.specs.ItemTable.{ItemTable, type_at}
use Rattle.store_model.specs.Places.Place.{Place, Step, ToPart, ToField, ToContent, ToElement, same_step, step_ty, is_reference}
use Rattle.cfg_graph.specs.declared.graph.Body.{Body}
use Rattle.cfg_graph.specs.Moves.Gone.{counts, has_index, are_first, is_at_or_above}
use Rattle.cfg_graph.proofs.WholePlaces.{same_step-sound}
use Rattle.move_paths.specs.Watch.{goes_through_reference, is_to_content}
use Rattle.move_paths.proofs.Watched.{whole-is}

abbrev index_step : Step → Bool
index_step (ToElement i) = true
index_step step = false

index-is : (step : Step) (steps : List Step) → has_index (step ∷ steps) ≡ (index_step step || has_index steps)
index-is (ToPart n) steps = refl
index-is (ToField v n) steps = refl
index-is ToContent steps = refl
index-is (ToElement i) steps = refl

none-first : (a b : Bool) → not (a || b) ≡ true → not a ≡ true
none-first true b h = h
none-first false b h = refl

none-second : (a b : Bool) → not (a || b) ≡ true → not b ≡ true
none-second true b h = absurd (false≢true h)
none-second false b h = h

none-both : (a b : Bool) → not a ≡ true → not b ≡ true → not (a || b) ≡ true
none-both true b h k = h
none-both false b h k = k

no-index : (xs ys : List Step) → are_first xs ys ≡ true → not (has_index ys) ≡ true → not (has_index xs) ≡ true
no-index [] ys h k = refl
no-index (x ∷ xs) [] h k = absurd (false≢true h)
no-index (x ∷ xs) (y ∷ ys) h k =
    let one = same_step-sound x y (first_so (same_step x y) (are_first xs ys) h) in
    let all : not (index_step y || has_index ys) ≡ true = ap not (sym (index-is y ys)) ∙ k in
    ap not (index-is x xs)
    ∙ none-both (index_step x) (has_index xs) (ap (λ (s : Step). not (index_step s)) one ∙ none-first (index_step y) (has_index ys) all)
    (no-index xs ys (second_so (same_step x y) (are_first xs ys) h) (none-second (index_step y) (has_index ys) all))

module _ (items : ItemTable) where
  abbrev here : Option TyId → Step → Bool
  here id step = is_to_content step && is_reference (option_and_then (type_at items) id)

  abbrev next : Option TyId → Step → Option TyId
  next id step = option_and_then (step_ty items step) (option_and_then (type_at items) id)

  no-reference : (id : Option TyId) (xs ys : List Step) → are_first xs ys ≡ true → not (goes_through_reference items id ys) ≡ true → not (goes_through_reference items id xs) ≡ true
  no-reference id [] ys h k = refl
  no-reference id (x ∷ xs) [] h k = absurd (false≢true h)
  no-reference id (x ∷ xs) (y ∷ ys) h k =
      let one = same_step-sound x y (first_so (same_step x y) (are_first xs ys) h) in
      none-both (here id x) (goes_through_reference items (next id x) xs)
      (ap (λ (s : Step). not (here id s)) one ∙ none-first (here id y) (goes_through_reference items (next id y) ys) k)
      (ap (λ (s : Step). not (goes_through_reference items (next id s) xs)) one
      ∙ no-reference (next id y) xs ys (second_so (same_step x y) (are_first xs ys) h) (none-second (here id y) (goes_through_reference items (next id y) ys) k))

  pub counts-up : (body : Body) (q p : Place) → is_at_or_above q p ≡ true → counts items body p ≡ true → counts items body q ≡ true
  counts-up body q p up lower =
      let local = eqb-true q.local p.local (first_so (q.local == p.local) (are_first q.steps p.steps) up) in
      let first = second_so (q.local == p.local) (are_first q.steps p.steps) up in
      let id = slice_get body.locals p.local in
      let all : (not (has_index p.steps) && not (goes_through_reference items id p.steps)) ≡ true = sym (whole-is items id p.steps) ∙ lower in
      whole-is items (slice_get body.locals q.local) q.steps
      ∙ ap (λ (n : ℕ). not (has_index q.steps) && not (goes_through_reference items (slice_get body.locals n) q.steps)) local
      ∙ both_true (no-index q.steps p.steps first (first_so (not (has_index p.steps)) (not (goes_through_reference items id p.steps)) all))
      (no-reference id q.steps p.steps first (second_so (not (has_index p.steps)) (not (goes_through_reference items id p.steps)) all))
