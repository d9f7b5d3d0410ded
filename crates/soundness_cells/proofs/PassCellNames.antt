-- A place, by the keys of a body, is of a type and leads on by the types: what each step further owes, and what stands
-- for the names of guards.
use Rattle.std.proofs.Common.{◌≡◌, ℕ, ◌==◌, ◌&&◌, ◌||◌, Bool, true, false, List, [], ◌∷◌, ◌++◌, map, Option, Some, None, if◌then◌else◌, refl, ap, sym, ◌∙◌, subst}
use Rattle.std.specs.Prelude.{option_and_then}
use Rattle.std.specs.Cmp.Derive.{both_true}
use Rattle.std.proofs.lemmas.Bool.{false≢true}
use Rattle.std.proofs.lemmas.Bool.Decides.{Decides-eqb}
use Rattle.std.proofs.lemmas.Option.{none-some, same_Some}
use Rattle.mir_ty.specs.declared.ty.Ty.{Ty}
use Rattle.mir_ty.specs.declared.ty.TyId.{TyId}
use Rattle.mir_ty.specs.ItemTable.{ItemTable, type_at}
use Rattle.store_model.specs.Concrete.Location.{named_by}
use Rattle.store_model.specs.Places.Place.{Step, ToPart, ToField, ToContent, ToElement, Place, whole_local, before_element, step_ty, ty_along, place_ty, is_reference}
use Rattle.typed_tree.specs.Tree.{BodyTree}
use Rattle.src_meaning.specs.Forms.{aliases_with}
use Rattle.src_meaning.specs.Locals.Effects.{step_at, place_at}
use Rattle.src_meaning.specs.Locals.OfBody.{local_of, local_ty}
use Rattle.src_meaning.specs.Shape.{Aliases, BoundName, extended, place_of_key}
use Rattle.soundness_values.proofs.CheckedBodies.{is_reference_param}
use Rattle.soundness_values.proofs.Leading.{are_sure, is_sure, sure_step, then_sure}
use Rattle.soundness_cells.proofs.PassCellTests.{leads, leads_in, leads_from}
use Rattle.soundness_values.proofs.PlaceTypes.{extended_ty}

-- ---- types that are references

pub names_none : (o : Option Ty) → is_reference o ≡ false → named_by o ≡ None
names_none None e = refl
names_none (Some (Ty.Shared to)) e = absurd (false≢true (sym e))
names_none (Some (Ty.Unique to)) e = absurd (false≢true (sym e))
names_none (Some ty) e = refl

pub map_append : {A B : Type 0} (f : A → B) (a b : List A) → map f (a ++ b) ≡ map f a ++ map f b
map_append f [] b = refl
map_append f (x ∷ a) b = ap (λ l. f x ∷ l) (map_append f a b)

-- a step leads on from a type, if variants and numbers of elements are as they should be
abbrev pub goes : Step → Option Ty → Bool
goes (ToPart n) ty = true
goes (ToField variant n) ty = true
goes ToContent (Some (Ty.Boxed inside)) = true
goes ToContent ty = false
goes (ToElement i) (Some (Ty.Array element count)) = true
goes (ToElement i) ty = false

module _ (items : ItemTable) where
  abbrev sure : List Step → List Step → TyId → Bool
  sure = are_sure items (λ i count. true) (λ so_far variant. true)

  second_so : (a : Bool) → (a || true) ≡ true
  second_so true = refl
  second_so false = refl

  one_goes : (so_far : List Step) (step : Step) (ty : Ty) → goes step (Some ty) ≡ true →
      is_sure items (λ i count. true) (λ so_far variant. true) so_far step ty ≡ true
  one_goes so_far (ToPart n) ty g = refl
  one_goes so_far (ToField variant n) ty g = second_so _
  one_goes so_far ToContent (Ty.Boxed inside) g = refl
  one_goes so_far ToContent ty g = absurd (false≢true g)
  one_goes so_far (ToElement i) (Ty.Array element count) g = refl
  one_goes so_far (ToElement i) ty g = absurd (false≢true g)

  -- one step more
  last_goes : (so_far : List Step) (step : Step) (o : Option Ty) (next : TyId) →
      option_and_then (step_ty items step) o ≡ Some next → goes step o ≡ true →
      sure_step items (λ i count. true) (λ so_far variant. true) so_far step o (sure (so_far ++ step ∷ []) []) ≡ true
  last_goes so_far step None next e g = absurd (none-some next e)
  last_goes so_far step (Some ty) next e g = both_true (one_goes so_far step ty g)
      (subst (λ t. then_sure items (λ i count. true) (λ so_far variant. true) t (λ id. true) ≡ true) (sym e) refl)

  left_of : (a b : Bool) → (a && b) ≡ true → a ≡ true
  left_of true b e = refl
  left_of false b e = absurd (false≢true e)

  right_of : (a b : Bool) → (a && b) ≡ true → b ≡ true
  right_of true b e = e
  right_of false b e = absurd (false≢true e)

  more_goes : (so_far steps : List Step) (step : Step) (id end next : TyId) → ty_along items steps id ≡ Some end →
      sure so_far steps id ≡ true → option_and_then (step_ty items step) (type_at items end) ≡ Some next →
      goes step (type_at items end) ≡ true → sure so_far (steps ++ step ∷ []) id ≡ true
  more_goes so_far [] step id end next t h e g =
      let same : id ≡ end = same_Some id end t in
      last_goes so_far step (type_at items id) next
      (subst (λ k. option_and_then (step_ty items step) (type_at items k) ≡ Some next) (sym same) e)
      (subst (λ k. goes step (type_at items k) ≡ true) (sym same) g)
  more_goes so_far (s ∷ steps) step id end next t h e g =
      by (type_at items id) t h (λ k x y. more_goes (so_far ++ s ∷ []) steps step k end next x y e g)
    where
      inner : (o : Option TyId) → option_and_then (ty_along items steps) o ≡ Some end →
          then_sure items (λ i count. true) (λ so_far variant. true) o (sure (so_far ++ s ∷ []) steps) ≡ true →
          ((k : TyId) → ty_along items steps k ≡ Some end → sure (so_far ++ s ∷ []) steps k ≡ true →
          sure (so_far ++ s ∷ []) (steps ++ step ∷ []) k ≡ true) →
          then_sure items (λ i count. true) (λ so_far variant. true) o (sure (so_far ++ s ∷ []) (steps ++ step ∷ []))
          ≡ true
      inner None t h later = absurd (none-some end t)
      inner (Some k) t h later = later k t h

      by : (o : Option Ty) → option_and_then (ty_along items steps) (option_and_then (step_ty items s) o) ≡ Some end →
          sure_step items (λ i count. true) (λ so_far variant. true) so_far s o (sure (so_far ++ s ∷ []) steps) ≡ true →
          ((k : TyId) → ty_along items steps k ≡ Some end → sure (so_far ++ s ∷ []) steps k ≡ true →
          sure (so_far ++ s ∷ []) (steps ++ step ∷ []) k ≡ true) →
          sure_step items (λ i count. true) (λ so_far variant. true) so_far s o
          (sure (so_far ++ s ∷ []) (steps ++ step ∷ [])) ≡ true
      by None t h later = absurd (none-some end t)
      by (Some ty) t h later = both_true
          (left_of (is_sure items (λ i count. true) (λ so_far variant. true) so_far s ty) _ h)
          (inner (step_ty items s ty) t
          (right_of (is_sure items (λ i count. true) (λ so_far variant. true) so_far s ty) _ h) later)

  again : (so_far : List Step) (step : Step) (steps : List Step) (o : Option Ty) →
      ((k : TyId) → sure (so_far ++ step ∷ []) steps k ≡ true →
      sure (so_far ++ step ∷ []) (before_element steps) k ≡ true) →
      sure_step items (λ i count. true) (λ so_far variant. true) so_far step o (sure (so_far ++ step ∷ []) steps) ≡
      true → sure_step items (λ i count. true) (λ so_far variant. true) so_far step o
      (sure (so_far ++ step ∷ []) (before_element steps)) ≡ true
  again so_far step steps None f h = absurd (false≢true h)
  again so_far step steps (Some ty) f h = both_true
      (left_of (is_sure items (λ i count. true) (λ so_far variant. true) so_far step ty) _ h)
      (inner (step_ty items step ty) (right_of (is_sure items (λ i count. true) (λ so_far variant. true) so_far step
      ty) _ h))
    where
      inner : (o : Option TyId) →
          then_sure items (λ i count. true) (λ so_far variant. true) o (sure (so_far ++ step ∷ []) steps) ≡ true →
          then_sure items (λ i count. true) (λ so_far variant. true) o
          (sure (so_far ++ step ∷ []) (before_element steps)) ≡ true
      inner None h = absurd (false≢true h)
      inner (Some k) h = f k h

  -- up to the array of which an element is taken
  before_goes : (so_far steps : List Step) (id : TyId) → sure so_far steps id ≡ true →
      sure so_far (before_element steps) id ≡ true
  before_goes so_far [] id h = refl
  before_goes so_far (ToElement i ∷ steps) id h = refl
  before_goes so_far (ToPart n ∷ steps) id h =
      again so_far (ToPart n) steps (type_at items id) (λ k x. before_goes (so_far ++ ToPart n ∷ []) steps k x) h
  before_goes so_far (ToField v n ∷ steps) id h =
      again so_far (ToField v n) steps (type_at items id) (λ k x. before_goes (so_far ++ ToField v n ∷ []) steps k x) h
  before_goes so_far (ToContent ∷ steps) id h =
      again so_far ToContent steps (type_at items id) (λ k x. before_goes (so_far ++ ToContent ∷ []) steps k x) h

  -- what a reference names is behind it
  named_content : (o : Option Ty) (to : TyId) → named_by o ≡ Some to →
      option_and_then (step_ty items ToContent) o ≡ Some to
  named_content None to e = absurd (none-some to e)
  named_content (Some (Ty.Shared t)) to e = e
  named_content (Some (Ty.Unique t)) to e = e
  named_content (Some other) to e = absurd (none-some to e)

module _ (items : ItemTable) (body : BodyTree) where
  abbrev local : ℕ → ℕ
  local = local_of items body

  abbrev Target : ℕ → Bool
  Target = is_reference_param items body

  abbrev Cell : ℕ → TyId → Type 0
  Cell key id = local_ty items body (local_of items body key) ≡ Some id

  -- a place is of a type, and the types lead there
  pub record PlaceOk (id : TyId) (place : Place) : Type 0 where
    pub typed : place_ty items (local_ty items body) (place_at (local_of items body) place) ≡ Some id
    pub leading : leads items (local_ty items body) (is_reference_param items body)
        (place_at (local_of items body) place) ≡ true

  -- ---- a cell

  pub cell_ok : (key : ℕ) (id : TyId) → local_ty items body (local_of items body key) ≡ Some id →
      is_reference (type_at items id) ≡ false → PlaceOk id (whole_local key)
  cell_ok key id c r = record {
    typed = ap (option_and_then (ty_along items [])) c;
    leading = subst (λ o. leads_in items (local_ty items body) (is_reference_param items body)
        (whole_local (local_of items body key)) o ≡ true) (sym c)
        (subst (λ o. leads_from items (local_ty items body) (is_reference_param items body)
        (whole_local (local_of items body key)) id o ≡ true) (sym (names_none (type_at items id) r))
        refl);
  }

  -- ---- a step further

  step_same : (step : Step) (ty : Ty) → step_ty items (step_at (local_of items body) step) ty ≡ step_ty items step ty
  step_same (ToPart n) ty = refl
  step_same (ToField variant n) ty = refl
  step_same ToContent ty = refl
  step_same (ToElement i) ty = refl

  steps_same : (step : Step) (o : Option Ty) →
      option_and_then (step_ty items (step_at (local_of items body) step)) o ≡ option_and_then (step_ty items step) o
  steps_same step None = refl
  steps_same step (Some ty) = step_same step ty

  goes_same : (step : Step) (o : Option Ty) → goes (step_at (local_of items body) step) o ≡ goes step o
  goes_same (ToPart n) o = refl
  goes_same (ToField variant n) o = refl
  goes_same ToContent o = refl
  goes_same (ToElement i) None = refl
  goes_same (ToElement i) (Some (Ty.Array element count)) = refl
  goes_same (ToElement i) (Some ty) = refl

  pub place_further : (place : Place) (step : Step) →
      place_at (local_of items body) (extended step place)
      ≡ extended (step_at (local_of items body) step) (place_at (local_of items body) place)
  place_further place step = ap (λ s. record { local = local_of items body place.local; steps = s })
      (map_append (step_at (local_of items body)) place.steps (step ∷ []))

  -- from a place at a root
  root_further : (l : ℕ) (root id next : TyId) (steps : List Step) (step : Step) (o : Option TyId) →
      named_by (type_at items root) ≡ o → ty_along items steps root ≡ Some id →
      option_and_then (step_ty items step) (type_at items id) ≡ Some next → goes step (type_at items id) ≡ true →
      leads_from items (local_ty items body) (is_reference_param items body) (record { local = l; steps = steps })
      root o ≡ true →
      leads_from items (local_ty items body) (is_reference_param items body)
      (record { local = l; steps = steps ++ step ∷ [] }) root o ≡ true
  root_further l root id next steps step None n t e g h =
      more_goes items [] steps step root id next t h e g
  root_further l root id next [] step (Some to) n t e g h =
      absurd (false≢true (right_of items (is_reference_param items body l) _ h))
  root_further l root id next (ToContent ∷ steps) step (Some to) n t e g h =
      both_true (left_of items (is_reference_param items body l) _ h)
      (more_goes items [] steps step to id next
      (sym (ap (option_and_then (ty_along items steps)) (named_content items (type_at items root) to n)) ∙ t)
      (right_of items (is_reference_param items body l) _ h) e g)
  root_further l root id next (ToPart k ∷ steps) step (Some to) n t e g h =
      absurd (false≢true (right_of items (is_reference_param items body l) _ h))
  root_further l root id next (ToField v k ∷ steps) step (Some to) n t e g h =
      absurd (false≢true (right_of items (is_reference_param items body l) _ h))
  root_further l root id next (ToElement k ∷ steps) step (Some to) n t e g h =
      absurd (false≢true (right_of items (is_reference_param items body l) _ h))

  lead_further : (l : ℕ) (id next : TyId) (steps : List Step) (step : Step) (o : Option TyId) →
      option_and_then (ty_along items steps) o ≡ Some id →
      option_and_then (step_ty items step) (type_at items id) ≡ Some next → goes step (type_at items id) ≡ true →
      leads_in items (local_ty items body) (is_reference_param items body) (record { local = l; steps = steps }) o
      ≡ true →
      leads_in items (local_ty items body) (is_reference_param items body)
      (record { local = l; steps = steps ++ step ∷ [] }) o ≡ true
  lead_further l id next steps step None t e g h = absurd (false≢true h)
  lead_further l id next steps step (Some root) t e g h =
      root_further l root id next steps step (named_by (type_at items root)) refl t e g h

  pub further_ok : (id next : TyId) (place : Place) (step : Step) → PlaceOk id place →
      option_and_then (step_ty items step) (type_at items id) ≡ Some next → goes step (type_at items id) ≡ true →
      PlaceOk next (extended step place)
  further_ok id next place step p e g =
      let e' = steps_same step (type_at items id) ∙ e in
      record {
        typed = ap (place_ty items (local_ty items body)) (place_further place step)
            ∙ extended_ty items (local_ty items body) (place_at (local_of items body) place)
            (step_at (local_of items body) step) id next p.typed e';
        leading = subst (λ q. leads items (local_ty items body) (is_reference_param items body) q ≡ true)
            (sym (place_further place step))
            (lead_further (local_of items body place.local) id next (map (step_at (local_of items body)) place.steps)
            (step_at (local_of items body) step) (local_ty items body (local_of items body place.local)) p.typed e'
            (goes_same step (type_at items id) ∙ g) p.leading);
      }

  -- what a parameter names that is a reference
  pub named_ok : (key : ℕ) (id to : TyId) → local_ty items body (local_of items body key) ≡ Some id →
      named_by (type_at items id) ≡ Some to → is_reference_param items body (local_of items body key) ≡ true →
      PlaceOk to (extended ToContent (whole_local key))
  named_ok key id to c n r = record {
    typed = ap (option_and_then (ty_along items (ToContent ∷ []))) c
        ∙ ap (option_and_then (ty_along items [])) (named_content items (type_at items id) to n);
    leading = subst (λ o. leads_in items (local_ty items body) (is_reference_param items body)
        (record { local = local_of items body key; steps = ToContent ∷ [] }) o ≡ true) (sym c)
        (subst (λ o. leads_from items (local_ty items body) (is_reference_param items body)
        (record { local = local_of items body key; steps = ToContent ∷ [] }) id o ≡ true) (sym n)
        (both_true r refl));
  }

  -- ---- the array of which an element is taken

  pub before_at : (steps : List Step) → before_element (map (step_at (local_of items body)) steps)
      ≡ map (step_at (local_of items body)) (before_element steps)
  before_at [] = refl
  before_at (ToPart n ∷ steps) = ap (λ l. ToPart n ∷ l) (before_at steps)
  before_at (ToField v n ∷ steps) = ap (λ l. ToField v n ∷ l) (before_at steps)
  before_at (ToContent ∷ steps) = ap (λ l. ToContent ∷ l) (before_at steps)
  before_at (ToElement i ∷ steps) = refl

  lead_before : (l : ℕ) (steps : List Step) (o : Option TyId) →
      leads_in items (local_ty items body) (is_reference_param items body) (record { local = l; steps = steps }) o ≡
      true → leads_in items (local_ty items body) (is_reference_param items body)
      (record { local = l; steps = before_element steps }) o ≡ true
  lead_before l steps None h = absurd (false≢true h)
  lead_before l steps (Some root) h = by steps (named_by (type_at items root)) h
    where
      by : (steps : List Step) (o : Option TyId) →
          leads_from items (local_ty items body) (is_reference_param items body) (record { local = l; steps = steps })
          root o ≡ true →
          leads_from items (local_ty items body) (is_reference_param items body)
          (record { local = l; steps = before_element steps }) root o ≡ true
      by steps None h = before_goes items [] steps root h
      by [] (Some to) h = absurd (false≢true (right_of items (is_reference_param items body l) _ h))
      by (ToContent ∷ steps) (Some to) h = both_true (left_of items (is_reference_param items body l) _ h)
          (before_goes items [] steps to (right_of items (is_reference_param items body l) _ h))
      by (ToPart n ∷ steps) (Some to) h = absurd (false≢true (right_of items (is_reference_param items body l) _ h))
      by (ToField v n ∷ steps) (Some to) h = absurd (false≢true (right_of items (is_reference_param items body l) _ h))
      by (ToElement i ∷ steps) (Some to) h = absurd (false≢true (right_of items (is_reference_param items body l) _ h))

  pub array_leads : (place : Place) → leads items (local_ty items body) (is_reference_param items body)
      (place_at (local_of items body) place) ≡ true →
      leads items (local_ty items body) (is_reference_param items body)
      (place_at (local_of items body) (record place { steps = before_element place.steps })) ≡ true
  array_leads place h = subst (λ s. leads items (local_ty items body) (is_reference_param items body)
      (record { local = local_of items body place.local; steps = s }) ≡ true) (before_at place.steps)
      (lead_before (local_of items body place.local) (map (step_at (local_of items body)) place.steps)
      (local_ty items body (local_of items body place.local)) h)

  -- ---- for what names stand

  -- a name that holds no reference stands for a place of its type, one that holds a reference for itself
  pub record Names (aliases : Aliases) : Type 0 where
    pub stands : (key : ℕ) (id : TyId) → local_ty items body (local_of items body key) ≡ Some id →
        is_reference (type_at items id) ≡ false → PlaceOk id (place_of_key key aliases)
    pub itself : (key : ℕ) (id : TyId) → local_ty items body (local_of items body key) ≡ Some id →
        is_reference (type_at items id) ≡ true → place_of_key key aliases ≡ whole_local key

  pub no_names : Names []
  no_names = record { stands = cell_ok; itself = λ key id c r. refl }

  -- the parts that names of a pattern take are of their types
  abbrev pub BoundsPlaced : List BoundName → Type 0
  BoundsPlaced [] = Unit {0}
  BoundsPlaced (b ∷ bounds) = ((local_ty items body (local_of items body b.key) ≡ Some b.ty)
      × ((is_reference (type_at items b.ty) ≡ false) × PlaceOk b.ty b.site.place)) × BoundsPlaced bounds

  pub both_placed : (a b : List BoundName) → BoundsPlaced a → BoundsPlaced b → BoundsPlaced (a ++ b)
  both_placed [] b f g = g
  both_placed (x ∷ a) b f g = (f.0, both_placed a b f.1 g)

  pub guard_names : (bounds : List BoundName) (aliases : Aliases) → BoundsPlaced bounds → Names aliases →
      Names (aliases_with bounds aliases)
  guard_names [] aliases p n = n
  guard_names (b ∷ bounds) aliases p n =
      let later = guard_names bounds aliases p.1 n in
      record {
        stands = λ key id c r. by later key id c r (key == b.key) refl;
        itself = λ key id c r. self later key id c r (key == b.key) refl;
      }
    where
      of : (key : ℕ) (id : TyId) → local_ty items body (local_of items body key) ≡ Some id → (key == b.key) ≡ true →
          b.ty ≡ id
      of key id c e = same_Some b.ty id (sym p.0.0 ∙ ap (λ k. local_ty items body (local_of items body k))
          (sym ((Decides-eqb key b.key).0 e)) ∙ c)

      by : Names (aliases_with bounds aliases) → (key : ℕ) (id : TyId) →
          local_ty items body (local_of items body key) ≡ Some id →
          is_reference (type_at items id) ≡ false → (x : Bool) → (key == b.key) ≡ x →
          PlaceOk id (if x then b.site.place else place_of_key key (aliases_with bounds aliases))
      by later key id c r true e = subst (λ t. PlaceOk t b.site.place) (of key id c e) p.0.1.1
      by later key id c r false e = later.stands key id c r

      self : Names (aliases_with bounds aliases) → (key : ℕ) (id : TyId) → local_ty items body (local_of items body
          key) ≡ Some id → is_reference (type_at items id) ≡ true → (x : Bool) → (key == b.key) ≡ x →
          (if x then b.site.place else place_of_key key (aliases_with bounds aliases)) ≡ whole_local key
      self later key id c r true e = absurd (false≢true (sym p.0.1.0
          ∙ ap (λ t. is_reference (type_at items t)) (of key id c e) ∙ r))
      self later key id c r false e = later.itself key id c r
