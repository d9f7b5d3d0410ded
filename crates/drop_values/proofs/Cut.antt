-- A place is not cut off where no container of it is gone: nothing on the way to it is gone, along plain steps as along
-- steps within a whole value.
use Rattle.std.proofs.Common.{◌≡◌, inl, inr, ℕ, suc, ◌==◌, pos, negsuc, ◌||◌, not, Bool, true, false, List, [], ◌∷◌, map, length, Option, Some, None, if◌then◌else◌, refl, ap, sym, ◌∙◌, subst, arith}
use Rattle.std.specs.List.{list_any}
use Rattle.std.specs.Cmp.{first_so, second_so}
use Rattle.std.specs.Cmp.Derive.{both_true}
use Rattle.std.proofs.lemmas.Bool.{false≢true}
use Rattle.std.proofs.lemmas.Bool.Decides.{eqb_tells}
use Rattle.mir_ty.specs.declared.ty.TyId.{TyId}
use Rattle.mir_ty.specs.ItemTable.{ItemTable}
use Rattle.store_model.specs.declared.address.At.{At}
use Rattle.store_model.specs.declared.address.At.TheVariants.{Part, Inside}
use Rattle.store_model.specs.Abstract.Presence.{Presence, itself_gone, presence_at, presence_along, containers_present}
use Rattle.store_model.specs.Concrete.Location.{Setting, OfType, concrete_ty, is_of_type, Located, into, located_at, root_address, located_root, Reached, Reaches, CutOff, Nowhere, reach_of, reach_if, on_reached, named_by, by_reference, into_element, through, into_field, follow, follow_from, along, in_youngest, reach}
use Rattle.store_model.specs.Concrete.State.{State, Activation, Cells, cell, at_depth}
use Rattle.store_model.specs.Places.Place.{Step, ToPart, ToField, ToContent, ToElement, Place}
use Rattle.store_model.specs.Values.Access.{value_at}
use Rattle.store_model.specs.Values.Datum.{Datum, Gone, Number, Truth, UnitValue, Aggregate, Box, Address}
use Rattle.store_model.specs.Values.Wholeness.{IsWhole}
use Rattle.drop_values.specs.Like.{held_by, body_at, body_of, raw_setting}
use Rattle.drop_values.specs.Typed.{Fits, IsTypedAs}
use Rattle.drop_values.proofs.FoundAs.{IsOf}
use Rattle.drop_values.proofs.WholeParts.{through as value-through, whole-part}
use Rattle.drop_values.proofs.Knows.{PlainSteps, no_steps, to_next, arrived, root}
use Rattle.drop_values.proofs.Stand as stand
use Rattle.drop_values.proofs.TypedSteps.{SolidSteps, no_more, one_more, typed-along}
use Rattle.drop_values.proofs.TypedAs.{As}
use Rattle.drop_values.proofs.Ways.{fits_at_end}

-- what stands in a whole value is whole
pub whole-at : (path : List At) (value d : Datum) → IsWhole value → value_at path value ≡ Some d → IsWhole d
whole-at [] value d h e = subst IsWhole (let x : value ≡ d = cc in x) h
whole-at (step ∷ path) value d h e =
    let t = value-through step path value d e in
    whole-at path t.inner d (whole-part step value t.inner h t.part_is) t.rest

-- no container is gone, told by looking at each
any-of-map : {A B : Type 0} (f : A → B) (test : B → Bool) (xs : List A) →
    list_any test (map f xs) ≡ list_any (λ x. test (f x)) xs
any-of-map f test [] = refl
any-of-map f test (x ∷ xs) = ap (λ b. test (f x) || b) (any-of-map f test xs)

neither-so : (a b : Bool) → (a || b) ≡ false → (a ≡ false) × (b ≡ false)
neither-so false b h = (refl, h)
neither-so true b h = absurd (false≢true (sym h))

pub none-gone-above : (containers : List Step → List (List Step)) →
    (containers [] ≡ []) → ((step : Step) (steps : List Step) →
    containers (step ∷ steps) ≡ [] ∷ map (λ outer. step ∷ outer) (containers steps)) →
    (steps : List Step) (p : Presence) (gone : List Step → Bool) →
    ((outer : List Step) → gone outer ≡ itself_gone (presence_along outer p)) →
    list_any gone (containers steps) ≡ false → containers_present steps p ≡ true
none-gone-above containers none more [] p gone is h = refl
none-gone-above containers none more (step ∷ steps) p gone is h =
    let two = neither-so (gone []) (list_any gone (map (λ outer. step ∷ outer) (containers steps)))
    (ap (list_any gone) (sym (more step steps)) ∙ h) in
    both_true (ap not (sym (is []) ∙ two.0))
    (none-gone-above containers none more steps (presence_at step p) (λ outer. gone (step ∷ outer))
    (λ outer. is (step ∷ outer))
    (sym (any-of-map (λ (outer : List Step). step ∷ outer) gone (containers steps)) ∙ two.1))

module _ (setting : Setting) (w : State) (cells : Cells) where
  of-not-cut : (o : Option Located) → reach_of o ≡ CutOff → ⊥
  of-not-cut None e = cc
  of-not-cut (Some s) e = cc

  if-not-cut : (b : Bool) (o : Option Located) → reach_if b o ≡ CutOff → ⊥
  if-not-cut true o e = of-not-cut o e
  if-not-cut false o e = cc

  reference-not-cut : (o : Option TyId) (u : Option Located) → by_reference setting.items o u ≡ CutOff → ⊥
  reference-not-cut None u e = cc
  reference-not-cut (Some id) None e = cc
  reference-not-cut (Some id) (Some s) e = if-not-cut (is_of_type setting.items id s.dynamic) (Some s) e

  field-not-cut : (v n : ℕ) (d : Datum) (s : Located) → into_field setting w cells v n d s ≡ CutOff → ⊥
  field-not-cut v n (Aggregate active serial parts) s e =
      if-not-cut (v == active) (into setting.items (Part n) s) e
  field-not-cut v n other s e = cc

  content-not-cut : (d : Datum) (s : Located) → through setting w cells d s ≡ CutOff → ⊥
  content-not-cut (Address a) s e =
      reference-not-cut (named_by (concrete_ty setting.items s.dynamic)) (located_at setting w a) e
  content-not-cut (Box x y z) s e = of-not-cut (into setting.items Inside s) e
  content-not-cut Gone s e = cc
  content-not-cut (Number x) s e = cc
  content-not-cut (Truth x) s e = cc
  content-not-cut UnitValue s e = cc
  content-not-cut (Aggregate x y z) s e = cc

  element-not-cut : (d : Datum) (s : Located) → into_element setting w cells d s ≡ CutOff → ⊥
  element-not-cut (Number (pos n)) s e = of-not-cut (into setting.items (Part n) s) e
  element-not-cut other s e = cc

  follow-not-cut : (step : Step) (s : Located) → follow setting w cells step s ≡ CutOff → ⊥
  follow-not-cut (ToPart n) s e = of-not-cut (into setting.items (Part n) s) e
  follow-not-cut (ToField v n) s e = field-not-cut v n s.value s e
  follow-not-cut ToContent s e = content-not-cut s.value s e
  follow-not-cut (ToElement i) s e = element-not-cut (cell i cells) s e

  -- only below what is gone
  pub cut-gone : (step : Step) (d : Datum) (s : Located) → follow_from setting w cells step d s ≡ CutOff → d ≡ Gone
  cut-gone step Gone s e = refl
  cut-gone step other s e = absurd (follow-not-cut step s e)

module _ (items : ItemTable) (local_ty : (body local : ℕ) → Option TyId) (w : State) (cells : Cells) where
  abbrev raw : Setting
  raw = raw_setting items local_ty

  -- one step that reaches something
  one-alone : (step : Step) (s m : Located) → follow_from raw w cells step s.value s ≡ Reaches m →
      along raw w cells (step ∷ []) s ≡ Reaches m
  one-alone step s m e = ap (λ r. on_reached r (along raw w cells []) CutOff Nowhere) e

  -- within a whole value
  pub whole-not-cut : (steps : List Step) (s : Located) (id end : TyId) → SolidSteps items steps id end →
      As items s.dynamic id → IsTypedAs items s.dynamic s.value → IsWhole s.value →
      along raw w cells steps s ≡ CutOff → ⊥
  whole-not-cut _ s _ _ (no_more id) a t h e = cc
  whole-not-cut _ s _ _ (one_more step steps id next end ty is next_is solid rest) a t h e =
      by (follow_from raw w cells step s.value s) refl e
      (λ m a t h e. whole-not-cut steps m next end rest a t h e)
    where
      by : (r : Reached) → follow_from raw w cells step s.value s ≡ r →
          on_reached r (along raw w cells steps) CutOff Nowhere ≡ CutOff →
          ((m : Located) → As items m.dynamic next → IsTypedAs items m.dynamic m.value → IsWhole m.value →
          along raw w cells steps m ≡ CutOff → ⊥) → ⊥
      by (Reaches m) er e again =
          let x = typed-along items local_ty w cells (step ∷ []) s m id next
          (one_more step [] id next next ty is next_is solid (no_more next)) a t (one-alone step s m er) in
          again m x.reached_as.as_is x.reached_as.typed
          (whole-at x.path s.value m.value h (stand.along items x.path s m x.into_is).stands) e
      by CutOff er e again = subst IsWhole (cut-gone raw w cells step s.value s er) h
      by Nowhere er e again = cc

  -- along plain steps
  pub plain-not-cut : (steps : List Step) (s : Located) (id end : TyId) (p : Presence) → PlainSteps items steps id end →
      IsOf items s.dynamic id → Fits items s.dynamic p s.value → containers_present steps p ≡ true →
      along raw w cells steps s ≡ CutOff → ⊥
  plain-not-cut _ s _ _ p (no_steps id) o k c e = cc
  plain-not-cut _ s _ end p (to_next step steps id next _ ty is step_is plain rest) o k c e =
      by (follow_from raw w cells step s.value s) refl e
      (λ m q o k c e. plain-not-cut steps m next end q rest o k c e)
    where
      no : (b : Bool) → b ≡ true → not b ≡ true → ⊥
      no true e h = false≢true h
      no false e h = false≢true e

      by : (r : Reached) → follow_from raw w cells step s.value s ≡ r →
          on_reached r (along raw w cells steps) CutOff Nowhere ≡ CutOff →
          ((m : Located) (q : Presence) → IsOf items m.dynamic next → Fits items m.dynamic q m.value →
          containers_present steps q ≡ true → along raw w cells steps m ≡ CutOff → ⊥) → ⊥
      by (Reaches m) er e again =
          let a = arrived raw w cells (step ∷ []) s m id next p
          (to_next step [] id next next ty is step_is plain (no_steps next)) o k (one-alone step s m er) in
          again m (presence_at step p) a.of (fits_at_end items p a.way k)
          (second_so (not (itself_gone p)) (containers_present steps (presence_at step p)) c) e
      by CutOff er e again =
          no (itself_gone p) (subst (Fits items s.dynamic p) (cut-gone raw w cells step s.value s er) k)
          (first_so (not (itself_gone p)) (containers_present steps (presence_at step p)) c)
      by Nowhere er e again = cc

-- what a place reaches goes by the steps from the value of its local
module _ (setting : Setting) (number depth : ℕ) where
  pub reach-along : (w : State) (place : Place) (id : TyId) → length w.activations ≡ suc depth →
      body_at depth w ≡ Some number → setting.local_ty number place.local ≡ Some id →
      (cells : Cells) × (reach setting w place
      ≡ along setting w cells place.steps (root setting number depth place.local id w))
  reach-along w place id deep is typed = by w.activations refl
    where
      same : (d : ℕ) → (d == d) ≡ true
      same d = elim (eqb_tells d d) [ inl y ↦ y.0 | inr y ↦ absurd (y.1 refl) ]

      by : (acts : List Activation) → w.activations ≡ acts → (cells : Cells) × (in_youngest setting w place acts
          ≡ along setting w cells place.steps (root setting number depth place.local id w))
      by [] h = absurd (let x : 0 ≡ suc depth = sym (ap length h) ∙ deep in cc)
      by (a ∷ older) h = (
        a.cells,
        ap (λ o. on_reached (reach_of o) (along setting w a.cells place.steps) CutOff Nowhere) there
            ∙ ap (λ (x : Located). along setting w a.cells place.steps x) located,
      )
        where
          long : length older ≡ depth
          long = let x : suc (length older) ≡ suc depth = sym (ap length h) ∙ deep in omega (arith, x)

          at : at_depth depth w.activations ≡ Some a
          at = ap (at_depth depth) h ∙ ap (λ b. if b then Some a else at_depth depth older)
              (ap (λ m. depth == m) long ∙ same depth)

          number_is : a.body ≡ number
          number_is = let x : Some a.body ≡ Some number = sym (ap body_of at) ∙ is in cc

          found : Located
          found = record {
            address = root_address (length older) place.local;
            dynamic = OfType id;
            value = cell place.local a.cells;
          }

          there : located_root (length older) place.local a.cells (setting.local_ty a.body place.local) ≡ Some found
          there = ap (λ b. located_root (length older) place.local a.cells (setting.local_ty b place.local)) number_is
              ∙ ap (located_root (length older) place.local a.cells) typed

          located : found ≡ root setting number depth place.local id w
          located = ap (λ n. record {
            address = root_address n place.local;
            dynamic = OfType id;
            value = cell place.local a.cells;
          }) long
              ∙ ap (λ v. record { address = root_address depth place.local; dynamic = OfType id; value = v })
              (sym (ap (held_by place.local) at))
