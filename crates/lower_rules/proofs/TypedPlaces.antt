-- The places of a body as a graph has them, with their types: whole locals, and step by step inwards.
use Rattle.std.proofs.Common.{◌≡◌, ℕ, ◌&&◌, nat_lt, Bool, true, false, List, [], ◌∷◌, ◌++◌, length, map, Option, Some, None, slice_get, refl, sym, ap, ◌∙◌, subst}
use Rattle.std.proofs.lemmas.Option.{none-some, same_Some}
use Rattle.std.specs.Prelude.{option_and_then}
use Rattle.std.specs.List.{list_all}
use Rattle.cfg_graph.specs.declared.graph.Body.{Body}
use Rattle.cfg_graph.specs.declared.place.Place as graph_place
use Rattle.cfg_graph.specs.declared.place.Step as graph_step
use Rattle.cfg_graph.specs.Places.{index_locals, named_step}
use Rattle.mir_base.specs.declared.int_kind.IntKind.{IntKind}
use Rattle.mir_ty.specs.declared.ty.Ty.{Ty}
use Rattle.mir_ty.specs.declared.ty.TyId.{TyId}
use Rattle.mir_ty.specs.ItemTable.{type_at}
use Rattle.store_model.specs.Places.Place.{Step, ToPart, ToField, ToContent, ToElement, Place, whole_local, step_ty, ty_along, content_of, element_of, before_element}
use Rattle.store_model.specs.Places.TypeForms as forms
use Rattle.src_meaning.specs.Shape.{extended}
use Rattle.lower_rules.specs.Build.{LoweringFrame, step_of}
use Rattle.lower_rules.proofs.TypedLines.{PlaceIs, below}

module _ (f : LoweringFrame) (bodies : ℕ) where
  abbrev pub body : Body
  body = record { params = 0; locals = f.tys; blocks = [] }

  -- the place in the graph
  abbrev pub at_graph : Place → graph_place.Place
  at_graph place = record { local = f.local_of place.local; steps = map (step_of f) place.steps }

  abbrev pub At : Place → TyId → Ty → Type 0
  At place id ty = PlaceIs f.items bodies body (at_graph place) id ty

  abbrev pub KeyIs : ℕ → TyId → Type 0
  KeyIs key id = slice_get f.tys (f.local_of key) ≡ Some id

  pub key_at : (key : ℕ) (id : TyId) (ty : Ty) → KeyIs key id → type_at f.items id ≡ Some ty → At (whole_local key) id ty
  key_at key id ty k e = record {
    is = simp (k);
    known = e;
    there = simp (below f.tys (f.local_of key) id k);
    indices = refl;
  }

  abbrev named : List graph_step.Step → List Step
  named steps = map named_step steps

  along_on : (steps : List graph_step.Step) (step : graph_step.Step) (id i : TyId) (ty : Ty) (j : TyId) → ty_along f.items (named steps) id ≡ Some i → type_at f.items i ≡ Some ty → step_ty f.items (named_step step) ty ≡ Some j →
      ty_along f.items (named (steps ++ step ∷ [])) id ≡ Some j
  along_on [] step id i ty j a e s = subst (λ z. option_and_then (ty_along f.items []) (option_and_then (step_ty f.items (named_step step)) (type_at f.items z)) ≡ Some j) (sym (same_Some id i a)) (simp (e, s))
  along_on (x ∷ steps) step id i ty j a e s = by (λ k b. along_on steps step k i ty j b e s) (option_and_then (step_ty f.items (named_step x)) (type_at f.items id)) a
    where
      by : ((k : TyId) → ty_along f.items (named steps) k ≡ Some i → ty_along f.items (named (steps ++ step ∷ [])) k ≡ Some j) → (o : Option TyId) →
          option_and_then (ty_along f.items (named steps)) o ≡ Some i → option_and_then (ty_along f.items (named (steps ++ step ∷ []))) o ≡ Some j
      by ih None a = absurd (none-some i a)
      by ih (Some k) a = ih k a

  map_on : (steps : List Step) (step : Step) → map (step_of f) (steps ++ step ∷ []) ≡ map (step_of f) steps ++ step_of f step ∷ []
  map_on [] step = refl
  map_on (x ∷ steps) step = ap (λ z. step_of f x ∷ z) (map_on steps step)

  -- tests of the locals of indices
  abbrev OfIndices : (ℕ → Bool) → List graph_step.Step → Type 0
  OfIndices test steps = list_all test (index_locals steps) ≡ true

  both : (a b : Bool) → a ≡ true → b ≡ true → a && b ≡ true
  both true b e d = d
  both false b e d = e

  first : (a b : Bool) → a && b ≡ true → a ≡ true
  first true b e = refl
  first false b e = e

  second : (a b : Bool) → a && b ≡ true → b ≡ true
  second true b e = e
  second false b e = absurd (let never : false ≡ true = e in cc)

  indices_on : (test : ℕ → Bool) (steps : List graph_step.Step) (step : graph_step.Step) → OfIndices test steps → OfIndices test (step ∷ []) → OfIndices test (steps ++ step ∷ [])
  indices_on test [] step h k = k
  indices_on test (graph_step.Step.Part n ∷ steps) step h k = indices_on test steps step h k
  indices_on test (graph_step.Step.Field v n ∷ steps) step h k = indices_on test steps step h k
  indices_on test (graph_step.Step.Inside ∷ steps) step h k = indices_on test steps step h k
  indices_on test (graph_step.Step.Index local ∷ steps) step h k = both (test local) _ (first (test local) _ h) (indices_on test steps step (second (test local) _ h) k)

  extended_at : (place : Place) (step : Step) (id : TyId) (ty : Ty) (j : TyId) (t : Ty) → At place id ty → step_ty f.items (named_step (step_of f step)) ty ≡ Some j → type_at f.items j ≡ Some t →
      OfIndices (λ local. nat_lt local (length f.tys)) (step_of f step ∷ []) → OfIndices (λ local. forms.is_int IntKind.Usize (option_and_then (type_at f.items) (slice_get f.tys local))) (step_of f step ∷ []) →
      At (extended step place) j t
  extended_at place step id ty j t a s e n u =
      subst (λ z. PlaceIs f.items bodies body (record { local = f.local_of place.local; steps = z }) j t) (sym (map_on place.steps step)) (record {
        is = by (slice_get f.tys (f.local_of place.local)) a.is;
        known = e;
        there = both _ _ (first (nat_lt (f.local_of place.local) (length f.tys)) _ a.there) (indices_on _ (map (step_of f) place.steps) (step_of f step) (second (nat_lt (f.local_of place.local) (length f.tys)) _ a.there) n);
        indices = indices_on _ (map (step_of f) place.steps) (step_of f step) a.indices u;
      })
    where
      by : (o : Option TyId) → option_and_then (ty_along f.items (named (map (step_of f) place.steps))) o ≡ Some id →
          option_and_then (ty_along f.items (named (map (step_of f) place.steps ++ step_of f step ∷ []))) o ≡ Some j
      by None a = absurd (none-some id a)
      by (Some k) x = along_on (map (step_of f) place.steps) (step_of f step) k id ty j x a.known s

  pub part_at : (place : Place) (n : ℕ) (id : TyId) (ty : Ty) (j : TyId) (t : Ty) → At place id ty → step_ty f.items (ToPart n) ty ≡ Some j → type_at f.items j ≡ Some t → At (extended (ToPart n) place) j t
  part_at place n id ty j t a s e = extended_at place (ToPart n) id ty j t a s e refl refl

  pub field_at : (place : Place) (v n : ℕ) (id : TyId) (ty : Ty) (j : TyId) (t : Ty) → At place id ty → step_ty f.items (ToField v n) ty ≡ Some j → type_at f.items j ≡ Some t → At (extended (ToField v n) place) j t
  field_at place v n id ty j t a s e = extended_at place (ToField v n) id ty j t a s e refl refl

  pub content_at : (place : Place) (id : TyId) (ty : Ty) (j : TyId) (t : Ty) → At place id ty → content_of ty ≡ Some j → type_at f.items j ≡ Some t → At (extended ToContent place) j t
  content_at place id ty j t a s e = extended_at place ToContent id ty j t a s e refl refl

  pub element_at : (place : Place) (index : ℕ) (id iu : TyId) (ty : Ty) (j : TyId) (t : Ty) → At place id ty → element_of ty ≡ Some j → type_at f.items j ≡ Some t → KeyIs index iu → type_at f.items iu ≡ Some (Ty.Int IntKind.Usize) →
      At (extended (ToElement index) place) j t
  element_at place index id iu ty j t a s e k u = extended_at place (ToElement index) id ty j t a s e (simp (below f.tys (f.local_of index) iu k)) (simp (k, u))

  -- the array of whose elements a place takes one
  abbrev ArrayOf : List Step → TyId → Type 0
  ArrayOf steps id = (i : TyId) × (ty : Ty) × (ty_along f.items (named (map (step_of f) (before_element steps))) id ≡ Some i) × (type_at f.items i ≡ Some ty)

  array_along : (steps : List Step) (id j : TyId) (t : Ty) → ty_along f.items (named (map (step_of f) steps)) id ≡ Some j → type_at f.items j ≡ Some t → ArrayOf steps id
  array_along [] id j t a e = (j, t, a, e)
  array_along (ToPart n ∷ steps) id j t a e = by (λ k b. array_along steps k j t b e) (option_and_then (step_ty f.items (ToPart n)) (type_at f.items id)) refl a
    where
      by : ((k : TyId) → ty_along f.items (named (map (step_of f) steps)) k ≡ Some j → ArrayOf steps k) → (o : Option TyId) → option_and_then (step_ty f.items (ToPart n)) (type_at f.items id) ≡ o → option_and_then (ty_along f.items (named (map (step_of f) steps))) o ≡ Some j → ArrayOf (ToPart n ∷ steps) id
      by ih None d a = absurd (none-some j a)
      by ih (Some k) d a = let h = ih k a in (h.0, h.1, ap (option_and_then (ty_along f.items (named (map (step_of f) (before_element steps))))) d ∙ h.2, h.3)
  array_along (ToField v n ∷ steps) id j t a e = by (λ k b. array_along steps k j t b e) (option_and_then (step_ty f.items (ToField v n)) (type_at f.items id)) refl a
    where
      by : ((k : TyId) → ty_along f.items (named (map (step_of f) steps)) k ≡ Some j → ArrayOf steps k) → (o : Option TyId) → option_and_then (step_ty f.items (ToField v n)) (type_at f.items id) ≡ o → option_and_then (ty_along f.items (named (map (step_of f) steps))) o ≡ Some j → ArrayOf (ToField v n ∷ steps) id
      by ih None d a = absurd (none-some j a)
      by ih (Some k) d a = let h = ih k a in (h.0, h.1, ap (option_and_then (ty_along f.items (named (map (step_of f) (before_element steps))))) d ∙ h.2, h.3)
  array_along (ToContent ∷ steps) id j t a e = by (λ k b. array_along steps k j t b e) (option_and_then (step_ty f.items ToContent) (type_at f.items id)) refl a
    where
      by : ((k : TyId) → ty_along f.items (named (map (step_of f) steps)) k ≡ Some j → ArrayOf steps k) → (o : Option TyId) → option_and_then (step_ty f.items ToContent) (type_at f.items id) ≡ o → option_and_then (ty_along f.items (named (map (step_of f) steps))) o ≡ Some j → ArrayOf (ToContent ∷ steps) id
      by ih None d a = absurd (none-some j a)
      by ih (Some k) d a = let h = ih k a in (h.0, h.1, ap (option_and_then (ty_along f.items (named (map (step_of f) (before_element steps))))) d ∙ h.2, h.3)
  array_along (ToElement index ∷ steps) id j t a e = by (type_at f.items id) refl a
    where
      by : (o : Option Ty) → type_at f.items id ≡ o → option_and_then (ty_along f.items (named (map (step_of f) steps))) (option_and_then (step_ty f.items (ToElement (f.local_of index))) o) ≡ Some j → ArrayOf (ToElement index ∷ steps) id
      by None d a = absurd (none-some j a)
      by (Some ty) d a = (id, ty, refl, d)

  before_none : (test : ℕ → Bool) (steps : List Step) → OfIndices test (map (step_of f) (before_element steps))
  before_none test [] = refl
  before_none test (ToPart n ∷ steps) = before_none test steps
  before_none test (ToField v n ∷ steps) = before_none test steps
  before_none test (ToContent ∷ steps) = before_none test steps
  before_none test (ToElement index ∷ steps) = refl

  pub array_at : (place : Place) (j : TyId) (t : Ty) → At place j t → (i : TyId) × (ty : Ty) × At (record place { steps = before_element place.steps }) i ty
  array_at place j t a = by (slice_get f.tys (f.local_of place.local)) refl a.is
    where
      by : (o : Option TyId) → slice_get f.tys (f.local_of place.local) ≡ o → option_and_then (ty_along f.items (named (map (step_of f) place.steps))) o ≡ Some j →
          (i : TyId) × (ty : Ty) × At (record place { steps = before_element place.steps }) i ty
      by None d x = absurd (none-some j x)
      by (Some k) d x =
          let h = array_along place.steps k j t x a.known in (
            h.0,
            h.1,
            record {
              is = ap (option_and_then (ty_along f.items (named (map (step_of f) (before_element place.steps))))) d ∙ h.2;
              known = h.3;
              there = both _ _ (first (nat_lt (f.local_of place.local) (length f.tys)) _ a.there) (before_none _ place.steps);
              indices = before_none _ place.steps;
            },
          )
