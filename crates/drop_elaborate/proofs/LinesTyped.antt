-- The places and operands of a line without a fault, in a body that is ready: how each place is reached, and the type
-- of the value of each operand.
use Rattle.std.proofs.Common.{◌≡◌, ◌⊎◌, inl, inr, ℕ, ◌||◌, not, Bool, true, false, List, [], ◌∷◌, ◌++◌, map, Option, Some, None, is_some, slice_get, refl, ap, sym, ◌∙◌}
use Rattle.std.specs.Prelude.{option_and_then}
use Rattle.std.specs.List.{list_any, list_all}
use Rattle.std.specs.Option.{option_map_or}
use Rattle.std.specs.Cmp.{first_so, second_so}
use Rattle.std.proofs.lemmas.Bool.{false≢true}
use Rattle.std.proofs.lemmas.Option.{none-some}
use Rattle.mir_base.specs.declared.int_kind.IntKind.{IntKind}
use Rattle.mir_ty.specs.declared.ty.Ty.{Ty}
use Rattle.mir_ty.specs.declared.ty.TyId.{TyId}
use Rattle.mir_ty.specs.ItemTable.{ItemTable, type_at}
use Rattle.cfg_graph.specs.declared.graph.Body.{Body}
use Rattle.cfg_graph.specs.declared.place.Place as graph
use Rattle.cfg_graph.specs.declared.place.Step as graph_step
use Rattle.cfg_graph.specs.Moves.Gone.{has_index}
use Rattle.cfg_graph.specs.NamedPlaces.{references_made, named_by, further, behind as behind_made}
use Rattle.cfg_graph.specs.Places.{named_step, named, index_locals}
use Rattle.cfg_graph.specs.Ready.{container_tys, may_be_left_gone, references_stand_alone}
use Rattle.store_model.specs.Concrete.Drops.{drop_impl}
use Rattle.store_model.specs.Concrete.Location.{named_by as type_named_by}
use Rattle.store_model.specs.Places.Place.{Step, ToPart, ToField, ToContent, ToElement, Place, is_reference, step_ty, content_of}
use Rattle.store_model.specs.Places.TypeForms.{is_int}
use Rattle.drop_values.proofs.Knows.{PlainSteps, no_steps, to_next}
use Rattle.drop_values.proofs.LeftGone.{BodilessSteps, at_end, beyond}
use Rattle.drop_values.proofs.Reach.{IndexOk}
use Rattle.drop_values.proofs.Sites.{PlaceIs, a_part, an_element, behind}
use Rattle.drop_elaborate.proofs.Apart.{LeadsItself}
use Rattle.drop_elaborate.proofs.StandAlone.{step-free}
use Rattle.drop_elaborate.proofs.Stores.{named-reference, plain-no-reference}
use Rattle.drop_values.proofs.TypedSteps.{SolidSteps, no_more, one_more}

some-of : {A : Type 0} (o : Option A) → is_some o ≡ true → (x : A) × (o ≡ Some x)
some-of None e = absurd (false≢true e)
some-of (Some x) e = (x, refl)

-- the locals by which elements are taken have types
module _ (items : ItemTable) (locals : List TyId) where
  int-local : (kind : IntKind) (o : Option TyId) → is_int kind (option_and_then (type_at items) o) ≡ true →
      (id : TyId) × (o ≡ Some id)
  int-local kind None e = absurd (false≢true e)
  int-local kind (Some id) e = (id, refl)

  pub index-ok : (steps : List graph_step.Step) →
      list_all (λ local. is_int IntKind.Usize (option_and_then (type_at items) (slice_get locals local)))
      (index_locals steps) ≡ true → IndexOk (slice_get locals) (map named_step steps)
  index-ok [] h = tt
  index-ok (graph_step.Step.Part n ∷ steps) h = index-ok steps h
  index-ok (graph_step.Step.Field v n ∷ steps) h = index-ok steps h
  index-ok (graph_step.Step.Inside ∷ steps) h = index-ok steps h
  index-ok (graph_step.Step.Index local ∷ steps) h = (
    int-local IntKind.Usize (slice_get locals local) (first_so
        (is_int IntKind.Usize (option_and_then (type_at items) (slice_get locals local)))
        (list_all (λ local. is_int IntKind.Usize (option_and_then (type_at items) (slice_get locals local)))
        (index_locals steps)) h),
    index-ok steps (second_so
        (is_int IntKind.Usize (option_and_then (type_at items) (slice_get locals local)))
        (list_all (λ local. is_int IntKind.Usize (option_and_then (type_at items) (slice_get locals local)))
        (index_locals steps)) h),
  )

named-content : (ty : Ty) (to : TyId) → type_named_by (Some ty) ≡ Some to → content_of ty ≡ Some to
named-content (Ty.Shared t) to e = e
named-content (Ty.Unique t) to e = e
named-content other to e = absurd (none-some to e)

-- a local of a reference type has one
typed-reference : (o : Option Ty) (to : TyId) → type_named_by o ≡ Some to → (ty : Ty) × (o ≡ Some ty)
typed-reference None to e = absurd (none-some to e)
typed-reference (Some ty) to e = (ty, refl)

module _ (items : ItemTable) (alone : references_stand_alone items ≡ true) where
  plain-free : {steps : List Step} {id end : TyId} → PlainSteps items steps id end →
      is_reference (type_at items id) ≡ false → is_reference (type_at items end) ≡ false
  plain-free (no_steps id) r = r
  plain-free (to_next step steps id next end ty is step_is plain rest) r =
      plain-free rest (step-free items alone step ty id next is step_is)

  solid-free : {steps : List Step} {id end : TyId} → SolidSteps items steps id end →
      is_reference (type_at items id) ≡ false → is_reference (type_at items end) ≡ false
  solid-free (no_more id) r = r
  solid-free (one_more step steps id next end ty is step_is free rest) r =
      solid-free rest (step-free items alone step ty id next is step_is)

  plain-end : {steps : List Step} {id end : TyId} → PlainSteps items steps id end →
      (steps ≡ []) ⊎ (is_reference (type_at items end) ≡ false)
  plain-end (no_steps id) = inl refl
  plain-end (to_next step steps id next end ty is step_is plain rest) =
      inr (plain-free rest (step-free items alone step ty id next is step_is))

  element-end : {index : ℕ} {rest : List Step} {id end : TyId} → SolidSteps items (ToElement index ∷ rest) id end →
      is_reference (type_at items end) ≡ false
  element-end (one_more step steps id next end ty is step_is free rest) =
      solid-free rest (step-free items alone step ty id next is step_is)

  module _ (local_ty : (body local : ℕ) → Option TyId) (number : ℕ) where
    -- a reference stands in a local alone
    pub is-alone : (place : Place) (id : TyId) → PlaceIs items local_ty number place id →
        is_reference (type_at items id) ≡ true → place.steps ≡ []
    is-alone place id (a_part start typed plain) r = elim (plain-end plain) [
      | inl e ↦ e
      | inr e ↦ absurd (false≢true (sym e ∙ r))
    ]
    is-alone place id (an_element upper rest index start array typed steps_are plain solid) r =
        absurd (false≢true (sym (element-end solid) ∙ r))
    is-alone place id (behind rest start to typed named_it steps_are solid) r =
        let t = typed-reference (type_at items start) to named_it in
        absurd (false≢true (sym (solid-free solid (step-free items alone ToContent t.0 start to t.1
        (named-content t.0 to (sym (ap type_named_by t.1) ∙ named_it)))) ∙ r))

    -- ---- what may be left gone

    none-of-some : {A : Type 0} (o : Option A) → is_some o ≡ false → o ≡ None
    none-of-some None e = refl
    none-of-some (Some x) e = absurd (false≢true (sym e))

    or-not : (a b : Bool) → not (a || b) ≡ true → (a ≡ false) × (not b ≡ true)
    or-not false b h = (refl, h)
    or-not true b h = absurd (false≢true h)

    or-second : (a b : Bool) → (a || b) ≡ false → b ≡ false
    or-second false b h = h
    or-second true b h = absurd (false≢true (sym h))

    abbrev stays : Option Ty → Bool
    stays ty = is_reference ty || is_some (drop_impl items ty)

    -- no container has a `Drop` body
    pub bodiless : (steps : List Step) (id end : TyId) → PlainSteps items steps id end →
        not (list_any stays (container_tys items (Some id) steps)) ≡ true → BodilessSteps items steps id
    bodiless _ _ _ (no_steps id) h = at_end id
    bodiless _ id end (to_next step steps _ next _ ty is step_is plain rest) h =
        let n = or-not (stays (type_at items id)) (list_any stays (container_tys items
        (option_and_then (step_ty items step) (type_at items id)) steps)) h in
        beyond step steps id next ty is step_is
        (none-of-some (drop_impl items (Some ty)) (or-second (is_reference (Some ty))
        (is_some (drop_impl items (Some ty)))
        (ap stays (sym is) ∙ n.0)))
        (bodiless steps next end rest (ap (λ o. not (list_any stays (container_tys items o steps)))
        (sym (ap (option_and_then (step_ty items step)) is ∙ step_is)) ∙ n.1))

    element-has-index : (upper rest steps : List Step) (index : ℕ) → steps ≡ upper ++ ToElement index ∷ rest →
        has_index steps ≡ true
    element-has-index upper rest steps index e = ap has_index e ∙ go upper
      where
        go : (upper : List Step) → has_index (upper ++ ToElement index ∷ rest) ≡ true
        go [] = refl
        go (ToPart n ∷ upper) = go upper
        go (ToField v n ∷ upper) = go upper
        go (ToContent ∷ upper) = go upper
        go (ToElement i ∷ upper) = refl

    module _ (body : Body) (locals_are : (k : ℕ) → local_ty number k ≡ slice_get body.locals k)
        (made_are : (k : ℕ) (place : Place) → named_by k (references_made body) ≡ Some place →
        (id : TyId) × (local_ty number k ≡ Some id) × (is_reference (type_at items id) ≡ true)) where
      -- a place of the body's own that may be left gone
      pub record Leavable (place : graph.Place) (id : TyId) : Type 0 where
        pub start : TyId
        pub typed : local_ty number place.local ≡ Some start
        pub plain : PlainSteps items (named place).steps start id
        pub no_body : BodilessSteps items (named place).steps start
        pub itself : LeadsItself body (named place)

      not-true : (b : Bool) → not b ≡ true → b ≡ false
      not-true false e = refl
      not-true true e = absurd (false≢true e)

      pub own-itself : (place : Place) (start id : TyId) → local_ty number place.local ≡ Some start →
          PlainSteps items place.steps start id → LeadsItself body place
      own-itself place start id typed plain = by place.steps plain
        where
          by : (steps : List Step) → PlainSteps items steps start id →
              behind_made (references_made body) place.local steps ≡ None
          by [] p = refl
          by (ToPart n ∷ steps) p = refl
          by (ToField v n ∷ steps) p = refl
          by (ToElement i ∷ steps) p = refl
          by (ToContent ∷ steps) p = of (named_by place.local (references_made body)) refl p
            where
              of : (o : Option Place) → named_by place.local (references_made body) ≡ o →
                  PlainSteps items (ToContent ∷ steps) start id →
                  behind_made (references_made body) place.local (ToContent ∷ steps) ≡ None
              of None e p = ap (λ o. option_map_or (λ place. Some (further steps place)) o None) e
              of (Some q) e p =
                  let m = made_are place.local q e in
                  let same : m.0 ≡ start = (let x : Some m.0 ≡ Some start = sym m.1 ∙ typed in cc) in
                  absurd (plain-no-reference steps start id p (ap (λ i. is_reference (type_at items i)) (sym same)
                  ∙ m.2))

      pub leavable : (place : graph.Place) (id : TyId) → PlaceIs items local_ty number (named place) id →
          may_be_left_gone items body place ≡ true → Leavable place id
      leavable place id (a_part start typed plain) h =
          let s = second_so (not (has_index (named place).steps)) (not (list_any stays (container_tys items
          (slice_get body.locals place.local) (named place).steps))) h in record {
            start = start;
            typed = typed;
            plain = plain;
            no_body = bodiless (named place).steps start id plain
                (ap (λ o. not (list_any stays (container_tys items o (named place).steps)))
                (sym typed ∙ locals_are place.local) ∙ s);
            itself = own-itself (named place) start id typed plain;
          }
      leavable place id (an_element upper rest index start array typed steps_are plain solid) h =
          absurd (false≢true (sym (not-true (has_index (named place).steps) (first_so
          (not (has_index (named place).steps)) (not (list_any stays (container_tys items
          (slice_get body.locals place.local) (named place).steps))) h))
          ∙ element-has-index upper rest (named place).steps index steps_are))
      leavable place id (behind rest start to typed named_it steps_are solid) h =
          let s = second_so (not (has_index (named place).steps)) (not (list_any stays (container_tys items
          (slice_get body.locals place.local) (named place).steps))) h in
          let first = ap (λ steps. not (list_any stays (container_tys items (slice_get body.locals place.local) steps)))
          (sym steps_are) ∙ s in
          let n = or-not (stays (option_and_then (type_at items) (slice_get body.locals place.local)))
          (list_any stays (container_tys items (option_and_then (step_ty items ToContent)
          (option_and_then (type_at items) (slice_get body.locals place.local))) rest)) first in
          absurd (false≢true (sym (or-first (is_reference (type_at items start)) (is_some (drop_impl items
          (type_at items start))) (ap (λ o. stays (option_and_then (type_at items) o))
          (sym typed ∙ locals_are place.local) ∙ n.0)) ∙ named-reference (type_at items start) to named_it))
        where
          or-first : (a b : Bool) → (a || b) ≡ false → a ≡ false
          or-first false b h = refl
          or-first true b h = absurd (false≢true (sym h))
