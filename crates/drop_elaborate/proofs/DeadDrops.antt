-- What is known of a drop that is dead, or not: a place whose type needs no dropping is dead; what is numbered at and
-- below a dead place is gone, so nothing behind a reference or in an array taken by index is numbered there.
use Rattle.std.proofs.Common.{◌≡◌, ℕ, ◌||◌, Bool, true, false, List, [], ◌∷◌, ◌++◌, map, Option, Some, None, slice_get, refl, ap, sym, ◌∙◌, subst, append_assoc}
use Rattle.std.specs.Prelude.{option_and_then}
use Rattle.std.specs.List.{list_any}
use Rattle.std.proofs.lemmas.Bool.{false≢true}
use Rattle.std.proofs.lemmas.Option.{none-some}
use Rattle.mir_ty.proofs.LeastRelations.{needs_drop_from, needs_drop-rules}
use Rattle.mir_ty.specs.declared.ty.Ty.{Ty}
use Rattle.mir_ty.specs.declared.ty.TyId.{TyId}
use Rattle.mir_ty.specs.Facts.{NeedsDrop, a_box, a_dyn, an_impl, a_part, needs_drop, has_drop_impl}
use Rattle.mir_ty.specs.ItemTable.{ItemTable, type_at}
use Rattle.mir_ty.specs.Parts.{parts_of, field_ty}
use Rattle.cfg_graph.proofs.AllPresent.{whole_is_all_present}
use Rattle.cfg_graph.specs.declared.graph.Body.{Body}
use Rattle.cfg_graph.specs.Moves.Gone.{PathAction, below, containers, counts, reaches_whole, is_gone_after, container_gone_after}
use Rattle.cfg_graph.specs.Moves.Present.{present_after}
use Rattle.store_model.specs.Abstract.Presence.{presence_along, all_present}
use Rattle.store_model.specs.Concrete.Location.{named_by as type_named_by}
use Rattle.store_model.specs.Places.Place.{Step, ToPart, ToField, ToContent, ToElement, Place, whole_local, watched, watched_content, content_of, unless_enum, part_if, is_enum, is_reference, step_ty, ty_along}
use Rattle.store_model.specs.Places.TypeForms.{is_dyn}
use Rattle.drop_values.proofs.Found.{dyn-is}
use Rattle.drop_values.proofs.Knows.{PlainSteps, no_steps, to_next}
use Rattle.drop_elaborate.proofs.Held.{plain-counts}
use Rattle.drop_elaborate.proofs.PathSpares.{along-append, then-some, unwatched-spared}
use Rattle.drop_elaborate.proofs.Stores.{element-not-watched, named-reference}
use Rattle.drop_elaborate.proofs.Telling.{present-else}
use Rattle.drop_elaborate.specs.Kinds.{is_box, is_numbered, place_id, Comes, IsDead}

box-is : (o : Option Ty) → is_box o ≡ true → (content : TyId) × (o ≡ Some (Ty.Boxed content))
box-is (Some (Ty.Boxed t)) h = (t, refl)
box-is None h = absurd (false≢true h)
box-is (Some other) h = absurd (false≢true h)

-- what names a content is a box or a reference
content-box : (o : Option Ty) (next : TyId) → is_reference o ≡ false → option_and_then content_of o ≡ Some next →
    o ≡ Some (Ty.Boxed next)
content-box (Some (Ty.Boxed t)) next r e =
    ap (λ t. Some (Ty.Boxed t)) (let x : Some t ≡ Some next = e in let y : t ≡ next = cc in y)
content-box None next r e = absurd (none-some next e)
content-box (Some (Ty.Shared t)) next r e = absurd (false≢true (sym r))
content-box (Some (Ty.Unique t)) next r e = absurd (false≢true (sym r))
content-box (Some other) next r e = absurd (none-some next e)

part-there : {A : Type 0} (b : Bool) (o : Option A) (x : A) → unless_enum b o ≡ Some x → o ≡ Some x
part-there true o x e = absurd (none-some x e)
part-there false o x e = e

field-there : {A : Type 0} (b : Bool) (o : Option A) (x : A) → part_if b o ≡ Some x → o ≡ Some x
field-there true o x e = e
field-there false o x e = absurd (none-some x e)

or-true : (a b : Bool) → b ≡ true → (a || b) ≡ true
or-true true b h = refl
or-true false b h = h

first-no : (a b : Bool) → (a || b) ≡ false → a ≡ false
first-no true b e = absurd (false≢true (sym e))
first-no false b e = refl

module _ (items : ItemTable) (body : Body) where
  -- ---- numbered types

  pub box-numbered : (id content : TyId) → type_at items id ≡ Some (Ty.Boxed content) →
      is_numbered items body id ≡ true
  box-numbered id content e = ap (λ o. is_box o || (is_dyn (type_at items id) || has_drop_impl items id)) e

  pub dyn-numbered : (id : TyId) → is_dyn (type_at items id) ≡ true → is_numbered items body id ≡ true
  dyn-numbered id e =
      or-true (is_box (type_at items id)) (is_dyn (type_at items id) || has_drop_impl items id)
      (ap (λ b. b || has_drop_impl items id) e)

  pub impl-numbered : (id : TyId) → has_drop_impl items id ≡ true → is_numbered items body id ≡ true
  impl-numbered id e =
      or-true (is_box (type_at items id)) (is_dyn (type_at items id) || has_drop_impl items id)
      (or-true (is_dyn (type_at items id)) (has_drop_impl items id) e)

  numbered-needs : (id : TyId) → is_numbered items body id ≡ true → needs_drop items id ≡ true
  numbered-needs id h = by (is_box (type_at items id)) refl (is_dyn (type_at items id)) refl h
    where
      by : (b : Bool) → is_box (type_at items id) ≡ b → (d : Bool) → is_dyn (type_at items id) ≡ d →
          (b || (d || has_drop_impl items id)) ≡ true → needs_drop items id ≡ true
      by true eb d ed h = let x = box-is (type_at items id) eb in needs_drop_from items id (a_box x.1)
      by false eb true ed h = let x = dyn-is items (type_at items id) ed in needs_drop_from items id (a_dyn x.1)
      by false eb false ed h = needs_drop_from items id (an_impl h)

  -- ---- a type that needs no dropping

  no-need : (id : TyId) → needs_drop items id ≡ false → NeedsDrop items id → ⊥
  no-need id e k = false≢true (sym e ∙ needs_drop_from items id k)

  part-unneeded : (id next : TyId) (variant n : ℕ) → needs_drop items id ≡ false →
      field_ty items id variant n ≡ Some next → needs_drop items next ≡ false
  part-unneeded id next variant n e is = by (needs_drop items next) refl
    where
      by : (b : Bool) → needs_drop items next ≡ b → needs_drop items next ≡ false
      by false h = h
      by true h = absurd (no-need id e (a_part variant n is ((needs_drop-rules items next).0 h)))

  field-is : (id next : TyId) (ty : Ty) (variant n : ℕ) → type_at items id ≡ Some ty →
      slice_get (parts_of items ty variant) n ≡ Some next → field_ty items id variant n ≡ Some next
  field-is id next ty variant n is e =
      ap (option_and_then (λ (ty : Ty). slice_get (parts_of items ty variant) n)) is ∙ e

  unneeded-along : (steps : List Step) (id i : TyId) → needs_drop items id ≡ false →
      reaches_whole (watched items (Some id) steps) ≡ true → ty_along items steps id ≡ Some i →
      needs_drop items i ≡ false
  unneeded-along [] id i e stays t =
      subst (λ x. needs_drop items x ≡ false) (let x : Some id ≡ Some i = t in let y : id ≡ i = cc in y) e
  unneeded-along (ToPart n ∷ steps) id i e stays t =
      let a = then-some items body (ty_along items steps) (option_and_then (step_ty items (ToPart n)) (type_at items
      id)) i
      t in
      let b = then-some items body (step_ty items (ToPart n)) (type_at items id) a.0 a.1 in
      unneeded-along steps a.0 i
      (part-unneeded id a.0 0 n e (field-is id a.0 b.0 0 n b.1
      (part-there (is_enum items b.0) (slice_get (parts_of items b.0 0) n) a.0 b.2)))
      (sym (ap (λ o. reaches_whole (watched items o steps)) a.1) ∙ stays) a.2
  unneeded-along (ToField variant n ∷ steps) id i e stays t =
      let a = then-some items body (ty_along items steps)
      (option_and_then (step_ty items (ToField variant n)) (type_at items id)) i t in
      let b = then-some items body (step_ty items (ToField variant n)) (type_at items id) a.0 a.1 in
      unneeded-along steps a.0 i
      (part-unneeded id a.0 variant n e (field-is id a.0 b.0 variant n b.1
      (field-there (is_enum items b.0) (slice_get (parts_of items b.0 variant) n) a.0 b.2)))
      (sym (ap (λ o. reaches_whole (watched items o steps)) a.1) ∙ stays) a.2
  unneeded-along (ToContent ∷ steps) id i e stays t = by (is_reference (type_at items id)) refl stays
    where
      rest : Bool → Bool
      rest b = reaches_whole (watched_content b (watched items (option_and_then content_of (type_at items id)) steps))

      by : (b : Bool) → is_reference (type_at items id) ≡ b →
          reaches_whole (watched_content b (watched items (option_and_then content_of (type_at items id)) steps)) ≡
          true →
          needs_drop items i ≡ false
      by true r s = absurd (false≢true s)
      by false r s =
          let a = then-some items body (ty_along items steps) (option_and_then content_of (type_at items id)) i t in
          absurd (no-need id e (a_box (content-box (type_at items id) a.0 r a.1)))
  unneeded-along (ToElement k ∷ steps) id i e stays t = absurd (false≢true stays)

  -- the place at the end of more steps
  pub below-type : (q : Place) (steps : List Step) →
      place_id items body (below q steps) ≡ option_and_then (ty_along items steps) (place_id items body q)
  below-type q steps = by (slice_get body.locals q.local)
    where
      by : (o : Option TyId) → option_and_then (ty_along items (q.steps ++ steps)) o
          ≡ option_and_then (ty_along items steps) (option_and_then (ty_along items q.steps) o)
      by None = refl
      by (Some start) = along-append items body q.steps steps start

  -- so its drop is dead
  pub unneeded-dead : (n : ℕ) (place : Place) (id : TyId) → place_id items body place ≡ Some id →
      needs_drop items id ≡ false → IsDead items body n place
  unneeded-dead n place id typed e actions steps i comes stays t num =
      absurd (false≢true (sym (unneeded-along steps id i e
      (sym (ap (λ o. reaches_whole (watched items o steps)) typed) ∙ stays)
      (sym (below-type place steps ∙ ap (option_and_then (ty_along items steps)) typed) ∙ t)) ∙ numbered-needs i num))

  -- ---- what is gone of a dead place

  plain-type : (steps : List Step) (id i : TyId) → PlainSteps items steps id i → ty_along items steps id ≡ Some i
  plain-type _ id _ (no_steps _) = refl
  plain-type _ id i (to_next step steps _ next _ ty is step_is plain rest) =
      ap (option_and_then (ty_along items steps)) (ap (option_and_then (step_ty items step)) is ∙ step_is)
      ∙ plain-type steps next i rest

  pub gone-below : (n : ℕ) (place : Place) (id : TyId) (acts : List PathAction) → IsDead items body n place →
      Comes items body n acts → place_id items body place ≡ Some id → (steps : List Step) (i : TyId) →
      PlainSteps items steps id i → is_numbered items body i ≡ true →
      is_gone_after items body acts (below place steps) ≡ true
  gone-below n place id acts dead comes typed steps i plain num =
      dead acts steps i comes
      (ap (λ o. reaches_whole (watched items o steps)) typed ∙ plain-counts items steps id i plain)
      (below-type place steps ∙ ap (option_and_then (ty_along items steps)) typed ∙ plain-type steps id i plain) num

  -- ---- places that are not watched

  module _ (place : Place) (start : TyId) (local_is : slice_get body.locals place.local ≡ Some start) where
    pub behind-unwatched : (rest : List Step) (to : TyId) → type_named_by (type_at items start) ≡ Some to →
        (more : List Step) → counts items body (record { local = place.local; steps = ToContent ∷ more }) ≡ false
    behind-unwatched rest to named more =
        ap (λ o. reaches_whole (watched items o (ToContent ∷ more))) local_is
        ∙ ap (λ b. reaches_whole (watched_content b (watched items (option_and_then content_of (type_at items start))
        more)))
        (named-reference (type_at items start) to named)

    pub element-unwatched : (upper rest : List Step) (index : ℕ) (array : TyId) →
        PlainSteps items upper start array →
        counts items body (record { local = place.local; steps = upper ++ ToElement index ∷ rest }) ≡ false
    element-unwatched upper rest index array plain =
        ap (λ o. reaches_whole (watched items o (upper ++ ToElement index ∷ rest))) local_is
        ∙ element-not-watched items upper rest index start array plain

    -- behind a reference that is there nothing is gone
    pub behind-there : (rest : List Step) (to : TyId) (acts : List PathAction) →
        type_named_by (type_at items start) ≡ Some to → place.steps ≡ ToContent ∷ rest →
        container_gone_after items body acts place ≡ false → (steps : List Step) →
        is_gone_after items body acts (below place steps) ≡ false
    behind-there rest to acts named steps_are there steps =
        let q = whole_local place.local in
        let local_there : is_gone_after items body acts q ≡ false =
        first-no (is_gone_after items body acts q)
        (list_any (λ outer. is_gone_after items body acts (record { local = place.local; steps = outer }))
        (map (λ outer. ToContent ∷ outer) (containers rest)))
        (subst (λ l. list_any (λ outer. is_gone_after items body acts (record { local = place.local; steps = outer }))
        (containers l) ≡ false) steps_are there) in
        let all : all_present (presence_along (ToContent ∷ []) (present_after items body acts place.local)) ≡ true =
        present-else items body acts q ToContent
        (unwatched-spared items body (below q (ToContent ∷ [])) (λ more. behind-unwatched rest to named more) acts)
        local_there in
        ap (λ l. is_gone_after items body acts (record { local = place.local; steps = l ++ steps })) steps_are
        ∙ (whole_is_all_present items body acts (below q (ToContent ∷ []))).0 all (rest ++ steps)

    -- and in an array that is there
    pub element-there : (upper rest : List Step) (index : ℕ) (acts : List PathAction) →
        place.steps ≡ upper ++ ToElement index ∷ rest →
        all_present (presence_along upper (present_after items body acts place.local)) ≡ true → (steps : List Step) →
        is_gone_after items body acts (below place steps) ≡ false
    element-there upper rest index acts steps_are all steps =
        ap (λ l. is_gone_after items body acts (record { local = place.local; steps = l }))
        (ap (λ l. l ++ steps) steps_are ∙ append_assoc upper (ToElement index ∷ rest) steps)
        ∙ (whole_is_all_present items body acts (record { local = place.local; steps = upper })).0 all
        (ToElement index ∷ (rest ++ steps))
