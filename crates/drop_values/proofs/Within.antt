-- What lies within a value with a `Drop` body is full, and what holds nothing numbered that is present is quiet.
use Rattle.std.proofs.Common.{◌≡◌, ◌⊎◌, inl, inr, ℕ, zero, suc, Bool, true, false, List, [], ◌∷◌, ◌++◌, Option, Some, None, is_some, slice_get, refl, ap, sym, ◌∙◌, subst}
use Rattle.std.specs.Option.{option_map_or, option_to_list}
use Rattle.std.proofs.lemmas.Bool.{false≢true}
use Rattle.std.proofs.lemmas.Bool.Decides.{Decides-eqb}
use Rattle.std.proofs.lemmas.Option.{none-some}
use Rattle.mir_ty.specs.declared.ty.Ty.{Ty}
use Rattle.mir_ty.specs.declared.ty.TyId.{TyId}
use Rattle.mir_ty.specs.Facts.{has_drop_impl, needs_drop}
use Rattle.mir_ty.specs.ItemTable.{ItemTable, type_at}
use Rattle.mir_ty.specs.Parts.{parts_of}
use Rattle.store_model.specs.declared.address.At.{At}
use Rattle.store_model.specs.declared.address.At.TheVariants.{Part}
use Rattle.store_model.specs.Abstract.Presence.{Presence, is_present, itself_gone, presence_at, presence_along}
use Rattle.store_model.specs.Concrete.Drops.{drop_impl}
use Rattle.store_model.specs.Concrete.Location.{DynamicType, OfType, OfObject, concrete_ty, type_of_field, type_of_part}
use Rattle.store_model.specs.Places.Place.{Step, ToContent, is_enum, unless_enum, part_if, step_ty}
use Rattle.store_model.specs.Places.TypeForms.{box_content, is_dyn}
use Rattle.store_model.specs.Values.Access.{part_at}
use Rattle.store_model.specs.Values.Datum.{Datum, Data, Gone, Number, Truth, UnitValue, Aggregate, Box, Address, no_part, a_part}
use Rattle.store_model.specs.Values.Wholeness.{serials, serials_of_all}
use Rattle.drop_values.specs.Plan.{IfFound, Quiet, QuietParts}
use Rattle.drop_values.specs.Typed.{variant_if, has_variant, step_if, part_step, Fits, PartsFit, Proper, a_type, an_object, IsFull}
use Rattle.drop_values.proofs.Behind.{stops, by_part, by_content}
use Rattle.drop_values.proofs.Counting.{after, after-zero}
use Rattle.drop_values.proofs.FoundAs.{IsOf, itself, object, dyn_needs, no_impl, impl_or_none, unneeded, quiet}
use Rattle.drop_values.proofs.Sound.{BodyFull, Sound, SoundParts}
use Rattle.drop_values.proofs.Knows.{IsPlainStep, PlainSteps, no_steps, to_next}
use Rattle.drop_values.proofs.KnowsLaws.{Bodiless}
use Rattle.drop_values.proofs.TypedAs.{fits-concrete, As, itself_as, object_as, concrete_as, leads-proper}
use Rattle.drop_values.proofs.Ways.{Way, ends, to_part, to_field, to_content, fits_at_end}

module _ (items : ItemTable) where
  -- at the end of a way in a full value stands a full one
  present-along : (steps : List Step) → presence_along steps is_present ≡ is_present
  present-along [] = refl
  present-along (step ∷ steps) = present-along steps

  way-leads-proper : {steps : List Step} {path : List At} {found f' : DynamicType} {d d' : Datum} →
      Way items steps path found d f' d' → Fits items found is_present d → Proper items found → Proper items f'
  way-leads-proper (ends found d) k p = p
  way-leads-proper (to_part steps path found variant serial parts n inner f f' d' not_enum is_part is_found way) k p =
      way-leads-proper way
      (fits_at_end items is_present (to_part [] [] found variant serial parts n inner f f inner not_enum is_part
      is_found
      (ends f inner)) k)
      (leads-proper items (by_part [] found is_present variant serial parts n inner f f
      (presence_at (part_step items found variant n) is_present) inner is_part is_found
      (stops f (presence_at (part_step items found variant n) is_present) inner)) k p)
  way-leads-proper (to_field steps path found variant serial parts n inner f f' d' enum is_part is_found way) k p =
      way-leads-proper way
      (fits_at_end items is_present (to_field [] [] found variant serial parts n inner f f inner enum is_part is_found
      (ends f inner)) k)
      (leads-proper items (by_part [] found is_present variant serial parts n inner f f
      (presence_at (part_step items found variant n) is_present) inner is_part is_found
      (stops f (presence_at (part_step items found variant n) is_present) inner)) k p)
  way-leads-proper (to_content steps path found serial impl_no inside f f' d' is_found way) k p =
      way-leads-proper way
      (fits_at_end items is_present (to_content [] [] found serial impl_no inside f f inside is_found (ends f inside))
      k)
      (leads-proper items (by_content [] found is_present serial impl_no inside f f (presence_at ToContent is_present)
      inside is_found (stops f (presence_at ToContent is_present) inside)) k p)

  pub way-full : {steps : List Step} {path : List At} {found f' : DynamicType} {d d' : Datum} →
      Way items steps path found d f' d' → IsFull items found d → IsFull items f' d'
  way-full {steps} {path} {found} {f'} {d} {d'} way h = (
    way-leads-proper way h.1 h.0,
    subst (λ p. Fits items f' p d') (present-along steps) (fits_at_end items is_present way h.1),
  )

  -- a container on the way has a `Drop` body
  abbrev pub HasBody : {steps : List Step} {path : List At} {found f' : DynamicType} {d d' : Datum} →
      Way items steps path found d f' d' → Type 0
  HasBody (ends found d) = ⊥
  HasBody (to_part steps path found variant serial parts n inner f f' d' not_enum is_part is_found way) =
      (is_some (drop_impl items (concrete_ty items found)) ≡ true) ⊎ HasBody way
  HasBody (to_field steps path found variant serial parts n inner f f' d' enum is_part is_found way) =
      (is_some (drop_impl items (concrete_ty items found)) ≡ true) ⊎ HasBody way
  HasBody (to_content steps path found serial impl_no inside f f' d' is_found way) = HasBody way

  body-there : (o : Option (ℕ × ℕ)) (found : DynamicType) (d : Datum) → is_some o ≡ true →
      BodyFull items o found d → IsFull items found d
  body-there None found d h b = absurd (false≢true h)
  body-there (Some of) found d h b = b

  sound-part : (parts : Data) (found_at : ℕ → Option DynamicType) (k n : ℕ) (inner : Datum) (f : DynamicType) →
      SoundParts items parts found_at k → part_at n parts ≡ Some inner → found_at (after k n) ≡ Some f →
      Sound items inner f
  sound-part no_part found_at k n inner f s e is = absurd (none-some inner e)
  sound-part (a_part first rest) found_at k zero inner f s e is =
      subst (λ d. Sound items d f) (let x : first ≡ inner = cc in x)
      (subst (λ o. IfFound o (Sound items first)) is s.0)
  sound-part (a_part first rest) found_at k (suc n) inner f s e is = sound-part rest found_at (suc k) n inner f s.1 e is

  field-sound : (found f : DynamicType) (variant : ℕ) (serial : Option ℕ) (parts : Data) (n : ℕ) (inner : Datum) →
      part_at n parts ≡ Some inner → type_of_part items (Part n) (Aggregate variant serial no_part) found ≡ Some f →
      Sound items (Aggregate variant serial parts) found → Sound items inner f
  field-sound found f variant serial parts n inner e is s =
      sound-part parts (λ m. type_of_field items variant m (concrete_ty items found)) 0 n inner f s.1 e
      (ap (λ m. type_of_field items variant m (concrete_ty items found)) (after-zero n) ∙ is)

  -- what lies within a value with a `Drop` body is full
  pub within-full : {steps : List Step} {path : List At} {found f' : DynamicType} {d d' : Datum}
      (way : Way items steps path found d f' d') → Sound items d found → HasBody way → IsFull items f' d'
  within-full (ends found d) s h = absurd h
  within-full (to_part steps path found variant serial parts n inner f f' d' not_enum is_part is_found way) s (inl
      some) =
      way-full (to_part steps path found variant serial parts n inner f f' d' not_enum is_part is_found way)
      (body-there (drop_impl items (concrete_ty items found)) found (Aggregate variant serial parts) some s.0)
  within-full (to_part steps path found variant serial parts n inner f f' d' not_enum is_part is_found way) s (inr h) =
      within-full way (field-sound found f variant serial parts n inner is_part is_found s) h
  within-full (to_field steps path found variant serial parts n inner f f' d' enum is_part is_found way) s (inl some) =
      way-full (to_field steps path found variant serial parts n inner f f' d' enum is_part is_found way)
      (body-there (drop_impl items (concrete_ty items found)) found (Aggregate variant serial parts) some s.0)
  within-full (to_field steps path found variant serial parts n inner f f' d' enum is_part is_found way) s (inr h) =
      within-full way (field-sound found f variant serial parts n inner is_part is_found s) h
  within-full (to_content steps path found serial impl_no inside f f' d' is_found way) s h =
      within-full way (subst (λ o. IfFound o (Sound items inside)) is_found s) h

  -- what lies within a sound value is sound
  pub sound-end : {steps : List Step} {path : List At} {found f' : DynamicType} {d d' : Datum} →
      Way items steps path found d f' d' → Sound items d found → Sound items d' f'
  sound-end (ends found d) s = s
  sound-end (to_part steps path found variant serial parts n inner f f' d' not_enum is_part is_found way) s =
      sound-end way (field-sound found f variant serial parts n inner is_part is_found s)
  sound-end (to_field steps path found variant serial parts n inner f f' d' enum is_part is_found way) s =
      sound-end way (field-sound found f variant serial parts n inner is_part is_found s)
  sound-end (to_content steps path found serial impl_no inside f f' d' is_found way) s =
      sound-end way (subst (λ o. IfFound o (Sound items inside)) is_found s)

  -- or no container on the way has one
  none-or : (o : Option (ℕ × ℕ)) → (o ≡ None) ⊎ (is_some o ≡ true)
  none-or None = inl refl
  none-or (Some of) = inr refl

  pub bodiless-or : {steps : List Step} {path : List At} {found f' : DynamicType} {d d' : Datum}
      (way : Way items steps path found d f' d') → Bodiless items way ⊎ HasBody way
  bodiless-or (ends found d) = inl tt
  bodiless-or (to_part steps path found variant serial parts n inner f f' d' not_enum is_part is_found way) =
      elim (none-or (drop_impl items (concrete_ty items found))) [
        | inr some ↦ inr (inl some)
        | inl none ↦ elim (bodiless-or way) [ inl b ↦ inl (none, b) | inr h ↦ inr (inr h) ]
      ]
  bodiless-or (to_field steps path found variant serial parts n inner f f' d' enum is_part is_found way) =
      elim (none-or (drop_impl items (concrete_ty items found))) [
        | inr some ↦ inr (inl some)
        | inl none ↦ elim (bodiless-or way) [ inl b ↦ inl (none, b) | inr h ↦ inr (inr h) ]
      ]
  bodiless-or (to_content steps path found serial impl_no inside f f' d' is_found way) = bodiless-or way

  pub never-both : {steps : List Step} {path : List At} {found f' : DynamicType} {d d' : Datum}
      (way : Way items steps path found d f' d') → Bodiless items way → HasBody way → ⊥
  never-both (ends found d) b h = h
  never-both (to_part steps path found variant serial parts n inner f f' d' not_enum is_part is_found way) b (inl
      some) =
      false≢true (sym (ap is_some b.0) ∙ some)
  never-both (to_part steps path found variant serial parts n inner f f' d' not_enum is_part is_found way) b (inr h) =
      never-both way b.1 h
  never-both (to_field steps path found variant serial parts n inner f f' d' enum is_part is_found way) b (inl some) =
      false≢true (sym (ap is_some b.0) ∙ some)
  never-both (to_field steps path found variant serial parts n inner f f' d' enum is_part is_found way) b (inr h) =
      never-both way b.1 h
  never-both (to_content steps path found serial impl_no inside f f' d' is_found way) b h = never-both way b h

  -- ---- nothing that has a number is present

  -- what is no enum has the variant 0 alone
  variant-zero : (ty : Ty) (variant : ℕ) → is_enum items ty ≡ false → has_variant items (Some ty) variant ≡ true →
      variant ≡ 0
  variant-zero (Ty.Adt n) variant e h =
      (Decides-eqb variant 0).0 (subst (λ b. variant_if items b (slice_get items.adts n) variant ≡ true) e h)
  variant-zero (Ty.Tuple ts) variant e h = (Decides-eqb variant 0).0 h
  variant-zero (Ty.Array t c) variant e h = (Decides-eqb variant 0).0 h
  variant-zero (Ty.Closure n) variant e h = (Decides-eqb variant 0).0 h
  variant-zero other variant e h = absurd (false≢true h)

  -- the step to a part, and its type
  record FieldStep (ty : Ty) (variant n : ℕ) (f : DynamicType) : Type 0 where
    pub next : TyId
    pub found_is : f ≡ OfType next
    pub step_is : step_ty items (step_if items (is_enum items ty) variant n) ty ≡ Some next

  field-step : (ty : Ty) (variant n : ℕ) (f : DynamicType) → has_variant items (Some ty) variant ≡ true →
      type_of_field items variant n (Some ty) ≡ Some f → FieldStep ty variant n f
  field-step ty variant n f h e = by (slice_get (parts_of items ty variant) n) refl e
    where
      stepped-so : (next : TyId) → slice_get (parts_of items ty variant) n ≡ Some next → (b : Bool) →
          is_enum items ty ≡ b → step_ty items (step_if items b variant n) ty ≡ Some next
      stepped-so next p true eb = ap (λ b. part_if b (slice_get (parts_of items ty variant) n)) eb ∙ p
      stepped-so next p false eb =
          ap (λ b. unless_enum b (slice_get (parts_of items ty 0) n)) eb
          ∙ ap (λ v. slice_get (parts_of items ty v) n) (sym (variant-zero ty variant eb h)) ∙ p

      by : (o : Option TyId) → slice_get (parts_of items ty variant) n ≡ o →
          option_map_or (λ id. Some (OfType id)) o None ≡ Some f → FieldStep ty variant n f
      by None p e = absurd (none-some f e)
      by (Some next) p e = record {
        next = next;
        found_is = (let x : Some (OfType next) ≡ Some f = e in let y : OfType next ≡ f = cc in sym y);
        step_is = stepped-so next p (is_enum items ty) refl;
      }

  plain-part : (b : Bool) (variant n : ℕ) (ty : Ty) → IsPlainStep (step_if items b variant n) ty
  plain-part true variant n ty = tt
  plain-part false variant n ty = tt

  boxed-type : (o : Option Ty) (content : TyId) → box_content o ≡ Some content → o ≡ Some (Ty.Boxed content)
  boxed-type None content h = absurd (none-some content h)
  boxed-type (Some (Ty.Boxed t)) content h =
      ap (λ t. Some (Ty.Boxed t)) (let x : Some t ≡ Some content = h in let y : t ≡ content = cc in y)
  boxed-type (Some other) content h = absurd (none-some content h)

  module _ (numbered : TyId → Bool)
      (a_box : (id content : TyId) → type_at items id ≡ Some (Ty.Boxed content) → numbered id ≡ true)
      (an_object : (id : TyId) → is_dyn (type_at items id) ≡ true → numbered id ≡ true)
      (with_impl : (id : TyId) → has_drop_impl items id ≡ true → numbered id ≡ true) where
    -- what has a number in it is gone
    abbrev pub AllGone : TyId → Presence → Type 0
    AllGone id p = (steps : List Step) (i : TyId) → PlainSteps items steps id i → numbered i ≡ true →
        itself_gone (presence_along steps p) ≡ true

    here-gone : (id : TyId) (p : Presence) → AllGone id p → numbered id ≡ true → itself_gone p ≡ false → ⊥
    here-gone id p gone n there = false≢true (sym there ∙ gone [] id (no_steps id) n)

    -- a value found as its type
    aggregate-type : (o : Option Ty) (variant : ℕ) → has_variant items o variant ≡ true → (ty : Ty) × (o ≡ Some ty)
    aggregate-type None variant h = absurd (false≢true h)
    aggregate-type (Some ty) variant h = (ty, refl)

    unimplemented : (id : TyId) (p : Presence) → AllGone id p → itself_gone p ≡ false →
        drop_impl items (type_at items id) ≡ None
    unimplemented id p gone there = by (has_drop_impl items id) refl
      where
        by : (b : Bool) → has_drop_impl items id ≡ b → drop_impl items (type_at items id) ≡ None
        by true h = absurd (here-gone id p gone (with_impl id h) there)
        by false h = no_impl items (type_at items id) h

    mutual
      pub nothing-numbered : (d : Datum) (found : DynamicType) (id : TyId) (p : Presence) → IsOf items found id →
          Fits items found p d → AllGone id p → (serials d ≡ []) × Quiet items d found
      nothing-numbered Gone found id p o k gone = (refl, tt)
      nothing-numbered (Number x) found id p o k gone = (refl, tt)
      nothing-numbered (Truth x) found id p o k gone = (refl, tt)
      nothing-numbered UnitValue found id p o k gone = (refl, tt)
      nothing-numbered (Address a) found id p o k gone = (refl, tt)
      nothing-numbered (Box serial impl_no inside) _ id p (itself _) k gone =
          absurd (here-gone id p gone (a_box id k.1.0 (boxed-type (type_at items id) k.1.0 k.1.1)) k.0)
      nothing-numbered (Box serial impl_no inside) _ id p (object _ impl n dyn has) k gone =
          absurd (here-gone id p gone (an_object id (ap is_dyn dyn)) k.0)
      nothing-numbered (Aggregate variant serial parts) _ id p (object _ impl n dyn has) k gone =
          absurd (here-gone id p gone (an_object id (ap is_dyn dyn)) k.0)
      nothing-numbered (Aggregate variant serial parts) _ id p (itself _) k gone =
          let none = unimplemented id p gone k.0 in
          let t = aggregate-type (type_at items id) variant k.2 in
          let rest = all-unnumbered parts (λ n. type_of_field items variant n (type_at items id))
          (λ n. type_of_field items variant n (type_at items id)) 0
          (λ n. presence_at (part_step items (OfType id) variant n) p)
          (λ m. ap (λ n. type_of_field items variant n (type_at items id)) (sym (after-zero m)))
          (λ n f e. each t.0 t.1 n f e) k.3 in (
            ap (λ s. option_to_list s ++ serials_of_all parts) (impl_or_none items serial (k.1 ∙ ap is_some none))
                ∙ rest.0,
            (none, rest.1),
          )
        where
          each : (ty : Ty) → type_at items id ≡ Some ty → (n : ℕ) (f : DynamicType) →
              type_of_field items variant n (type_at items id) ≡ Some f → (i : TyId) × IsOf items f i
              × AllGone i (presence_at (part_step items (OfType id) variant n) p)
          each ty is n f e =
              let s = field-step ty variant n f (ap (λ o. has_variant items o variant) (sym is) ∙ k.2)
              (ap (type_of_field items variant n) (sym is) ∙ e) in
              let step_is : part_step items (OfType id) variant n ≡ step_if items (is_enum items ty) variant n =
              ap (λ o. step_if items (option_map_or (is_enum items) o false) variant n) is in (
                s.next,
                subst (λ f. IsOf items f s.next) (sym s.found_is) (itself s.next),
                λ steps i plain num. subst (λ x. itself_gone (presence_along steps (presence_at x p)) ≡ true)
                    (sym step_is)
                    (gone (step_if items (is_enum items ty) variant n ∷ steps) i
                    (to_next (step_if items (is_enum items ty) variant n) steps id s.next i ty is s.step_is
                    (plain-part (is_enum items ty) variant n ty) plain) num),
              )

      all-unnumbered : (parts : Data) (found_at from : ℕ → Option DynamicType) (n : ℕ) (presence_of : ℕ → Presence) →
          ((m : ℕ) → from m ≡ found_at (after n m)) →
          ((m : ℕ) (f : DynamicType) → from m ≡ Some f → (i : TyId) × IsOf items f i × AllGone i (presence_of m)) →
          PartsFit items from presence_of parts → (serials_of_all parts ≡ []) × QuietParts items parts found_at n
      all-unnumbered no_part found_at from n presence_of e each k = (refl, tt)
      all-unnumbered (a_part first rest) found_at from n presence_of e each k =
          let here : found_at n ≡ Some k.0.0 = sym (e 0) ∙ k.0.1 in
          let x = each 0 k.0.0 k.0.1 in
          let one = nothing-numbered first k.0.0 x.0 (presence_of 0) x.1 k.0.2 x.2 in
          let others = all-unnumbered rest found_at (λ m. from (suc m)) (suc n) (λ m. presence_of (suc m))
          (λ m. e (suc m)) (λ m. each (suc m)) k.1 in (
            (λ i. one.0 i ++ others.0 i),
            (subst (λ o. IfFound o (Quiet items first)) (sym here) one.1, others.1),
          )

  -- ---- what needs no dropping, by the type of its place

  -- what is quiet goes by the concrete type alone
  quiet-concrete : (f g : DynamicType) (d : Datum) → concrete_ty items f ≡ concrete_ty items g → Quiet items d f →
      Quiet items d g
  quiet-concrete f g Gone e k = tt
  quiet-concrete f g (Number x) e k = tt
  quiet-concrete f g (Truth x) e k = tt
  quiet-concrete f g UnitValue e k = tt
  quiet-concrete f g (Address x) e k = tt
  quiet-concrete f g (Aggregate variant serial parts) e k = (
    sym (ap (drop_impl items) e) ∙ k.0,
    subst (λ o. QuietParts items parts (λ n. type_of_field items variant n o) 0) e k.1,
  )
  quiet-concrete f g (Box serial impl_no inside) e k = k

  pub quiet-as : (d : Datum) (found : DynamicType) (id : TyId) (p : Presence) → As items found id →
      needs_drop items id ≡ false → Fits items found p d → (serials d ≡ []) × Quiet items d found
  quiet-as d _ _ p (itself_as id) e k = quiet items d (OfType id) p (unneeded id e) k
  quiet-as d _ _ p (object_as id impl_no n dyn) e k = absurd (false≢true (sym e ∙ dyn_needs items id n dyn))
  quiet-as d _ _ p (concrete_as ty id impl_no n of typed) e k =
      let q = quiet items d (OfType id) p (unneeded id e) (fits-concrete items (OfObject ty impl_no) (OfType id) p d
      (of ∙ sym typed) k) in
      (q.0, quiet-concrete (OfType id) (OfObject ty impl_no) d (typed ∙ sym of) q.1)

  -- and what has a number in it
  module _ (numbered : TyId → Bool)
      (a_box : (id content : TyId) → type_at items id ≡ Some (Ty.Boxed content) → numbered id ≡ true)
      (a_dyn : (id : TyId) → is_dyn (type_at items id) ≡ true → numbered id ≡ true)
      (with_impl : (id : TyId) → has_drop_impl items id ≡ true → numbered id ≡ true) where
    pub none-numbered : (d : Datum) (found : DynamicType) (id : TyId) (p : Presence) → As items found id →
        Proper items found → Fits items found p d → AllGone numbered a_box a_dyn with_impl id p →
        (serials d ≡ []) × Quiet items d found
    none-numbered d _ _ p (itself_as id) proper k gone =
        nothing-numbered numbered a_box a_dyn with_impl d (OfType id) id p (itself id) k gone
    none-numbered d _ _ p (object_as id impl_no n dyn) proper k gone = object-of (OfObject id impl_no) refl proper
      where
        object-of : (found : DynamicType) → found ≡ OfObject id impl_no → Proper items found →
            (serials d ≡ []) × Quiet items d (OfObject id impl_no)
        object-of _ same (a_type other) = absurd (let x : OfType other ≡ OfObject id impl_no = same in cc)
        object-of _ same (an_object other impl m dyn' has) =
            let id_is : other ≡ id = (let x : OfObject other impl ≡ OfObject id impl_no = same in cc) in
            let impl_is : impl ≡ impl_no = (let x : OfObject other impl ≡ OfObject id impl_no = same in cc) in
            nothing-numbered numbered a_box a_dyn with_impl d (OfObject id impl_no) id p
            (subst (λ i. IsOf items (OfObject id i) id) impl_is
            (subst (λ i. IsOf items (OfObject i impl) i) id_is (object other impl m dyn' has))) k gone
    none-numbered d _ _ p (concrete_as ty id impl_no n of typed) proper k gone =
        let q = nothing-numbered numbered a_box a_dyn with_impl d (OfType id) id p (itself id)
        (fits-concrete items (OfObject ty impl_no) (OfType id) p d (of ∙ sym typed) k) gone in
        (q.0, quiet-concrete (OfType id) (OfObject ty impl_no) d (typed ∙ sym of) q.1)
