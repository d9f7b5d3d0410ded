-- Where references stand alone, no container of a place holds one but its local; so each place of a body is a part of
-- one of its locals, an element of an array there, or lies behind a reference in a local.
use Rattle.std.proofs.Common.{◌≡◌, ◌⊎◌, inl, inr, ℕ, zero, suc, ◌==◌, ◌&&◌, ◌||◌, not, Bool, true, false, List, [], ◌∷◌, ◌++◌, replicate, Option, Some, None, if◌then◌else◌, slice_get, refl, ap, sym, ◌∙◌, subst}
use Rattle.std.specs.Prelude.{option_and_then}
use Rattle.std.specs.List.{list_any, list_all}
use Rattle.std.specs.Cmp.{first_so, second_so}
use Rattle.std.proofs.lemmas.Bool.{false≢true}
use Rattle.std.proofs.lemmas.Option.{none-some}
use Rattle.mir_ty.specs.declared.adt.Adt.{Adt}
use Rattle.mir_ty.specs.declared.adt.Variant.{Variant}
use Rattle.mir_ty.specs.declared.def.ClosureDef.{ClosureDef}
use Rattle.mir_ty.specs.declared.def.Sig.{Sig}
use Rattle.mir_ty.specs.declared.ty.Ty.{Ty}
use Rattle.mir_ty.specs.declared.ty.TyId.{TyId}
use Rattle.mir_ty.specs.AreItems.{types_in}
use Rattle.mir_ty.specs.ItemTable.{ItemTable, type_at}
use Rattle.mir_ty.specs.Parts.{fields_of, variants_of, captures_of, parts_of}
use Rattle.cfg_graph.specs.Ready.{holds_no_reference, references_stand_alone}
use Rattle.store_model.specs.Concrete.Location.{named_by}
use Rattle.store_model.specs.Places.Place.{Step, ToPart, ToField, ToContent, ToElement, Place, is_enum, is_reference, unless_enum, part_if, content_of, element_of, step_ty, ty_along, place_ty}
use Rattle.drop_values.proofs.Knows.{PlainSteps, no_steps, to_next, IsPlainStep}
use Rattle.drop_values.proofs.Sites.{PlaceIs, a_part, an_element, behind}
use Rattle.drop_values.proofs.TypedSteps.{SolidSteps, no_more, one_more}
use Rattle.drop_values.proofs.TypedAs.{element-is}

pub all-at : {A : Type 0} (p : A → Bool) (xs : List A) (k : ℕ) (x : A) → list_all p xs ≡ true →
    slice_get xs k ≡ Some x → p x ≡ true
all-at p [] k x h e = absurd (none-some x e)
all-at p (y ∷ xs) zero x h e = subst (λ z. p z ≡ true) (let z : y ≡ x = cc in z) (first_so (p y) (list_all p xs) h)
all-at p (y ∷ xs) (suc k) x h e = all-at p xs k x (second_so (p y) (list_all p xs) h) e

not-or : (a b : Bool) → not (a || b) ≡ true → (a ≡ false) × (not b ≡ true)
not-or false b h = (refl, h)
not-or true b h = absurd (false≢true h)

pub any-not : {A : Type 0} (p : A → Bool) (xs : List A) (k : ℕ) (x : A) → not (list_any p xs) ≡ true →
    slice_get xs k ≡ Some x → p x ≡ false
any-not p [] k x h e = absurd (none-some x e)
any-not p (y ∷ xs) zero x h e =
    subst (λ z. p z ≡ false) (let z : y ≡ x = cc in z) (not-or (p y) (list_any p xs) h).0
any-not p (y ∷ xs) (suc k) x h e = any-not p xs k x (not-or (p y) (list_any p xs) h).1 e

module _ (items : ItemTable) (alone : references_stand_alone items ≡ true) where
  abbrev in_types : Bool
  in_types = list_all (λ ty. holds_no_reference items (types_in ty)) items.types

  abbrev in_adts : Bool
  in_adts = list_all (λ adt. list_all (λ variant. holds_no_reference items variant.fields) adt.variants) items.adts

  abbrev in_closures : Bool
  in_closures = list_all (λ closure. holds_no_reference items closure.captures) items.closures

  abbrev in_bodies : Bool
  in_bodies = list_all (λ sig. holds_no_reference items (sig.result ∷ [])) items.bodies

  abbrev in_traits : Bool
  in_traits = list_all (λ def. list_all (λ method. holds_no_reference items (method.result ∷ [])) def.methods)
      items.traits

  first-four : (in_types && in_adts && in_closures && in_bodies) ≡ true
  first-four = first_so (in_types && in_adts && in_closures && in_bodies) in_traits alone

  first-three : (in_types && in_adts && in_closures) ≡ true
  first-three = first_so (in_types && in_adts && in_closures) in_bodies first-four

  first-two : (in_types && in_adts) ≡ true
  first-two = first_so (in_types && in_adts) in_closures first-three

  -- a result is no reference
  pub result-free : (k : ℕ) (sig : Sig) → slice_get items.bodies k ≡ Some sig →
      is_reference (type_at items sig.result) ≡ false
  result-free k sig e =
      any-not (λ id. is_reference (type_at items id)) (sig.result ∷ []) 0 sig.result
      (all-at (λ sig. holds_no_reference items (sig.result ∷ [])) items.bodies k sig
      (second_so (in_types && in_adts && in_closures) in_bodies first-four) e) refl

  inside-free : (id next : TyId) (ty : Ty) (k : ℕ) → type_at items id ≡ Some ty →
      slice_get (types_in ty) k ≡ Some next →
      is_reference (type_at items next) ≡ false
  inside-free id next ty k is e =
      any-not (λ id. is_reference (type_at items id)) (types_in ty) k next
      (all-at (λ ty. holds_no_reference items (types_in ty)) items.types id.0 ty (first_so in_types in_adts first-two)
      is)
      e

  field-free : (n variant k : ℕ) (next : TyId) →
      slice_get (fields_of (slice_get (variants_of (slice_get items.adts n)) variant)) k ≡ Some next →
      is_reference (type_at items next) ≡ false
  field-free n variant k next e = by (slice_get items.adts n) refl e
    where
      by : (o : Option Adt) → slice_get items.adts n ≡ o →
          slice_get (fields_of (slice_get (variants_of o) variant)) k ≡ Some next →
          is_reference (type_at items next) ≡ false
      by None h e = absurd (none-some next e)
      by (Some adt) h e = of (slice_get adt.variants variant) refl e
        where
          of : (o : Option Variant) → slice_get adt.variants variant ≡ o →
              slice_get (fields_of o) k ≡ Some next → is_reference (type_at items next) ≡ false
          of None g e = absurd (none-some next e)
          of (Some v) g e =
              any-not (λ id. is_reference (type_at items id)) v.fields k next
              (all-at (λ variant. holds_no_reference items variant.fields) adt.variants variant v
              (all-at (λ adt. list_all (λ variant. holds_no_reference items variant.fields) adt.variants)
              items.adts n adt
              (second_so in_types in_adts first-two) h) g) e

  capture-free : (n k : ℕ) (next : TyId) → slice_get (captures_of (slice_get items.closures n)) k ≡ Some next →
      is_reference (type_at items next) ≡ false
  capture-free n k next e = by (slice_get items.closures n) refl e
    where
      by : (o : Option ClosureDef) → slice_get items.closures n ≡ o → slice_get (captures_of o) k ≡ Some next →
          is_reference (type_at items next) ≡ false
      by None h e = absurd (none-some next e)
      by (Some closure) h e =
          any-not (λ id. is_reference (type_at items id)) closure.captures k next
          (all-at (λ closure. holds_no_reference items closure.captures) items.closures n closure
          (second_so (in_types && in_adts) in_closures first-three) h) e

  one-variant : (b : Bool) (ids : List TyId) (k : ℕ) (next : TyId) → slice_get (if b then ids else []) k ≡ Some next →
      slice_get ids k ≡ Some next
  one-variant true ids k next e = e
  one-variant false ids k next e = absurd (none-some next e)

  part-free : (id next : TyId) (ty : Ty) (variant k : ℕ) → type_at items id ≡ Some ty →
      slice_get (parts_of items ty variant) k ≡ Some next → is_reference (type_at items next) ≡ false
  part-free id next (Ty.Adt n) variant k is e = field-free n variant k next e
  part-free id next (Ty.Tuple parts) variant k is e =
      inside-free id next (Ty.Tuple parts) k is (one-variant (variant == 0) parts k next e)
  part-free id next (Ty.Array element count) variant k is e =
      subst (λ x. is_reference (type_at items x) ≡ false)
      (sym (element-is items count k element next (one-variant (variant == 0) (replicate count element) k next e)))
      (inside-free id element (Ty.Array element count) 0 is refl)
  part-free id next (Ty.Closure n) variant k is e = capture-free n k next (one-variant (variant == 0)
      (captures_of (slice_get items.closures n)) k next e)
  part-free id next other variant k is e = absurd (none-some next e)

  content-free : (id next : TyId) (ty : Ty) → type_at items id ≡ Some ty → content_of ty ≡ Some next →
      is_reference (type_at items next) ≡ false
  content-free id next (Ty.Boxed t) is e = inside-free id next (Ty.Boxed t) 0 is e
  content-free id next (Ty.Shared t) is e = inside-free id next (Ty.Shared t) 0 is e
  content-free id next (Ty.Unique t) is e = inside-free id next (Ty.Unique t) 0 is e
  content-free id next other is e = absurd (none-some next e)

  element-free : (id next : TyId) (ty : Ty) → type_at items id ≡ Some ty → element_of ty ≡ Some next →
      is_reference (type_at items next) ≡ false
  element-free id next (Ty.Array element count) is e = inside-free id next (Ty.Array element count) 0 is e
  element-free id next other is e = absurd (none-some next e)

  unless-some : (b : Bool) (o : Option TyId) (next : TyId) → unless_enum b o ≡ Some next → o ≡ Some next
  unless-some false o next e = e
  unless-some true o next e = absurd (none-some next e)

  if-some : (b : Bool) (o : Option TyId) (next : TyId) → part_if b o ≡ Some next → o ≡ Some next
  if-some true o next e = e
  if-some false o next e = absurd (none-some next e)

  -- no part of any type is a reference
  pub step-free : (step : Step) (ty : Ty) (id next : TyId) → type_at items id ≡ Some ty →
      step_ty items step ty ≡ Some next → is_reference (type_at items next) ≡ false
  step-free (ToPart n) ty id next is e =
      part-free id next ty 0 n is (unless-some (is_enum items ty) (slice_get (parts_of items ty 0) n) next e)
  step-free (ToField v n) ty id next is e =
      part-free id next ty v n is (if-some (is_enum items ty) (slice_get (parts_of items ty v) n) next e)
  step-free ToContent ty id next is e = content-free id next ty is e
  step-free (ToElement i) ty id next is e = element-free id next ty is e

  pub solid : (steps : List Step) (id end : TyId) → ty_along items steps id ≡ Some end →
      is_reference (type_at items id) ≡ false → SolidSteps items steps id end
  solid [] id end e r = let same : id ≡ end = cc in subst (SolidSteps items [] id) same (no_more id)
  solid (step ∷ steps) id end e r = by (type_at items id) refl e r
      (λ next ty is g e'. solid steps next end e' (step-free step ty id next is g))
    where
      Again : Type 0
      Again = (next : TyId) (ty : Ty) → type_at items id ≡ Some ty → step_ty items step ty ≡ Some next →
          ty_along items steps next ≡ Some end → SolidSteps items steps next end

      by : (o : Option Ty) → type_at items id ≡ o →
          option_and_then (ty_along items steps) (option_and_then (step_ty items step) o) ≡ Some end →
          is_reference o ≡ false → Again → SolidSteps items (step ∷ steps) id end
      by None h e r again = absurd (none-some end e)
      by (Some ty) h e r again = of (step_ty items step ty) refl e
        where
          of : (o : Option TyId) → step_ty items step ty ≡ o → option_and_then (ty_along items steps) o ≡ Some end →
              SolidSteps items (step ∷ steps) id end
          of None g e = absurd (none-some end e)
          of (Some next) g e = one_more step steps id next end ty h g r (again next ty h g e)

  -- up to the first element
  pub record ToArray (steps : List Step) (id end : TyId) : Type 0 where
    pub upper : List Step
    pub rest : List Step
    pub index : ℕ
    pub array : TyId
    pub steps_are : steps ≡ upper ++ ToElement index ∷ rest
    pub plain : PlainSteps items upper id array
    pub beyond : SolidSteps items (ToElement index ∷ rest) array end

  on-more : (step : Step) (steps : List Step) (id next end : TyId) (ty : Ty) → type_at items id ≡ Some ty →
      step_ty items step ty ≡ Some next → IsPlainStep step ty → PlainSteps items steps next end
      ⊎ ToArray steps next end →
      PlainSteps items (step ∷ steps) id end ⊎ ToArray (step ∷ steps) id end
  on-more step steps id next end ty is step_is p (inl plain) =
      inl (to_next step steps id next end ty is step_is p plain)
  on-more step steps id next end ty is step_is p (inr a) = inr (record {
    upper = step ∷ a.upper;
    rest = a.rest;
    index = a.index;
    array = a.array;
    steps_are = ap (λ l. step ∷ l) a.steps_are;
    plain = to_next step a.upper id next a.array ty is step_is p a.plain;
    beyond = a.beyond;
  })

  pub plain-or-element : (steps : List Step) (id end : TyId) → SolidSteps items steps id end →
      PlainSteps items steps id end ⊎ ToArray steps id end
  plain-or-element _ _ _ (no_more id) = inl (no_steps id)
  plain-or-element _ id end (one_more (ToElement i) steps _ next _ ty is step_is r rest) = inr (record {
    upper = [];
    rest = steps;
    index = i;
    array = id;
    steps_are = refl;
    plain = no_steps id;
    beyond = one_more (ToElement i) steps id next end ty is step_is r rest;
  })
  plain-or-element _ id end (one_more (ToPart n) steps _ next _ ty is step_is r rest) =
      on-more (ToPart n) steps id next end ty is step_is tt (plain-or-element steps next end rest)
  plain-or-element _ id end (one_more (ToField v n) steps _ next _ ty is step_is r rest) =
      on-more (ToField v n) steps id next end ty is step_is tt (plain-or-element steps next end rest)
  plain-or-element _ id end (one_more ToContent steps _ next _ ty is step_is r rest) =
      on-more ToContent steps id next end ty is step_is r (plain-or-element steps next end rest)

  shared-only : (to : TyId) (step : Step) (next : TyId) → step_ty items step (Ty.Shared to) ≡ Some next →
      (step ≡ ToContent) × (next ≡ to)
  shared-only to (ToPart n) next g = absurd (none-some next g)
  shared-only to (ToField v n) next g = absurd (none-some next g)
  shared-only to ToContent next g = (refl, (let x : Some to ≡ Some next = g in cc))
  shared-only to (ToElement i) next g = absurd (none-some next g)

  unique-only : (to : TyId) (step : Step) (next : TyId) → step_ty items step (Ty.Unique to) ≡ Some next →
      (step ≡ ToContent) × (next ≡ to)
  unique-only to (ToPart n) next g = absurd (none-some next g)
  unique-only to (ToField v n) next g = absurd (none-some next g)
  unique-only to ToContent next g = (refl, (let x : Some to ≡ Some next = g in cc))
  unique-only to (ToElement i) next g = absurd (none-some next g)

  module _ (local_ty : (body local : ℕ) → Option TyId) (number : ℕ) where
    -- each place with a type
    pub place-is : (place : Place) (end : TyId) → place_ty items (local_ty number) place ≡ Some end →
        PlaceIs items local_ty number place end
    place-is place end e = by (local_ty number place.local) refl e
      where
        Is : Type 0
        Is = PlaceIs items local_ty number place end

        by : (o : Option TyId) → local_ty number place.local ≡ o → option_and_then (ty_along items place.steps)
            o ≡ Some end →
            Is
        by None h e = absurd (none-some end e)
        by (Some id) h e = so (is_reference (type_at items id)) refl
          where
            held-by-it : SolidSteps items place.steps id end → Is
            held-by-it s = elim (plain-or-element place.steps id end s) [
              | inl plain ↦ a_part id h plain
              | inr a ↦ an_element a.upper a.rest a.index id a.array h a.steps_are a.plain a.beyond
            ]

            behind-it : (to : TyId) (ty : Ty) → type_at items id ≡ Some ty → named_by (Some ty) ≡ Some to →
                ((step : Step) (next : TyId) → step_ty items step ty ≡ Some next → (step ≡ ToContent) × (next ≡ to)) →
                (steps : List Step) → place.steps ≡ steps → ty_along items steps id ≡ Some end → Is
            behind-it to ty t n only [] es e =
                a_part id h (subst (λ l. PlainSteps items l id end) (sym es)
                (let same : id ≡ end = cc in subst (PlainSteps items [] id) same (no_steps id)))
            behind-it to ty t n only (step ∷ steps) es e = of (step_ty items step ty) refl
                (sym (ap (λ o. option_and_then (ty_along items steps) (option_and_then (step_ty items step) o)) t) ∙ e)
              where
                of : (o : Option TyId) → step_ty items step ty ≡ o → option_and_then (ty_along items steps)
                    o ≡ Some end →
                    Is
                of None g e = absurd (none-some end e)
                of (Some next) g e =
                    let k = only step next g in
                    behind steps id to h (ap named_by t ∙ n) (es ∙ ap (λ s. s ∷ steps) k.0)
                    (solid steps to end (ap (ty_along items steps) (sym k.1) ∙ e)
                    (subst (λ x. is_reference (type_at items x) ≡ false) k.1 (step-free step ty id next t g)))

            so : (b : Bool) → is_reference (type_at items id) ≡ b → Is
            so false r = held-by-it (solid place.steps id end e r)
            so true r = of (type_at items id) refl r
              where
                of : (o : Option Ty) → type_at items id ≡ o → is_reference o ≡ true → Is
                of (Some (Ty.Shared to)) t r = behind-it to (Ty.Shared to) t refl
                    (λ step next g. shared-only to step next g) place.steps refl e
                of (Some (Ty.Unique to)) t r = behind-it to (Ty.Unique to) t refl
                    (λ step next g. unique-only to step next g) place.steps refl e
                of None t r = absurd (false≢true r)
                of (Some other) t r = absurd (false≢true r)
