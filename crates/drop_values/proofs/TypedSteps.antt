-- A place that is reached from a value of its type, by steps through parts, boxes and indices, is found as its static
-- type, and its address runs along the steps.
use Rattle.std.proofs.Common.{◌≡◌, ℕ, ◌==◌, Bool, true, false, pos, negsuc, List, [], ◌∷◌, replicate, Option, Some, None, refl, ap, sym, ◌∙◌, subst, slice_get}
use Rattle.std.specs.Prelude.{option_and_then}
use Rattle.std.proofs.lemmas.Bool.{false≢true}
use Rattle.std.proofs.lemmas.Bool.Decides.{Decides-eqb}
use Rattle.std.proofs.lemmas.Option.{none-some}
use Rattle.mir_ty.specs.declared.ty.Ty.{Ty}
use Rattle.mir_ty.specs.declared.ty.TyId.{TyId}
use Rattle.mir_ty.specs.ItemTable.{ItemTable, type_at}
use Rattle.mir_ty.specs.Parts.{parts_of, of_one_variant}
use Rattle.store_model.specs.declared.address.Addr.{Addr}
use Rattle.store_model.specs.declared.address.At.{At}
use Rattle.store_model.specs.declared.address.At.TheVariants.{Part, Inside}
use Rattle.store_model.specs.Abstract.Presence.{presence_at}
use Rattle.store_model.specs.Concrete.Location.{Setting, DynamicType, concrete_ty, content_type, type_of_field, type_of_part, Located, into, into_all, Reaches, CutOff, Nowhere, reach_of, reach_if, follow, follow_from, through, into_field, into_element, along}
use Rattle.store_model.specs.Concrete.State.{State, Cells, cell}
use Rattle.store_model.specs.Places.Place.{Step, ToPart, ToField, ToContent, ToElement, is_enum, is_reference, step_ty, unless_enum, part_if, content_of, element_of}
use Rattle.store_model.specs.Places.TypeForms.{box_content}
use Rattle.store_model.specs.Values.Datum.{Datum, Data, Gone, Number, Truth, UnitValue, Aggregate, Box, Address}
use Rattle.drop_values.specs.Like.{raw_setting}
use Rattle.drop_values.proofs.Behind.{stops, by_part, leads-fits}
use Rattle.drop_values.proofs.Knows.{by_way_of}
use Rattle.drop_values.proofs.Found.{field_at, boxed-is}
use Rattle.drop_values.proofs.Stand.{Into, into-parts}
use Rattle.drop_values.specs.Typed.{part_step, has_variant, Fits, IsTypedAs}
use Rattle.drop_values.proofs.TypedAs.{As, field-as, variant-zero, as-concrete, content-as, element-is}

-- ---- steps through no reference

-- an address goes on as a step does, where an index stands for any number
abbrev pub GoesOnAs : Step → At → Type 0
GoesOnAs (ToPart n) at = at ≡ Part n
GoesOnAs (ToField variant n) at = at ≡ Part n
GoesOnAs ToContent at = at ≡ Inside
GoesOnAs (ToElement local) at = (n : ℕ) × (at ≡ Part n)

abbrev pub RunsAlong : List Step → List At → Type 0
RunsAlong [] path = path ≡ []
RunsAlong (step ∷ steps) path =
    (at : At) × (rest : List At) × (path ≡ at ∷ rest) × GoesOnAs step at × RunsAlong steps rest

-- such steps from a type to a type
pub data SolidSteps (items : ItemTable) : List Step → TyId → TyId → Type 0 where
  no_more : (id : TyId) → SolidSteps items [] id id
  one_more : (step : Step) (steps : List Step) (id next end : TyId) (ty : Ty) → type_at items id ≡ Some ty →
      step_ty items step ty ≡ Some next → is_reference (Some ty) ≡ false → SolidSteps items steps next end →
      SolidSteps items (step ∷ steps) id end

module _ (items : ItemTable) (local_ty : (body local : ℕ) → Option TyId) (w : State) (cells : Cells) where
  abbrev raw : Setting
  raw = raw_setting items local_ty

  -- what is reached is found as a type, and is of it
  pub record Reached-As (m : Located) (next : TyId) : Type 0 where
    pub as_is : As items m.dynamic next
    pub typed : IsTypedAs items m.dynamic m.value

  some_reached : (o : Option Located) (m : Located) → reach_of o ≡ Reaches m → o ≡ Some m
  some_reached None m e = absurd (let x : Nowhere ≡ Reaches m = e in cc)
  some_reached (Some t) m e = let x : t ≡ m = cc in ap Some x

  if_reached : (b : Bool) (o : Option Located) (m : Located) → reach_if b o ≡ Reaches m → (b ≡ true) × (o ≡ Some m)
  if_reached false o m e = absurd (let x : Nowhere ≡ Reaches m = e in cc)
  if_reached true o m e = (refl, some_reached o m e)

  abbrev here : Addr → DynamicType → Datum → Located
  here a dynamic d = record { address = a; dynamic = dynamic; value = d }

  -- a part of an aggregate
  pub part-as : (n : ℕ) (a : Addr) (dynamic : DynamicType) (d : Datum) (m : Located) (ty : Ty) (next : TyId) →
      concrete_ty items dynamic ≡ Some ty → IsTypedAs items dynamic d → Into items (Part n) (here a dynamic d) m →
      ((variant : ℕ) (serial : Option ℕ) (parts : Data) → d ≡ Aggregate variant serial parts →
      slice_get (parts_of items ty variant) n ≡ Some next) → Reached-As m next
  part-as n a dynamic (Aggregate variant serial parts) m ty next c t i part_is =
      let found_as : As items i.dynamic next = field-as items (concrete_ty items dynamic) ty variant n i.dynamic next c
      (part_is variant serial parts refl) i.found_is in
      let fit = leads-fits items (by_part [] dynamic t.0 variant serial parts n i.value i.dynamic i.dynamic
      (presence_at (part_step items dynamic variant n) t.0) i.value i.value_is i.found_is
      (stops i.dynamic (presence_at (part_step items dynamic variant n) t.0) i.value)) t.1 in
      subst (λ x. Reached-As x next) (sym i.is) (record {
        as_is = found_as;
        typed =
            (presence_at (part_step items dynamic variant n) t.0, fit);
      })
  part-as n a dynamic other m ty next c t i part_is = absurd (none-some i.value i.value_is)

  flat_enum : (b : Bool) (o : Option TyId) (next : TyId) → unless_enum b o ≡ Some next → (b ≡ false) × (o ≡ Some next)
  flat_enum false o next e = (refl, e)
  flat_enum true o next e = absurd (none-some next e)

  pub of_variant : (b : Bool) (o : Option TyId) (next : TyId) → part_if b o ≡ Some next → o ≡ Some next
  of_variant true o next e = e
  of_variant false o next e = absurd (none-some next e)

  pub variant_is : (v u : ℕ) (s t : Option ℕ) (ps qs : Data) → Aggregate v s ps ≡ Aggregate u t qs → v ≡ u
  variant_is v u s t ps qs e = cc

  has_variant_of : (a : DynamicType) (v : ℕ) (s : Option ℕ) (ps : Data) (ty : Ty) →
      IsTypedAs items a (Aggregate v s ps) → concrete_ty items a ≡ Some ty → has_variant items (Some ty) v ≡ true
  has_variant_of a v s ps ty t c = sym (ap (λ o. has_variant items o v) c) ∙ t.1.2

  pub typed-part : (n : ℕ) (a : Addr) (dynamic : DynamicType) (d : Datum) (m : Located) (ty : Ty) (next : TyId) →
      concrete_ty items dynamic ≡ Some ty → step_ty items (ToPart n) ty ≡ Some next → IsTypedAs items dynamic d →
      Into items (Part n) (here a dynamic d) m → Reached-As m next
  typed-part n a dynamic d m ty next c s t i =
      let f = flat_enum (is_enum items ty) (slice_get (parts_of items ty 0) n) next s in
      part-as n a dynamic d m ty next c t i (λ variant serial parts e.
      ap (λ v. slice_get (parts_of items ty v) n) (variant-zero items ty variant f.0
      (has_variant_of dynamic variant serial parts ty (subst (IsTypedAs items dynamic) e t) c)) ∙ f.1)

  typed-field : (v n : ℕ) (a : Addr) (dynamic : DynamicType) (d : Datum) (m : Located) (ty : Ty) (next : TyId) →
      concrete_ty items dynamic ≡ Some ty → step_ty items (ToField v n) ty ≡ Some next → IsTypedAs items dynamic d →
      into_field raw w cells v n d (here a dynamic d) ≡ Reaches m → Reached-As m next
  typed-field v n a dynamic (Aggregate active serial parts) m ty next c s t e =
      let r = if_reached (v == active) (into items (Part n) (here a dynamic (Aggregate active serial parts))) m e in
      part-as n a dynamic (Aggregate active serial parts) m ty next c t
      (into-parts items (Part n) (here a dynamic (Aggregate active serial parts)) m r.1)
      (λ variant serial' parts' same.
      ap (λ v. slice_get (parts_of items ty v) n) (sym (variant_is active variant serial serial' parts parts' same)
      ∙ sym ((Decides-eqb v active).0 r.0)) ∙ of_variant (is_enum items ty) (slice_get (parts_of items ty v) n)
      next s)
  typed-field v n a dynamic Gone m ty next c s t e = absurd (let x : Nowhere ≡ Reaches m = e in cc)
  typed-field v n a dynamic (Number x) m ty next c s t e = absurd (let x : Nowhere ≡ Reaches m = e in cc)
  typed-field v n a dynamic (Truth x) m ty next c s t e = absurd (let x : Nowhere ≡ Reaches m = e in cc)
  typed-field v n a dynamic UnitValue m ty next c s t e = absurd (let x : Nowhere ≡ Reaches m = e in cc)
  typed-field v n a dynamic (Box x y z) m ty next c s t e = absurd (let x : Nowhere ≡ Reaches m = e in cc)
  typed-field v n a dynamic (Address x) m ty next c s t e = absurd (let x : Nowhere ≡ Reaches m = e in cc)

  box-next : (ty : Ty) (content next : TyId) → box_content (Some ty) ≡ Some content → content_of ty ≡ Some next →
      content ≡ next
  box-next (Ty.Boxed t) content next e h = let x : Some content ≡ Some next = sym e ∙ h in cc
  box-next other content next e h = absurd (none-some content e)

  -- what is of another type is no address
  no_reference : (a : DynamicType) (address : Addr) (ty : Ty) → IsTypedAs items a (Address address) →
      concrete_ty items a ≡ Some ty → is_reference (Some ty) ≡ false → ⊥
  no_reference a address ty t c r = false≢true (sym r ∙ sym (ap is_reference c) ∙ t.1.1)

  pub typed-content : (a : Addr) (dynamic : DynamicType) (d : Datum) (m : Located) (ty : Ty) (next : TyId) →
      concrete_ty items dynamic ≡ Some ty → step_ty items ToContent ty ≡ Some next →
      is_reference (Some ty) ≡ false → IsTypedAs items dynamic d →
      through raw w cells d (here a dynamic d) ≡ Reaches m → Reached-As m next
  typed-content a dynamic (Box serial impl_no inside) m ty next c s r t e =
      let i = into-parts items Inside (here a dynamic (Box serial impl_no inside)) m
      (some_reached (into items Inside (here a dynamic (Box serial impl_no inside))) m e) in
      let k = t.1 in
      let content_is : k.1.0 ≡ next = box-next ty k.1.0 next (sym (ap box_content c) ∙ k.1.1) s in
      let f_is : i.dynamic ≡ content_type k.1.0 impl_no = boxed-is items (concrete_ty items dynamic)
      k.1.0 impl_no i.dynamic k.1.1 i.found_is in
      let v_is : inside ≡ i.value = (let x : Some inside ≡ Some i.value = i.value_is in cc) in
      let fit : Fits items i.dynamic (presence_at ToContent t.0) inside =
      subst (λ g. Fits items g (presence_at ToContent t.0) inside) (let x : Some k.2.0 ≡ Some i.dynamic =
      sym k.2.1 ∙ i.found_is in let y : k.2.0 ≡ i.dynamic = cc in y) k.2.2 in
      subst (λ x. Reached-As x next) (sym i.is) (record {
        as_is = subst (λ f. As items f next) (sym f_is) (subst (As items (content_type k.1.0 impl_no)) content_is
            (content-as items k.1.0 impl_no k.1.2));
        typed = (presence_at ToContent t.0, subst (Fits items i.dynamic (presence_at ToContent t.0)) v_is fit);
      })
  typed-content a dynamic (Address address) m ty next c s r t e = absurd (no_reference dynamic address ty t c r)
  typed-content a dynamic Gone m ty next c s r t e = absurd (let x : Nowhere ≡ Reaches m = e in cc)
  typed-content a dynamic (Number x) m ty next c s r t e = absurd (let x : Nowhere ≡ Reaches m = e in cc)
  typed-content a dynamic (Truth x) m ty next c s r t e = absurd (let x : Nowhere ≡ Reaches m = e in cc)
  typed-content a dynamic UnitValue m ty next c s r t e = absurd (let x : Nowhere ≡ Reaches m = e in cc)
  typed-content a dynamic (Aggregate x y z) m ty next c s r t e = absurd (let x : Nowhere ≡ Reaches m = e in cc)

  element-next : (ty : Ty) (variant n : ℕ) (part next : TyId) → element_of ty ≡ Some next →
      has_variant items (Some ty) variant ≡ true → slice_get (parts_of items ty variant) n ≡ Some part → part ≡ next
  element-next (Ty.Array t c) variant n part next e h p =
      element-is items c n t part (sym (ap (λ v. slice_get (of_one_variant (replicate c t) v) n)
      ((Decides-eqb variant 0).0 h)) ∙ p) ∙ (let x : Some t ≡ Some next = e in cc)
  element-next other variant n part next e h p = absurd (none-some next e)

  typed-element : (index : Datum) (a : Addr) (dynamic : DynamicType) (d : Datum) (m : Located) (ty : Ty) (next : TyId) →
      concrete_ty items dynamic ≡ Some ty → element_of ty ≡ Some next → IsTypedAs items dynamic d →
      into_element raw w cells index (here a dynamic d) ≡ Reaches m → Reached-As m next
  typed-element (Number (pos n)) a dynamic d m ty next c s t e =
      let i = into-parts items (Part n) (here a dynamic d) m
      (some_reached (into items (Part n) (here a dynamic d)) m e) in
      part-as n a dynamic d m ty next c t i (λ variant serial parts same.
      let found : type_of_field items variant n (concrete_ty items dynamic) ≡ Some i.dynamic =
      subst (λ d. type_of_part items (Part n) d dynamic ≡ Some i.dynamic) same i.found_is in
      let b = field_at items (concrete_ty items dynamic) variant n i.dynamic found in
      let part : slice_get (parts_of items ty variant) n ≡ Some b.0 =
      sym (ap (option_and_then (λ ty. slice_get (parts_of items ty variant) n)) c) ∙ b.2 in
      part ∙ ap Some (element-next ty variant n b.0 next s (has_variant_of dynamic variant serial parts ty
      (subst (IsTypedAs items dynamic) same t) c) part))
  typed-element (Number (negsuc n)) a dynamic d m ty next c s t e = absurd (let x : Nowhere ≡ Reaches m = e in cc)
  typed-element Gone a dynamic d m ty next c s t e = absurd (let x : Nowhere ≡ Reaches m = e in cc)
  typed-element (Truth x) a dynamic d m ty next c s t e = absurd (let x : Nowhere ≡ Reaches m = e in cc)
  typed-element UnitValue a dynamic d m ty next c s t e = absurd (let x : Nowhere ≡ Reaches m = e in cc)
  typed-element (Aggregate x y z) a dynamic d m ty next c s t e = absurd (let x : Nowhere ≡ Reaches m = e in cc)
  typed-element (Box x y z) a dynamic d m ty next c s t e = absurd (let x : Nowhere ≡ Reaches m = e in cc)
  typed-element (Address x) a dynamic d m ty next c s t e = absurd (let x : Nowhere ≡ Reaches m = e in cc)

  typed-step : (step : Step) (a : Addr) (dynamic : DynamicType) (d : Datum) (m : Located) (id : TyId)
      (ty : Ty) (next : TyId) → As items dynamic id → type_at items id ≡ Some ty → step_ty items step ty ≡ Some next →
      is_reference (Some ty) ≡ false → IsTypedAs items dynamic d →
      follow raw w cells step (here a dynamic d) ≡ Reaches m → Reached-As m next
  typed-step (ToPart n) a dynamic d m id ty next o is s r t e =
      typed-part n a dynamic d m ty next (as-concrete items dynamic id (ToPart n) ty next o is s) s t
      (into-parts items (Part n) (here a dynamic d) m (some_reached (into items (Part n) (here a dynamic d)) m e))
  typed-step (ToField v n) a dynamic d m id ty next o is s r t e = typed-field v n a dynamic d m ty next
      (as-concrete items dynamic id (ToField v n) ty next o is s) s t e
  typed-step ToContent a dynamic d m id ty next o is s r t e = typed-content a dynamic d m ty next
      (as-concrete items dynamic id ToContent ty next o is s) s r t e
  typed-step (ToElement i) a dynamic d m id ty next o is s r t e = typed-element (cell i cells) a dynamic d m ty next
      (as-concrete items dynamic id (ToElement i) ty next o is s) s t e

  -- one step is a step of an address
  pub record OneInto (step : Step) (s m : Located) : Type 0 where
    pub at : At
    pub goes_on : GoesOnAs step at
    pub into_is : into items at s ≡ Some m

  step-into : (step : Step) (a : Addr) (dynamic : DynamicType) (d : Datum) (m : Located) (ty : Ty) →
      concrete_ty items dynamic ≡ Some ty → is_reference (Some ty) ≡ false → IsTypedAs items dynamic d →
      follow raw w cells step (here a dynamic d) ≡ Reaches m → OneInto step (here a dynamic d) m
  step-into (ToPart n) a dynamic d m ty c r t e = record {
    at = Part n;
    goes_on = refl;
    into_is = some_reached (into items (Part n) (here a dynamic d)) m e;
  }
  step-into (ToField v n) a dynamic d m ty c r t e = record { at = Part n; goes_on = refl; into_is = by d e }
    where
      by : (d : Datum) → into_field raw w cells v n d (here a dynamic d) ≡ Reaches m →
          into items (Part n) (here a dynamic d) ≡ Some m
      by (Aggregate active serial parts) e =
          (if_reached (v == active) (into items (Part n) (here a dynamic (Aggregate active serial parts))) m e).1
      by Gone e = absurd (let x : Nowhere ≡ Reaches m = e in cc)
      by (Number x) e = absurd (let x : Nowhere ≡ Reaches m = e in cc)
      by (Truth x) e = absurd (let x : Nowhere ≡ Reaches m = e in cc)
      by UnitValue e = absurd (let x : Nowhere ≡ Reaches m = e in cc)
      by (Box x y z) e = absurd (let x : Nowhere ≡ Reaches m = e in cc)
      by (Address x) e = absurd (let x : Nowhere ≡ Reaches m = e in cc)
  step-into ToContent a dynamic d m ty c r t e = record { at = Inside; goes_on = refl; into_is = by d t e }
    where
      by : (d : Datum) → IsTypedAs items dynamic d → through raw w cells d (here a dynamic d) ≡ Reaches m →
          into items Inside (here a dynamic d) ≡ Some m
      by (Box serial impl_no inside) t e =
          some_reached (into items Inside (here a dynamic (Box serial impl_no inside))) m e
      by (Address address) t e = absurd (no_reference dynamic address ty t c r)
      by Gone t e = absurd (let x : Nowhere ≡ Reaches m = e in cc)
      by (Number x) t e = absurd (let x : Nowhere ≡ Reaches m = e in cc)
      by (Truth x) t e = absurd (let x : Nowhere ≡ Reaches m = e in cc)
      by UnitValue t e = absurd (let x : Nowhere ≡ Reaches m = e in cc)
      by (Aggregate x y z) t e = absurd (let x : Nowhere ≡ Reaches m = e in cc)
  step-into (ToElement i) a dynamic d m ty c r t e = by (cell i cells) e
    where
      by : (index : Datum) → into_element raw w cells index (here a dynamic d) ≡ Reaches m →
          OneInto (ToElement i) (here a dynamic d) m
      by (Number (pos n)) e = record {
        at = Part n;
        goes_on = (n, refl);
        into_is = some_reached (into items (Part n) (here a dynamic d)) m e;
      }
      by (Number (negsuc n)) e = absurd (let x : Nowhere ≡ Reaches m = e in cc)
      by Gone e = absurd (let x : Nowhere ≡ Reaches m = e in cc)
      by (Truth x) e = absurd (let x : Nowhere ≡ Reaches m = e in cc)
      by UnitValue e = absurd (let x : Nowhere ≡ Reaches m = e in cc)
      by (Aggregate x y z) e = absurd (let x : Nowhere ≡ Reaches m = e in cc)
      by (Box x y z) e = absurd (let x : Nowhere ≡ Reaches m = e in cc)
      by (Address x) e = absurd (let x : Nowhere ≡ Reaches m = e in cc)

  followed : (step : Step) (a : Addr) (dynamic : DynamicType) (d : Datum) (m : Located) →
      follow_from raw w cells step d (here a dynamic d) ≡ Reaches m → follow raw w cells step
      (here a dynamic d) ≡ Reaches m
  followed step a dynamic Gone m e = absurd (let x : CutOff ≡ Reaches m = e in cc)
  followed step a dynamic other m e = e

  -- what is reached along such steps: the address runs along them, and it is found as their type
  pub record AlongAs (steps : List Step) (s t : Located) (end : TyId) : Type 0 where
    pub path : List At
    pub runs : RunsAlong steps path
    pub into_is : into_all items path s ≡ Some t
    pub reached_as : Reached-As t end

  pub typed-along : (steps : List Step) (s t : Located) (id end : TyId) → SolidSteps items steps id end →
      As items s.dynamic id → IsTypedAs items s.dynamic s.value → along raw w cells steps s ≡ Reaches t →
      AlongAs steps s t end
  typed-along _ s t _ _ (no_more id) o k r =
      let same : s ≡ t = cc in
      subst (λ x. AlongAs [] s x id) same (record {
        path = [];
        runs = refl;
        into_is = refl;
        reached_as = record { as_is = o; typed = k };
      })
  typed-along _ s t _ _ (one_more step steps id next end ty is next_is solid rest) o k r =
      let b = by_way_of (follow_from raw w cells step s.value s) (along raw w cells steps) t r in
      let f = followed step s.address s.dynamic s.value b.mid b.first in
      let one = typed-step step s.address s.dynamic s.value b.mid id ty next o is next_is solid k f in
      let i = step-into step s.address s.dynamic s.value b.mid ty (as-concrete items s.dynamic id step ty next o is
      next_is) solid k f in
      let others = typed-along steps b.mid t next end rest one.as_is one.typed b.then_reached in record {
        path = i.at ∷ others.path;
        runs = (i.at, others.path, refl, i.goes_on, others.runs);
        into_is = ap (option_and_then (into_all items others.path)) i.into_is ∙ others.into_is;
        reached_as = others.reached_as;
      }
