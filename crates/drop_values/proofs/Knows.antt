-- What is known of the locals of the body that runs fits what they hold; and it still does after a place of its own was
-- stored into, moved out of or dropped, where what is known is changed as a path changes it.
use Rattle.std.proofs.Common.{◌≡◌, inl, inr, ℕ, suc, ◌==◌, ◌&&◌, Bool, true, false, List, [], ◌∷◌, ◌++◌, length, slice_get, Option, Some, None, if◌then◌else◌, refl, ap, sym, ◌∙◌, subst, append_assoc, arith}
use Rattle.std.specs.Option.{option_map_or}
use Rattle.std.proofs.lemmas.Bool.{false≢true}
use Rattle.std.proofs.lemmas.Bool.Decides.{Decides-eqb, eqb_tells}
use Rattle.std.proofs.lemmas.List.{append-nil}
use Rattle.std.proofs.lemmas.Option.{none-some}
use Rattle.mir_ty.specs.declared.ty.Ty.{Ty}
use Rattle.mir_ty.specs.declared.ty.TyId.{TyId}
use Rattle.mir_ty.specs.ItemTable.{ItemTable, type_at}
use Rattle.mir_ty.specs.Parts.{parts_of}
use Rattle.store_model.specs.declared.address.Addr.{Addr}
use Rattle.store_model.specs.declared.address.At.{At}
use Rattle.store_model.specs.declared.address.At.TheVariants.{Part, Inside}
use Rattle.store_model.specs.Abstract.Presence.{Presence, known, none_named, presence_at, presence_along, after_action}
use Rattle.store_model.specs.Concrete.Location.{Setting, DynamicType, OfType, content_type, type_in_box, type_of_field, Located, into, root_address, located_root, Reached, Reaches, CutOff, Nowhere, reach_of, reach_if, on_reached, follow, follow_from, through, into_field, along, in_youngest, reach}
use Rattle.store_model.specs.Concrete.State.{State, Activation, Cells, cell, at_depth}
use Rattle.store_model.specs.Places.Place.{Step, ToPart, ToField, ToContent, ToElement, Place, is_enum, is_reference, step_ty, unless_enum, part_if, content_of}
use Rattle.store_model.specs.Places.TypeForms.{box_content}
use Rattle.store_model.specs.Values.Access.{part, replaced}
use Rattle.store_model.specs.Values.Datum.{Datum, Gone, Number, Truth, UnitValue, Aggregate, Box, Address}
use Rattle.drop_values.specs.Like.{held, held_by, body_at, body_of}
use Rattle.drop_values.specs.Typed.{variant_if, has_variant, Fits}
use Rattle.drop_values.proofs.FoundAs.{no_and_yes, IsOf, itself, object, content-of}
use Rattle.drop_values.proofs.Stand.{Changed, Into, into-parts}
use Rattle.drop_values.proofs.Ways.{Way, ends, to_part, to_field, to_content, fits_at_end, fits_changed}

pub reaches_some : (o : Option Located) (m : Located) → reach_of o ≡ Reaches m → o ≡ Some m
reaches_some None m e = absurd (let x : Nowhere ≡ Reaches m = e in cc)
reaches_some (Some t) m e = let x : t ≡ m = cc in ap Some x

pub reaches_if : (b : Bool) (o : Option Located) (m : Located) → reach_if b o ≡ Reaches m → (b ≡ true) × (o ≡ Some m)
reaches_if false o m e = absurd (let x : Nowhere ≡ Reaches m = e in cc)
reaches_if true o m e = (refl, reaches_some o m e)

-- what is reached by way of something that is reached
pub record ByWayOf (r : Reached) (next : Located → Reached) (t : Located) : Type 0 where
  pub mid : Located
  pub first : r ≡ Reaches mid
  pub then_reached : next mid ≡ Reaches t

pub by_way_of : (r : Reached) (next : Located → Reached) (t : Located) → on_reached r next CutOff Nowhere ≡ Reaches t →
    ByWayOf r next t
by_way_of (Reaches mid) next t e = record { mid = mid; first = refl; then_reached = e }
by_way_of CutOff next t e = absurd (let x : CutOff ≡ Reaches t = e in cc)
by_way_of Nowhere next t e = absurd (let x : Nowhere ≡ Reaches t = e in cc)

-- a step that goes through no reference and takes no element by a local
abbrev pub IsPlainStep : Step → Ty → Type 0
IsPlainStep (ToPart n) ty = Unit {0}
IsPlainStep (ToField variant n) ty = Unit {0}
IsPlainStep ToContent ty = is_reference (Some ty) ≡ false
IsPlainStep (ToElement index) ty = ⊥

-- such steps from a type to a type
pub data PlainSteps (items : ItemTable) : List Step → TyId → TyId → Type 0 where
  no_steps : (id : TyId) → PlainSteps items [] id id
  to_next : (step : Step) (steps : List Step) (id next end : TyId) (ty : Ty) → type_at items id ≡ Some ty →
      step_ty items step ty ≡ Some next → IsPlainStep step ty → PlainSteps items steps next end →
      PlainSteps items (step ∷ steps) id end

-- a place is reached by a way from the value of its local
pub record Arrived (items : ItemTable) (steps : List Step) (s t : Located) (end : TyId) : Type 0 where
  pub path : List At
  pub way : Way items steps path s.dynamic s.value t.dynamic t.value
  pub address : t.address ≡ record s.address { path = s.address.path ++ path }
  pub of : IsOf items t.dynamic end

module _ (setting : Setting) (w : State) (cells : Cells) where
  abbrev items : ItemTable
  items = setting.items

  -- one step of it
  pub record OneStep (step : Step) (s m : Located) (next : TyId) : Type 0 where
    pub at : At
    pub way : (steps : List Step) (path : List At) (t : Located) → Way items steps path m.dynamic
        m.value t.dynamic t.value → Way items (step ∷ steps) (at ∷ path) s.dynamic s.value t.dynamic t.value
    pub address : m.address ≡ record s.address { path = s.address.path ++ at ∷ [] }
    pub of : IsOf items m.dynamic next

  of_struct : (b : Bool) (o : Option TyId) (next : TyId) → unless_enum b o ≡ Some next → (b ≡ false) × (o ≡ Some next)
  of_struct false o next e = (refl, e)
  of_struct true o next e = absurd (none-some next e)

  of_variant : (b : Bool) (o : Option TyId) (next : TyId) → part_if b o ≡ Some next → (b ≡ true) × (o ≡ Some next)
  of_variant true o next e = (refl, e)
  of_variant false o next e = absurd (none-some next e)

  no_dyn_part : {A : Type 0} (id : TyId) (n k : ℕ) (ty : Ty) (next : TyId) → type_at items id ≡ Some ty →
      type_at items id ≡ Some (Ty.Dyn n) → step_ty items (ToPart k) ty ≡ Some next → A
  no_dyn_part id n k ty next e d s = absurd (none-some next (subst (λ t. step_ty items (ToPart k) t ≡ Some next)
      (let x : Some ty ≡ Some (Ty.Dyn n) = sym e ∙ d in let y : ty ≡ Ty.Dyn n = cc in y) s))

  no_dyn_field : {A : Type 0} (id : TyId) (n v k : ℕ) (ty : Ty) (next : TyId) → type_at items id ≡ Some ty →
      type_at items id ≡ Some (Ty.Dyn n) → step_ty items (ToField v k) ty ≡ Some next → A
  no_dyn_field id n v k ty next e d s = absurd (none-some next
      (subst (λ t. step_ty items (ToField v k) t ≡ Some next) (let x : Some ty ≡ Some (Ty.Dyn n) =
      sym e ∙ d in let y : ty ≡ Ty.Dyn n = cc in y) s))

  no_dyn_content : {A : Type 0} (id : TyId) (n : ℕ) (ty : Ty) (next : TyId) → type_at items id ≡ Some ty →
      type_at items id ≡ Some (Ty.Dyn n) → step_ty items ToContent ty ≡ Some next → A
  no_dyn_content id n ty next e d s = absurd (none-some next (subst (λ t. step_ty items ToContent t ≡ Some next)
      (let x : Some ty ≡ Some (Ty.Dyn n) = sym e ∙ d in let y : ty ≡ Ty.Dyn n = cc in y) s))

  -- what is no enum has the variant 0
  struct_variant : (ty : Ty) (variant : ℕ) → is_enum items ty ≡ false → has_variant items (Some ty) variant ≡ true →
      variant ≡ 0
  struct_variant (Ty.Adt n) variant e h = (Decides-eqb variant 0).0
      (subst (λ b. variant_if items b (slice_get items.adts n) variant ≡ true) e h)
  struct_variant (Ty.Tuple ts) variant e h = (Decides-eqb variant 0).0 h
  struct_variant (Ty.Array t c) variant e h = (Decides-eqb variant 0).0 h
  struct_variant (Ty.Closure n) variant e h = (Decides-eqb variant 0).0 h
  struct_variant other variant e h = absurd (false≢true h)

  field_is : (ty : Ty) (variant n : ℕ) (o : Option Ty) (f : DynamicType) (next : TyId) → o ≡ Some ty →
      slice_get (parts_of items ty variant) n ≡ Some next → type_of_field items variant n o ≡ Some f → f ≡ OfType next
  field_is ty variant n o f next is part e =
      let x : Some (OfType next) ≡ Some f = sym (ap (λ (x : Option TyId). option_map_or
      (λ (id : TyId). Some (OfType id)) x None) part) ∙ sym (ap (type_of_field items variant n) is) ∙ e in
      let y : OfType next ≡ f = cc in sym y

  content_is : (ty : Ty) (content next : TyId) → box_content (Some ty) ≡ Some content → content_of ty ≡ Some next →
      content ≡ next
  content_is (Ty.Boxed t) content next e h = let x : Some content ≡ Some next = sym e ∙ h in cc
  content_is other content next e h = absurd (none-some content e)

  in_box : (o : Option Ty) (content : TyId) (impl_no : Option ℕ) → box_content o ≡ Some content →
      type_in_box impl_no o ≡ Some (content_type content impl_no)
  in_box None content impl_no e = absurd (none-some content e)
  in_box (Some (Ty.Boxed t)) content impl_no e = let x : t ≡ content = cc in ap (λ t. Some (content_type t impl_no)) x
  in_box (Some other) content impl_no e = absurd (none-some content e)

  -- a value at an address
  abbrev here : Addr → DynamicType → Datum → Located
  here address dynamic value = record { address = address; dynamic = dynamic; value = value }

  part_step-way : (n : ℕ) (ty : Ty) (next : TyId) (a : Addr) (dynamic : DynamicType) (d : Datum)
      (id : TyId) (p : Presence) (m : Located) → type_at items id ≡ Some ty → step_ty items (ToPart n) ty ≡ Some next →
      IsOf items dynamic id → Fits items dynamic p d →
      Into items (Part n) (here a dynamic d) m → OneStep (ToPart n) (here a dynamic d) m next
  part_step-way n ty next a dynamic d id p m is s (object id' impl_no k dyn has) fit i = no_dyn_part id k n ty next is
      dyn s
  part_step-way n ty next a _ (Aggregate variant serial parts) id p m is s (itself _) fit i =
      let flat = of_struct (is_enum items ty) (slice_get (parts_of items ty 0) n) next s in
      let zero_is : variant ≡ 0 = struct_variant ty variant flat.0
      (subst (λ o. has_variant items o variant ≡ true) is fit.2) in
      let f_is : i.dynamic ≡ OfType next = field_is ty variant n (type_at items id) i.dynamic next is
      (ap (λ v. slice_get (parts_of items ty v) n) zero_is ∙ flat.1) i.found_is in record {
        at = Part n;
        way = λ steps path t rest.
            to_part steps path (OfType id) variant serial parts n i.value i.dynamic t.dynamic t.value
            (ap (λ o. option_map_or (is_enum items) o false) is ∙ flat.0) i.value_is i.found_is
            (subst (λ (x : Located). Way items steps path x.dynamic x.value t.dynamic t.value) i.is rest);
        address = ap (λ (x : Located). x.address) i.is;
        of = subst (λ (x : Located). IsOf items x.dynamic next) (sym i.is)
            (subst (λ f. IsOf items f next) (sym f_is) (itself next));
      }
  part_step-way n ty next a _ other id p m is s (itself _) fit i = absurd (none-some i.value i.value_is)

  field_step-way : (v n : ℕ) (ty : Ty) (next : TyId) (a : Addr) (dynamic : DynamicType) (d : Datum)
      (id : TyId) (m : Located) → type_at items id ≡ Some ty → step_ty items (ToField v n) ty ≡ Some next →
      IsOf items dynamic id →
      into_field setting w cells v n d (here a dynamic d) ≡ Reaches m → OneStep (ToField v n) (here a dynamic d) m next
  field_step-way v n ty next a dynamic d id m is s (object id' impl_no k dyn has) e = no_dyn_field id k v n ty next is
      dyn s
  field_step-way v n ty next a _ (Aggregate active serial parts) id m is s (itself _) e =
      let r = reaches_if (v == active) (into items (Part n) (here a (OfType id) (Aggregate active serial parts))) m e in
      let i = into-parts items (Part n) (here a (OfType id) (Aggregate active serial parts)) m r.1 in
      let enum = of_variant (is_enum items ty) (slice_get (parts_of items ty v) n) next s in
      let same : v ≡ active = (Decides-eqb v active).0 r.0 in
      let f_is : i.dynamic ≡ OfType next = field_is ty active n (type_at items id) i.dynamic next is
      (ap (λ v. slice_get (parts_of items ty v) n) (sym same) ∙ enum.1) i.found_is in record {
        at = Part n;
        way = λ steps path t rest.
            subst (λ u. Way items (ToField u n ∷ steps) (Part n ∷ path) (OfType id) (Aggregate active serial parts)
            t.dynamic t.value) (sym same)
            (to_field steps path (OfType id) active serial parts n i.value i.dynamic t.dynamic t.value
            (ap (λ o. option_map_or (is_enum items) o false) is ∙ enum.0) i.value_is i.found_is
            (subst (λ (x : Located). Way items steps path x.dynamic x.value t.dynamic t.value) i.is rest));
        address = ap (λ (x : Located). x.address) i.is;
        of = subst (λ (x : Located). IsOf items x.dynamic next) (sym i.is)
            (subst (λ f. IsOf items f next) (sym f_is) (itself next));
      }
  field_step-way v n ty next a _ Gone id m is s (itself _) e = absurd (let x : Nowhere ≡ Reaches m = e in cc)
  field_step-way v n ty next a _ (Number x) id m is s (itself _) e = absurd (let x : Nowhere ≡ Reaches m = e in cc)
  field_step-way v n ty next a _ (Truth x) id m is s (itself _) e = absurd (let x : Nowhere ≡ Reaches m = e in cc)
  field_step-way v n ty next a _ UnitValue id m is s (itself _) e = absurd (let x : Nowhere ≡ Reaches m = e in cc)
  field_step-way v n ty next a _ (Box x y z) id m is s (itself _) e = absurd (let x : Nowhere ≡ Reaches m = e in cc)
  field_step-way v n ty next a _ (Address x) id m is s (itself _) e = absurd (let x : Nowhere ≡ Reaches m = e in cc)

  content_step-way : (ty : Ty) (next : TyId) (a : Addr) (dynamic : DynamicType) (d : Datum) (id : TyId)
      (p : Presence) (m : Located) → type_at items id ≡ Some ty → step_ty items ToContent ty ≡ Some next →
      is_reference (Some ty) ≡ false →
      IsOf items dynamic id → Fits items dynamic p d → through setting w cells d (here a dynamic d) ≡ Reaches m →
      OneStep ToContent (here a dynamic d) m next
  content_step-way ty next a dynamic d id p m is s no_ref (object id' impl_no k dyn has) fit e =
      no_dyn_content id k ty next is dyn s
  content_step-way ty next a _ (Box serial impl_no inside) id p m is s no_ref (itself _) fit e =
      let i = into-parts items Inside (here a (OfType id) (Box serial impl_no inside)) m
      (reaches_some (into items Inside (here a (OfType id) (Box serial impl_no inside))) m e) in
      let c_is : fit.1.0 ≡ next = content_is ty fit.1.0 next (sym (ap box_content is) ∙ fit.1.1) s in
      let f_is : i.dynamic ≡ content_type fit.1.0 impl_no =
      (let x : Some i.dynamic ≡ Some (content_type fit.1.0 impl_no) = sym i.found_is
      ∙ in_box (type_at items id) fit.1.0 impl_no fit.1.1 in cc) in
      let v_is : inside ≡ i.value = (let x : Some inside ≡ Some i.value = i.value_is in cc) in record {
        at = Inside;
        way = λ steps path t rest.
            to_content steps path (OfType id) serial impl_no inside i.dynamic t.dynamic t.value i.found_is
            (subst (λ v. Way items steps path i.dynamic v t.dynamic t.value) (sym v_is)
            (subst (λ (x : Located). Way items steps path x.dynamic x.value t.dynamic t.value) i.is rest));
        address = ap (λ (x : Located). x.address) i.is;
        of = subst (λ (x : Located). IsOf items x.dynamic next) (sym i.is)
            (subst (λ f. IsOf items f next) (sym f_is) (subst (λ c. IsOf items (content_type fit.1.0 impl_no) c) c_is
            (content-of items fit.1.0 impl_no fit.1.2 fit.1.3)));
      }
  content_step-way ty next a _ (Address x) id p m is s no_ref (itself _) fit e =
      no_and_yes (is_reference (type_at items id)) fit.1 (ap is_reference is ∙ no_ref)
  content_step-way ty next a _ Gone id p m is s no_ref (itself _) fit e = absurd (let x : Nowhere ≡ Reaches m = e in cc)
  content_step-way ty next a _ (Number x) id p m is s no_ref (itself _) fit e =
      absurd (let x : Nowhere ≡ Reaches m = e in cc)
  content_step-way ty next a _ (Truth x) id p m is s no_ref (itself _) fit e =
      absurd (let x : Nowhere ≡ Reaches m = e in cc)
  content_step-way ty next a _ UnitValue id p m is s no_ref (itself _) fit e =
      absurd (let x : Nowhere ≡ Reaches m = e in cc)
  content_step-way ty next a _ (Aggregate x y z) id p m is s no_ref (itself _) fit e =
      absurd (let x : Nowhere ≡ Reaches m = e in cc)

  pub followed : (step : Step) (a : Addr) (dynamic : DynamicType) (d : Datum) (m : Located) →
      follow_from setting w cells step d (here a dynamic d) ≡ Reaches m → follow setting w cells step
      (here a dynamic d) ≡ Reaches m
  followed step a dynamic Gone m e = absurd (let x : CutOff ≡ Reaches m = e in cc)
  followed step a dynamic other m e = e

  pub one_step : (step : Step) (ty : Ty) (next : TyId) (a : Addr) (dynamic : DynamicType) (d : Datum)
      (id : TyId) (p : Presence) (m : Located) → type_at items id ≡ Some ty → step_ty items step ty ≡ Some next →
      IsPlainStep step ty →
      IsOf items dynamic id → Fits items dynamic p d → follow setting w cells step (here a dynamic d) ≡ Reaches m →
      OneStep step (here a dynamic d) m next
  one_step (ToPart n) ty next a dynamic d id p m is s plain o fit e =
      part_step-way n ty next a dynamic d id p m is s o fit (into-parts items (Part n) (here a dynamic d) m
      (reaches_some (into items (Part n) (here a dynamic d)) m e))
  one_step (ToField v n) ty next a dynamic d id p m is s plain o fit e =
      field_step-way v n ty next a dynamic d id m is s o e
  one_step ToContent ty next a dynamic d id p m is s plain o fit e =
      content_step-way ty next a dynamic d id p m is s plain o fit e
  one_step (ToElement i) ty next a dynamic d id p m is s plain o fit e = absurd plain

  -- a place that is reached by plain steps is reached by a way
  pub arrived : (steps : List Step) (s t : Located) (id end : TyId) (p : Presence) → PlainSteps items steps id end →
      IsOf items s.dynamic id → Fits items s.dynamic p s.value → along setting w cells steps s ≡ Reaches t →
      Arrived items steps s t end
  arrived [] s t id _ p (no_steps _) o fit e =
      let same : s ≡ t = cc in
      subst (λ x. Arrived items [] s x id) same (record {
        path = [];
        way = ends s.dynamic s.value;
        address =
            ap (λ path. record s.address { path = path }) (sym (append-nil s.address.path));
        of = o;
      })
  arrived (step ∷ steps) s t id end p (to_next _ _ _ next _ ty is is_next plain rest) o fit e =
      let b = by_way_of (follow_from setting w cells step s.value s) (along setting w cells steps) t e in
      let one = one_step step ty next s.address s.dynamic s.value id p b.mid is is_next plain o fit
      (followed step s.address s.dynamic s.value b.mid b.first) in
      let fit' = fits_at_end items p (one.way [] [] b.mid (ends b.mid.dynamic b.mid.value)) fit in
      let later = arrived steps b.mid t next end (presence_at step p) rest one.of fit' b.then_reached in record {
        path = one.at ∷ later.path;
        way = one.way steps later.path t later.way;
        address = later.address ∙ ap (λ (a : Addr). record a { path = a.path ++ later.path }) one.address
            ∙ ap (λ path. record s.address { path = path }) (append_assoc s.address.path (one.at ∷ []) later.path);
        of = later.of;
      }

-- ---- what is known of the locals of the body that runs

module _ (setting : Setting) (number depth : ℕ) where
  pub record Knows (present : ℕ → Presence) (w : State) : Type 0 where
    pub deep : length w.activations ≡ suc depth
    pub number_is : body_at depth w ≡ Some number
    pub fits : (k : ℕ) (id : TyId) → setting.local_ty number k ≡ Some id → Fits setting.items (OfType id)
        (present k) (held depth k w)

  -- as a path changes what is present
  abbrev pub present_by : Bool → Place → (ℕ → Presence) → ℕ → Presence
  present_by takes place present k = if place.local == k then after_action takes place.steps (present k) else present k

  abbrev pub root : ℕ → TyId → State → Located
  root local id w = record { address = root_address depth local; dynamic = OfType id; value = held depth local w }

  -- what a place reaches is reached from the value of its local
  pub reach_from_root : (w : State) (place : Place) (id : TyId) (t : Located) → length w.activations ≡ suc depth →
      body_at depth w ≡ Some number → setting.local_ty number place.local ≡ Some id →
      reach setting w place ≡ Reaches t →
      (cells : Cells) × (along setting w cells place.steps (root place.local id w) ≡ Reaches t)
  reach_from_root w place id t deep is typed e = by w.activations refl e
    where
      same : (d : ℕ) → (d == d) ≡ true
      same d = elim (eqb_tells d d) [ inl y ↦ y.0 | inr y ↦ absurd (y.1 refl) ]

      by : (acts : List Activation) → w.activations ≡ acts → in_youngest setting w place acts ≡ Reaches t →
          (cells : Cells) × (along setting w cells place.steps (root place.local id w) ≡ Reaches t)
      by [] h e = absurd (let x : 0 ≡ suc depth = sym (ap length h) ∙ deep in cc)
      by (a ∷ older) h e = (
        a.cells,
        ap (λ (x : Located). along setting w a.cells place.steps x) (sym located)
            ∙ sym (ap (λ o. on_reached (reach_of o) (along setting w a.cells place.steps) CutOff Nowhere) there) ∙ e,
      )
        where
          long : length older ≡ depth
          long = let x : suc (length older) ≡ suc depth = sym (ap length h) ∙ deep in omega (arith, x)

          at : at_depth depth w.activations ≡ Some a
          at = ap (at_depth depth) h ∙ ap (λ b. if b then Some a else at_depth depth older)
              (ap (λ m. depth == m) long ∙ same depth)

          number_is : a.body ≡ number
          number_is = let x : Some a.body ≡ Some number = sym (ap body_of at) ∙ is in cc

          found : Located
          found = record {
            address = root_address (length older) place.local;
            dynamic = OfType id;
            value =
                cell place.local a.cells;
          }

          there : located_root (length older) place.local a.cells (setting.local_ty a.body place.local) ≡ Some found
          there = ap (λ b. located_root (length older) place.local a.cells (setting.local_ty b place.local)) number_is
              ∙ ap (located_root (length older) place.local a.cells) typed

          located : found ≡ root place.local id w
          located = ap (λ n. record {
            address = root_address n place.local;
            dynamic = OfType id;
            value =
                cell place.local a.cells;
          }) long
              ∙ ap (λ v. record { address = root_address depth place.local; dynamic = OfType id; value = v })
              (sym (ap (held_by place.local) at))

  pub record Own (w : State) (place : Place) (t : Located) (id end : TyId) : Type 0 where
    pub arrives : Arrived setting.items place.steps (root place.local id w) t end

  pub own_place : (present : ℕ → Presence) (w : State) (place : Place) (id end : TyId) (t : Located) →
      Knows present w → setting.local_ty number place.local ≡ Some id → PlainSteps setting.items place.steps id end →
      reach setting w place ≡ Reaches t → Own w place t id end
  own_place present w place id end t k typed plain e =
      let r = reach_from_root w place id t k.deep k.number_is typed e in
      record {
        arrives = arrived setting w r.0 place.steps (root place.local id w) t id end (present place.local) plain
            (itself id) (k.fits place.local id typed) r.1;
      }

  -- what stands at a place of the body's own fits what is known there
  pub own_fits : (present : ℕ → Presence) (w : State) (place : Place) (id end : TyId) (t : Located) →
      Knows present w → setting.local_ty number place.local ≡ Some id → Own w place t id end →
      Fits setting.items t.dynamic (presence_along place.steps (present place.local)) t.value
  own_fits present w place id end t k typed o = fits_at_end setting.items (present place.local) o.arrives.way
      (k.fits place.local id typed)

  -- a place is stored into (with what is whole), or something is taken from it (what is gone stays)
  pub changed-Knows : (takes : Bool) (present : ℕ → Presence) (w v : State) (place : Place) (id end : TyId)
      (t : Located) (new : Datum) → Knows present w → setting.local_ty number place.local ≡ Some id →
      Own w place t id end →
      Changed t.address new w v → Fits setting.items t.dynamic (known takes none_named) new →
      Knows (present_by takes place present) v
  changed-Knows takes present w v place id end t new k typed o change fit = record {
    deep = change.count ∙ k.deep;
    number_is = change.bodies depth ∙ k.number_is;
    fits = λ j ty is. by j ty is (place.local == j) refl;
  }
    where
      at : t.address ≡ record (root_address depth place.local) { path = o.arrives.path }
      at = o.arrives.address

      here_is : held depth place.local v ≡ replaced o.arrives.path new (held depth place.local w)
      here_is = (let c = subst (λ a. held a.depth a.key.0 v ≡ replaced a.path new (held a.depth a.key.0 w))
          at change.here in c)

      apart_is : (j : ℕ) → (j == place.local) ≡ false → held depth j v ≡ held depth j w
      apart_is j n = change.apart depth j (ap (λ a. (depth == a.depth) && (j == a.key.0)) at
          ∙ ap (λ b. (depth == depth) && b) n ∙ never (depth == depth))
        where
          never : (b : Bool) → (b && false) ≡ false
          never true = refl
          never false = refl

      swapped : (j : ℕ) → (place.local == j) ≡ false → (j == place.local) ≡ false
      swapped j e = no (j == place.local) refl
        where
          no : (b : Bool) → (j == place.local) ≡ b → b ≡ false
          no false h = refl
          no true h = no_and_yes (place.local == j)
              ((Decides-eqb place.local j).1 (sym ((Decides-eqb j place.local).0 h))) e

      by : (j : ℕ) (ty : TyId) → setting.local_ty number j ≡ Some ty → (b : Bool) → (place.local == j) ≡ b →
          Fits setting.items (OfType ty) (if b then after_action takes place.steps (present j) else present j)
          (held depth j v)
      by j ty is true e =
          let same : place.local ≡ j = (Decides-eqb place.local j).0 e in
          let one : id ≡ ty = (let x : Some id ≡ Some ty = sym typed ∙ ap (setting.local_ty number) same ∙ is in cc) in
          subst (λ j. Fits setting.items (OfType ty) (after_action takes place.steps (present j)) (held depth j v)) same
          (subst (λ t. Fits setting.items (OfType t) (after_action takes place.steps (present place.local))
          (held depth place.local v)) one
          (subst (Fits setting.items (OfType id) (after_action takes place.steps (present place.local))) (sym here_is)
          (fits_changed setting.items takes (present place.local) new o.arrives.way (k.fits place.local id typed) fit)))
      by j ty is false e = subst (Fits setting.items (OfType ty) (present j)) (sym (apart_is j (swapped j e)))
          (k.fits j ty is)
