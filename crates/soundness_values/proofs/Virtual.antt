-- A call by a trait object keeps to the contract of calls, since the body of the impl does: it has the parameters of
-- the method, but for `self`, which is of the type of the impl.
use Rattle.std.proofs.Common.{◌≡◌, ℕ, suc, ◌==◌, ◌&&◌, ◌||◌, Bool, true, false, List, [], ◌∷◌, ◌++◌, length, Option, Some, None, is_some, refl, ap, sym, ◌∙◌, subst}
use Rattle.std.specs.Prelude.{slice_get, option_and_then}
use Rattle.std.specs.Option.{option_map_or}
use Rattle.std.proofs.lemmas.Bool.{false≢true}
use Rattle.std.proofs.lemmas.Bool.Decides.{Decides-eqb}
use Rattle.std.proofs.lemmas.Option.{none-some}
use Rattle.mir_base.specs.declared.trace.Event.{Event}
use Rattle.mir_ty.specs.declared.def.ImplDef.{ImplDef}
use Rattle.mir_ty.specs.declared.def.Sig.{Sig}
use Rattle.mir_ty.specs.declared.ty.Ty.{Ty}
use Rattle.mir_ty.specs.declared.ty.TyId.{TyId}
use Rattle.mir_ty.specs.ItemTable.{ItemTable, type_at}
use Rattle.store_model.specs.declared.address.Addr.{Addr}
use Rattle.store_model.specs.Values.Datum.{Datum, Gone, Number, Truth, UnitValue, Aggregate, Box, Address}
use Rattle.store_model.specs.Abstract.Presence.{is_present}
use Rattle.store_model.specs.Effects.{Stuck}
use Rattle.store_model.specs.Places.Place.{is_reference}
use Rattle.store_model.specs.Places.TypeForms.{is_dyn, is_adt, is_dyn_of}
use Rattle.store_model.specs.Concrete.Effects.{virtual_body, object_body, row_body}
use Rattle.store_model.specs.Concrete.Effects as values
use Rattle.store_model.specs.Concrete.Location.{Setting, DynamicType, OfType, OfObject, is_of_type, adt_of_impl, Located, located_at}
use Rattle.store_model.specs.Concrete.State.{State, Bodies, Answer, HaltsIn}
use Rattle.soundness_values.specs.Frames.{Apart, Alike, written}
use Rattle.soundness_values.specs.Typed.{is_aggregate, is_found, is_impl_for}
use Rattle.soundness_values.proofs.Behind.{names_it}
use Rattle.soundness_values.proofs.Contracts.{target_if, targets_of, unique_if, uniques_of, one_target, AloneFrom, AllAlone, AreWhole, MayRun, Leaves, LeftSo, returned, unwound, halted, unique_from}
use Rattle.soundness_values.proofs.Facts.{Each}
use Rattle.soundness_values.proofs.Fits.{Fits}
use Rattle.soundness_values.proofs.Forms.{address_of}
use Rattle.soundness_values.proofs.Frames.{ApartFrom, from_none, from_one, located_from}
use Rattle.soundness_values.proofs.Known.{Target, StandsFor}
use Rattle.soundness_values.proofs.Standings.{alike_located, stored_located}

first : (a b : Bool) → (a && b) ≡ true → a ≡ true
first true b h = refl
first false b h = absurd (false≢true h)

second : (a b : Bool) → (a && b) ≡ true → b ≡ true
second true b h = h
second false b h = absurd (false≢true h)

pub a_reference : (unique : Bool) (to : TyId) → is_reference (Some (names_it unique to)) ≡ true
a_reference true to = refl
a_reference false to = refl

module _ (setting : Setting) where
  abbrev items : ItemTable
  items = setting.items

  -- the body of an impl for a method, by the rules of items
  pub record Body (unique : Bool) (rest : List TyId) (method : ℕ) (result : TyId) (impl : ImplDef) : Type 0 where
    pub body : ℕ
    pub there : slice_get impl.bodies method ≡ Some body
    pub sig : Sig
    pub sig_is : slice_get items.bodies body ≡ Some sig
    pub result_is : sig.result ≡ result
    pub self : TyId
    pub params_are : sig.params ≡ self ∷ rest
    pub of : TyId
    pub self_is : type_at items self ≡ Some (names_it unique of)
    pub of_is : type_at items of ≡ Some (Ty.Adt impl.adt)

  -- a method of a trait
  pub record Method (trait_no method : ℕ) (params : List TyId) (result : TyId) : Type 0 where
    pub unique : Bool
    pub self : TyId
    pub object : TyId
    pub rest : List TyId
    pub params_are : params ≡ self ∷ rest
    pub self_is : type_at items self ≡ Some (names_it unique object)
    pub object_is : type_at items object ≡ Some (Ty.Dyn trait_no)
    pub of_impl : (impl_no : ℕ) (impl : ImplDef) → slice_get items.impls impl_no ≡ Some impl →
        (impl.trait_no == trait_no) ≡ true → Body unique rest method result impl

  -- no value is found as a trait itself
  no_dyn_value : {A : Type 0} (id : TyId) (n : ℕ) (d : Datum) → type_at items id ≡ Some (Ty.Dyn n) →
      Fits items (OfType id) is_present d → A
  no_dyn_value id n Gone e k = absurd (false≢true k)
  no_dyn_value id n (Number x) e k = absurd (let never : ⊥ = cc in never)
  no_dyn_value id n (Truth x) e k = absurd (let never : ⊥ = cc in never)
  no_dyn_value id n UnitValue e k = absurd (let never : ⊥ = cc in never)
  no_dyn_value id n (Aggregate v s p) e k =
      absurd (false≢true (sym (ap is_aggregate e) ∙ first (is_aggregate (type_at items id)) _ k.2))
  no_dyn_value id n (Box s i x) e k = absurd (let never : ⊥ = cc in never)
  no_dyn_value id n (Address a) e k = absurd (let never : ⊥ = cc in never)

  -- what a reference to a trait object names is found by an impl of the trait
  pub record Object (object : TyId) (trait_no : ℕ) (f : DynamicType) : Type 0 where
    pub impl_no : ℕ
    pub found_so : f ≡ OfObject object impl_no
    pub impl : ImplDef
    pub there : slice_get items.impls impl_no ≡ Some impl
    pub of_trait : (impl.trait_no == trait_no) ≡ true

  pub object_of : (object : TyId) (trait_no : ℕ) (f : DynamicType) (d : Datum) → type_at items object
      ≡ Some (Ty.Dyn trait_no) → is_of_type items object f ≡ true → is_found items f ≡ true →
      Fits items f is_present d → Object object trait_no f
  object_of object trait_no (OfType id) d e h i k =
      no_dyn_value id trait_no d (ap (type_at items) (same_id h) ∙ e) k
    where
      same_id : (object.0 == id.0) ≡ true → id ≡ object
      same_id h = let same : id.0 ≡ object.0 = sym ((Decides-eqb object.0 id.0).0 h) in
          ap (λ n. record { 0 = n }) same
  object_of object trait_no (OfObject id impl_no) d e h i k =
      by (object.0 == id.0) refl h
    where
      no_adt : (o : Option ℕ) → option_map_or (λ n. is_adt n (type_at items object)) o false ≡ true → ⊥
      no_adt None x = false≢true x
      no_adt (Some n) x = false≢true (sym (ap (is_adt n) e) ∙ x)

      impl_there : (o : Option ImplDef) → slice_get items.impls impl_no ≡ o →
          option_map_or (λ (impl : ImplDef). impl.trait_no == trait_no) o false ≡ true → id ≡ object →
          Object object trait_no (OfObject id impl_no)
      impl_there None x y s = absurd (false≢true y)
      impl_there (Some impl) x y s = record {
        impl_no = impl_no;
        found_so = ap (λ z. OfObject z impl_no) s;
        impl = impl;
        there = x;
        of_trait = y;
      }

      by : (b : Bool) → (object.0 == id.0) ≡ b →
          (b || option_map_or (λ n. is_adt n (type_at items object)) (adt_of_impl items impl_no) false) ≡ true →
          Object object trait_no (OfObject id impl_no)
      by false x y = absurd (no_adt (adt_of_impl items impl_no) y)
      by true x y =
          let same : id ≡ object = ap (λ n. record { 0 = n }) (sym ((Decides-eqb object.0 id.0).0 x)) in
          impl_there (slice_get items.impls impl_no) refl
          (subst (λ o. is_impl_for items o (Some impl_no) ≡ true) (ap (type_at items) same ∙ e)
          (second (is_dyn (type_at items id)) _ i)) same

  -- the same target, as of the type of the impl
  module _ (unique : Bool) (object of : TyId) (trait_no : ℕ) (a : Addr) where
    abbrev as_object_target : Target
    as_object_target = record { unique = unique; local = 1; address = a; to = object }

    abbrev as_self : Target
    as_self = record { unique = unique; local = 1; address = a; to = of }

    pub self_stands : (w : State) (s : StandsFor setting 0 as_object_target w) (o : Object object trait_no
        s.standing.dynamic) → type_at items of ≡ Some (Ty.Adt o.impl.adt) → StandsFor setting 0 as_self w
    self_stands w s o e = record {
      standing = s.standing;
      stands = s.stands;
      of_type = subst (λ f. is_of_type items of f ≡ true) (sym o.found_so)
          (or_right (of.0 == object.0) (option_map_or (λ n. is_adt n (type_at items of)) (adt_of_impl items o.impl_no)
          false) (ap (λ (x : Option ImplDef). option_map_or (λ n. is_adt n (type_at items of))
          (option_map_or (λ (i : ImplDef). Some i.adt) x None) false) o.there
          ∙ ap (is_adt o.impl.adt) e ∙ (Decides-eqb o.impl.adt o.impl.adt).1 refl));
      by_impl = s.by_impl;
      whole = s.whole;
    }
      where
        or_right : (p q : Bool) → q ≡ true → (p || q) ≡ true
        or_right true q h = refl
        or_right false q h = h

    -- what stands there is found as before
    still_found : (w v : State) (ts : List Target) (news : List Datum) → AloneFrom as_object_target ts →
        length news ≡ length (uniques_of (as_object_target ∷ ts)) →
        Alike v.activations (written (uniques_of (as_object_target ∷ ts)) news w).activations →
        (s : StandsFor setting 0 as_object_target w) → (s' : StandsFor setting 0 as_self v) →
        s'.standing.dynamic ≡ s.standing.dynamic
    still_found w v ts news al l j s s' = by unique refl news l j
      where
        some_same : {x y : Located} → Some x ≡ Some y → x ≡ y
        some_same z = cc

        by : (b : Bool) → unique ≡ b → (news : List Datum) → length news ≡ length (unique_if b a (uniques_of ts)) →
            Alike v.activations (written (unique_if b a (uniques_of ts)) news w).activations →
            s'.standing.dynamic ≡ s.standing.dynamic
        by true u [] l j = absurd (let never : ⊥ = cc in never)
        by true u (d ∷ more) l j =
            let tail : State = written (uniques_of ts) more w in
            let there : located_at setting tail a ≡ Some s.standing =
            located_from setting a (uniques_of ts) more w (unique_from setting as_object_target ts u al) ∙ s.stands in
            let now : record (s.standing) { value = d } ≡ s'.standing =
            some_same (sym (stored_located setting tail a s.standing d there)
            ∙ sym (alike_located setting v (written (a ∷ uniques_of ts) (d ∷ more) w) j a) ∙ s'.stands) in
            ap (λ (z : Located). z.dynamic) (sym now)
        by false u news l j =
            let there : located_at setting (written (uniques_of ts) news w) a ≡ Some s.standing =
            located_from setting a (uniques_of ts) news w (shared_from ts al) ∙ s.stands in
            let now : s.standing ≡ s'.standing =
            some_same (sym there ∙ sym (alike_located setting v (written (uniques_of ts) news w) j a) ∙ s'.stands) in
            ap (λ (z : Located). z.dynamic) (sym now)
          where
            shared_from : (ts : List Target) → AloneFrom as_object_target ts → ApartFrom setting a (uniques_of ts)
            shared_from [] h = from_none
            shared_from (x ∷ ts) h = one x.unique refl (shared_from ts h.1)
              where
                one : (b : Bool) → x.unique ≡ b → ApartFrom setting a (uniques_of ts) →
                    ApartFrom setting a (unique_if b x.address (uniques_of ts))
                one true e later =
                    let pair = h.0 (or_right unique x.unique e) in
                    from_one x.address (uniques_of ts) pair.0 pair.1 later
                  where
                    or_right : (p q : Bool) → q ≡ true → (p || q) ≡ true
                    or_right true q z = refl
                    or_right false q z = z
                one false e later = later

    -- how the call leaves the state, seen from the trait
    leaves_so : (w v : State) (ts : List Target) → AloneFrom as_object_target ts →
        (s : StandsFor setting 0 as_object_target w) →
        Leaves setting (as_self ∷ ts) w v → Leaves setting (as_object_target ∷ ts) w v
    leaves_so w v ts al s l =
        let s' = l.stands.0 in
        let same = still_found w v ts l.news al l.many l.frame s s' in
        record {
          news = l.news;
          many = l.many;
          frame = l.frame;
          stands = (
            record {
              standing = s'.standing;
              stands = s'.stands;
              of_type = subst (λ f. is_of_type items object f ≡ true) (sym same) s.of_type;
              by_impl = s'.by_impl;
              whole = s'.whole;
            },
            l.stands.1,
          );
        }

    left_so : (result : TyId) (w : State) (ts : List Target) → AloneFrom as_object_target ts →
        StandsFor setting 0 as_object_target w → (answer : Answer) → LeftSo setting (as_self ∷ ts) result w answer →
        LeftSo setting (as_object_target ∷ ts) result w answer
    left_so result w ts al s _ (returned value v l fit) = returned value v (leaves_so w v ts al s l) fit
    left_so result w ts al s _ (unwound v l) = unwound v (leaves_so w v ts al s l)
    left_so result w ts al s _ (halted halt v h) = halted halt v h

  -- the targets of a call whose first argument is a reference
  pub first_target : (unique : Bool) (to self : TyId) (a : Addr) (rest : List TyId) (ds : List Datum) →
      type_at items self ≡ Some (names_it unique to) → targets_of items 1 (self ∷ rest) (Address a ∷ ds)
      ≡ (record { unique = unique; local = 1; address = a; to = to }) ∷ targets_of items 2 rest ds
  first_target unique to self a rest ds e = ap (λ o. target_if o 1 (Address a) ++ targets_of items 2 rest ds) e
      ∙ ap (λ l. l ++ targets_of items 2 rest ds) (one_target unique to 1 a)

  module _ (run : Bodies) (plain : (n : ℕ) (sig : Sig) → slice_get items.bodies n ≡ Some sig → (ds : List Datum)
      (v : State) → MayRun setting sig.params ds v → LeftSo setting (targets_of items 1 sig.params ds) sig.result v
      (run (Event.Call n) n ds v)) (trait_no method : ℕ) where
    abbrev answer_of : List Datum → State → Answer
    answer_of ds v = option_map_or (λ n. run (Event.Call n) n ds v) (virtual_body setting trait_no method v ds)
        (HaltsIn Stuck v)

    by_address : (params : List TyId) (result : TyId) (m : Method trait_no method params result) (a : Addr)
        (ds : List Datum) (v : State) → MayRun setting (m.self ∷ m.rest) (Address a ∷ ds) v →
        LeftSo setting (targets_of items 1 (m.self ∷ m.rest) (Address a ∷ ds)) result v (answer_of (Address a ∷ ds) v)
    by_address params result m a ds v may =
        let ts = targets_of items 2 m.rest ds in
        let are = first_target m.unique m.object m.self a m.rest ds m.self_is in
        let stands = subst (Each (λ t. StandsFor setting 0 t v)) are may.stands in
        let alone = subst AllAlone are may.alone in
        let s = stands.0 in
        let o = object_of m.object trait_no s.standing.dynamic s.standing.value m.object_is s.of_type s.by_impl s.whole
        in
        let b = m.of_impl o.impl_no o.impl o.there o.of_trait in
        let selves = first_target m.unique b.of b.self a m.rest ds b.self_is in
        let body_is : virtual_body setting trait_no method v (Address a ∷ ds) ≡ Some b.body =
        ap (option_and_then (λ (x : Located). object_body setting trait_no method x.dynamic)) s.stands
        ∙ ap (object_body setting trait_no method) o.found_so
        ∙ ap (λ (x : Option ImplDef). option_and_then
        (λ body. values.if_so (is_dyn_of trait_no (type_at items m.object))
        body) (option_and_then (λ (i : ImplDef). slice_get i.bodies method) x)) o.there
        ∙ ap (option_and_then (λ body. values.if_so (is_dyn_of trait_no (type_at items m.object)) body)) b.there
        ∙ ap (λ c. values.if_so c b.body) (ap (is_dyn_of trait_no) m.object_is ∙ (Decides-eqb trait_no trait_no).1 refl)
        in
        let may_self : MayRun setting (b.self ∷ m.rest) (Address a ∷ ds) v =
        record {
          whole = ((refl, ap is_reference b.self_is ∙ a_reference m.unique b.of), may.whole.1);
          stands = subst (Each (λ t. StandsFor setting 0 t v)) (sym selves)
              (self_stands m.unique m.object b.of trait_no a v s o b.of_is, stands.1);
          alone = subst AllAlone (sym selves) (alone.0, alone.1);
        } in
        let left : LeftSo setting (targets_of items 1 (b.self ∷ m.rest) (Address a ∷ ds)) result v
        (run (Event.Call b.body) b.body (Address a ∷ ds) v) =
        subst (λ r. LeftSo setting (targets_of items 1 (b.self ∷ m.rest) (Address a ∷ ds)) r v
        (run (Event.Call b.body) b.body (Address a ∷ ds) v)) b.result_is
        (subst (λ l. MayRun setting l (Address a ∷ ds) v → LeftSo setting (targets_of items 1 l (Address a ∷ ds))
        b.sig.result v (run (Event.Call b.body) b.body (Address a ∷ ds) v)) b.params_are
        (plain b.body b.sig b.sig_is (Address a ∷ ds) v) may_self) in
        subst (λ l. LeftSo setting l result v (answer_of (Address a ∷ ds) v)) (sym are)
        (subst (λ (x : Option ℕ). LeftSo setting ((record {
          unique = m.unique;
          local = 1;
          address = a;
          to = m.object;
        }) ∷ ts) result v (option_map_or (λ n. run (Event.Call n) n (Address a ∷ ds) v) x (HaltsIn Stuck v)))
        (sym body_is)
        (left_so m.unique m.object b.of trait_no a result v ts alone.0 s
        (run (Event.Call b.body) b.body (Address a ∷ ds) v)
        (subst (λ l. LeftSo setting l result v (run (Event.Call b.body) b.body (Address a ∷ ds) v)) selves left)))

    -- the method keeps to the contract of calls
    pub virtual_keeps : (params : List TyId) (result : TyId) → Method trait_no method params result →
        (ds : List Datum) (v : State) → MayRun setting params ds v →
        LeftSo setting (targets_of items 1 params ds) result v (answer_of ds v)
    virtual_keeps params result m ds v may =
        subst (λ l. MayRun setting l ds v → LeftSo setting (targets_of items 1 l ds) result v (answer_of ds v))
        (sym m.params_are) (by ds) may
      where
        by : (ds : List Datum) → MayRun setting (m.self ∷ m.rest) ds v →
            LeftSo setting (targets_of items 1 (m.self ∷ m.rest) ds) result v (answer_of ds v)
        by [] may = absurd may.whole
        by (d ∷ ds) may =
            let a = address_of items d (OfType m.self) is_present (names_it m.unique m.object) m.self_is
            (a_reference m.unique m.object) refl may.whole.0 in
            subst (λ x. MayRun setting (m.self ∷ m.rest) (x ∷ ds) v →
            LeftSo setting (targets_of items 1 (m.self ∷ m.rest) (x ∷ ds)) result v (answer_of (x ∷ ds) v))
            (sym a.is_it)
            (by_address params result m a.address ds v) may
