-- The coercion of a box to a box of a trait object, in a checked run: the impl of the trait for the type in the box is
-- found, and the box goes by it then.
use Rattle.std.proofs.Common.{◌≡◌, ℕ, ◌==◌, ◌&&◌, Bool, true, false, List, [], ◌∷◌, Option, Some, None, is_some, refl, ap, sym, ◌∙◌, subst}
use Rattle.std.specs.Prelude.{slice_get, option_and_then, position, get_or}
use Rattle.std.specs.Option.{option_map_or}
use Rattle.std.proofs.lemmas.Bool.{false≢true}
use Rattle.std.proofs.lemmas.Bool.Decides.{Decides-eqb}
use Rattle.std.proofs.lemmas.List.Quantifiers.{position-Some}
use Rattle.std.proofs.lemmas.Option.{none-some, slice_get-get_or}
use Rattle.mir_ty.specs.declared.def.ImplDef.{ImplDef}
use Rattle.mir_ty.specs.declared.ty.Ty.{Ty}
use Rattle.mir_ty.specs.declared.ty.TyId.{TyId}
use Rattle.mir_ty.specs.ItemTable.{ItemTable, type_at}
use Rattle.store_model.proofs.Effects.Following.{Relation}
use Rattle.store_model.specs.declared.address.Addr.{Addr}
use Rattle.store_model.specs.declared.address.At.TheVariants.{Inside}
use Rattle.store_model.specs.Values.Datum.{Datum, Gone, Box}
use Rattle.store_model.specs.Effects as effects
use Rattle.store_model.specs.Effects.{EffectSite, Operand}
use Rattle.store_model.specs.Abstract.Effects as free
use Rattle.store_model.specs.Abstract.Effects.{AbstractState}
use Rattle.store_model.specs.Abstract.Presence.{Presence, is_present}
use Rattle.store_model.specs.Places.TypeForms.{is_never, is_dyn, is_dyn_of, adt_of, box_content}
use Rattle.store_model.specs.Concrete.Effects as values
use Rattle.store_model.specs.Concrete.Effects.{act, impl_of}
use Rattle.store_model.specs.Concrete.Location.{Setting, DynamicType, OfType, OfObject, adt_ty, concrete_ty, content_type, type_of_part}
use Rattle.store_model.specs.Concrete.State.{State, Bodies}
use Rattle.soundness_values.proofs.Doing.{FollowsOut}
use Rattle.soundness_values.specs.Typed.{is_impl_for}
use Rattle.soundness_values.proofs.Fits.{Fits}
use Rattle.soundness_values.proofs.Forms.{box_of}
use Rattle.soundness_values.proofs.FoundAlike.{fits_alike}
use Rattle.soundness_values.proofs.Facts.{Facts, without}
use Rattle.soundness_values.proofs.Dropped.{feeding}
use Rattle.soundness_values.proofs.Known.{Target}
use Rattle.soundness_values.proofs.Running.{Passed, Runs}
use Rattle.soundness_values.proofs.Checks.{ty_of, form_of, may_store, takes_well, after_operand, acts_well}
use Rattle.soundness_values.proofs.Taking.{first, second, rel}
use Rattle.soundness_values.proofs.Acting.{value_form, Formed, formed, a_number, a_truth, a_unit, one_stores}
use Rattle.soundness_values.proofs.Actions.{stores_well, formed_at, puts}
use Rattle.soundness_values.proofs.Numbers.{operand_ty_is}

-- the forms that tests tell of
adt_is : (o : Option Ty) (n : ℕ) → adt_of o ≡ Some n → o ≡ Some (Ty.Adt n)
adt_is None n e = absurd (none-some n e)
adt_is (Some (Ty.Adt m)) n e = let same : m ≡ n = cc in ap (λ x. Some (Ty.Adt x)) same
adt_is (Some other) n e = absurd (none-some n e)

boxed_is : (o : Option Ty) (id : TyId) → box_content o ≡ Some id → o ≡ Some (Ty.Boxed id)
boxed_is (Some (Ty.Boxed x)) id e = let same : x ≡ id = cc in ap (λ y. Some (Ty.Boxed y)) same
boxed_is None id e = absurd (none-some id e)
boxed_is (Some other) id e = absurd (none-some id e)

dyn_is : (n : ℕ) (o : Option Ty) → is_dyn_of n o ≡ true → o ≡ Some (Ty.Dyn n)
dyn_is n None h = absurd (false≢true h)
dyn_is n (Some (Ty.Dyn m)) h = ap (λ x. Some (Ty.Dyn x)) (sym ((Decides-eqb n m).0 h))
dyn_is n (Some other) h = absurd (false≢true h)

-- the impl that is found is one of the trait for the type
pub record ImplFound (items : ItemTable) (trait_no adt n : ℕ) : Type 0 where
  pub impl : ImplDef
  pub there : slice_get items.impls n ≡ Some impl
  pub of_trait : (impl.trait_no == trait_no) ≡ true
  pub of_adt : impl.adt ≡ adt

pub impl_found : (items : ItemTable) (trait_no adt n : ℕ) → impl_of items trait_no adt ≡ Some n →
    ImplFound items trait_no adt n
impl_found items trait_no adt n e = by items.impls refl
  where
    at_first : (d : ImplDef) → ImplFound items trait_no adt n
    at_first d =
        let p = position-Some (λ (impl : ImplDef). (impl.trait_no == trait_no) && (impl.adt == adt)) items.impls n d
        e in
        let impl : ImplDef = get_or items.impls n d in
        record {
          impl = get_or items.impls n d;
          there = slice_get-get_or items.impls n d p.0;
          of_trait = first (impl.trait_no == trait_no) (impl.adt == adt) p.1;
          of_adt = (Decides-eqb impl.adt adt).0 (second (impl.trait_no == trait_no) (impl.adt == adt) p.1);
        }

    by : (l : List ImplDef) → items.impls ≡ l → ImplFound items trait_no adt n
    by [] k = absurd (none-some n (sym (ap (position (λ (impl : ImplDef). (impl.trait_no == trait_no)
        && (impl.adt == adt))) k) ∙ e))
    by (d ∷ l) k = at_first d

module _ (setting : Setting) (number : ℕ) (targets : List Target) (uniques : List Addr) (base : State)
    (is_target : ℕ → Bool) (passed : Passed setting number targets uniques base is_target) where
  abbrev items : ItemTable
  items = setting.items

  abbrev local_ty : ℕ → Option TyId
  local_ty key = setting.local_ty number key

  abbrev R : State → List (ℕ × Presence) → Facts → Type 0
  R = Runs setting number targets uniques base is_target

  abbrev rels : Facts → Relation State AbstractState
  rels = rel setting number targets uniques base is_target passed

  abbrev after : Operand → Facts → Facts
  after = after_operand items local_ty is_target

  abbrev takes : Facts → Operand → Bool
  takes = takes_well items local_ty is_target

  abbrev form : Operand → Option Ty
  form = form_of items local_ty is_target

  -- a box that goes by an impl fits its type, where what is in it goes by the type of the impl
  object_fits : (end content inner : TyId) (trait_no adt n : ℕ) (serial : ℕ) (impl_no : Option ℕ) (id : TyId)
      (inside : Datum) → type_at items end ≡ Some (Ty.Boxed content) → type_at items content ≡ Some (Ty.Dyn trait_no) →
      type_at items id ≡ Some (Ty.Boxed inner) → type_at items inner ≡ Some (Ty.Adt adt) →
      ImplFound items trait_no adt n → Fits items (OfType id) is_present (Box serial impl_no inside) →
      Fits items (OfType end) is_present (Box serial (Some n) inside)
  object_fits end content inner trait_no adt n serial impl_no id inside e d i a found fit = (
    refl,
    (content, ap box_content e, sym (ap is_dyn d), by_trait),
    (OfObject content n, is_part, fits_alike items inside fit.2.0 (OfObject content n) is_present same fit.2.2),
  )
    where
      by_trait : is_impl_for items (type_at items content) (Some n) ≡ true
      by_trait = ap (λ o. is_impl_for items o (Some n)) d
          ∙ ap (λ (o : Option ImplDef). option_map_or (λ (impl : ImplDef). impl.trait_no == trait_no) o false)
          found.there ∙ found.of_trait

      is_part : type_of_part items Inside (Box serial (Some n) Gone) (OfType end) ≡ Some (OfObject content n)
      is_part = cc

      one : fit.1.0 ≡ inner
      one = some_id (sym fit.1.1 ∙ ap box_content i)
        where
          some_id : {x y : TyId} → Some x ≡ Some y → x ≡ y
          some_id k = cc

      no_impl : (o : Option ℕ) → is_some o ≡ false → o ≡ None
      no_impl None k = refl
      no_impl (Some x) k = absurd (false≢true (sym k))

      plain : impl_no ≡ None
      plain = no_impl impl_no (fit.1.2 ∙ ap (λ x. is_dyn (type_at items x)) one ∙ ap is_dyn a)

      by_type : fit.2.0 ≡ content_type inner impl_no
      by_type = some_f (sym fit.2.1 ∙ is_content)
        where
          is_content : type_of_part items Inside (Box serial impl_no Gone) (OfType id)
              ≡ Some (content_type inner impl_no)
          is_content = cc

          some_f : {x y : DynamicType} → Some x ≡ Some y → x ≡ y
          some_f k = cc

      same : concrete_ty items fit.2.0 ≡ concrete_ty items (OfObject content n)
      same = ap (concrete_ty items) (by_type ∙ ap (content_type inner) plain) ∙ a
          ∙ ap (λ m. adt_ty (Some m)) (sym found.of_adt)
          ∙ ap (λ (o : Option ImplDef). adt_ty (option_map_or (λ (impl : ImplDef). Some impl.adt) o None))
          (sym found.there)

  -- a box, by the form of its type
  record BoxOf (inner : TyId) (d : Datum) : Type 0 where
    pub id : TyId
    pub of_type : type_at items id ≡ Some (Ty.Boxed inner)
    pub serial : ℕ
    pub impl_no : Option ℕ
    pub inside : Datum
    pub is_it : d ≡ Box serial impl_no inside
    pub fits : Fits items (OfType id) is_present (Box serial impl_no inside)

  box_value : (d : Datum) (inner : TyId) →
      Formed setting number targets uniques base is_target passed (Ty.Boxed inner) d → BoxOf inner d
  box_value d inner (formed id e k) =
      let b = box_of items d (OfType id) is_present inner e refl k in
      record {
        id = id;
        of_type = e;
        serial = b.serial;
        impl_no = b.impl_no;
        inside = b.inside;
        is_it = b.is_it;
        fits = subst (Fits items (OfType id) is_present) b.is_it k;
      }
  box_value d inner (a_number value kind e is fit) = absurd (let never : ⊥ = cc in never)
  box_value d inner (a_truth value e is) = absurd (let never : ⊥ = cc in never)
  box_value d inner (a_unit e is) = absurd (let never : ⊥ = cc in never)

  inside_of : (o : Option TyId) (ty : Ty) → option_and_then (type_at items) o ≡ Some ty →
      (id : TyId) × ((o ≡ Some id) × (type_at items id ≡ Some ty))
  inside_of None ty e = absurd (none-some ty e)
  inside_of (Some id) ty e = (id, (refl, e))

  -- what the test of the impl tells
  record Found (trait_no : ℕ) (o : Option Ty) : Type 0 where
    pub adt : ℕ
    pub is_adt : o ≡ Some (Ty.Adt adt)
    pub n : ℕ
    pub by_impl : impl_of items trait_no adt ≡ Some n

  found_by : (trait_no : ℕ) (o : Option Ty) →
      option_map_or (λ adt. is_some (impl_of items trait_no adt)) (adt_of o) false ≡ true → Found trait_no o
  found_by trait_no o h = by (adt_of o) refl h
    where
      by_impl : (adt : ℕ) → adt_of o ≡ Some adt → (i : Option ℕ) → impl_of items trait_no adt ≡ i →
          is_some i ≡ true → Found trait_no o
      by_impl adt e None k s = absurd (false≢true s)
      by_impl adt e (Some n) k s = record { adt = adt; is_adt = adt_is o adt e; n = n; by_impl = k }

      by : (a : Option ℕ) → adt_of o ≡ a →
          option_map_or (λ adt. is_some (impl_of items trait_no adt)) a false ≡ true → Found trait_no o
      by None e k = absurd (false≢true k)
      by (Some adt) e k = by_impl adt e (impl_of items trait_no adt) refl k

  module _ (run : Bodies) (w : State) (cells : List (ℕ × Presence)) (facts : Facts) (runs : R w cells facts) where
    pub unsize_acts : (to : EffectSite) (trait_no : ℕ) (operand : Operand) →
        acts_well items local_ty is_target facts cells (effects.Unsize to trait_no operand) ≡ true →
        FollowsOut (rels (without to.place (after operand facts))) tt
        (act setting run (effects.Unsize to trait_no operand) w)
        (λ t. free.act items local_ty (effects.Unsize to trait_no operand) (feeding t cells))
    unsize_acts to trait_no operand h =
        let known = after operand facts in
        let st = stores_well setting number targets uniques base is_target passed known cells to.place
        (first (may_store items local_ty is_target known cells to.place) _ h) in
        let rest = second (may_store items local_ty is_target known cells to.place) _ h in
        let last = second (takes facts operand) _ rest in
        let dyn = dyn_is trait_no (option_and_then (type_at items) (box_content (ty_of items local_ty is_target
        to.place))) (first (is_dyn_of trait_no (option_and_then (type_at items)
        (box_content (ty_of items local_ty is_target to.place)))) _ last) in
        let content = inside_of (box_content (ty_of items local_ty is_target to.place)) (Ty.Dyn trait_no) dyn in
        let at = formed_at setting number targets uniques base is_target passed run w cells facts runs to
        (Ty.Boxed content.0) (boxed_is (ty_of items local_ty is_target to.place) content.0 content.1.0) in
        let f = found_by trait_no (option_and_then (type_at items) (box_content (form operand)))
        (second (is_dyn_of trait_no (option_and_then (type_at items)
        (box_content (ty_of items local_ty is_target to.place)))) _ last) in
        let inner = inside_of (box_content (form operand)) (Ty.Adt f.adt) f.is_adt in
        one_stores setting number targets uniques base is_target passed w cells facts runs
        (without to.place known) to at.end at.is_at operand (first (takes facts operand) _ rest)
        (values.impl_put setting to (values.impl_boxed setting trait_no w operand))
        (λ d v cells' value r.
        let box = box_value d inner.0 (value_form setting number targets uniques base is_target passed operand d
        (Ty.Boxed inner.0) value (boxed_is (form operand) inner.0 inner.1.0)) in (
          ap is_never at.is_ty,
          subst (λ o. FollowsOut (rels (without to.place known)) tt (values.impl_put setting to o d v)
              (λ t. free.store items local_ty to (feeding t cells')))
              (sym (ap (λ t. option_and_then (impl_of items trait_no) (adt_of (option_and_then (type_at items)
              (box_content t)))) (operand_ty_is setting number targets uniques base is_target passed run w cells
              facts runs operand)
              ∙ ap (λ o. option_and_then (impl_of items trait_no) (adt_of o)) f.is_adt ∙ f.by_impl))
              (subst (λ x. FollowsOut (rels (without to.place known)) tt (values.impl_put setting to (Some f.n) x v)
              (λ t. free.store items local_ty to (feeding t cells'))) (sym box.is_it)
              (puts setting number targets uniques base is_target passed run w cells facts runs known to at.end
              at.is_at st.sure st.changes (Box box.serial (Some f.n) box.inside) v cells'
              (object_fits at.end content.0 inner.0 trait_no f.adt f.n box.serial box.impl_no box.id
              box.inside at.is_ty content.1.1 box.of_type inner.1.1 (impl_found items trait_no f.adt f.n f.by_impl)
              box.fits) r)),
        ))
