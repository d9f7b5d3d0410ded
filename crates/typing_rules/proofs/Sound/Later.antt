-- What is known of items is known of later ones.
use Rattle.std.proofs.Common.{◌≡◌, ℕ, Bool, true, false, ◌||◌, not, Option, Some, None, IsTrue, Contains, slice_get, refl, ap, sym, subst, ◌∙◌, arith}
use Rattle.std.specs.Prelude.{option_and_then, is_some}
use Rattle.std.specs.Option.{option_map_or}
use Rattle.std.proofs.lemmas.Option.{none-some, same_Some}
use Rattle.mir_ty.specs.declared.def.ClosureDef.{ClosureDef}
use Rattle.mir_ty.specs.declared.ty.Ty.{Ty}
use Rattle.mir_ty.specs.declared.ty.TyId.{TyId}
use Rattle.mir_ty.specs.Facts.{is_scalar, IsCopy, scalar, derives, tuple, array, closure, is_copy, has_drop_impl, ty_has_drop_impl, adt_has_drop_impl}
use Rattle.mir_ty.specs.ItemTable.{ItemTable, type_at}
use Rattle.mir_ty.specs.Parts.{captures_of}
use Rattle.mir_ty.proofs.LeastRelations.{is_copy-rules}
use Rattle.well_typed.specs.Types.{fits, is_never, is_never_ty, is_reference, reference_in, is_dyn, dyn_in}
use Rattle.typing_rules.specs.Places.{agrees}
use Rattle.typing_rules.specs.Promises.{Extends, IsThere, IsReady, IsAlone, IsValueType, IsKnown, AreReady}

pub extends_refl : (items : ItemTable) → Extends items items
extends_refl items = record {
  types = λ n ty h. h;
  closures = λ n def h. h;
  adts = refl;
  traits = refl;
  impls = refl;
  bodies = refl;
}

pub extends_trans : {a b c : ItemTable} → Extends a b → Extends b c → Extends a c
extends_trans p q = record {
  types = λ n ty h. q.types n ty (p.types n ty h);
  closures = λ n def h. q.closures n def (p.closures n def h);
  adts = q.adts ∙ p.adts;
  traits = q.traits ∙ p.traits;
  impls = q.impls ∙ p.impls;
  bodies = q.bodies ∙ p.bodies;
}

-- ---- options

pub some_got : {A B : Type 0} (f : A → Option B) (o : Option A) (b : B) → option_and_then f o ≡ Some b →
    (a : A) × (o ≡ Some a) × (f a ≡ Some b)
some_got f None b h = absurd (none-some b h)
some_got f (Some a) b h = (a, refl, h)

no_truth : {A : Type 0} → IsTrue false → A
no_truth h = absurd (cc)

pub passes_got : {A : Type 0} (test : A → Bool) (o : Option A) → IsTrue (option_map_or test o false) →
    (a : A) × (o ≡ Some a) × IsTrue (test a)
passes_got test None h = no_truth h
passes_got test (Some a) h = (a, refl, h)

pub passes_by : {A : Type 0} (test : A → Bool) (o : Option A) (a : A) → o ≡ Some a → IsTrue (test a) → IsTrue
    (option_map_or test o false)
passes_by test o a is h = subst (λ x. IsTrue (option_map_or test x false)) (sym is) h

pub is_some_got : {A : Type 0} (o : Option A) → IsTrue (is_some o) → (a : A) × (o ≡ Some a)
is_some_got None h = no_truth h
is_some_got (Some a) h = (a, refl)

pub is_some_by : {A : Type 0} (o : Option A) (a : A) → o ≡ Some a → IsTrue (is_some o)
is_some_by o a is = subst (λ x. IsTrue (is_some x)) (sym is) refl

-- ---- types of values

there_of : (items : ItemTable) (ty : Ty) → IsValueType items ty → IsThere items ty
there_of items (Ty.Closure n) h = h
there_of items _ h = tt

pub alone_ready : (items : ItemTable) (id : TyId) → IsAlone items id → IsReady items id
alone_ready items id h = (h.0, h.1, there_of items h.0 h.2)

no_dyn_type : (items : ItemTable) (ty : Ty) → IsValueType items ty → IsTrue (not (is_some (dyn_in ty)))
no_dyn_type items (Ty.Dyn n) h = absurd h
no_dyn_type items _ h = refl

pub alone_no_dyn : (items : ItemTable) (id : TyId) → IsAlone items id → IsTrue (not (is_dyn items id))
alone_no_dyn items id h =
    subst (λ o. IsTrue (not (is_some (option_and_then dyn_in o)))) (sym h.1) (no_dyn_type items h.0 h.2)

no_reference_type : (items : ItemTable) (ty : Ty) → IsValueType items ty → IsTrue (not (is_some (reference_in ty)))
no_reference_type items (Ty.Shared to) h = absurd h
no_reference_type items (Ty.Unique to) h = absurd h
no_reference_type items _ h = refl

pub alone_no_reference : (items : ItemTable) (id : TyId) → IsAlone items id → IsTrue (not (is_reference items id))
alone_no_reference items id h =
    subst (λ o. IsTrue (not (is_some (option_and_then reference_in o)))) (sym h.1) (no_reference_type items h.0 h.2)

value_type_of : (items : ItemTable) (ty : Ty) → IsThere items ty → IsTrue (not (is_some (dyn_in ty))) → IsTrue (not
    (is_some (reference_in ty))) → IsValueType items ty
value_type_of items (Ty.Dyn n) h a b = no_truth a
value_type_of items (Ty.Shared to) h a b = no_truth b
value_type_of items (Ty.Unique to) h a b = no_truth b
value_type_of items (Ty.Closure n) h a b = h
value_type_of items _ h a b = tt

pub alone_from : (items : ItemTable) (id : TyId) → IsReady items id → IsTrue (not (is_dyn items id)) → IsTrue (not
    (is_reference items id)) → IsAlone items id
alone_from items id h a b = (
  h.0,
  h.1,
  value_type_of items h.0 h.2 (subst (λ o. IsTrue (not (is_some (option_and_then dyn_in o)))) h.1 a) (subst
      (λ o. IsTrue (not (is_some (option_and_then reference_in o)))) h.1 b),
)

scalar_no_dyn : (ty : Ty) → IsTrue (is_scalar ty) → IsTrue (not (is_some (dyn_in ty)))
scalar_no_dyn (Ty.Dyn n) h = no_truth h
scalar_no_dyn _ h = refl

pub copy_no_dyn : (items : ItemTable) (id : TyId) → IsTrue (is_copy items id) → IsTrue (not (is_dyn items id))
copy_no_dyn items id h = by ((is_copy-rules items id).0 h)
  where
    at : (ty : Ty) → type_at items id ≡ Some ty → IsTrue (not (is_some (dyn_in ty))) → IsTrue (not (is_dyn items id))
    at ty is h = subst (λ o. IsTrue (not (is_some (option_and_then dyn_in o)))) (sym is) h

    by : IsCopy items id → IsTrue (not (is_dyn items id))
    by (scalar {ty = ty} is s) = at ty is (scalar_no_dyn ty s)
    by (derives {n = n} is found d) = at (Ty.Adt n) is refl
    by (tuple {parts = parts} is each) = at (Ty.Tuple parts) is refl
    by (array {element = element} {count = count} is one) = at (Ty.Array element count) is refl
    by (closure {n = n} is found each) = at (Ty.Closure n) is refl

-- ---- types

module _ {old new : ItemTable} (e : Extends old new) where
  pub type_later : (id : TyId) (ty : Ty) → type_at old id ≡ Some ty → type_at new id ≡ Some ty
  type_later id ty h = e.types id.0 ty h

  there_later : (ty : Ty) → IsThere old ty → IsThere new ty
  there_later (Ty.Closure n) h =
      let is = is_some_got (slice_get old.closures n) h in
      is_some_by (slice_get new.closures n) is.0 (e.closures n is.0 is.1)
  there_later _ h = tt

  pub ready_later : (id : TyId) → IsReady old id → IsReady new id
  ready_later id h = (h.0, type_later id h.0 h.1, there_later h.0 h.2)

  value_type_later : (ty : Ty) → IsValueType old ty → IsValueType new ty
  value_type_later (Ty.Dyn n) h = h
  value_type_later (Ty.Shared to) h = h
  value_type_later (Ty.Unique to) h = h
  value_type_later (Ty.Closure n) h = there_later (Ty.Closure n) h
  value_type_later _ h = tt

  pub alone_later : (id : TyId) → IsAlone old id → IsAlone new id
  alone_later id h = (h.0, type_later id h.0 h.1, value_type_later h.0 h.2)

  pub known_later : (id : TyId) → IsKnown old id → IsKnown new id
  known_later id h = (h.0, type_later id h.0 h.1)

  pub same_known : {A : Type 0} (f : Ty → Option A) (id : TyId) → IsKnown old id → option_and_then f (type_at new id) ≡
      option_and_then f (type_at old id)
  same_known f id h = ap (option_and_then f) (type_later id h.0 h.1 ∙ sym h.1)

  pub same_type : (id : TyId) → IsReady old id → type_at new id ≡ type_at old id
  same_type id h = type_later id h.0 h.1 ∙ sym h.1

  pub in_later : {A : Type 0} (f : Ty → Option A) (id : TyId) (a : A) → option_and_then f (type_at old id) ≡ Some a →
      option_and_then f (type_at new id) ≡ Some a
  in_later f id a h =
      let known = some_got f (type_at old id) a h in ap (option_and_then f) (type_later id known.0 known.1) ∙ known.2

  pub is_later : (test : Ty → Bool) (id : TyId) → IsTrue (option_map_or test (type_at old id) false) → IsTrue
      (option_map_or test (type_at new id) false)
  is_later test id h =
      let known = passes_got test (type_at old id) h in
      passes_by test (type_at new id) known.0 (type_later id known.0 known.1) known.2

  or_later : (a b c : Bool) → (IsTrue b → IsTrue c) → IsTrue (a || b) → IsTrue (a || c)
  or_later true b c more h = refl
  or_later false b c more h = more h

  pub fits_later : (expected ty : TyId) → IsTrue (fits old expected ty) → IsTrue (fits new expected ty)
  fits_later expected ty h = or_later _ (is_never old ty) (is_never new ty) (is_later is_never_ty ty) h

  pub agrees_later : (expected : Option TyId) (ty : TyId) → IsTrue (agrees old expected ty) → IsTrue (agrees new expected ty)
  agrees_later None ty h = refl
  agrees_later (Some expected) ty h = fits_later expected ty h

  pub same_in : {A : Type 0} (f : Ty → Option A) (id : TyId) → IsReady old id → option_and_then f (type_at new id) ≡
      option_and_then f (type_at old id)
  same_in f id h = ap (option_and_then f) (same_type id h)

  pub same_is : (test : Ty → Bool) (id : TyId) → IsReady old id → option_map_or test (type_at new id) false ≡
      option_map_or test (type_at old id) false
  same_is test id h = ap (λ o. option_map_or test o false) (same_type id h)

  pub same_reference : (id : TyId) → IsReady old id → is_reference new id ≡ is_reference old id
  same_reference id h = ap is_some (same_in reference_in id h)

  pub same_dyn : (id : TyId) → IsReady old id → is_dyn new id ≡ is_dyn old id
  same_dyn id h = ap is_some (same_in dyn_in id h)

  drop_impl_by : (ty : Ty) → ty_has_drop_impl new ty ≡ ty_has_drop_impl old ty
  drop_impl_by (Ty.Adt n) = ap (λ adts. adt_has_drop_impl (slice_get adts n)) e.adts
  drop_impl_by _ = refl

  pub same_drop_impl : (id : TyId) → IsReady old id → has_drop_impl new id ≡ has_drop_impl old id
  same_drop_impl id h =
      ap (λ o. option_map_or (ty_has_drop_impl new) o false) (type_later id h.0 h.1) ∙
      (drop_impl_by h.0 ∙ ap (λ o. option_map_or (ty_has_drop_impl old) o false) (sym h.1))

  -- ---- Copy

  copy_on : (id : TyId) → IsCopy old id → IsCopy new id
  copy_on id (scalar {ty = ty} is h) = scalar (type_later id ty is) h
  copy_on id (derives {n = n} {adt = adt} is at h) =
      derives (type_later id (Ty.Adt n) is) (ap (λ adts. slice_get adts n) e.adts ∙ at) h
  copy_on id (tuple {parts = parts} is each) =
      tuple (type_later id (Ty.Tuple parts) is) (λ part has. copy_on part (each part has))
  copy_on id (array {element = element} {count = count} is one) =
      array (type_later id (Ty.Array element count) is) (copy_on element one)
  copy_on id (closure {n = n} {def = def} is at each) =
      closure (type_later id (Ty.Closure n) is) (e.closures n def at) (λ part has. copy_on part (each part has))

  abbrev Held : Type 0
  Held = AreReady old

  is_type : (id : TyId) (ty : Ty) → IsReady old id → type_at new id ≡ Some ty → type_at old id ≡ Some ty
  is_type id ty h is = h.1 ∙ (sym (type_later id h.0 h.1) ∙ is)

  there_at : (id : TyId) (n : ℕ) → IsReady old id → type_at old id ≡ Some (Ty.Closure n) → IsTrue (is_some (slice_get
      old.closures n))
  there_at id n h is = subst (IsThere old) (same_Some h.0 (Ty.Closure n) (sym h.1 ∙ is)) h.2

  copy_back : Held → (id : TyId) → IsReady old id → IsCopy new id → IsCopy old id
  copy_back all id h (scalar {ty = ty} is s) = scalar (is_type id ty h is) s
  copy_back all id h (derives {n = n} {adt = adt} is at d) =
      derives (is_type id (Ty.Adt n) h is) (ap (λ adts. slice_get adts n) (sym e.adts) ∙ at) d
  copy_back all id h (tuple {parts = parts} is each) =
      let was = is_type id (Ty.Tuple parts) h is in
      tuple was (λ part has. copy_back all part (alone_ready old part (all.held id part (Ty.Tuple parts) was has))
      (each part has))
  copy_back all id h (array {element = element} {count = count} is one) =
      let was = is_type id (Ty.Array element count) h is in
      array was (copy_back all element (alone_ready old element (all.held id element (Ty.Array element count) was (
        0,
        omega arith,
        refl,
      ))) one)
  copy_back all id h (closure {n = n} {def = def} is at each) =
      let was = is_type id (Ty.Closure n) h is in
      let here_ = is_some_got (slice_get old.closures n) (there_at id n h was) in
      let same : here_.0 ≡ def = same_Some here_.0 def (sym (e.closures n here_.0 here_.1) ∙ at) in
      let old_at : slice_get old.closures n ≡ Some def = here_.1 ∙ ap Some same in
      closure was old_at (λ part has. copy_back all part (alone_ready old part (all.held id part (Ty.Closure n) was
      (held_at n def part old_at has))) (each part has))
    where
      held_at : (n : ℕ) (def : ClosureDef) (part : TyId) → slice_get old.closures n ≡ Some def → Contains
          def.captures part → Contains (captures_of (slice_get old.closures n)) part
      held_at n def part at has = subst (λ o. Contains (captures_of o) part) (sym at) has

  both_ways : (a b : Bool) → (IsTrue a → IsTrue b) → (IsTrue b → IsTrue a) → a ≡ b
  both_ways true b f g = sym (f refl)
  both_ways false true f g = g refl
  both_ways false false f g = refl

  pub same_copy : AreReady old → (id : TyId) → IsReady old id → is_copy new id ≡ is_copy old id
  same_copy all id h =
      both_ways (is_copy new id) (is_copy old id)
      (λ c. (is_copy-rules old id).1 (copy_back all id h ((is_copy-rules new id).0 c)))
      (λ c. (is_copy-rules new id).1 (copy_on id ((is_copy-rules old id).0 c)))
