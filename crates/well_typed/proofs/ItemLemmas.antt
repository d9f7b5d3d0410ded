-- What well typed items are: no type holds itself but through a box, equal types have one number, and `bool` and
-- `()` are
-- among the types.
use Rattle.std.proofs.Common.{◌≡◌, ℕ, zero, suc, ◌<◌, Bool, true, false, ◌||◌, not, ◌==◌, List, [], ◌∷◌, length, slice_index_or, slice_get, Some, IsTrue, Contains, ◌⊎◌, inl, inr, refl, sym, ap, subst, arith}
use Rattle.std.proofs.lemmas.Grind.{common_steps}
use Rattle.std.proofs.lemmas.Option.{none-some, same_Some}
use Rattle.std.specs.List.{list_all, list_any}
use Rattle.std.specs.Option.{option_map_or}
use Rattle.mir_base.specs.declared.int_kind.IntKind.{IntKind}
use Rattle.mir_ty.specs.declared.ty.Ty.{Ty}
use Rattle.mir_ty.specs.declared.ty.TyId.{TyId}
use Rattle.mir_ty.specs.AreItems.{AreDistinct}
use Rattle.mir_ty.specs.Facts.{in_rounds}
use Rattle.mir_ty.specs.ItemTable.{ItemTable, type_at}
use Rattle.mir_ty.specs.Parts.{held_by, Holds, at_once, within, NoneHoldsItself}
use Rattle.typed_tree.specs.Tree.{ProgramTree, IsProgram}
use Rattle.well_typed.specs.Items.{finite_rule, is_finite, is_good_type, is_well_made, is_equal, are_distinct_types}
use Rattle.well_typed.specs.Program.{WellTyped}
use Rattle.well_typed.specs.Types.{is_same, are_same}
use Rattle.well_typed.proofs.ClaimLemmas.{true_left, true_right, and_true}

-- what passes for all passes for each
all_at : {A : Type 0} (p : A → Bool) (xs : List A) (k : ℕ) (x : A) → IsTrue (list_all p xs) → k < length xs →
    slice_index_or xs k x ≡ x → IsTrue (p x)
all_at p [] k x h below is = absurd (omega (arith, below))
all_at p (y ∷ ys) zero x h below is = subst (λ z. IsTrue (p z)) is (true_left (p y) (list_all p ys) h)
all_at p (y ∷ ys) (suc k) x h below is = all_at p ys k x (true_right (p y) (list_all p ys) h) (omega (arith, below)) is

pub all_of : {A : Type 0} (p : A → Bool) (xs : List A) (x : A) → IsTrue (list_all p xs) → Contains xs x → IsTrue (p x)
all_of p xs x h c = all_at p xs c.0 x h c.1 c.2

all_got : {A : Type 0} (p : A → Bool) (xs : List A) (k : ℕ) (x : A) → IsTrue (list_all p xs) → slice_get xs k ≡ Some
    x → IsTrue (p x)
all_got p [] k x h is = absurd (none-some x is)
all_got p (y ∷ ys) zero x h is = subst (λ z. IsTrue (p z)) (same_Some y x is) (true_left (p y) (list_all p ys) h)
all_got p (y ∷ ys) (suc k) x h is = all_got p ys k x (true_right (p y) (list_all p ys) h) is

-- ---- no type holds itself

module _ (items : ItemTable) where
  -- the first step of a way from a type to one that it holds
  abbrev First : TyId → TyId → Type 0
  First a b =
      (h : TyId) × (ty : Ty) × (type_at items a ≡ Some ty) × Contains (held_by items ty) h × ((h ≡ b) ⊎ Holds items h b)

  first_step : {a b : TyId} → Holds items a b → First a b
  first_step {a} {b} (at_once {ty = ty} is has) = (b, ty, is, has, inl refl)
  first_step {a} {b} (within {b = m} p q) = further (first_step p)
    where
      further : First a m → First a b
      further (h, ty, is, has, inl same) = (h, ty, is, has, inr (subst (λ x. Holds items x b) (sym same) q))
      further (h, ty, is, has, inr more) = (h, ty, is, has, inr (within more q))

  -- a type that holds itself holds one at once that holds itself
  turned : {a : TyId} → Holds items a a → (h : TyId) × (ty : Ty) × (type_at items a ≡ Some ty) × Contains (held_by
      items ty) h × Holds items h h
  turned {a} p = by (first_step p)
    where
      by : First a a → (h : TyId) × (ty : Ty) × (type_at items a ≡ Some ty) × Contains (held_by items ty) h × Holds
          items h h
      by (h, ty, is, has, inl same) = (h, ty, is, has, subst (λ x. Holds items x x) (sym same) p)
      by (h, ty, is, has, inr more) = (h, ty, is, has, within more (at_once is has))

  finite_no : (n : ℕ) (a : TyId) → IsTrue (in_rounds items.types (finite_rule items) n a) → ¬ Holds items a a
  finite_no zero a h p = absurd (cc)
  finite_no (suc n) a h p =
      let t = turned p in
      let shown : IsTrue (list_all (in_rounds items.types (finite_rule items) n) (held_by items t.1)) =
      subst (λ o. IsTrue (option_map_or (finite_rule items (in_rounds items.types (finite_rule items) n)) o
      false)) t.2 h in
      finite_no n t.0 (all_of _ (held_by items t.1) t.0 shown t.3) t.4

  pub none_holds_itself : IsTrue (list_all (is_good_type items) items.types) → NoneHoldsItself items
  none_holds_itself all a p =
      let t = turned p in
      let good : IsTrue (is_good_type items t.1) = all_got (is_good_type items) items.types a.0 t.1 all t.2 in
      let finite : IsTrue (is_finite items t.0) =
      all_of (is_finite items) (held_by items t.1) t.0 (true_right (is_well_made items t.1) _ good) t.3 in
      finite_no (length items.types) t.0 finite t.4

-- ---- `bool` and `()`

any_has : {A : Type 0} (p : A → Bool) (xs : List A) → IsTrue (list_any p xs) → (x : A) × Contains xs x × IsTrue (p x)
any_has p [] h = absurd (cc)
any_has p (y ∷ ys) h = by (p y) refl (any_has p ys)
  where
    by : (b : Bool) → p y ≡ b → (IsTrue (list_any p ys) → (x : _) × Contains ys x × IsTrue (p x)) → (x : _) ×
        Contains (y ∷ ys) x × IsTrue (p x)
    by true e later = (y, (0, omega arith, refl), e)
    by false e later =
        let found = later (subst (λ b. IsTrue (b || list_any p ys)) e h) in
        (found.0, (suc found.1.0, omega (arith, found.1.1), found.1.2), found.2)

bool_is : (ty : Ty) → IsTrue (is_equal Ty.Bool ty) → ty ≡ Ty.Bool
bool_is Ty.Bool h = refl
bool_is _ h = absurd (cc)

unit_is : (ty : Ty) → IsTrue (is_equal Ty.Unit ty) → ty ≡ Ty.Unit
unit_is Ty.Unit h = refl
unit_is _ h = absurd (cc)

pub is_program : (p : ProgramTree) → WellTyped p → IsProgram p
is_program p h =
    let b = any_has (is_equal Ty.Bool) p.items.types h.0.0.1.1.0 in
    let u = any_has (is_equal Ty.Unit) p.items.types h.0.0.1.1.1 in
    record {
      has_bool = subst (Contains p.items.types) (bool_is b.0 b.2) b.1;
      has_unit = subst (Contains p.items.types) (unit_is u.0 u.2) u.1;
    }

pub are_finite : (p : ProgramTree) → WellTyped p → NoneHoldsItself p.items
are_finite p h = none_holds_itself p.items h.0.0.1.0

-- ---- equal types have one number

same_self : (a : TyId) → IsTrue (is_same a a)
same_self a = grind (arith, common_steps)

are_same_self : (as_ : List TyId) → IsTrue (are_same as_ as_)
are_same_self [] = refl
are_same_self (a ∷ as_) = and_true (is_same a a) (are_same as_ as_) (same_self a) (are_same_self as_)

number_self : (n : ℕ) → IsTrue (n == n)
number_self n = grind (arith, common_steps)

pub equal_self : (ty : Ty) → IsTrue (is_equal ty ty)
equal_self (Ty.Int IntKind.I32) = refl
equal_self (Ty.Int IntKind.I64) = refl
equal_self (Ty.Int IntKind.U32) = refl
equal_self (Ty.Int IntKind.U64) = refl
equal_self (Ty.Int IntKind.Usize) = refl
equal_self Ty.Bool = refl
equal_self Ty.Unit = refl
equal_self Ty.Never = refl
equal_self (Ty.Adt n) = number_self n
equal_self (Ty.Tuple parts) = are_same_self parts
equal_self (Ty.Array element count) =
    and_true (is_same element element) (count == count) (same_self element) (number_self count)
equal_self (Ty.Boxed content) = same_self content
equal_self (Ty.Dyn n) = number_self n
equal_self (Ty.Shared to) = same_self to
equal_self (Ty.Unique to) = same_self to
equal_self (Ty.Closure n) = number_self n

-- what is in a list passes a test that it passes
any_at : (ty : Ty) (tys : List Ty) (k : ℕ) → slice_get tys k ≡ Some ty → IsTrue (list_any (is_equal ty) tys)
any_at ty [] k is = absurd (none-some ty is)
any_at ty (t ∷ ts) zero is =
    subst (λ u. IsTrue (is_equal ty u || list_any (is_equal ty) ts)) (sym (same_Some t ty is)) (or_left (is_equal ty
    ty) (list_any (is_equal ty) ts) (equal_self ty))
  where
    or_left : (a b : Bool) → IsTrue a → IsTrue (a || b)
    or_left true b h = refl
    or_left false b h = absurd (cc)
any_at ty (t ∷ ts) (suc k) is = or_right (is_equal ty t) (list_any (is_equal ty) ts) (any_at ty ts k is)
  where
    or_right : (a b : Bool) → IsTrue b → IsTrue (a || b)
    or_right true b h = refl
    or_right false b h = h

not_both : (b : Bool) → IsTrue b → IsTrue (not b) → ⊥
not_both true h n = absurd (cc)
not_both false h n = absurd (cc)

distinct : (tys : List Ty) → IsTrue (are_distinct_types tys) → (i j : ℕ) (ty : Ty) → slice_get tys i ≡ Some ty →
    slice_get tys j ≡ Some ty → i ≡ j
distinct [] h i j ty a b = absurd (none-some ty a)
distinct (t ∷ ts) h zero zero ty a b = refl
distinct (t ∷ ts) h zero (suc j) ty a b =
    absurd (not_both _ (subst (λ u. IsTrue (list_any (is_equal u) ts)) (sym (same_Some t ty a)) (any_at ty ts j b))
    (true_left (not (list_any (is_equal t) ts)) (are_distinct_types ts) h))
distinct (t ∷ ts) h (suc i) zero ty a b =
    absurd (not_both _ (subst (λ u. IsTrue (list_any (is_equal u) ts)) (sym (same_Some t ty b)) (any_at ty ts i a))
    (true_left (not (list_any (is_equal t) ts)) (are_distinct_types ts) h))
distinct (t ∷ ts) h (suc i) (suc j) ty a b =
    ap suc (distinct ts (true_right (not (list_any (is_equal t) ts)) (are_distinct_types ts) h) i j ty a b)

pub are_distinct : (p : ProgramTree) → WellTyped p → AreDistinct p.items.types
are_distinct p h = distinct p.items.types h.0.0.0
