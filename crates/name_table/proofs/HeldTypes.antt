-- What holds a part, shown by rounds over the types, or ruled out by an order.
use Rattle.std.proofs.Common.{◌≡◌, ℕ, Bool, true, false, not, ◌||◌, nat_lt, List, [], ◌∷◌, length, slice_get, Option, Some, inl, inr, refl, ap, sym, subst, ◌∙◌, arith}
use Rattle.std.specs.Prelude.{flat_map, slice_index_or}
use Rattle.std.specs.List.{list_any}
use Rattle.std.proofs.lemmas.Bool.{eqb-true, false≢true, or_left, or_right, or_cases}
use Rattle.std.proofs.lemmas.Bool.Decides.{nat_tests}
use Rattle.std.proofs.lemmas.List.Folds.{list_any-append}
use Rattle.mir_ty.specs.declared.adt.Adt.{Adt}
use Rattle.mir_ty.specs.declared.adt.Variant.{Variant}
use Rattle.mir_ty.specs.declared.ty.Ty.{Ty}
use Rattle.mir_ty.specs.declared.ty.TyId.{TyId}
use Rattle.mir_ty.specs.Facts.{in_rounds}
use Rattle.mir_ty.specs.ItemTable.{ItemTable}
use Rattle.mir_ty.specs.Parts.{held_by, variants_of, captures_of}
use Rattle.mir_ty.proofs.FixedPoint.{IsGrowing, IsWithin, in_rounds-least, by_rule-shown}
use Rattle.well_typed.specs.Types.{is_same}
use Rattle.typing_rules.specs.Collected.{holds}
use Rattle.name_table.specs.Holding.{hold_rule, place_of, IsBehind, IsOrder}

-- where a first test passes whenever a second does, it passes of some
pub any_grows : {X : Type 0} (P Q : X → Bool) → ((x : X) → P x ≡ true → Q x ≡ true) → (xs : List X) → list_any P xs ≡ true → list_any Q xs ≡ true
any_grows P Q sub [] h = h
any_grows P Q sub (x ∷ xs) h =
    elim (or_cases (P x) (list_any P xs) h) [
      | inl here ↦ or_left (Q x) (list_any Q xs) (sub x here)
      | inr later ↦ or_right (Q x) (list_any Q xs) (any_grows P Q sub xs later)
    ]

held_more : (part : TyId) (P Q : TyId → Bool) → IsWithin P Q → (h : TyId) → (is_same h part || P h) ≡ true → (is_same h part || Q h) ≡ true
held_more part P Q sub h is =
    elim (or_cases (is_same h part) (P h) is) [
      | inl here ↦ or_left (is_same h part) (Q h) here
      | inr later ↦ or_right (is_same h part) (Q h) (sub h later)
    ]

pub hold_growing : (items : ItemTable) (part : TyId) → IsGrowing (hold_rule items part)
hold_growing items part = record {
  grows = λ P Q sub ty h. any_grows (λ h. is_same h part || P h) (λ h. is_same h part || Q h) (held_more part P Q sub) (held_by items ty) h;
}

-- ---- what a struct or an enum holds

any_of_fields : {X Y : Type 0} (p : Y → Bool) (f : X → List Y) (xs : List X) → list_any p (flat_map f xs) ≡ list_any (λ x. list_any p (f x)) xs
any_of_fields p f [] = refl
any_of_fields p f (x ∷ xs) = list_any-append p (f x) (flat_map f xs) ∙ ap (λ b. list_any p (f x) || b) (any_of_fields p f xs)

pub held_by_adt : (items : ItemTable) (p : TyId → Bool) (n : ℕ) (ty : Ty) (adt : Adt) (variants : List Variant) (answer : Bool) →
    ty ≡ Ty.Adt n → Some adt ≡ slice_get items.adts n → variants ≡ adt.variants → answer ≡ list_any (λ (v : Variant). list_any p v.fields) variants →
    answer ≡ list_any p (held_by items ty)
held_by_adt items p n ty adt variants answer is at same any =
    any ∙ ap (list_any (λ (v : Variant). list_any p v.fields)) same ∙ sym (any_of_fields p (λ (v : Variant). v.fields) adt.variants)
    ∙ ap (λ (o : Option Adt). list_any p (flat_map (λ (v : Variant). v.fields) (variants_of o))) at
    ∙ sym (ap (λ (t : Ty). list_any p (held_by items t)) is)

-- ---- an order

module _ (items : ItemTable) (order : List ℕ) (is_order : IsOrder items order) (a : TyId) (is_behind : IsBehind items order a) where
  -- a type does not stand before this one
  abbrev behind : TyId → Bool
  behind id = not (nat_lt (place_of order id) (place_of order a))

  past_one : (h i k : ℕ) → not (nat_lt h k) ≡ true → not (nat_lt i k) ≡ false → nat_lt i h ≡ true
  past_one h i k x y = grind (arith, nat_tests)

  behind_self : (k : ℕ) → not (nat_lt k k) ≡ true
  behind_self k = grind (arith, nat_tests)

  same_place : (h : TyId) → is_same h a ≡ true → place_of order h ≡ place_of order a
  same_place h is = ap (λ n. slice_index_or order n 0) (eqb-true h.0 a.0 is)

  held_behind : (h : TyId) → (is_same h a || behind h) ≡ true → behind h ≡ true
  held_behind h is =
      elim (or_cases (is_same h a) (behind h) is) [
        | inl here ↦ ap (λ n. not (nat_lt n (place_of order a))) (same_place h here) ∙ behind_self (place_of order a)
        | inr later ↦ later
      ]

  closed : (id : TyId) (ty : Ty) → slice_get items.types id.0 ≡ Some ty → hold_rule items a behind ty ≡ true → behind id ≡ true
  closed id ty at h = by (behind id) refl
    where
      by : (b : Bool) → behind id ≡ b → b ≡ true
      by true is = refl
      by false is =
          absurd (false≢true (sym (is_order id ty at)
          ∙ any_grows (λ h. is_same h a || behind h) (λ h. nat_lt (place_of order id) (place_of order h))
          (λ x met. past_one (place_of order x) (place_of order id) (place_of order a) (held_behind x met) is) (held_by items ty) h))

  all_behind : (k : ℕ) → IsWithin (in_rounds items.types (hold_rule items a) k) behind
  all_behind k = in_rounds-least items.types (hold_rule items a) (hold_growing items a) behind closed k

  not_held : (b : Bool) → holds items a a ≡ b → b ≡ false
  not_held false is = refl
  not_held true is =
      let (ty, at, shown) = by_rule-shown items.types (hold_rule items a) (hold_growing items a) a is in
      absurd (false≢true (sym (is_behind ty at)
      ∙ any_grows (λ h. is_same h a || holds items a h) behind
      (λ x met. held_behind x (either x met)) (held_by items ty) shown))
    where
      either : (x : TyId) → (is_same x a || holds items a x) ≡ true → (is_same x a || behind x) ≡ true
      either x met =
          elim (or_cases (is_same x a) (holds items a x) met) [
            | inl here ↦ or_left (is_same x a) (behind x) here
            | inr later ↦ or_right (is_same x a) (behind x) (all_behind (length items.types) x later)
          ]

  -- what stands behind all that it holds does not hold itself
  pub none_held : holds items a a ≡ false
  none_held = not_held (holds items a a) refl

-- where all have one place, none stands before another
pub no_order : (items : ItemTable) → IsOrder items []
no_order items id ty at = none (held_by items ty)
  where
    none : (xs : List TyId) → list_any (λ h. nat_lt (place_of [] id) (place_of [] h)) xs ≡ false
    none [] = refl
    none (x ∷ xs) = none xs

-- ---- more types

-- more types, and the same structs, enums and closures
pub record Grows (i j : ItemTable) : Type 0 where
  pub types : (id : TyId) (ty : Ty) → slice_get i.types id.0 ≡ Some ty → slice_get j.types id.0 ≡ Some ty
  pub adts : i.adts ≡ j.adts
  pub closures : i.closures ≡ j.closures

pub grows_self : (i : ItemTable) → Grows i i
grows_self i = record { types = λ id ty h. h; adts = refl; closures = refl }

pub grows_on : (i j k : ItemTable) → Grows i j → Grows j k → Grows i k
grows_on i j k g h =
    record { types = λ id ty is. h.types id ty (g.types id ty is); adts = g.adts ∙ h.adts; closures = g.closures ∙ h.closures }

held_later : (i j : ItemTable) → Grows i j → (ty : Ty) → held_by i ty ≡ held_by j ty
held_later i j g (Ty.Adt n) = ap (λ adts. flat_map (λ (v : Variant). v.fields) (variants_of (slice_get adts n))) g.adts
held_later i j g (Ty.Closure n) = ap (λ closures. captures_of (slice_get closures n)) g.closures
held_later i j g (Ty.Tuple parts) = refl
held_later i j g (Ty.Array element count) = refl
held_later i j g _ = refl

-- an order of more types is one of these
pub order_before : (i j : ItemTable) (order : List ℕ) → Grows i j → IsOrder j order → IsOrder i order
order_before i j order g is id ty at =
    ap (list_any (λ h. nat_lt (place_of order id) (place_of order h))) (held_later i j g ty) ∙ is id ty (g.types id ty at)
