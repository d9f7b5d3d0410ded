-- The test of the order of types tells what the definition on graphs says, and a type that is interned keeps it.
use Rattle.std.proofs.Common.{◌≡◌, ℕ, suc, ◌+◌, ◌<◌, nat_lt, true, List, [], ◌∷◌, ◌++◌, length, Some, slice_get, All, refl, subst, arith}
use Rattle.std.specs.List.{list_all}
use Rattle.std.proofs.lemmas.Bool.{lt-ltb, ltb-true}
use Rattle.std.proofs.lemmas.List.Elements.{All-nil, All-cons, All-head, All-tail}
use Rattle.mir_ty.specs.declared.ty.Ty.{Ty}
use Rattle.mir_ty.specs.declared.ty.TyId.{TyId}
use Rattle.mir_ty.specs.AreItems.{types_in}
use Rattle.lower_laws.specs.Lowerable.{are_parts_first}
use Rattle.lower_laws.specs.Laws.{OrderIsTested, InternedStandsLast}
use Rattle.lower_laws.proofs.Known.{and_first, and_second, both}
use Rattle.lower_laws.proofs.Types.{first_at}

below : (n : ℕ) (ids : List TyId) → list_all (λ (id : TyId). nat_lt id.0 n) ids ≡ true → All (λ (id : TyId). id.0 < n) ids
below n [] h = All-nil (λ (id : TyId). id.0 < n)
below n (id ∷ ids) h = All-cons (λ (id : TyId). id.0 < n) id ids (ltb-true id.0 n (and_first _ _ h)) (below n ids (and_second (nat_lt id.0 n) _ h))

tested : (n : ℕ) (ids : List TyId) → All (λ (id : TyId). id.0 < n) ids → list_all (λ (id : TyId). nat_lt id.0 n) ids ≡ true
tested n [] h = refl
tested n (id ∷ ids) h = both (nat_lt id.0 n) _ (lt-ltb id.0 n (All-head (λ (id : TyId). id.0 < n) id ids h)) (tested n ids (All-tail (λ (id : TyId). id.0 < n) id ids h))

all_first : (n : ℕ) (tys : List Ty) → ((i : ℕ) (ty : Ty) → slice_get tys i ≡ Some ty → All (λ (id : TyId). id.0 < n + i) (types_in ty)) → are_parts_first n tys ≡ true
all_first n [] h = refl
all_first n (ty ∷ tys) h =
    let here : n + 0 ≡ n = omega arith in
    both _ _ (tested n (types_in ty) (subst (λ (k : ℕ). All (λ (id : TyId). id.0 < k) (types_in ty)) here (h 0 ty refl)))
    (all_first (suc n) tys (λ i t e. let same : n + suc i ≡ suc n + i = omega arith in subst (λ (k : ℕ). All (λ (id : TyId). id.0 < k) (types_in t)) same (h (suc i) t e)))

pub order_is_tested : OrderIsTested
order_is_tested types = (
  λ h n ty e. let same : 0 + n ≡ n = omega arith in below n (types_in ty) (subst (λ (k : ℕ). list_all (λ (id : TyId). nat_lt id.0 k) (types_in ty) ≡ true) same (first_at types 0 n ty h e)),
  λ h. all_first 0 types (λ i ty e. let same : i ≡ 0 + i = omega arith in subst (λ (k : ℕ). All (λ (id : TyId). id.0 < k) (types_in ty)) same (h i ty e)),
)

last_too : (n : ℕ) (tys : List Ty) (ty : Ty) → are_parts_first n tys ≡ true → list_all (λ (id : TyId). nat_lt id.0 (n + length tys)) (types_in ty) ≡ true → are_parts_first n (tys ++ ty ∷ []) ≡ true
last_too n [] ty h k = let same : n + 0 ≡ n = omega arith in both _ true (subst (λ (m : ℕ). list_all (λ (id : TyId). nat_lt id.0 m) (types_in ty) ≡ true) same k) refl
last_too n (t ∷ tys) ty h k =
    let same : n + length (t ∷ tys) ≡ suc n + length tys = omega arith in
    both _ _ (and_first _ _ h) (last_too (suc n) tys ty (and_second (list_all (λ (id : TyId). nat_lt id.0 n) (types_in t)) _ h) (subst (λ (m : ℕ). list_all (λ (id : TyId). nat_lt id.0 m) (types_in ty) ≡ true) same k))

pub interned_stands_last : InternedStandsLast
interned_stands_last types ty h k = last_too 0 types ty h (tested (0 + length types) (types_in ty) (let same : length types ≡ 0 + length types = omega arith in subst (λ (m : ℕ). All (λ (id : TyId). id.0 < m) (types_in ty)) same k))
