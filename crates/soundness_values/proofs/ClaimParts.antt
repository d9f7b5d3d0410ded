-- Parts of what is claimed of a typed program: what it says of a member of a list, of what is there, and of a type that
-- is a reference.
use Rattle.std.proofs.Common.{◌≡◌, ℕ, zero, suc, ◌+◌, ◌<◌, ◌==◌, Bool, true, false, List, [], ◌∷◌, length, Option, Some, None, refl, ap, ◌∙◌, subst, arith}
use Rattle.std.specs.Prelude.{slice_get, option_and_then}
use Rattle.std.specs.Cmp.{first_so, second_so}
use Rattle.std.specs.List.{list_all}
use Rattle.std.specs.Option.{option_map_or}
use Rattle.std.proofs.lemmas.Bool.{false≢true}
use Rattle.std.proofs.lemmas.Bool.Decides.{Decides-eqb}
use Rattle.std.proofs.lemmas.Option.{none-some}
use Rattle.mir_ty.specs.declared.ty.Ty.{Ty}
use Rattle.mir_ty.specs.declared.ty.TyId.{TyId}
use Rattle.mir_ty.specs.ItemTable.{ItemTable, type_at}
use Rattle.well_typed.specs.Claim.{Claim, Holds, some, each, nothing, ◌&◌}
use Rattle.well_typed.specs.Types.{is_same, are_same, adt_in, dyn_in, reference_in, adt_of, trait_of, reference_of}
use Rattle.soundness_values.proofs.Behind.{names_it}

-- ---- lists

pub some_is : {A : Type 0} {a b : A} → Some a ≡ Some b → a ≡ b
some_is e = cc

pub all_got : {A : Type 0} (test : A → Bool) (xs : List A) (i : ℕ) (x : A) → list_all test xs ≡ true →
    slice_get xs i ≡ Some x → test x ≡ true
all_got test [] i x h e = absurd (none-some x e)
all_got test (y ∷ ys) zero x h e = subst (λ z. test z ≡ true) (some_is e) (first_so (test y) (list_all test ys) h)
all_got test (y ∷ ys) (suc i) x h e = all_got test ys i x (second_so (test y) (list_all test ys) h) e

pub each_got : {A : Type 0} (f : A → Claim) (xs : List A) (i : ℕ) (x : A) → Holds (each f xs) →
    slice_get xs i ≡ Some x → Holds (f x)
each_got f [] i x h e = absurd (none-some x e)
each_got f (y ∷ ys) zero x h e = subst (λ z. Holds (f z)) (some_is e) h.0
each_got f (y ∷ ys) (suc i) x h e = each_got f ys i x h.1 e

-- claims of the members of a table, each with its number
abbrev pub Numbered : {A : Type 0} → (ℕ → A → Claim) → ℕ → List A → Claim
Numbered f n [] = nothing
Numbered f n (x ∷ xs) = f n x & Numbered f (suc n) xs

numbered_from : {A : Type 0} (f : ℕ → A → Claim) (n : ℕ) (xs : List A) (i : ℕ) (x : A) → Holds (Numbered f n xs) →
    slice_get xs i ≡ Some x → Holds (f (n + i) x)
numbered_from f n [] i x h e = absurd (none-some x e)
numbered_from f n (y ∷ ys) zero x h e =
    let here : n ≡ n + 0 = omega arith in
    subst (λ k. Holds (f k x)) here (subst (λ z. Holds (f n z)) (some_is e) h.0)
numbered_from f n (y ∷ ys) (suc i) x h e =
    let next : suc n + i ≡ n + suc i = omega arith in
    subst (λ k. Holds (f k x)) next (numbered_from f (suc n) ys i x h.1 e)

pub numbered_got : {A : Type 0} (f : ℕ → A → Claim) (xs : List A) (i : ℕ) (x : A) → Holds (Numbered f 0 xs) →
    slice_get xs i ≡ Some x → Holds (f i x)
numbered_got f xs i x h e =
    let here : 0 + i ≡ i = omega arith in subst (λ k. Holds (f k x)) here (numbered_from f 0 xs i x h e)

-- a list has a member under each number below its length
pub found_below : {A : Type 0} (xs : List A) (i : ℕ) → i < length xs → (x : A) × (slice_get xs i ≡ Some x)
found_below [] i l = absurd (let never : ⊥ = omega arith in never)
found_below (x ∷ xs) zero l = (x, refl)
found_below (x ∷ xs) (suc i) l = found_below xs i (let less : i < length xs = omega arith in less)

-- ---- what is there

pub there_is : {A : Type 0} (o : Option A) (f : A → Claim) → Holds (some o f) → (a : A) × ((o ≡ Some a) × Holds (f a))
there_is None f h = absurd (false≢true h)
there_is (Some a) f h = (a, (refl, h))

-- ---- types

pub same_ty : (a b : TyId) → is_same a b ≡ true → a ≡ b
same_ty a b h = let same : a.0 ≡ b.0 = (Decides-eqb a.0 b.0).0 h in ap (λ n. record { 0 = n }) same

pub same_tys : (as_ bs : List TyId) → are_same as_ bs ≡ true → as_ ≡ bs
same_tys [] [] h = refl
same_tys [] (b ∷ bs) h = absurd (false≢true h)
same_tys (a ∷ as_) [] h = absurd (false≢true h)
same_tys (a ∷ as_) (b ∷ bs) h = ap (λ x. x ∷ as_) (same_ty a b (first_so (is_same a b) (are_same as_ bs) h))
    ∙ ap (λ l. b ∷ l) (same_tys as_ bs (second_so (is_same a b) (are_same as_ bs) h))

module _ (items : ItemTable) where
  pub adt_is : (id : TyId) (n : ℕ) → adt_of items id ≡ Some n → type_at items id ≡ Some (Ty.Adt n)
  adt_is id n h = by (type_at items id) h
    where
      by : (o : Option Ty) → option_and_then adt_in o ≡ Some n → o ≡ Some (Ty.Adt n)
      by None k = absurd (none-some n k)
      by (Some (Ty.Adt m)) k = ap (λ x. Some (Ty.Adt x)) (some_is k)
      by (Some other) k = absurd (none-some n k)

  pub dyn_is : (id : TyId) (n : ℕ) → trait_of items id ≡ Some n → type_at items id ≡ Some (Ty.Dyn n)
  dyn_is id n h = by (type_at items id) h
    where
      by : (o : Option Ty) → option_and_then dyn_in o ≡ Some n → o ≡ Some (Ty.Dyn n)
      by None k = absurd (none-some n k)
      by (Some (Ty.Dyn m)) k = ap (λ x. Some (Ty.Dyn x)) (some_is k)
      by (Some other) k = absurd (none-some n k)

  -- a reference to a type of which a number says what it is
  abbrev pub is_numbered : (TyId → Option ℕ) → ℕ → Bool × TyId → Bool
  is_numbered number n r = option_map_or (λ m. m == n) (number r.1) false

  pub record Refers (number : TyId → Option ℕ) (n : ℕ) (id : TyId) : Type 0 where
    pub unique : Bool
    pub to : TyId
    pub is_reference : type_at items id ≡ Some (names_it unique to)
    pub is_number : number to ≡ Some n

  pub refers_to : (number : TyId → Option ℕ) (n : ℕ) (id : TyId) →
      option_map_or (is_numbered number n) (reference_of items id) false ≡ true → Refers number n id
  refers_to number n id h = by (type_at items id) refl h
    where
      numbered : (o : Option ℕ) → option_map_or (λ m. m == n) o false ≡ true → o ≡ Some n
      numbered None k = absurd (false≢true k)
      numbered (Some m) k = let same : m ≡ n = (Decides-eqb m n).0 k in ap (λ x. Some x) same

      by : (o : Option Ty) → type_at items id ≡ o →
          option_map_or (is_numbered number n) (option_and_then reference_in o) false ≡ true → Refers number n id
      by None e k = absurd (false≢true k)
      by (Some (Ty.Shared to)) e k =
          record { unique = false; to = to; is_reference = e; is_number = numbered (number to) k }
      by (Some (Ty.Unique to)) e k =
          record { unique = true; to = to; is_reference = e; is_number = numbered (number to) k }
      by (Some other) e k = absurd (false≢true k)

  -- whether a reference is `&mut`, as the rules ask
  pub unique_so : (unique : Bool) (to id : TyId) → type_at items id ≡ Some (names_it unique to) →
      option_map_or (λ (r : Bool × TyId). r.0) (reference_of items id) false ≡ unique
  unique_so true to id e = ap (λ o. option_map_or (λ (r : Bool × TyId). r.0) (option_and_then reference_in o) false) e
  unique_so false to id e = ap (λ o. option_map_or (λ (r : Bool × TyId). r.0) (option_and_then reference_in o) false) e
