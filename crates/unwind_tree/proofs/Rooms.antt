-- Scopes with room, as one of them changes.
use Rattle.std.proofs.Common.{◌≡◌, ◌∙◌, ◌+◌, ◌<◌, ◌≤◌, ◌==◌, ℕ, zero, suc, nat_lt, Bool, true, false, List, [], ◌∷◌, ◌++◌, length, take, Some, slice_set, slice_get, refl, sym, ap, subst, arith, if◌then◌else◌}
use Rattle.std.proofs.lemmas.List.{take-take}
use Rattle.std.proofs.lemmas.Option.{none-some}
use Rattle.std.proofs.lemmas.Bool.Decides.{nat_tests}
use Rattle.unwind_tree.specs.Rooms.{seen, seen_all, goes_into, going, awaited, room_of, IsRoomy}
use Rattle.unwind_tree.specs.Trees.{OpenScope, changed_at}
use Rattle.unwind_tree.specs.declared.scope.Pending.{Pending}
use Rattle.unwind_tree.specs.declared.scope.Scope.{Scope}

pub some_same : {A : Type 0} (x y : A) → Some x ≡ Some y → x ≡ y
some_same x y e = cc

pub going-append : (d : ℕ) (ps qs : List Pending) → going d (ps ++ qs) ≡ going d ps + going d qs
going-append d [] qs = omega arith
going-append d (p ∷ ps) qs = let rest = going-append d ps qs in omega arith

-- what waits for a scope, as one of the scopes changes
pub awaited-set : (d n : ℕ) (S : List Scope) (x y : Scope) → slice_get S n ≡ Some x →
    awaited d (slice_set S n y) + going d x.pending.items ≡ awaited d S + going d y.pending.items
awaited-set d n [] x y is = absurd (none-some _ is)
awaited-set d zero (s ∷ S) x y is =
    let same : going d s.pending.items ≡ going d x.pending.items = ap (λ (s : Scope). going d s.pending.items) (some_same s x is) in
    omega arith
awaited-set d (suc n) (s ∷ S) x y is = let rest = awaited-set d n S x y is in omega arith

pub room-set : (d n : ℕ) (S : List Scope) (y : Scope) → room_of n S ≤ y.entries.room → room_of d S ≤ room_of d (slice_set S n y)
room-set d n [] y h = omega arith
room-set zero zero (s ∷ S) y h = h
room-set (suc d) zero (s ∷ S) y h = omega arith
room-set zero (suc n) (s ∷ S) y h = omega arith
room-set (suc d) (suc n) (s ∷ S) y h = room-set d n S y h

abbrev one_at : ℕ → ℕ → ℕ
one_at n d = if n == d then 1 else 0

one-suc : (n d : ℕ) → one_at (suc n) (suc d) ≡ one_at n d
one-suc n d = ap (λ (b : Bool). if b then 1 else 0) (same (n == d) refl)
  where
    same : (b : Bool) → (n == d) ≡ b → (suc n == suc d) ≡ (n == d)
    same true e = let equal : (suc n == suc d) ≡ true = grind (arith, nat_tests) in equal ∙ sym e
    same false e = let other : (suc n == suc d) ≡ false = grind (arith, nat_tests) in other ∙ sym e

pub one_here : (n : ℕ) → one_at n n ≡ 1
one_here n =
    let same : (n == n) ≡ true = grind (arith, nat_tests) in
    ap (λ (b : Bool). if b then 1 else 0) same

pub one_elsewhere : (n d : ℕ) → n < d → one_at n d ≡ 0
one_elsewhere n d h =
    let other : (n == d) ≡ false = grind (arith, nat_tests) in
    ap (λ (b : Bool). if b then 1 else 0) other

one_behind : (d : ℕ) → one_at zero (suc d) ≡ 0
one_behind d = one_elsewhere zero (suc d) (omega arith)

one_before : (n : ℕ) → one_at (suc n) zero ≡ 0
one_before n =
    let other : (suc n == zero) ≡ false = grind (arith, nat_tests) in
    ap (λ (b : Bool). if b then 1 else 0) other

pub room-more : (d n : ℕ) (S : List Scope) (y : Scope) → n < length S → room_of n S + 1 ≤ y.entries.room → room_of d S + one_at n d ≤ room_of d (slice_set S n y)
room-more d n [] y less h = absurd (let never : ⊥ = omega arith in never)
room-more zero zero (s ∷ S) y less h = let one = one_here zero in omega arith
room-more (suc d) zero (s ∷ S) y less h = let none = one_behind d in omega arith
room-more zero (suc n) (s ∷ S) y less h = let none = one_before n in omega arith
room-more (suc d) (suc n) (s ∷ S) y less h =
    let rest = room-more d n S y (omega arith) h in let same = one-suc n d in omega arith

pub room-less : (d n : ℕ) (S : List Scope) (y : Scope) → room_of n S ≤ y.entries.room + 1 → room_of d S ≤ room_of d (slice_set S n y) + one_at n d
room-less d n [] y h = omega arith
room-less zero zero (s ∷ S) y h = let one = one_here zero in omega arith
room-less (suc d) zero (s ∷ S) y h = omega arith
room-less zero (suc n) (s ∷ S) y h = omega arith
room-less (suc d) (suc n) (s ∷ S) y h = let rest = room-less d n S y h in let same = one-suc n d in omega arith

pub room_at : (n : ℕ) (S : List Scope) (x : Scope) → slice_get S n ≡ Some x → room_of n S ≡ x.entries.room
room_at n [] x is = absurd (none-some _ is)
room_at zero (s ∷ S) x is = ap (λ (s : Scope). s.entries.room) (some_same s x is)
room_at (suc n) (s ∷ S) x is = room_at n S x is

pub room_within : (n : ℕ) (S : List Scope) → 0 < room_of n S → n < length S
room_within n [] h = absurd (let never : ⊥ = omega arith in never)
room_within zero (s ∷ S) h = omega arith
room_within (suc n) (s ∷ S) h = let rest = room_within n S h in omega arith

pub room-take : (d m : ℕ) (S : List Scope) → d < m → room_of d (take m S) ≡ room_of d S
room-take d zero S h = absurd (let never : ⊥ = omega arith in never)
room-take d (suc m) [] h = refl
room-take zero (suc m) (s ∷ S) h = refl
room-take (suc d) (suc m) (s ∷ S) h = room-take d m S (omega arith)

pub awaited-take : (d m : ℕ) (S : List Scope) → awaited d (take m S) ≤ awaited d S
awaited-take d zero S = omega arith
awaited-take d (suc m) [] = omega arith
awaited-take d (suc m) (s ∷ S) = let rest = awaited-take d m S in omega arith

-- the scopes further out, as one changes in which no more is pending for those further in
pub within-set : (d n m : ℕ) (S : List Scope) (x y : Scope) → slice_get S n ≡ Some x → (n < m → going d y.pending.items ≤ going d x.pending.items) →
    awaited d (take m (slice_set S n y)) ≤ awaited d (take m S)
within-set d n m [] x y is less = omega arith
within-set d n zero (s ∷ S) x y is less = omega arith
within-set d zero (suc m) (s ∷ S) x y is less =
    let same : going d s.pending.items ≡ going d x.pending.items = ap (λ (s : Scope). going d s.pending.items) (some_same s x is) in
    let fewer = less (omega arith) in
    omega arith
within-set d (suc n) (suc m) (s ∷ S) x y is less =
    let rest = within-set d n m S x y is (λ h. less (omega arith)) in omega arith

-- a scope changes in which then no more is pending, and which has no less room
pub set_kept : (n : ℕ) (S : List Scope) (x y : Scope) → slice_get S n ≡ Some x → x.entries.room ≤ y.entries.room →
    ((d : ℕ) → going d y.pending.items ≤ going d x.pending.items) → IsRoomy S → IsRoomy (slice_set S n y)
set_kept n S x y is roomier fewer roomy = record {
  has_room = λ d.
      let at = room_at n S x is in
      let sums = awaited-set d n S x y is in
      let less = fewer d in
      let room = room-set d n S y (omega arith) in
      let was = roomy.has_room d in
      omega arith;
  within = λ d.
      let less = within-set d n d S x y is (λ h. fewer d) in
      let was = roomy.within d in
      omega arith;
}

-- there is room for one more destination
abbrev pub HasRoomFor : Pending → List Scope → Type 0
HasRoomFor p S = (d : ℕ) → awaited d S + goes_into d p ≤ room_of d S

pub room_made : (p : Pending) (S : List Scope) (x y : Scope) → slice_get S p.into ≡ Some x → p.into < length S → y.entries.room ≡ x.entries.room + 1 →
    y.pending.items ≡ x.pending.items → IsRoomy S → HasRoomFor p (slice_set S p.into y)
room_made p S x y is less room same roomy d =
    let at = room_at p.into S x is in
    let sums = awaited-set d p.into S x y is in
    let equal : going d y.pending.items ≡ going d x.pending.items = ap (going d) same in
    let more = room-more d p.into S y less (omega arith) in
    let was = roomy.has_room d in
    omega arith

-- and it becomes pending
pub set_pending : (n : ℕ) (p : Pending) (S : List Scope) (x y : Scope) → slice_get S n ≡ Some x → p.into ≤ n → y.entries.room ≡ x.entries.room →
    y.pending.items ≡ x.pending.items ++ p ∷ [] → IsRoomy S → HasRoomFor p S → IsRoomy (slice_set S n y)
set_pending n p S x y is inside room more roomy spare = record {
  has_room = λ d.
      let at = room_at n S x is in
      let sums = awaited-set d n S x y is in
      let one : going d y.pending.items ≡ going d x.pending.items + going d (p ∷ []) = ap (going d) more ∙ going-append d x.pending.items (p ∷ []) in
      let kept = room-set d n S y (omega arith) in
      let enough = spare d in
      omega arith;
  within = λ d.
      let fewer = λ (h : n < d).
      let one : going d y.pending.items ≡ going d x.pending.items + going d (p ∷ []) = ap (going d) more ∙ going-append d x.pending.items (p ∷ []) in
      let none : goes_into d p ≡ 0 = one_elsewhere p.into d (omega arith) in
      let fine : going d y.pending.items ≤ going d x.pending.items = omega arith in
      fine in
      let less = within-set d n d S x y is fewer in
      let was = roomy.within d in
      omega arith;
}

-- one is taken out
pub set_taken : (n : ℕ) (p : Pending) (before behind : List Pending) (S : List Scope) (x y : Scope) → slice_get S n ≡ Some x → y.entries ≡ x.entries →
    x.pending.items ≡ before ++ p ∷ behind → y.pending.items ≡ before ++ behind → IsRoomy S → IsRoomy (slice_set S n y) × HasRoomFor p (slice_set S n y)
set_taken n p before behind S x y is same was left roomy =
    let counts = λ (d : ℕ).
    let first : going d x.pending.items ≡ going d before + (goes_into d p + going d behind) = ap (going d) was ∙ going-append d before (p ∷ behind) in
    let then_left : going d y.pending.items ≡ going d before + going d behind = ap (going d) left ∙ going-append d before behind in
    let all : going d x.pending.items ≡ going d y.pending.items + goes_into d p = omega arith in
    all in
    let room : y.entries.room ≡ x.entries.room = ap (λ e. e.room) same in (
      set_kept n S x y is (omega arith) (λ d. let count = counts d in omega arith) roomy,
      (λ d.
          let at = room_at n S x is in
          let sums = awaited-set d n S x y is in
          let count = counts d in
          let kept = room-set d n S y (omega arith) in
          let had = roomy.has_room d in
          omega arith),
    )

-- and takes its room
pub set_filled : (p : Pending) (S : List Scope) (x y : Scope) → slice_get S p.into ≡ Some x → y.entries.room + 1 ≡ x.entries.room →
    y.pending.items ≡ x.pending.items → IsRoomy S → HasRoomFor p S → IsRoomy (slice_set S p.into y)
set_filled p S x y is room same roomy spare = record {
  has_room = λ d.
      let at = room_at p.into S x is in
      let sums = awaited-set d p.into S x y is in
      let equal : going d y.pending.items ≡ going d x.pending.items = ap (going d) same in
      let kept = room-less d p.into S y (omega arith) in
      let enough = spare d in
      omega arith;
  within = λ d.
      let equal : going d y.pending.items ≡ going d x.pending.items = ap (going d) same in
      let less = within-set d p.into d S x y is (λ h. omega arith) in
      let was = roomy.within d in
      omega arith;
}

pub has_room_there : (p : Pending) (S : List Scope) → HasRoomFor p S → 0 < room_of p.into S
has_room_there p S spare =
    let here : goes_into p.into p ≡ 1 = one_here p.into in
    let enough = spare p.into in
    omega arith

-- the innermost scopes go
pub taken_roomy : (m : ℕ) (S : List Scope) → IsRoomy S → IsRoomy (take m S)
taken_roomy m S roomy = record {
  has_room = λ d. by_order d (nat_lt d m) refl;
  within = λ d. by_size d (nat_lt d m) refl;
}
  where
    by_order : (d : ℕ) (b : Bool) → nat_lt d m ≡ b → awaited d (take m S) ≤ room_of d (take m S)
    by_order d true e =
        let less : d < m = grind (arith, nat_tests) in
        let room = room-take d m S less in
        let fewer = awaited-take d m S in
        let had = roomy.has_room d in
        omega arith
    by_order d false e =
        let least : m ≤ d = grind (arith, nat_tests) in
        let fewer : awaited d (take m S) ≤ awaited d (take d S) = subst (λ (T : List Scope). awaited d T ≤ awaited d (take d S)) (take-take m d S least) (awaited-take d m (take d S)) in
        let none = roomy.within d in
        omega arith

    by_size : (d : ℕ) (b : Bool) → nat_lt d m ≡ b → awaited d (take d (take m S)) ≡ 0
    by_size d true e =
        let less : d ≤ m = grind (arith, nat_tests) in
        ap (awaited d) (take-take d m S less) ∙ roomy.within d
    by_size d false e =
        let least : m ≤ d = grind (arith, nat_tests) in
        let fewer : awaited d (take m S) ≤ awaited d (take d S) = subst (λ (T : List Scope). awaited d T ≤ awaited d (take d S)) (take-take m d S least) (awaited-take d m (take d S)) in
        let more = awaited-take d d (take m S) in
        let none = roomy.within d in
        omega arith

-- what contracts see
pub seen-set : (n : ℕ) (S : List Scope) (x y : Scope) (change : OpenScope → OpenScope) → slice_get S n ≡ Some x → seen y ≡ change (seen x) →
    seen_all (slice_set S n y) ≡ changed_at n change (seen_all S)
seen-set n [] x y change is e = absurd (none-some _ is)
seen-set zero (s ∷ S) x y change is e =
    ap (λ z. z ∷ seen_all S) (e ∙ ap (λ (s : Scope). change (seen s)) (sym (some_same s x is)))
seen-set (suc n) (s ∷ S) x y change is e = ap (λ rest. seen s ∷ rest) (seen-set n S x y change is e)

pub seen-kept : (n : ℕ) (S : List Scope) (x y : Scope) → slice_get S n ≡ Some x → seen y ≡ seen x → seen_all (slice_set S n y) ≡ seen_all S
seen-kept n [] x y is e = refl
seen-kept zero (s ∷ S) x y is e =
    ap (λ z. z ∷ seen_all S) (e ∙ ap seen (sym (some_same s x is)))
seen-kept (suc n) (s ∷ S) x y is e = ap (λ rest. seen s ∷ rest) (seen-kept n S x y is e)

pub length_seen : (S : List Scope) → length (seen_all S) ≡ length S
length_seen [] = refl
length_seen (s ∷ S) = ap suc (length_seen S)

-- a scope more, in which nothing is pending
awaited-push : (d : ℕ) (S : List Scope) (x : Scope) → awaited d (S ++ x ∷ []) ≡ awaited d S + going d x.pending.items
awaited-push d [] x = omega arith
awaited-push d (s ∷ S) x = let rest = awaited-push d S x in omega arith

room-push : (d : ℕ) (S : List Scope) (x : Scope) → room_of d S ≤ room_of d (S ++ x ∷ [])
room-push d [] x = omega arith
room-push zero (s ∷ S) x = omega arith
room-push (suc d) (s ∷ S) x = room-push d S x

take_none : (d m : ℕ) → awaited d (take m []) ≡ 0
take_none d zero = refl
take_none d (suc m) = refl

within-push : (d m : ℕ) (S : List Scope) (x : Scope) → awaited d (take m (S ++ x ∷ [])) ≤ awaited d (take m S) + going d x.pending.items
within-push d zero [] x = omega arith
within-push d (suc m) [] x = let none = take_none d m in omega arith
within-push d zero (s ∷ S) x = omega arith
within-push d (suc m) (s ∷ S) x = let rest = within-push d m S x in omega arith

pub entered_roomy : (S : List Scope) (x : Scope) → x.pending.items ≡ [] → IsRoomy S → IsRoomy (S ++ x ∷ [])
entered_roomy S x none roomy = record {
  has_room = λ d.
      let nothing : going d x.pending.items ≡ 0 = ap (going d) none in
      let sums = awaited-push d S x in
      let room = room-push d S x in
      let had = roomy.has_room d in
      omega arith;
  within = λ d.
      let nothing : going d x.pending.items ≡ 0 = ap (going d) none in
      let fewer = within-push d d S x in
      let was = roomy.within d in
      omega arith;
}
