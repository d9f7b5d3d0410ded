-- Heads of bodies by their names.
use Rattle.std.proofs.Common.{◌≡◌, ℕ, zero, suc, ◌+◌, ◌<◌, ◌^◌, nat_lt, Bool, true, false, ◌||◌, List, [], ◌∷◌, ◌++◌, length, Some, None, slice_get, refl, ap, sym, ◌∙◌, append_assoc, length-append, arith}
use Rattle.std.specs.Prelude.{codes}
use Rattle.std.specs.List.{list_any, position, position_or_len}
use Rattle.std.specs.Str.{bytes_eq}
use Rattle.std.proofs.lemmas.Bool.{lt-ltb, le-ltb, ltb-true, ltb-false}
use Rattle.std.proofs.lemmas.List.Folds.{list_any-append}
use Rattle.std.proofs.lemmas.Fmt.{decimal_injective}
use Rattle.std.proofs.lemmas.Slice.Eq.{bytes_eq-Decides}
use Rattle.mir_ty.specs.declared.def.Sig.{Sig}
use Rattle.typing_rules.specs.Scope.{body_named}
use Rattle.soak_laws.proofs.Trees.{f_word}
use Rattle.soak_laws.proofs.TypedTrees.{sigs, drop_sig, function_sig, main_sig, items_with}

-- ---- the first that passes

module _ {X : Type 0} (p : X → Bool) where
  passed_over : (xs ys : List X) → list_any p xs ≡ false →
      position_or_len p (xs ++ ys) ≡ length xs + position_or_len p ys
  passed_over [] ys h = omega arith
  passed_over (x ∷ xs) ys h = by (p x) refl h (passed_over xs ys)
    where
      by : (b : Bool) → p x ≡ b → (b || list_any p xs) ≡ false →
          (list_any p xs ≡ false → position_or_len p (xs ++ ys) ≡ length xs + position_or_len p ys) →
          position_or_len p (x ∷ (xs ++ ys)) ≡ length (x ∷ xs) + position_or_len p ys
      by true e h more = absurd (cc)
      by false e h more = let rest = more h in rw (e, rest) (omega arith)

  here : (x : X) (ys : List X) → p x ≡ true → position_or_len p (x ∷ ys) ≡ 0
  here x ys h = rw h refl

  pub position_at : (xs : List X) (x : X) (ys : List X) → list_any p xs ≡ false → p x ≡ true →
      position p (xs ++ x ∷ ys) ≡ Some (length xs)
  position_at xs x ys none is =
      let at : position_or_len p (xs ++ x ∷ ys) ≡ length xs =
      passed_over xs (x ∷ ys) none ∙ ap (λ n. length xs + n) (here x ys is) ∙ omega arith
      in
      let long : length (xs ++ x ∷ ys) ≡ length xs + length (x ∷ ys) = length-append xs (x ∷ ys) in
      let within : nat_lt (length xs) (length (xs ++ x ∷ ys)) ≡ true =
      lt-ltb (length xs) (length (xs ++ x ∷ ys)) (omega (arith, long)) in
      rw (at, within) refl

  nothing_left : (xs : List X) → list_any p xs ≡ false → position_or_len p xs ≡ length xs
  nothing_left [] h = refl
  nothing_left (x ∷ xs) h = by (p x) refl h (nothing_left xs)
    where
      by : (b : Bool) → p x ≡ b → (b || list_any p xs) ≡ false →
          (list_any p xs ≡ false → position_or_len p xs ≡ length xs) →
          position_or_len p (x ∷ xs) ≡ length (x ∷ xs)
      by true e h more = absurd (cc)
      by false e h more = let rest = more h in rw (e, rest) (omega arith)

  pub position_none : (xs : List X) → list_any p xs ≡ false → position p xs ≡ None
  position_none xs h =
      let at = nothing_left xs h in
      let past : nat_lt (length xs) (length xs) ≡ false = le-ltb (length xs) (length xs) (omega arith) in
      rw (at, past) refl

  found_within : (xs : List X) → list_any p xs ≡ true → position_or_len p xs < length xs
  found_within [] h = cc
  found_within (x ∷ xs) h = by (p x) refl h (found_within xs)
    where
      by : (b : Bool) → p x ≡ b → (b || list_any p xs) ≡ true →
          (list_any p xs ≡ true → position_or_len p xs < length xs) →
          position_or_len p (x ∷ xs) < length (x ∷ xs)
      by true e h more = rw e (omega arith)
      by false e h more = let rest = more h in rw e (omega (arith, rest))

  pub position_some : (xs : List X) → list_any p xs ≡ true → position p xs ≡ Some (position_or_len p xs)
  position_some xs h =
      let within : nat_lt (position_or_len p xs) (length xs) ≡ true = lt-ltb _ _ (found_within xs h) in rw within refl

slice_at : (xs : List Sig) (x : Sig) (ys : List Sig) → slice_get (xs ++ x ∷ ys) (length xs) ≡ Some x
slice_at [] x ys = refl
slice_at (y ∷ xs) x ys = slice_at xs x ys

-- ---- names

apart : (a b : List ℕ) → (a ≡ b → ⊥) → bytes_eq a b ≡ false
apart a b differ = by (bytes_eq a b) refl
  where
    by : (c : Bool) → bytes_eq a b ≡ c → c ≡ false
    by true e = absurd (differ ((bytes_eq-Decides a b).0 e))
    by false e = refl

itself : (a : List ℕ) → bytes_eq a a ≡ true
itself a = (bytes_eq-Decides a a).1 refl

tail_of : List ℕ → List ℕ
tail_of [] = []
tail_of (c ∷ cs) = cs

pub words_apart : (i j : ℕ) → i < 2 ^ 32 → j < 2 ^ 32 → (i ≡ j → ⊥) → bytes_eq (f_word i) (f_word j) ≡ false
unfolding tail_of
words_apart i j p q differ =
    apart (f_word i) (f_word j) (λ same. differ
    (decimal_injective i j (omega (arith, p)) (omega (arith, q)) (ap tail_of same)))

-- no head before the function of a number has this name
none_named : (w : List ℕ) → bytes_eq (codes "D::drop") w ≡ false → (k : ℕ) →
    ((i : ℕ) → i < k → bytes_eq (f_word i) w ≡ false) →
    list_any (λ (sig : Sig). bytes_eq sig.name w) (sigs k) ≡ false
none_named w no_drop zero none = rw no_drop refl
none_named w no_drop (suc k) none =
    let last = none k (omega arith) in
    let rest = none_named w no_drop k (λ i l. none i (omega (arith, l))) in
    list_any-append (λ (sig : Sig). bytes_eq sig.name w) (sigs k) (function_sig k ∷ []) ∙ rw (rest, last) refl

sigs_count : (k : ℕ) → length (sigs k) ≡ suc k
sigs_count zero = refl
sigs_count (suc k) = let n = sigs_count k in length-append (sigs k) (function_sig k ∷ []) ∙ omega (arith, n)

-- ---- the table of the program

abbrev pub heads_of : ℕ → List Sig
heads_of last = sigs (suc last) ++ main_sig ∷ []

-- the heads from the function of a number on
behind : (k : ℕ) (ys : List Sig) (j : ℕ) → j < k → (more : List Sig) × (sigs k ++ ys ≡ sigs j ++ function_sig j ∷ more)
behind zero ys j l = absurd (omega (arith, l))
behind (suc k) ys j l = by (nat_lt j k) refl (behind k (function_sig k ∷ ys) j)
  where
    joined : sigs (suc k) ++ ys ≡ sigs k ++ function_sig k ∷ ys
    joined = append_assoc (sigs k) (function_sig k ∷ []) ys

    by : (b : Bool) → nat_lt j k ≡ b →
        (j < k → (more : List Sig) × (sigs k ++ function_sig k ∷ ys ≡ sigs j ++ function_sig j ∷ more)) →
        (more : List Sig) × (sigs (suc k) ++ ys ≡ sigs j ++ function_sig j ∷ more)
    by true e found = let (more, is) = found (ltb-true j k e) in (more, joined ∙ is)
    by false e found =
        let past = ltb-false j k e in
        let same : k ≡ j = omega (arith, past, l) in
        (ys, joined ∙ ap (λ n. sigs n ++ function_sig n ∷ ys) same)

module _ (last : ℕ) (small : last < 2 ^ 31) where
  -- a function is found by its name, and its head is there
  pub function_found : (j : ℕ) → j < suc last → body_named (items_with (heads_of last)) (f_word j) ≡ Some (suc j)
  function_found j l =
      let (more, is) = behind (suc last) (main_sig ∷ []) j l in
      let none = none_named (f_word j) refl j
      (λ i m. words_apart i j (omega (arith, small, l, m)) (omega (arith, small, l)) (λ e. omega (arith, e, m))) in
      ap (position (λ (sig : Sig). bytes_eq sig.name (f_word j))) is
      ∙ position_at (λ (sig : Sig). bytes_eq sig.name (f_word j)) (sigs j) (function_sig j) more none
      (itself (f_word j))
      ∙ ap (λ n. Some n) (sigs_count j)

  pub function_there : (j : ℕ) → j < suc last → slice_get (heads_of last) (suc j) ≡ Some (function_sig j)
  function_there j l =
      let (more, is) = behind (suc last) (main_sig ∷ []) j l in
      ap (λ heads. slice_get heads (suc j)) is
      ∙ ap (λ n. slice_get (sigs j ++ function_sig j ∷ more) n) (sym (sigs_count j))
      ∙ slice_at (sigs j) (function_sig j) more

  pub main_found : body_named (items_with (heads_of last)) (codes "main") ≡ Some (suc (suc last))
  main_found =
      position_at (λ (sig : Sig). bytes_eq sig.name (codes "main")) (sigs (suc last)) main_sig []
      (none_named (codes "main") refl (suc last) (λ i l. refl)) refl
      ∙ ap (λ n. Some n) (sigs_count (suc last))

  pub main_there : slice_get (heads_of last) (suc (suc last)) ≡ Some main_sig
  main_there =
      ap (λ n. slice_get (heads_of last) n) (sym (sigs_count (suc last))) ∙ slice_at (sigs (suc last)) main_sig []

  -- no function has the name of a struct or of what is built in
  pub no_function : (w : List ℕ) → bytes_eq (codes "D::drop") w ≡ false → bytes_eq (codes "main") w ≡ false →
      ((i : ℕ) → bytes_eq (f_word i) w ≡ false) → body_named (items_with (heads_of last)) w ≡ None
  no_function w no_drop no_main none =
      position_none (λ (sig : Sig). bytes_eq sig.name w) (heads_of last)
      (list_any-append (λ (sig : Sig). bytes_eq sig.name w) (sigs (suc last)) (main_sig ∷ [])
      ∙ (let rest = none_named w no_drop (suc last) (λ i l. none i) in rw (rest, no_main) refl))

  pub no_d : body_named (items_with (heads_of last)) (codes "D") ≡ None
  no_d = no_function (codes "D") refl refl (λ i. refl)

  pub no_ask : body_named (items_with (heads_of last)) (codes "ask") ≡ None
  no_ask = no_function (codes "ask") refl refl (λ i. refl)

  pub no_drop : body_named (items_with (heads_of last)) (codes "drop") ≡ None
  no_drop = no_function (codes "drop") refl refl (λ i. refl)

  pub no_print : body_named (items_with (heads_of last)) (codes "print") ≡ None
  no_print = no_function (codes "print") refl refl (λ i. refl)

  -- the head of the `Drop` body comes first
  first_of : (k : ℕ) (ys : List Sig) → (more : List Sig) × (sigs k ++ ys ≡ drop_sig ∷ more)
  first_of zero ys = (ys, refl)
  first_of (suc k) ys =
      let (more, is) = first_of k (function_sig k ∷ ys) in (more, append_assoc (sigs k) (function_sig k ∷ []) ys ∙ is)

  pub drop_found : body_named (items_with (heads_of last)) (codes "D::drop") ≡ Some 0
  drop_found =
      let (more, is) = first_of (suc last) (main_sig ∷ []) in
      ap (position (λ (sig : Sig). bytes_eq sig.name (codes "D::drop"))) is
      ∙ position_at (λ (sig : Sig). bytes_eq sig.name (codes "D::drop")) [] drop_sig more refl refl

  pub drop_there : slice_get (heads_of last) 0 ≡ Some drop_sig
  drop_there =
      let (more, is) = first_of (suc last) (main_sig ∷ []) in ap (λ heads. slice_get heads 0) is
