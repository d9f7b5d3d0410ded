-- Lists of names that differ: methods behind the name of their type, and closures behind that of their function.
use Rattle.std.proofs.Common.{◌≡◌, ℕ, ◌+◌, ◌≤◌, ◌==◌, Bool, true, false, ◌||◌, not, List, [], ◌∷◌, ◌++◌, Option, Some, None, IsTrue, refl, ap, sym, ◌∙◌, arith}
use Rattle.std.specs.Prelude.{codes}
use Rattle.std.specs.List.{list_any}
use Rattle.std.specs.Str.{bytes_eq}
use Rattle.std.proofs.lemmas.Bool.{false≢true, and_from, eq-eqb}
use Rattle.std.proofs.lemmas.List.{append_assoc, append_cancel_right}
use Rattle.std.proofs.lemmas.List.Folds.{list_any-append}
use Rattle.std.proofs.lemmas.Slice.Eq.{bytes_eq-Decides}
use Rattle.src_ast.specs.Syntax.{Word, number_word}
use Rattle.typing_rules.specs.Items.{full_name, closure_name}
use Rattle.well_typed.specs.Names.{is_among, are_distinct}
use Rattle.typing_soundness.proofs.Items.Digits.{same_number}

-- ---- names that differ

-- so of each name
abbrev pub Each : (Word → Type 0) → List Word → Type 0
Each P [] = Unit {0}
Each P (w ∷ ws) = P w × Each P ws

-- a name is none of these
abbrev pub Apart : Word → List Word → Type 0
Apart w ws = Each (λ v. w ≡ v → ⊥) ws

abbrev pub Differ : List Word → Type 0
Differ [] = Unit {0}
Differ (w ∷ ws) = Apart w ws × Differ ws

pub each_map : (P Q : Word → Type 0) → ((w : Word) → P w → Q w) → (ws : List Word) → Each P ws → Each Q ws
each_map P Q f [] h = tt
each_map P Q f (w ∷ ws) h = (f w h.0, each_map P Q f ws h.1)

pub each_both : (P : Word → Type 0) (vs ws : List Word) → Each P vs → Each P ws → Each P (vs ++ ws)
each_both P [] ws h k = k
each_both P (v ∷ vs) ws h k = (h.0, each_both P vs ws h.1 k)

same_bytes : (w : Word) → bytes_eq w w ≡ true
same_bytes w = (bytes_eq-Decides w w).1 refl

pub none_among : (w : Word) (ws : List Word) → Apart w ws → is_among w ws ≡ false
none_among w [] h = refl
none_among w (v ∷ vs) h = by (bytes_eq w v) refl (none_among w vs h.1)
  where
    by : (b : Bool) → bytes_eq w v ≡ b → is_among w vs ≡ false → (b || is_among w vs) ≡ false
    by true e rest = absurd (h.0 ((bytes_eq-Decides w v).0 e))
    by false e rest = rest

pub are_apart : (w : Word) (ws : List Word) → IsTrue (not (is_among w ws)) → Apart w ws
are_apart w [] h = tt
are_apart w (v ∷ vs) h = by (bytes_eq w v) refl h (are_apart w vs)
  where
    by : (b : Bool) → bytes_eq w v ≡ b → IsTrue (not (b || is_among w vs)) → (IsTrue (not (is_among w vs)) → Apart w vs) → (w ≡ v
        → ⊥) × Apart w vs
    by true e h rest = absurd (false≢true h)
    by false e h rest = (λ same. false≢true (sym e ∙ (bytes_eq-Decides w v).1 same), rest h)

pub distinct : (ws : List Word) → Differ ws → IsTrue (are_distinct ws)
distinct [] h = refl
distinct (w ∷ ws) h = and_from (not (is_among w ws)) _ (ap not (none_among w ws h.0)) (distinct ws h.1)

pub each_first : (P : Word → Type 0) (vs ws : List Word) → Each P (vs ++ ws) → Each P vs
each_first P [] ws h = tt
each_first P (v ∷ vs) ws h = (h.0, each_first P vs ws h.1)

pub each_second : (P : Word → Type 0) (vs ws : List Word) → Each P (vs ++ ws) → Each P ws
each_second P [] ws h = h
each_second P (v ∷ vs) ws h = each_second P vs ws h.1

abbrev pub is_not : Word → Word → Type 0
is_not w v = w ≡ v → ⊥

apart_with : (v w : Word) (vs ws : List Word) → (v ≡ w → ⊥) → Apart v (vs ++ ws) → Apart v (vs ++ w ∷ ws)
apart_with v w [] ws n h = (n, h)
apart_with v w (u ∷ vs) ws n h = (h.0, apart_with v w vs ws n h.1)

-- one more name, anywhere
pub insert : (w : Word) (vs ws : List Word) → Differ (vs ++ ws) → Apart w (vs ++ ws) → Differ (vs ++ w ∷ ws)
insert w [] ws d h = (h, d)
insert w (v ∷ vs) ws d h = (apart_with v w vs ws (λ e. h.0 (sym e)) d.0, insert w vs ws d.1 h.1)

pub insert_all : (vs us ws : List Word) → Differ (vs ++ ws) → Each (λ u. Apart u (vs ++ ws)) us → Differ us → Differ (vs ++
    (us ++ ws))
insert_all vs [] ws d h k = d
insert_all vs (u ∷ us) ws d h k =
    insert u vs (us ++ ws) (insert_all vs us ws d h.1 k.1) (each_both (is_not u) vs (us ++ ws) (each_first (is_not u) vs ws
    h.0) (each_both (is_not u) us ws k.0 (each_second (is_not u) vs ws h.0)))

pub differ_first : (vs ws : List Word) → Differ (vs ++ ws) → Differ vs
differ_first [] ws d = tt
differ_first (v ∷ vs) ws d = (each_first (is_not v) vs ws d.0, differ_first vs ws d.1)

pub differ_second : (vs ws : List Word) → Differ (vs ++ ws) → Differ ws
differ_second [] ws d = d
differ_second (v ∷ vs) ws d = differ_second vs ws d.1

-- other names in place of the last ones
pub instead : (vs us ws : List Word) → Differ (vs ++ us) → Differ ws → Each (λ v. Apart v us → Apart v ws) vs → Differ (vs ++
    ws)
instead [] us ws d k h = k
instead (v ∷ vs) us ws d k h =
    let a = each_both (is_not v) vs ws (each_first (is_not v) vs us d.0) (h.0 (each_second (is_not v) vs us d.0)) in
    (a, instead vs us ws d.1 k h.1)

-- ---- a mark in a name

abbrev pub has : ℕ → Word → Bool
has mark w = list_any (λ b. b == mark) w

pub marked : (mark : ℕ) (v w : Word) → has mark w ≡ true → has mark (v ++ w) ≡ true
marked mark v w h = list_any-append (λ b. b == mark) v w ∙ ap (λ x. has mark v || x) h ∙ or_true (has mark v)
  where
    or_true : (b : Bool) → (b || true) ≡ true
    or_true true = refl
    or_true false = refl

pub unlike : (mark : ℕ) (v w : Word) → has mark v ≡ false → has mark w ≡ true → v ≡ w → ⊥
unlike mark v w h k e = false≢true (sym h ∙ ap (has mark) e ∙ k)

unmarked : (a b : Bool) → (a || b) ≡ false → (a ≡ false) × (b ≡ false)
unmarked false b e = (refl, e)
unmarked true b e = absurd (false≢true (sym e))

abbrev first_of : Word → ℕ
first_of [] = 0
first_of (c ∷ cs) = c

abbrev rest_of : Word → Word
rest_of [] = []
rest_of (c ∷ cs) = cs

-- what stands before the first mark, and what behind it
pub parted : (mark : ℕ) (v w x y : Word) → has mark v ≡ false → has mark w ≡ false → v ++ mark ∷ x ≡ w ++ mark ∷ y → (v ≡ w) ×
    (x ≡ y)
parted mark [] [] x y h k e = (refl, ap rest_of e)
parted mark [] (c ∷ w) x y h k e =
    absurd (false≢true (sym (unmarked (c == mark) _ k).0 ∙ eq-eqb c mark (sym (ap first_of e))))
parted mark (c ∷ v) [] x y h k e =
    absurd (false≢true (sym (unmarked (c == mark) _ h).0 ∙ eq-eqb c mark (ap first_of e)))
parted mark (c ∷ v) (d ∷ w) x y h k e =
    let p = parted mark v w x y (unmarked (c == mark) _ h).1 (unmarked (d == mark) _ k).1 (ap rest_of e) in
    (λ i. ap first_of e i ∷ p.0 i, p.1)

-- ---- methods

-- of names without a colon, methods differ as their types and their own names do
pub same_method : (a b v w : Word) → has 58 a ≡ false → has 58 b ≡ false → full_name (Some a) v ≡ full_name (Some b) w → (a ≡
    b) × (v ≡ w)
same_method a b v w h k e =
    let p = parted 58 a b (58 ∷ v) (58 ∷ w) h k (sym (append_assoc a (codes "::") v) ∙ e ∙ append_assoc b (codes "::") w) in
    (p.0, ap rest_of p.1)

-- ---- closures

-- the names of functions with those of their closures, which are numbered: `None` stands for a closure
abbrev pub names_of : Word → ℕ → List (Option Word) → List Word
names_of outer n [] = []
names_of outer n (Some f ∷ rest) = f ∷ names_of f 0 rest
names_of outer n (None ∷ rest) = closure_name outer (n + 1) ∷ names_of outer (n + 1) rest

abbrev pub functions : List (Option Word) → List Word
functions [] = []
functions (Some f ∷ rest) = f ∷ functions rest
functions (None ∷ rest) = functions rest

abbrev pub NoHash : Word → Type 0
NoHash w = has 35 w ≡ false

pub has_hash : (outer : Word) (n : ℕ) → has 35 (closure_name outer n) ≡ true
has_hash outer n =
    list_any-append (λ b. b == 35) (outer ++ codes "::closure#") (number_word n) ∙ ap (λ x. x || has 35 (number_word n)) (marked
    35 outer (codes "::closure#") refl)

same_closure : (a b : Word) (i j : ℕ) → NoHash a → NoHash b → closure_name a i ≡ closure_name b j → (a ≡ b) × (i ≡ j)
same_closure a b i j h k e =
    let p = parted 35 (a ++ codes "::closure") (b ++ codes "::closure") (number_word i) (number_word j) (plain a h) (plain b k)
    (behind a i ∙ e ∙ sym (behind b j)) in
    (append_cancel_right a b (codes "::closure") p.0, same_number i j p.1)
  where
    plain : (w : Word) → NoHash w → has 35 (w ++ codes "::closure") ≡ false
    plain w h = list_any-append (λ b. b == 35) w (codes "::closure") ∙ ap (λ x. x || false) h

    behind : (w : Word) (n : ℕ) → (w ++ codes "::closure") ++ 35 ∷ number_word n ≡ closure_name w n
    behind w n = append_assoc w (codes "::closure") (35 ∷ number_word n) ∙ sym (append_assoc w (codes "::closure#") (number_word
        n))

-- a name without the mark
pub apart_names : (w : Word) → NoHash w → (outer : Word) (n : ℕ) (fs : List (Option Word)) → Apart w (functions fs) → Apart w
    (names_of outer n fs)
apart_names w h outer n [] d = tt
apart_names w h outer n (Some f ∷ fs) d = (d.0, apart_names w h f 0 fs d.1)
apart_names w h outer n (None ∷ fs) d =
    (unlike 35 w _ h (has_hash outer (n + 1)), apart_names w h outer (n + 1) fs d)

-- the name of a closure, and those behind it
closure_apart : (a : Word) (i : ℕ) → NoHash a → (outer : Word) (n : ℕ) (fs : List (Option Word)) → NoHash outer → Each NoHash
    (functions fs) → (a ≡ outer → i ≤ n) → Apart a (functions fs) → Apart (closure_name a i) (names_of outer n fs)
closure_apart a i h outer n [] ho hs low d = tt
closure_apart a i h outer n (Some f ∷ fs) ho hs low d = (
  λ e. unlike 35 f _ hs.0 (has_hash a i) (sym e),
  closure_apart a i h f 0 fs hs.0 hs.1 (λ e. absurd (d.0 e)) d.1,
)
closure_apart a i h outer n (None ∷ fs) ho hs low d = (
  λ e. let s = same_closure a outer i (n + 1) h ho e in let l = low s.0 in let m = s.1 in absurd (omega (arith, l, m)),
  closure_apart a i h outer (n + 1) fs ho hs (λ e. let l = low e in omega (arith, l)) d,
)

pub names_differ : (outer : Word) (n : ℕ) (fs : List (Option Word)) → NoHash outer → Each NoHash (functions fs) → Apart outer
    (functions fs) → Differ (functions fs) → Differ (names_of outer n fs)
names_differ outer n [] ho hs a d = tt
names_differ outer n (Some f ∷ fs) ho hs a d =
    (apart_names f hs.0 f 0 fs d.0, names_differ f 0 fs hs.0 hs.1 d.0 d.1)
names_differ outer n (None ∷ fs) ho hs a d = (
  closure_apart outer (n + 1) ho outer (n + 1) fs ho hs (λ e. omega arith) a,
  names_differ outer (n + 1) fs ho hs a d,
)
