-- The scan of a comment ends where the comment does.
use Rattle.std.proofs.Common.{◌≡◌, ℕ, zero, suc, ◌+◌, ◌≤◌, Bool, true, false, ◌||◌, List, [], ◌∷◌, ◌++◌, length, take, Option, Some, None, refl, ap, sym, ◌∙◌, subst, arith, append_assoc, length-append, get_or, eqb}
use Rattle.std.proofs.lemmas.Bool.{eqb-true, and_parts}
use Rattle.std.proofs.lemmas.List.{append-nil}
use Rattle.std.proofs.Math.Bool.{and-false}
use Rattle.std.specs.Prelude.{option_map}
use Rattle.src_token.specs.Comments.{opens, closes, is_at_mark, EndsComment, at_once, past, past_inner}
use Rattle.src_token.specs.Scanning.{closing, closed}

-- so many characters on
abbrev on : ℕ → Option ℕ → Option ℕ
on k o = option_map (λ (n : ℕ). k + n) o

on_suc : (k : ℕ) (o : Option ℕ) → option_map suc (on k o) ≡ on (suc k) o
on_suc k None = refl
on_suc k (Some n) = ap (λ (m : ℕ). Some m) (omega arith)

on_zero : (o : Option ℕ) → o ≡ on 0 o
on_zero None = refl
on_zero (Some n) = ap (λ (m : ℕ). Some m) (omega arith)

on_on : (j k : ℕ) (o : Option ℕ) → on j (on k o) ≡ on (j + k) o
on_on j k None = refl
on_on j k (Some n) = ap (λ (m : ℕ). Some m) (omega arith)

-- what is left once one comment of so many more has ended
abbrev pub after : ℕ → List ℕ → Option ℕ
after zero later = Some 0
after (suc d) later = closing d false later

pub ends_nonempty : (w : List ℕ) → EndsComment w → (c : ℕ) × (cs : List ℕ) × (w ≡ c ∷ cs)
ends_nonempty _ at_once = (_, _, refl)
ends_nonempty _ (past c cs h e) = (c, cs, refl)
ends_nonempty _ (past_inner inner cs h e) = (_, _, refl)

or_left : (a b : Bool) → (a || b) ≡ false → a ≡ false
or_left true b h = h
or_left false b h = refl

or_right : (a b : Bool) → (a || b) ≡ false → b ≡ false
or_right true b h = absurd (cc)
or_right false b h = h

passes : (d c : ℕ) (cs : List ℕ) → closes c (get_or cs 0 0) ≡ false → opens c (get_or cs 0 0) ≡ false → closing d false (c ∷ cs) ≡ option_map suc (closing d false cs)
passes d c cs h k = rw (h, k) refl

pub scan_ends : (w : List ℕ) → EndsComment w → (d : ℕ) (later : List ℕ) → closing d false (w ++ later) ≡ on (length w) (after d later)
scan_ends _ at_once zero later = refl
scan_ends _ at_once (suc d) later = ap (option_map suc) (ap (option_map suc) (on_zero _) ∙ on_suc 0 _) ∙ on_suc 1 _
scan_ends _ (past c cs h e) d later =
    let (f, fs, is) = ends_nonempty cs e in
    let h' : is_at_mark (c ∷ f ∷ fs) ≡ false = subst (λ (w : List ℕ). is_at_mark (c ∷ w) ≡ false) is h in
    let step : closing d false (c ∷ (cs ++ later)) ≡ option_map suc (closing d false (cs ++ later)) =
    rw is (passes d c (f ∷ (fs ++ later)) (or_right (opens c f) (closes c f) h') (or_left (opens c f) (closes c f) h')) in
    step ∙ (ap (option_map suc) (scan_ends cs e d later) ∙ on_suc (length cs) _)
scan_ends _ (past_inner inner cs h e) d later =
    let within : closing (suc d) false (inner ++ (cs ++ later)) ≡ on (length inner) (on (length cs) (after d later)) =
    scan_ends inner h (suc d) (cs ++ later) ∙ ap (on (length inner)) (scan_ends cs e d later) in
    let joined : closing (suc d) false ((inner ++ cs) ++ later) ≡ on (length (inner ++ cs)) (after d later) =
    rw (append_assoc, length-append) (within ∙ on_on (length inner) (length cs) (after d later)) in
    ap (option_map suc) (ap (option_map suc) joined ∙ on_suc _ _) ∙ on_suc _ _

-- so many comments end, one after the other
abbrev pub Left : ℕ → List ℕ → Type 0
Left zero v = v ≡ []
Left (suc d) v = (u : List ℕ) × (rest : List ℕ) × (v ≡ u ++ rest) × EndsComment u × Left d rest

abbrev Found : ℕ → List ℕ → ℕ → Type 0
Found d w n = (n ≤ length w) × Left (suc d) (take n w)

onward_is : (o : Option ℕ) (n : ℕ) → option_map suc o ≡ Some n → (m : ℕ) × (o ≡ Some m) × (n ≡ suc m)
onward_is None n h = absurd (cc)
onward_is (Some m) n h = (m, refl, cc)

is_literal : (a b : ℕ) → eqb a b ≡ true → a ≡ b
is_literal a b h = eqb-true a b h

module _ (c e : ℕ) where
  closes_are : closes c e ≡ true → (c ≡ 42) × (e ≡ 47)
  closes_are h = let (x, y) = and_parts (eqb c 42) (eqb e 47) h in (eqb-true c 42 x, eqb-true e 47 y)

  opens_are : opens c e ≡ true → (c ≡ 47) × (e ≡ 42)
  opens_are h = let (x, y) = and_parts (eqb c 47) (eqb e 42) h in (eqb-true c 47 x, eqb-true e 42 y)

-- one more comment ends in front, or goes on inside
left_closed : (d : ℕ) (c e : ℕ) (v : List ℕ) → (c ≡ 42) × (e ≡ 47) → Left d v → Left (suc d) (c ∷ e ∷ v)
left_closed d c e v (p, q) h = (42 ∷ 47 ∷ [], v, rw (p, q) refl, at_once, h)

left_opened : (d : ℕ) (c e : ℕ) (v : List ℕ) → (c ≡ 47) × (e ≡ 42) → Left (suc (suc d)) v → Left (suc d) (c ∷ e ∷ v)
left_opened d c e v (p, q) (u, rest, is, ends, (u', rest', is', ends', more)) =
    (47 ∷ 42 ∷ (u ++ u'), rest', rw (p, q, is, is', append_assoc) refl, past_inner u u' ends ends', more)

left_passed : (d : ℕ) (c : ℕ) (v : List ℕ) → ((e : ℕ) (es : List ℕ) → v ≡ e ∷ es → (closes c e ≡ false) × (opens c e ≡ false)) → Left (suc d) v → Left (suc d) (c ∷ v)
left_passed d c v apart (u, rest, is, ends, more) =
    let (e, es, begun) = ends_nonempty u ends in
    let whole : v ≡ e ∷ (es ++ rest) = is ∙ ap (λ (w : List ℕ). w ++ rest) begun in
    let (k, j) = apart e (es ++ rest) whole in
    let h : is_at_mark (c ∷ u) ≡ false = rw (begun, j, k) refl in
    (c ∷ u, rest, ap (λ (w : List ℕ). c ∷ w) is, past c u h ends, more)

find_closes : (d c e : ℕ) (es : List ℕ) → closes c e ≡ true → closing d false (c ∷ e ∷ es) ≡ closed d (λ k. closing k true (e ∷ es))
find_closes d c e es h = rw h refl

find_opens : (d c e : ℕ) (es : List ℕ) → closes c e ≡ false → opens c e ≡ true → closing d false (c ∷ e ∷ es) ≡ option_map suc (option_map suc (closing (suc d) false es))
find_opens d c e es h k = rw (h, k) refl

find_past : (d c e : ℕ) (es : List ℕ) → closes c e ≡ false → opens c e ≡ false → closing d false (c ∷ e ∷ es) ≡ option_map suc (closing d false (e ∷ es))
find_past d c e es h k = rw (h, k) refl

pub by_test : {P : Type 0} (b : Bool) → (b ≡ true → P) → (b ≡ false → P) → P
by_test true holds fails = holds refl
by_test false holds fails = fails refl

first_taken : (m e : ℕ) (es : List ℕ) (f : ℕ) (fs : List ℕ) → take m (e ∷ es) ≡ f ∷ fs → f ≡ e
first_taken zero e es f fs h = absurd (cc)
first_taken (suc m) e es f fs h = cc

found_at : (d n m : ℕ) (w : List ℕ) → n ≡ m → Found d w m → Found d w n
found_at d n m w e h = rw e h

-- where the scan of two characters and the rest ends, the comments do
module _ (c e : ℕ) (es : List ℕ) (shorter : (k m : ℕ) → closing k false es ≡ Some m → Found k es m) (next : (k m : ℕ) → closing k false (e ∷ es) ≡ Some m → Found k (e ∷ es) m) where
  ends_last : (n : ℕ) → closes c e ≡ true → Some 2 ≡ Some n → Found zero (c ∷ e ∷ es) n
  ends_last n h found =
      let two : n ≡ 2 = cc in
      found_at zero n 2 (c ∷ e ∷ es) two (omega arith, left_closed zero c e [] (closes_are c e h) refl)

  ends_one : (d n : ℕ) → closes c e ≡ true → option_map suc (option_map suc (closing d false es)) ≡ Some n → Found (suc d) (c ∷ e ∷ es) n
  ends_one d n h found =
      let (l, more, first) = onward_is _ n found in
      let (m, most, second) = onward_is _ l more in
      let (within, left) = shorter d m most in
      found_at (suc d) n (suc (suc m)) (c ∷ e ∷ es) (cc) (omega arith, left_closed (suc d) c e (take m es) (closes_are c e h) left)

  begins_one : (d n : ℕ) → opens c e ≡ true → option_map suc (option_map suc (closing (suc d) false es)) ≡ Some n → Found d (c ∷ e ∷ es) n
  begins_one d n h found =
      let (l, more, first) = onward_is _ n found in
      let (m, most, second) = onward_is _ l more in
      let (within, left) = shorter (suc d) m most in
      found_at d n (suc (suc m)) (c ∷ e ∷ es) (cc) (omega arith, left_opened d c e (take m es) (opens_are c e h) left)

  goes_on : (d n : ℕ) → closes c e ≡ false → opens c e ≡ false → option_map suc (closing d false (e ∷ es)) ≡ Some n → Found d (c ∷ e ∷ es) n
  goes_on d n h k found =
      let (m, more, first) = onward_is _ n found in
      let (within, left) = next d m more in
      let apart : (f : ℕ) (fs : List ℕ) → take m (e ∷ es) ≡ f ∷ fs → (closes c f ≡ false) × (opens c f ≡ false) =
      λ f fs is. let same : f ≡ e = first_taken m e es f fs is in (rw same h, rw same k) in
      found_at d n (suc m) (c ∷ e ∷ es) first (omega arith, left_passed d c (take m (e ∷ es)) apart left)

  finds : (d n : ℕ) → closing d false (c ∷ e ∷ es) ≡ Some n → Found d (c ∷ e ∷ es) n
  finds zero n found =
      by_test (closes c e) (λ h. ends_last n h (sym (find_closes zero c e es h) ∙ found))
      (λ h. by_test (opens c e) (λ k. begins_one zero n k (sym (find_opens zero c e es h k) ∙ found)) (λ k. goes_on zero n h k (sym (find_past zero c e es h k) ∙ found)))
  finds (suc d) n found =
      by_test (closes c e) (λ h. ends_one d n h (sym (find_closes (suc d) c e es h) ∙ found))
      (λ h. by_test (opens c e) (λ k. begins_one (suc d) n k (sym (find_opens (suc d) c e es h k) ∙ found)) (λ k. goes_on (suc d) n h k (sym (find_past (suc d) c e es h k) ∙ found)))

never : (c d : ℕ) → closing d false (c ∷ []) ≡ None
never c d =
    let h : closes c 0 ≡ false = and-false (eqb c 42) in
    let k : opens c 0 ≡ false = and-false (eqb c 47) in
    passes d c [] h k

pub scan_finds : (w : List ℕ) (d n : ℕ) → closing d false w ≡ Some n → Found d w n
scan_finds [] d n h = absurd (cc)
scan_finds (c ∷ []) d n h = let e = never c d in absurd (cc)
scan_finds (c ∷ e ∷ es) d n h = finds c e es (λ k m. scan_finds es k m) (λ k m. scan_finds (e ∷ es) k m) d n h

-- the end of the outermost comment
pub scan_is_comment : (w : List ℕ) (n : ℕ) → closing 0 false w ≡ Some n → (n ≤ length w) × EndsComment (take n w)
scan_is_comment w n h =
    let (within, (u, rest, is, ends, nothing)) = scan_finds w 0 n h in
    let same : u ≡ take n w = sym (is ∙ ap (λ (r : List ℕ). u ++ r) nothing ∙ append-nil u) in
    (within, subst EndsComment same ends)
