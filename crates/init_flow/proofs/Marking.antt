-- Masks that are marked along the paths above a path.
use Rattle.std.proofs.Common.{◌≡◌, ◌≢◌, ◌⊎◌, inl, inr, ℕ, zero, suc, ◌+◌, ◌<◌, ◌≤◌, Bool, true, false, not, ◌&&◌, ◌||◌, nat_lt, List, [], ◌∷◌, length, replicate, Option, Some, None, slice_get, refl, sym, ap, subst, ◌∙◌, arith}
use Rattle.std.specs.Prelude.{slice_index_or, slice_set, ◌==◌}
use Rattle.std.specs.Option.{MatchOption}
use Rattle.std.specs.Cmp.{first_so, second_so}
use Rattle.std.specs.Cmp.Derive.{both_true}
use Rattle.std.proofs.lemmas.Bool.{false≢true, cases_eq, cases_lt, lt-ltb, le-ltb, eqb-true, eq-eqb, ne_eqb}
use Rattle.std.proofs.lemmas.Option.{same_Some, slice_get-get_or, get_or_from_slice_get}
use Rattle.std.proofs.lemmas.List.{get_or-set_same, get_or-set_other, length-set, length-append, get_or-replicate, length-replicate, length-map, same_lists, get_or-map, get_or_default}
use Rattle.store_model.specs.Places.Place.{Place, Step, same_step, whole_local}
use Rattle.cfg_graph.proofs.WholePlaces.{same_step-sound}
use Rattle.cfg_graph.specs.Moves.Gone.{are_first, is_at_or_above, below}
use Rattle.move_paths.specs.Trie.{AreOnce}
use Rattle.move_paths.specs.Forest.{IsRoot, IsStepBelow}
use Rattle.move_paths.proofs.Above.{above-refl, above-stays, above-pushed, above-local}
use Rattle.init_flow.specs.Carried.{Bits}
use Rattle.init_flow.specs.Marks.{cell, place_at, IsSquare, IsMarked, marked, masks_from, single}
use Rattle.init_flow.specs.Moved.{mask_of, masks_of}
use Rattle.init_flow.proofs.Masking.{alone-at, alone-long, length-single, single-at}

pub same_true : (a b : Bool) → (a ≡ true → b ≡ true) → (b ≡ true → a ≡ true) → a ≡ b
same_true true true f g = refl
same_true true false f g = sym (f refl)
same_true false true f g = g refl
same_true false false f g = refl

or-false : (x : Bool) → (x || false) ≡ x
or-false true = refl
or-false false = refl

or-true : (x : Bool) → (x || true) ≡ true
or-true true = refl
or-true false = refl

and-not : (a : Bool) → (a && not a) ≡ false
and-not true = refl
and-not false = refl

and-true : (a : Bool) → (a && true) ≡ a
and-true true = refl
and-true false = refl

and-false : (a : Bool) → (a && false) ≡ false
and-false true = refl
and-false false = refl

first-first : (xs ys zs : List Step) → are_first xs ys ≡ true → are_first ys zs ≡ true → are_first xs zs ≡ true
first-first [] ys zs h k = refl
first-first (x ∷ xs) [] zs h k = absurd (false≢true h)
first-first (x ∷ xs) (y ∷ ys) [] h k = absurd (false≢true k)
first-first (x ∷ xs) (y ∷ ys) (z ∷ zs) h k =
    let one = same_step-sound x y (first_so (same_step x y) (are_first xs ys) h) in
    both_true (ap (λ (s : Step). same_step s z) one ∙ first_so (same_step y z) (are_first ys zs) k)
    (first-first xs ys zs (second_so (same_step x y) (are_first xs ys) h) (second_so (same_step y z) (are_first ys zs) k))

pub transitive : (a b c : Place) → is_at_or_above a b ≡ true → is_at_or_above b c ≡ true → is_at_or_above a c ≡ true
transitive a b c h k =
    let one = eqb-true a.local b.local (first_so (a.local == b.local) (are_first a.steps b.steps) h) in
    both_true (ap (λ (n : ℕ). n == c.local) one ∙ first_so (b.local == c.local) (are_first b.steps c.steps) k)
    (first-first a.steps b.steps c.steps (second_so (a.local == b.local) (are_first a.steps b.steps) h) (second_so (b.local == c.local) (are_first b.steps c.steps) k))

module _ (paths : List Place) where
  abbrev above_it : ℕ → ℕ → Bool
  above_it n m = is_at_or_above (place_at paths n) (place_at paths m)

  -- whether the paths down to this one are marked
  abbrev pub done : Option ℕ → ℕ → Bool
  done None n = true
  done (Some of) n = not (above_it n of)

  -- what the loop keeps
  pub record Marking (old now : List Bits) (path : ℕ) (at : Option ℕ) : Type 0 where
    pub long : length now ≡ length old
    pub square : IsSquare now
    pub cells :
        (n k : ℕ) → n < length paths →
        cell now n k ≡ (cell old n k || ((k == path) && (above_it n path && done at n)))
    pub chain : (of : ℕ) → at ≡ Some of → (of < length paths) × (above_it of path ≡ true)

  -- how far all paths are marked
  pub record Marked (masks : List Bits) (count : ℕ) : Type 0 where
    pub long : length masks ≡ length paths
    pub square : IsSquare masks
    pub cells : (n k : ℕ) → n < length paths → cell masks n k ≡ ((n == k) || (nat_lt k count && above_it n k))

module _ (paths : List Place) (once : AreOnce paths) where
  abbrev above : ℕ → ℕ → Bool
  above n m = is_at_or_above (place_at paths n) (place_at paths m)

  place-is : (n : ℕ) → n < length paths → slice_get paths n ≡ Some (place_at paths n)
  place-is n within = slice_get-get_or paths n (whole_local 0) within

  one : (n m : ℕ) → n < length paths → m < length paths → place_at paths n ≡ place_at paths m → n ≡ m
  one n m here there same = once n m (place_at paths n) (place-is n here) (place-is m there ∙ ap Some (sym same))

  -- past the path above
  pub above-step : (n of p : ℕ) → n < length paths → of < length paths → n ≢ of → IsStepBelow paths p of → above n of ≡ above n p
  above-step n of p here there other up = same_true (above n of) (above n p) forth back
    where
      lower : place_at paths of ≡ below up.place (up.step ∷ [])
      lower = get_or_from_slice_get paths of (below up.place (up.step ∷ [])) (whole_local 0) up.here

      upper : place_at paths p ≡ up.place
      upper = get_or_from_slice_get paths p up.place (whole_local 0) up.above

      forth : above n of ≡ true → above n p ≡ true
      forth h = elim (above-pushed (place_at paths n) up.place up.step (ap (is_at_or_above (place_at paths n)) (sym lower) ∙ h)) [
        | inl yet ↦ ap (is_at_or_above (place_at paths n)) upper ∙ yet
        | inr same ↦ absurd (other (one n of here there (same ∙ sym lower)))
      ]

      back : above n p ≡ true → above n of ≡ true
      back h = ap (is_at_or_above (place_at paths n)) lower ∙ above-stays (place_at paths n) up.place (up.step ∷ []) (ap (is_at_or_above (place_at paths n)) (sym upper) ∙ h)

  pub above-root : (n of : ℕ) → n < length paths → of < length paths → n ≢ of → IsRoot paths of → above n of ≡ false
  above-root n of here there other root = not_true (above n of) (λ h.
      let lower : place_at paths of ≡ whole_local of = get_or_from_slice_get paths of (whole_local of) (whole_local 0) root in
      other (one n of here there (above-local (place_at paths n) of (ap (is_at_or_above (place_at paths n)) (sym lower) ∙ h) ∙ sym lower)))
    where
      not_true : (b : Bool) → (b ≡ true → ⊥) → b ≡ false
      not_true true h = absurd (h refl)
      not_true false h = refl

  pub not-above-up : (of p : ℕ) → IsStepBelow paths p of → above of p ≡ false
  not-above-up of p up = not_true (above of p) (λ h.
      let lower : place_at paths of ≡ below up.place (up.step ∷ []) = get_or_from_slice_get paths of (below up.place (up.step ∷ [])) (whole_local 0) up.here in
      let upper : place_at paths p ≡ up.place = get_or_from_slice_get paths p up.place (whole_local 0) up.above in
      let first = second_so ((place_at paths of).local == (place_at paths p).local) (are_first (place_at paths of).steps (place_at paths p).steps) h in
      let short = shorter (place_at paths of).steps (place_at paths p).steps first in
      let long = ap (λ (q : Place). length q.steps) lower in
      let more = length-append up.place.steps (up.step ∷ []) in
      let here = ap (λ (q : Place). length q.steps) upper in
      omega (short, long, more, here, arith))
    where
      not_true : (b : Bool) → (b ≡ true → ⊥) → b ≡ false
      not_true true h = absurd (h refl)
      not_true false h = refl

      shorter : (xs ys : List Step) → are_first xs ys ≡ true → length xs ≤ length ys
      shorter [] ys h = omega arith
      shorter (x ∷ xs) [] h = absurd (false≢true h)
      shorter (x ∷ xs) (y ∷ ys) h = let k = shorter xs ys (second_so (same_step x y) (are_first xs ys) h) in omega (k, arith)

  pub begins : (old : List Bits) (path : ℕ) → IsSquare old → path < length paths → Marking paths old old path (Some path)
  begins old path square within = record {
    long = refl;
    square = square;
    cells = λ n k here. sym (ap (λ (z : Bool). cell old n k || ((k == path) && z)) (and-not (above n path)) ∙ ap (λ (z : Bool). cell old n k || z) (and-false (k == path)) ∙ or-false (cell old n k));
    chain = λ of is. (let e = same_Some path of is in omega (e, within, arith), ap (λ (z : ℕ). above z path) (sym (same_Some path of is)) ∙ above-refl (place_at paths path));
  }

  pub ends : (old now : List Bits) (path : ℕ) → Marking paths old now path None → IsMarked paths old now path
  ends old now path m = record {
    long = m.long;
    square = m.square;
    cells = λ n k here. m.cells n k here ∙ ap (λ (z : Bool). cell old n k || ((k == path) && z)) (and-true (above n path));
  }

  marked-long : (masks : List Bits) (of path : ℕ) → length (marked masks of path) ≡ length masks
  marked-long masks of path = length-set masks of (slice_set (slice_index_or masks of []) path true)

  marked-square : (masks : List Bits) (of path : ℕ) → IsSquare masks → of < length masks → IsSquare (marked masks of path)
  marked-square masks of path square within n here = by (cases_eq n of)
    where
      by : (n ≡ of) ⊎ (n ≢ of) → length (slice_index_or (marked masks of path) n []) ≡ length (marked masks of path)
      by (inl same) =
          ap (λ (z : ℕ). length (slice_index_or (marked masks of path) z [])) same
          ∙ ap length (get_or-set_same masks of (slice_set (slice_index_or masks of []) path true) [] within)
          ∙ length-set (slice_index_or masks of []) path true ∙ square of within ∙ sym (marked-long masks of path)
      by (inr other) =
          ap length (get_or-set_other masks of n (slice_set (slice_index_or masks of []) path true) [] other)
          ∙ square n (let k = marked-long masks of path in omega (k, here, arith)) ∙ sym (marked-long masks of path)

  marked-here : (masks : List Bits) (of path : ℕ) → IsSquare masks → of < length masks → path < length masks → cell (marked masks of path) of path ≡ true
  marked-here masks of path square within there =
      ap (λ (z : Bits). slice_index_or z path false) (get_or-set_same masks of (slice_set (slice_index_or masks of []) path true) [] within)
      ∙ get_or-set_same (slice_index_or masks of []) path true false (let k = square of within in omega (k, there, arith))

  marked-bit : (masks : List Bits) (of path n k : ℕ) → of < length masks → k ≢ path → cell (marked masks of path) n k ≡ cell masks n k
  marked-bit masks of path n k within other = by (cases_eq n of)
    where
      by : (n ≡ of) ⊎ (n ≢ of) → cell (marked masks of path) n k ≡ cell masks n k
      by (inl same) =
          ap (λ (z : ℕ). cell (marked masks of path) z k) same
          ∙ ap (λ (z : Bits). slice_index_or z k false) (get_or-set_same masks of (slice_set (slice_index_or masks of []) path true) [] within)
          ∙ get_or-set_other (slice_index_or masks of []) path k true false other
          ∙ ap (λ (z : ℕ). cell masks z k) (sym same)
      by (inr apart) = ap (λ (z : Bits). slice_index_or z k false) (get_or-set_other masks of n (slice_set (slice_index_or masks of []) path true) [] apart)

  marked-row : (masks : List Bits) (of path n k : ℕ) → n ≢ of → cell (marked masks of path) n k ≡ cell masks n k
  marked-row masks of path n k apart = ap (λ (z : Bits). slice_index_or z k false) (get_or-set_other masks of n (slice_set (slice_index_or masks of []) path true) [] apart)

  -- one path more is marked
  pub goes-on : (old now : List Bits) (path of : ℕ) (up : Option ℕ) → length old ≡ length paths → path < length paths → Marking paths old now path (Some of)
      → MatchOption up (IsRoot paths of) (λ p. IsStepBelow paths p of) → Marking paths old (marked now of path) path up
  goes-on old now path of up size inside m parent = record {
    long = marked-long now of path ∙ m.long;
    square = marked-square now of path m.square there;
    cells = λ n k here. elim (cases_eq k path) [
      | inl same ↦ subst (λ (z : ℕ). cell (marked now of path) n z ≡ (cell old n z || ((z == path) && (above n path && done paths up n)))) (sym same) (at_path n here (cases_eq n of))
      | inr other ↦ marked-bit now of path n k there other ∙ m.cells n k here ∙ off n k (done paths (Some of) n) other ∙ sym (off n k (done paths up n) other)
    ];
    chain = next up parent;
  }
    where
      count : length now ≡ length paths
      count = m.long ∙ size

      chained : (of < length paths) × (above of path ≡ true)
      chained = m.chain of refl

      there : of < length now
      there = let k = chained.0 in omega (k, count, arith)

      off : (n k : ℕ) (d : Bool) → k ≢ path → (cell old n k || ((k == path) && (above n path && d))) ≡ cell old n k
      off n k d other = ap (λ (z : Bool). cell old n k || (z && (above n path && d))) (ne_eqb k path other) ∙ or-false (cell old n k)

      on : (n : ℕ) (d : Bool) → (cell old n path || ((path == path) && (above n path && d))) ≡ (cell old n path || (above n path && d))
      on n d = ap (λ (z : Bool). cell old n path || (z && (above n path && d))) (eq-eqb path path refl)

      fresh : (up : Option ℕ) → MatchOption up (IsRoot paths of) (λ p. IsStepBelow paths p of) → done paths up of ≡ true
      fresh None root = refl
      fresh (Some p) step = ap not (not-above-up of p step)

      stays : (up : Option ℕ) → MatchOption up (IsRoot paths of) (λ p. IsStepBelow paths p of) → (n : ℕ) → n < length paths → n ≢ of → done paths (Some of) n ≡ done paths up n
      stays None root n here apart = ap not (above-root n of here chained.0 apart root)
      stays (Some p) step n here apart = ap not (above-step n of p here chained.0 apart step)

      at_path : (n : ℕ) → n < length paths → (n ≡ of) ⊎ (n ≢ of) → cell (marked now of path) n path ≡ (cell old n path || ((path == path) && (above n path && done paths up n)))
      at_path n here (inl same) =
          ap (λ (z : ℕ). cell (marked now of path) z path) same ∙ marked-here now of path m.square there (let k = inside in omega (k, count, arith))
          ∙ sym (on n (done paths up n) ∙ ap (λ (z : ℕ). cell old n path || (above z path && done paths up z)) same
          ∙ ap (λ (z : Bool). cell old n path || (z && done paths up of)) chained.1 ∙ ap (λ (z : Bool). cell old n path || z) (fresh up parent) ∙ or-true (cell old n path))
      at_path n here (inr apart) =
          marked-row now of path n path apart ∙ m.cells n path here
          ∙ ap (λ (z : Bool). cell old n path || ((path == path) && (above n path && z))) (stays up parent n here apart)

      next : (up : Option ℕ) → MatchOption up (IsRoot paths of) (λ p. IsStepBelow paths p of) → (p : ℕ) → up ≡ Some p → (p < length paths) × (above p path ≡ true)
      next None root p is = absurd (cc)
      next (Some q) step p is =
          let same = same_Some q p is in
          let early = step.earlier in
          let here = chained.0 in
          let lower : place_at paths of ≡ below step.place (step.step ∷ []) = get_or_from_slice_get paths of (below step.place (step.step ∷ [])) (whole_local 0) step.here in
          let upper : place_at paths q ≡ step.place = get_or_from_slice_get paths q step.place (whole_local 0) step.above in (
            omega (same, early, here, arith),
            subst (λ (z : ℕ). above z path ≡ true) same (transitive (place_at paths q) (place_at paths of) (place_at paths path)
                (ap (λ (z : Place). is_at_or_above z (place_at paths of)) upper ∙ ap (is_at_or_above step.place) lower ∙ above-stays step.place step.place (step.step ∷ []) (above-refl step.place)) chained.1),
          )

  pub marked-none : (bits : ℕ) → bits ≡ length paths → Marked paths (masks_from bits 0 (replicate bits None)) 0
  marked-none bits size = record {
    long = alone-long bits 0 bits ∙ size;
    square = λ n here. ap length (own n (let k = alone-long bits 0 bits in omega (k, here, arith))) ∙ length-single bits n ∙ sym (alone-long bits 0 bits);
    cells = λ n k here. ap (λ (z : Bits). slice_index_or z k false) (own n (omega (size, here, arith))) ∙ single-at bits n k (omega (size, here, arith))
        ∙ sym (ap (λ (z : Bool). (n == k) || (z && above n k)) (le-ltb k 0 (omega arith)) ∙ or-false (n == k));
  }
    where
      own : (n : ℕ) → n < bits → slice_index_or (masks_from bits 0 (replicate bits None)) n [] ≡ single bits n
      own n inside = alone-at bits 0 bits n inside ∙ ap (single bits) (let e : 0 + n ≡ n = omega arith in e)

  or-or : (a b c : Bool) → ((a || b) || c) ≡ (a || (b || c))
  or-or true b c = refl
  or-or false b c = refl

  pub marked-more : (old new : List Bits) (count : ℕ) → Marked paths old count → IsMarked paths old new count → Marked paths new (count + 1)
  marked-more old new count m more = record {
    long = more.long ∙ m.long;
    square = more.square;
    cells = λ n k here. more.cells n k here ∙ ap (λ (z : Bool). z || ((k == count) && above n count)) (m.cells n k here)
        ∙ or-or (n == k) (nat_lt k count && above n k) ((k == count) && above n count) ∙ ap (λ (z : Bool). (n == k) || z) (by n k (cases_lt k count));
  }
    where
      by : (n k : ℕ) → (k < count) ⊎ (count ≤ k) → ((nat_lt k count && above n k) || ((k == count) && above n count)) ≡ (nat_lt k (count + 1) && above n k)
      by n k (inl less) =
          ap (λ (z : Bool). (nat_lt k count && above n k) || (z && above n count)) (ne_eqb k count (λ e. omega (e, less, arith)))
          ∙ or-false (nat_lt k count && above n k)
          ∙ ap (λ (z : Bool). z && above n k) (lt-ltb k count less ∙ sym (lt-ltb k (count + 1) (omega (less, arith))))
      by n k (inr more) = elim (cases_eq k count) [
        | inl same ↦ ap (λ (z : Bool). (z && above n k) || ((k == count) && above n count)) (le-ltb k count more)
            ∙ ap (λ (z : Bool). z && above n count) (eq-eqb k count same)
            ∙ ap (above n) (sym same)
            ∙ ap (λ (z : Bool). z && above n k) (sym (lt-ltb k (count + 1) (omega (same, arith))))
        | inr other ↦ ap (λ (z : Bool). (z && above n k) || ((k == count) && above n count)) (le-ltb k count more)
            ∙ ap (λ (z : Bool). z && above n count) (ne_eqb k count other)
            ∙ ap (λ (z : Bool). z && above n k) (sym (le-ltb k (count + 1) (omega (more, other, arith))))
      ]

  pub marked-all : (masks : List Bits) (count : ℕ) → Marked paths masks count → length paths ≤ count → masks ≡ masks_of paths
  marked-all masks count m all = same_lists masks (masks_of paths) (m.long ∙ sym (length-map paths (mask_of paths))) row
    where
      own : (n k : ℕ) → (n ≡ k) ⊎ (n ≢ k) → ((n == k) || above n k) ≡ above n k
      own n k (inl same) = ap (λ (z : Bool). z || above n k) (eq-eqb n k same) ∙ sym (ap (above n) (sym same) ∙ above-refl (place_at paths n))
      own n k (inr other) = ap (λ (z : Bool). z || above n k) (ne_eqb n k other)

      row : (n : ℕ) (d : Bits) → n < length masks → slice_index_or masks n d ≡ slice_index_or (masks_of paths) n d
      row n d here =
          let inside : n < length paths = (let k = m.long in omega (k, here, arith)) in
          get_or_default masks n d [] here
          ∙ same_lists (slice_index_or masks n []) (mask_of paths (place_at paths n))
          (m.square n here ∙ m.long ∙ sym (length-map paths (is_at_or_above (place_at paths n))))
          (λ k b small. let within : k < length paths = (let z = m.square n here in let y = m.long in omega (z, y, small, arith)) in
          get_or_default (slice_index_or masks n []) k b false small
          ∙ m.cells n k inside
          ∙ ap (λ (z : Bool). (n == k) || (z && above n k)) (lt-ltb k count (omega (within, all, arith)))
          ∙ own n k (cases_eq n k)
          ∙ sym (get_or-map (is_at_or_above (place_at paths n)) paths k (whole_local 0) b within))
          ∙ sym (get_or-map (mask_of paths) paths n (whole_local 0) d inside)
