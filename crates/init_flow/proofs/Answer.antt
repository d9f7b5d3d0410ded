-- At the end of the work list the rows are those that paths carry.
use Rattle.std.proofs.Common.{◌≡◌, ◌⊎◌, inl, inr, ℕ, zero, suc, ◌<◌, Bool, true, false, ◌||◌, if◌then◌else◌, List, [], ◌∷◌, replicate, Option, Some, None, refl, sym, ap, subst, ◌∙◌, arith}
use Rattle.std.specs.Prelude.{◌==◌, slice_index_or, Contains}
use Rattle.std.proofs.lemmas.Bool.{false≢true, cases_lt, eqb-true, eq-eqb}
use Rattle.std.proofs.lemmas.List.{get_or-replicate, length-replicate}
use Rattle.std.proofs.lemmas.List.Elements.{Contains-append_left, Contains-append_right, Contains-append_cases}
use Rattle.std.proofs.Math.ListN.{get_or-eq_default}
use Rattle.init_flow.specs.Carried.{Bits, leads_to, last_of, rows_along, CarriesBit, AreCarried}
use Rattle.init_flow.proofs.Rows.{union-bit}
use Rattle.init_flow.specs.WorkList.{Problem, SolverState, row_at, is_reached, Onward, here, there, Made, one, both, Law, Good, Started}
use Rattle.init_flow.proofs.Invariant.{onward-width, made-width, carried}

either_true : (a b : Bool) → (a || b) ≡ true → (a ≡ true) ⊎ (b ≡ true)
either_true true b h = inl refl
either_true false b h = inr h

or_first : (a b : Bool) → a ≡ true → (a || b) ≡ true
or_first true b h = refl
or_first false b h = absurd (false≢true h)

leads-to : (target : Option ℕ) (to : ℕ) → target ≡ Some to → leads_to to target ≡ true
leads-to None to h = absurd (cc)
leads-to (Some n) to h = eq-eqb n to (some-same h)
  where
    some-same : Some n ≡ Some to → n ≡ to
    some-same h = cc

module _ (f : Problem) (law : Law f) where
  abbrev Along : ℕ → Bits → ℕ → Bits → Type 0
  Along = Onward f

  -- a bit of a union of carried rows is in one of them
  in_one : (n : ℕ) (row : Bits) (i : ℕ) → Made f n row → slice_index_or row i false ≡ true
      → (end : Bits) × Along 0 f.start n end × (slice_index_or end i false ≡ true)
  in_one _ _ i (one n row o) h = (row, o, h)
  in_one _ _ i (both n a b p q) h =
      elim (either_true (slice_index_or a i false) (slice_index_or b i false) (sym (union-bit a b i (made-width f law n a p ∙ sym (made-width f law n b q))) ∙ h))
      [ inl h ↦ in_one n a i p h | inr h ↦ in_one n b i q h ]

  abbrev by_way : ℕ → ℕ → Bits → ℕ → List ℕ → List Bits
  by_way n k row to path = if leads_to to (f.target n k) then rows_along f.target f.pass to (f.pass n k row) path else []

  led : (n k : ℕ) (row : Bits) (to : ℕ) (path : List ℕ) (end : Bits) → f.target n k ≡ Some to → Contains (rows_along f.target f.pass to (f.pass n k row) path) end → Contains (by_way n k row to path) end
  led n k row to path end is h =
      subst (λ b. Contains (if b then rows_along f.target f.pass to (f.pass n k row) path else []) end) (sym (leads-to (f.target n k) to is)) h

  -- ways of going on are paths
  path_of : (n : ℕ) (row : Bits) (last : ℕ) (end : Bits) → Along n row last end
      → (path : List ℕ) × (last_of n path ≡ last) × Contains (rows_along f.target f.pass n row path) end
  path_of _ _ _ _ (here n row) = ([], refl, (0, omega arith, refl))
  path_of _ _ _ _ (there n zero m row last end to small rest) =
      let found = path_of m (f.pass n 0 row) last end rest in
      (m ∷ found.0, found.1, Contains-append_left (by_way n 0 row m found.0) (by_way n 1 row m found.0) end (led n 0 row m found.0 end to found.2))
  path_of _ _ _ _ (there n (suc zero) m row last end to small rest) =
      let found = path_of m (f.pass n 1 row) last end rest in
      (m ∷ found.0, found.1, Contains-append_right (by_way n 0 row m found.0) (by_way n 1 row m found.0) end (led n 1 row m found.0 end to found.2))
  path_of _ _ _ _ (there n (suc (suc k)) m row last end to small rest) = absurd (omega (small, arith))

  -- and paths are ways of going on
  of_path : (path : List ℕ) (n : ℕ) (row end : Bits) → Contains (rows_along f.target f.pass n row path) end → Along n row (last_of n path) end
  of_path [] n row end (zero, below, is) = subst (Onward f n row n) is (here n row)
  of_path [] n row end (suc k, below, is) = absurd (omega (below, arith))
  of_path (to ∷ path) n row end h = elim (Contains-append_cases (by_way n 0 row to path) (by_way n 1 row to path) end h) [ inl h ↦ by 0 (omega arith) (of_path path to (f.pass n 0 row) end) h | inr h ↦ by 1 (omega arith) (of_path path to (f.pass n 1 row) end) h ]
    where
      by : (k : ℕ) → k < 2 → (Contains (rows_along f.target f.pass to (f.pass n k row) path) end → Along to (f.pass n k row) (last_of to path) end) → Contains (if leads_to to (f.target n k) then rows_along f.target f.pass to (f.pass n k row) path else []) end → Along n row (last_of to path) end
      by k small onward h = at (f.target n k) refl h
        where
          at : (o : Option ℕ) → f.target n k ≡ o → Contains (if leads_to to o then rows_along f.target f.pass to (f.pass n k row) path else []) end → Along n row (last_of to path) end
          at None is h = absurd (omega (h.1, arith))
          at (Some m) is h = leading (m == to) refl h
            where
              leading : (b : Bool) → (m == to) ≡ b → Contains (if b then rows_along f.target f.pass to (f.pass n k row) path else []) end → Along n row (last_of to path) end
              leading false e h = absurd (omega (h.1, arith))
              leading true e h =
                  let same : m ≡ to = eqb-true m to e in
                  there n k to row (last_of to path) end (is ∙ ap Some same) small (onward h)

  module _ (s : SolverState) (done : Good f s [] 0 2) (started : Started f s)
      (exists : (n k m : ℕ) → f.target n k ≡ Some m → n < f.blocks) where
    none_on : (i : ℕ) → slice_index_or (replicate f.width false) i false ≡ false
    none_on i = elim (cases_lt i f.width) [ inl h ↦ get_or-replicate f.width i false false h | inr h ↦ get_or-eq_default (replicate f.width false) false (omega (h, length-replicate {A = Bool} f.width false, arith)) ]

    pub are_carried : AreCarried f.blocks f.target f.pass f.start s.rows
    are_carried n i below = (on, off)
      where
        on : slice_index_or (row_at s n) i false ≡ true → CarriesBit f.target f.pass f.start n i
        on h = by (is_reached s n) refl
          where
            by : (b : Bool) → is_reached s n ≡ b → CarriesBit f.target f.pass f.start n i
            by false r = absurd (false≢true (sym (ap (λ (z : Bits). slice_index_or z i false) (done.none n below r) ∙ none_on i) ∙ h))
            by true r =
                let found = in_one n (row_at s n) i (done.made n below r) h in
                let path = path_of 0 f.start n found.0 found.1 in
                (found.0, (path.0, path.1, path.2), found.2)

        off : CarriesBit f.target f.pass f.start n i → slice_index_or (row_at s n) i false ≡ true
        off (end, (path, at, h), bit) =
            let along = subst (λ (z : ℕ). Along 0 f.start z end) at (of_path path 0 f.start end h) in
            let within = carried f law s done started exists n end below along in
            sym (ap (λ (z : Bits). slice_index_or z i false) within) ∙ union-bit end (row_at s n) i (onward-width f law 0 f.start n end along law.begins ∙ sym (done.widths n below)) ∙ or_first (slice_index_or end i false) (slice_index_or (row_at s n) i false) bit
