-- What a row of bits chooses of a list is what a test by these bits leaves of it.
use Rattle.std.proofs.Common.{◌≡◌, ◌∙◌, ◌∷◌, [], ◌++◌, ◌+◌, ◌<◌, ◌≤◌, ℕ, zero, suc, Bool, true, false, List, Some, drop, filter, length, map, slice_get, refl, sym, ap, append-nil, append_assoc, arith, if◌then◌else◌}
use Rattle.std.specs.Prelude.{get_or, slice_index_or}
use Rattle.std.proofs.lemmas.Bool.{false≢true}
use Rattle.std.proofs.lemmas.List.{at_drop_all, at_drop_more}
use Rattle.std.proofs.lemmas.Option.{none-some, same_Some}
use Rattle.store_model.specs.Places.Place.{Place}
use Rattle.cfg_graph.specs.NamedPlaces.{same_place}
use Rattle.init_flow.specs.Carried.{Bits}
use Rattle.move_paths.specs.Trie.{AreOnce}
use Rattle.drop_elaborate.proofs.Refilled.{same-places, same-itself}
use Rattle.drop_wants.specs.Marks.{chosen, AllOff}

-- the bit of a place
abbrev pub bit_of : Bits → List Place → Place → Bool
bit_of [] paths q = false
bit_of (bit ∷ row) [] q = false
bit_of (bit ∷ row) (p ∷ paths) q = if same_place q p then bit else bit_of row paths q

once-tail : (p : Place) (paths : List Place) → AreOnce (p ∷ paths) → AreOnce paths
once-tail p paths once i j x a b = let e = once (suc i) (suc j) x a b in omega (e, arith)

pub bit-is : (row : Bits) (paths : List Place) → AreOnce paths → (k : ℕ) (q : Place) → slice_get paths k ≡ Some q →
    bit_of row paths q ≡ slice_index_or row k false
bit-is [] paths once k q at = refl
bit-is (bit ∷ row) [] once k q at = absurd (none-some q at)
bit-is (bit ∷ row) (p ∷ paths) once zero q at =
    ap (λ (b : Bool). if b then bit else bit_of row paths q)
    (ap (same_place q) (same_Some p q at) ∙ same-itself q)
bit-is (bit ∷ row) (p ∷ paths) once (suc k) q at =
    by (same_place q p) refl (bit-is row paths (once-tail p paths once) k q at)
  where
    by : (b : Bool) → same_place q p ≡ b → bit_of row paths q ≡ slice_index_or row k false →
        (if b then bit else bit_of row paths q) ≡ slice_index_or row k false
    by false e rest = rest
    by true e rest =
        let same : q ≡ p = same-places q p e in
        let never : suc k ≡ 0 = once (suc k) 0 q at (ap Some (sym same)) in absurd (omega (never, arith))

pub chosen-filtered : (test : Place → Bool) (row : Bits) (paths : List Place) → length row ≡ length paths →
    ((k : ℕ) (q : Place) → slice_get paths k ≡ Some q → test q ≡ slice_index_or row k false) →
    chosen row paths ≡ filter test paths
chosen-filtered test [] [] long tells = refl
chosen-filtered test [] (p ∷ paths) long tells = absurd (omega (long, arith))
chosen-filtered test (bit ∷ row) [] long tells = absurd (omega (long, arith))
chosen-filtered test (true ∷ row) (p ∷ paths) long tells =
    let rest = chosen-filtered test row paths (omega (long, arith)) (λ k q at. tells (suc k) q at) in
    ap (λ z. p ∷ z) rest
    ∙ sym (ap (λ (b : Bool). if b then p ∷ filter test paths else filter test paths) (tells 0 p refl))
chosen-filtered test (false ∷ row) (p ∷ paths) long tells =
    let rest = chosen-filtered test row paths (omega (long, arith)) (λ k q at. tells (suc k) q at) in
    rest ∙ sym (ap (λ (b : Bool). if b then p ∷ filter test paths else filter test paths) (tells 0 p refl))

pub chosen-map : {X Y : Type 0} (f : X → Y) (row : Bits) (xs : List X) → map f (chosen row xs) ≡ chosen row (map f xs)
chosen-map f [] xs = refl
chosen-map f (bit ∷ row) [] = refl
chosen-map f (true ∷ row) (x ∷ xs) = ap (λ z. f x ∷ z) (chosen-map f row xs)
chosen-map f (false ∷ row) (x ∷ xs) = chosen-map f row xs

pub past-end : {X : Type 0} (xs : List X) (i : ℕ) (d : X) → length xs ≤ i → slice_index_or xs i d ≡ d
past-end [] i d far = refl
past-end (x ∷ xs) zero d far = absurd (omega (far, arith))
past-end (x ∷ xs) (suc i) d far = past-end xs i d (omega (far, arith))

-- nothing is chosen by bits that are off
pub chosen-none : {X : Type 0} (row : Bits) (xs : List X) → AllOff row → chosen row xs ≡ []
chosen-none [] xs off = refl
chosen-none (bit ∷ row) [] off = refl
chosen-none (true ∷ row) (x ∷ xs) off = absurd (false≢true (sym (off 0)))
chosen-none (false ∷ row) (x ∷ xs) off = chosen-none row xs (λ k. off (suc k))

-- element after element
module _ {X : Type 0} (row : Bits) (xs : List X) (long : length row ≡ length xs) where
  pub chosen-one : (i : ℕ) (x other : X) → i < length xs → x ≡ get_or xs i other → (bit : Bool) →
      slice_index_or row i false ≡ bit →
      chosen (drop i row) (drop i xs) ≡ chosen (bit ∷ drop (i + 1) row) (x ∷ drop (i + 1) xs)
  chosen-one i x other less is bit on =
      at_drop_more (λ (l : List X). chosen (drop i row) l) xs i other less
      ∙ at_drop_more (λ (l : Bits). chosen l (get_or xs i other ∷ drop (i + 1) xs)) row i false
      (omega (less, long, arith))
      ∙ (λ j. chosen (on j ∷ drop (i + 1) row) (sym is j ∷ drop (i + 1) xs))

  pub chosen-on : (i : ℕ) (x other : X) → i < length xs → x ≡ get_or xs i other → slice_index_or row i false ≡ true →
      (some : List X) →
      some ++ chosen (drop i row) (drop i xs) ≡ chosen row xs →
      (some ++ x ∷ []) ++ chosen (drop (i + 1) row) (drop (i + 1) xs) ≡ chosen row xs
  chosen-on i x other less is on some so_far =
      append_assoc some (x ∷ []) (chosen (drop (i + 1) row) (drop (i + 1) xs))
      ∙ ap (λ (l : List X). some ++ l) (sym (chosen-one i x other less is true on)) ∙ so_far

  pub chosen-off : (i : ℕ) (x other : X) → i < length xs → x ≡ get_or xs i other → slice_index_or row i false
      ≡ false → (some : List X) →
      some ++ chosen (drop i row) (drop i xs) ≡ chosen row xs →
      some ++ chosen (drop (i + 1) row) (drop (i + 1) xs) ≡ chosen row xs
  chosen-off i x other less is off some so_far =
      ap (λ (l : List X). some ++ l) (sym (chosen-one i x other less is false off)) ∙ so_far

  pub chosen-end : (i : ℕ) → length xs ≤ i → (some : List X) → some ++ chosen (drop i row) (drop i xs) ≡ chosen row xs →
      some ≡ chosen row xs
  chosen-end i far some so_far =
      sym (append-nil some)
      ∙ ap (λ (l : List X). some ++ l)
      (sym (at_drop_all (λ (l : Bits). chosen l (drop i xs)) row i (omega (far, long, arith))))
      ∙ so_far
