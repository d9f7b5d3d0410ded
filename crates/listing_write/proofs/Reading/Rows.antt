-- Rows of things that are written one after the other, read one by one until nothing more of them is there.
use Rattle.std.proofs.Common.{◌≡◌, ℕ, zero, suc, ◌<◌, ◌≤◌, List, [], ◌∷◌, ◌++◌, map, flat_map, length, codes, Option, Some, None, refl, ap, sym, subst, ◌∙◌, arith, append_assoc, length-append}
use Rattle.std.specs.Prelude.{⊤}
use Rattle.listing_write.specs.Compared.{numbered}
use Rattle.listing_write.specs.Items.{counted}
use Rattle.listing_write.specs.Lists.{behind_commas, joined}
use Rattle.listing_write.proofs.Reading.Basics.{FoundInText, Every, bind, strip}
pub use Rattle.listing_write.specs.Reading.Rows.{after, many_within, many, comma, row_from, row, closed_row, in_row}

abbrev pub EveryFrom : {X : Type 0} → (ℕ → X → Type 0) → ℕ → List X → Type 0
EveryFrom Good n [] = ⊤
EveryFrom Good n (x ∷ xs) = Good n x × EveryFrom Good (suc n) xs

module _ {X Z : Type 0} (read : List ℕ → FoundInText Z) (text : ℕ → X → List ℕ) (seen : ℕ → X → Z) (Good : ℕ → X → Type 0) (Ends : List ℕ → Type 0) where
  module _ (one : (n : ℕ) (x : X) → Good n x → (r : List ℕ) → Ends r → read (text n x ++ r) ≡ Some (seen n x, r))
      (next : (n : ℕ) (x : X) → Good n x → (r : List ℕ) → Ends (text n x ++ r)) (some : (n : ℕ) (x : X) → 0 < length (text n x)) where
    ends_more : (n : ℕ) (xs : List X) (r : List ℕ) → EveryFrom Good n xs → Ends r → Ends (counted text n xs ++ r)
    ends_more n [] r good e = e
    ends_more n (x ∷ xs) r good e = subst Ends (sym (append_assoc (text n x) (counted text (suc n) xs) r)) (next n x good.0 (counted text (suc n) xs ++ r))

    within_reads : (k n : ℕ) (xs : List X) (r : List ℕ) → EveryFrom Good n xs → Ends r → read r ≡ None → length (counted text n xs ++ r) ≤ k
        → many_within k read (counted text n xs ++ r) ≡ (numbered seen n xs, r)
    within_reads zero n [] r good e stop le = refl
    within_reads (suc k) n [] r good e stop le = ap (λ (f : FoundInText Z). after f (many_within k read) r) stop
    within_reads zero n (x ∷ xs) r good e stop le =
        absurd (omega (arith, some n x, length-append (text n x ++ counted text (suc n) xs) r, length-append (text n x) (counted text (suc n) xs)))
    within_reads (suc k) n (x ∷ xs) r good e stop le =
        let rest : List ℕ = counted text (suc n) xs ++ r in
        let split : (text n x ++ counted text (suc n) xs) ++ r ≡ text n x ++ rest = append_assoc (text n x) (counted text (suc n) xs) r in
        let short : length rest ≤ k = omega (arith, some n x, le, ap length split, length-append (text n x) rest) in
        ap (many_within (suc k) read) split
        ∙ ap (λ (f : FoundInText Z). after f (many_within k read) (text n x ++ rest)) (one n x good.0 rest (ends_more (suc n) xs r good.1 e))
        ∙ ap (λ (q : List Z × List ℕ). (seen n x ∷ q.0, q.1)) (within_reads k (suc n) xs r good.1 e stop short)

    pub numbered_reads : (n : ℕ) (xs : List X) (r : List ℕ) → EveryFrom Good n xs → Ends r → read r ≡ None → many read (counted text n xs ++ r) ≡ (numbered seen n xs, r)
    numbered_reads n xs r good e stop = within_reads (length (counted text n xs ++ r)) n xs r good e stop (omega arith)

pub numbered-map : {X Z : Type 0} (seen : X → Z) (n : ℕ) (xs : List X) → numbered (λ (k : ℕ). seen) n xs ≡ map seen xs
numbered-map seen n [] = refl
numbered-map seen n (x ∷ xs) = ap (λ (zs : List _). seen x ∷ zs) (numbered-map seen (suc n) xs)

pub every_from : {X : Type 0} (Good : X → Type 0) (n : ℕ) (xs : List X) → Every Good xs → EveryFrom (λ (k : ℕ). Good) n xs
every_from Good n [] h = tt
every_from Good n (x ∷ xs) h = (h.0, every_from Good (suc n) xs h.1)

module _ {X Z : Type 0} (read : List ℕ → FoundInText Z) (text : ℕ → X → List ℕ) (seen : X → Z) (Good : X → Type 0) (Ends : List ℕ → Type 0)
    (one : (n : ℕ) (x : X) → Good x → (r : List ℕ) → Ends r → read (text n x ++ r) ≡ Some (seen x, r))
    (next : (n : ℕ) (x : X) → Good x → (r : List ℕ) → Ends (text n x ++ r)) (some : (n : ℕ) (x : X) → 0 < length (text n x)) where
  pub many_reads : (n : ℕ) (xs : List X) (r : List ℕ) → Every Good xs → Ends r → read r ≡ None → many read (counted text n xs ++ r) ≡ (map seen xs, r)
  many_reads n xs r good e stop =
      numbered_reads read text (λ (k : ℕ). seen) (λ (k : ℕ). Good) Ends one next some n xs r (every_from Good n xs good) e stop
      ∙ ap (λ (zs : List Z). (zs, r)) (numbered-map seen n xs)

-- without numbers
pub flat_counted : {X : Type 0} (text : X → List ℕ) (n : ℕ) (xs : List X) → flat_map text xs ≡ counted (λ (k : ℕ). text) n xs
flat_counted text n [] = refl
flat_counted text n (x ∷ xs) = ap (λ (w : List ℕ). text x ++ w) (flat_counted text (suc n) xs)

-- what is no beginning of one thing is none of several
pub none_before : {X Z : Type 0} (read : List ℕ → FoundInText Z) (text : ℕ → X → List ℕ) → ((n : ℕ) (x : X) (t : List ℕ) → read (text n x ++ t) ≡ None)
    → (n : ℕ) (xs : List X) (r : List ℕ) → read r ≡ None → read (counted text n xs ++ r) ≡ None
none_before read text never n [] r h = h
none_before read text never n (x ∷ xs) r h = ap read (append_assoc (text n x) (counted text (suc n) xs) r) ∙ never n x (counted text (suc n) xs ++ r)

behind_map : {X : Type 0} (text : X → List ℕ) (xs : List X) → behind_commas (map text xs) ≡ counted (λ (k : ℕ) x. codes ", " ++ text x) 0 xs
behind_map text xs = by 0 xs
  where
    by : (n : ℕ) (xs : List _) → behind_commas (map text xs) ≡ counted (λ (k : ℕ) x. codes ", " ++ text x) n xs
    by n [] = refl
    by n (x ∷ xs) = ap (λ (w : List ℕ). (codes ", " ++ text x) ++ w) (by (suc n) xs)

module _ {X Z : Type 0} (read : List ℕ → FoundInText Z) (text : X → List ℕ) (seen : X → Z) (Good : X → Type 0) (Ends : List ℕ → Type 0)
    (one : (x : X) → Good x → (r : List ℕ) → Ends r → read (text x ++ r) ≡ Some (seen x, r)) (at_comma : (t : List ℕ) → Ends (codes ", " ++ t)) where
  behind_reads : (xs : List X) (r : List ℕ) → Every Good xs → Ends r → strip (codes ", ") r ≡ None → many (comma read) (behind_commas (map text xs) ++ r) ≡ (map seen xs, r)
  behind_reads xs r good e stop =
      ap (λ (w : List ℕ). many (comma read) (w ++ r)) (behind_map text xs)
      ∙ many_reads (comma read) (λ (k : ℕ) (x : X). codes ", " ++ text x) seen Good Ends (λ n x g r e. one x g r e)
      (λ n x g r. at_comma (text x ++ r)) (λ n x. omega arith) 0 xs r good e (ap (λ (o : Option (List ℕ)). bind o read) stop)

  ends_behind : (xs : List X) (r : List ℕ) → Ends r → Ends (behind_commas (map text xs) ++ r)
  ends_behind [] r e = e
  ends_behind (x ∷ xs) r e = subst Ends (sym (append_assoc (codes ", " ++ text x) (behind_commas (map text xs)) r)) (at_comma (text x ++ (behind_commas (map text xs) ++ r)))

  pub row_of_none : (r : List ℕ) → read r ≡ None → row read r ≡ ([], r)
  row_of_none r stop = ap (λ (f : FoundInText Z). row_from read f r) stop

  pub row_reads : (x : X) (xs : List X) (r : List ℕ) → Every Good (x ∷ xs) → Ends r → strip (codes ", ") r ≡ None → row read (joined (map text (x ∷ xs)) ++ r) ≡ (map seen (x ∷ xs), r)
  row_reads x xs r good e no_comma =
      let rest : List ℕ = behind_commas (map text xs) ++ r in
      ap (row read) (append_assoc (text x) (behind_commas (map text xs)) r)
      ∙ ap (λ (f : FoundInText Z). row_from read f (text x ++ rest)) (one x good.0 rest (ends_behind xs r e))
      ∙ ap (λ (q : List Z × List ℕ). (seen x ∷ q.0, q.1)) (behind_reads xs r good.1 e no_comma)
