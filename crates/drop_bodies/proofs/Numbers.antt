-- The number of `bool` among types, and blocks with other ranks, one after another.
use Rattle.std.proofs.Common.{◌≡◌, ◌⊎◌, inl, inr, ◌↔◌, ◌∙◌, ◌∷◌, [], ◌+◌, ◌<◌, ◌≤◌, ℕ, zero, suc, Bool, true, false, List, Some, Contains, length, slice_get, refl, sym, ap, arith}
use Rattle.std.specs.Prelude.{slice_set}
use Rattle.std.proofs.lemmas.Bool.{false≢true, cases_lt}
use Rattle.std.proofs.lemmas.Option.{none-some, same_Some}
use Rattle.mir_ty.proofs.ListLemmas.{slice_get-Contains}
use Rattle.mir_ty.specs.declared.ty.Ty.{Ty}
use Rattle.cfg_graph.specs.declared.graph.Block.{Block}
use Rattle.drop_laws.specs.Ranked.{ranked_with}

-- ---- `bool`

abbrev pub HasNoneBefore : List Ty → ℕ → Type 0
HasNoneBefore types n = (i : ℕ) → i < n → slice_get types i ≡ Some Ty.Bool → ⊥

pub none-before : (types : List Ty) → HasNoneBefore types 0
none-before types i less at = omega (less, arith)

pub yet-to-come : (types : List Ty) (n : ℕ) → Contains types Ty.Bool → HasNoneBefore types n → n < length types
yet-to-come types n has none = by (cases_lt has.0 n)
  where
    by : (has.0 < n) ⊎ (n ≤ has.0) → n < length types
    by (inl less) = absurd (none has.0 less (slice_get-Contains types Ty.Bool has))
    by (inr far) = let within = has.1 in omega (far, within, arith)

pub one-past : (types : List Ty) (n : ℕ) (result : Bool) → HasNoneBefore types n →
    (result ≡ true) ↔ (slice_get types n ≡ Some Ty.Bool) → result ≡ false → HasNoneBefore types (n + 1)
one-past types n result none exact differs i less at = by (cases_lt i n)
  where
    by : (i < n) ⊎ (n ≤ i) → ⊥
    by (inl before) = none i before at
    by (inr past) =
        let same : i ≡ n = omega (less, past, arith) in
        false≢true (sym differs ∙ exact.1 (ap (slice_get types) (sym same) ∙ at))

-- ---- ranks

-- blocks, of which the first ones, so many, have their ranks
abbrev pub ranked_to : ℕ → List Block → List ℕ → List Block
ranked_to zero blocks ranks = blocks
ranked_to (suc n) [] ranks = []
ranked_to (suc n) (block ∷ blocks) [] = block ∷ blocks
ranked_to (suc n) (block ∷ blocks) (rank ∷ ranks) = record block { rank = rank } ∷ ranked_to n blocks ranks

pub ranked-long : (n : ℕ) (blocks : List Block) (ranks : List ℕ) → length (ranked_to n blocks ranks) ≡ length blocks
ranked-long zero blocks ranks = refl
ranked-long (suc n) [] ranks = refl
ranked-long (suc n) (block ∷ blocks) [] = refl
ranked-long (suc n) (block ∷ blocks) (rank ∷ ranks) = ap suc (ranked-long n blocks ranks)

-- one block more
pub ranked-more : (n : ℕ) (blocks : List Block) (ranks : List ℕ) (block : Block) (rank : ℕ) →
    slice_get (ranked_to n blocks ranks) n ≡ Some block → slice_get ranks n ≡ Some rank →
    slice_set (ranked_to n blocks ranks) n (record block { rank = rank }) ≡ ranked_to (suc n) blocks ranks
ranked-more zero [] ranks block rank at is = absurd (none-some block at)
ranked-more zero (b ∷ blocks) [] block rank at is = absurd (none-some rank is)
ranked-more zero (b ∷ blocks) (r ∷ ranks) block rank at is =
    let one = same_Some b block at in
    let two = same_Some r rank is in λ i. record (sym one i) { rank = sym two i } ∷ blocks
ranked-more (suc n) [] ranks block rank at is = absurd (none-some block at)
ranked-more (suc n) (b ∷ blocks) [] block rank at is = absurd (none-some rank is)
ranked-more (suc n) (b ∷ blocks) (r ∷ ranks) block rank at is =
    ap (λ (l : List Block). record b { rank = r } ∷ l) (ranked-more n blocks ranks block rank at is)

pub ranked-all : (n : ℕ) (blocks : List Block) (ranks : List ℕ) → length ranks ≡ length blocks → length blocks ≤ n →
    ranked_to n blocks ranks ≡ ranked_with blocks ranks
ranked-all zero [] ranks same far = refl
ranked-all zero (block ∷ blocks) ranks same far = absurd (omega (far, arith))
ranked-all (suc n) [] ranks same far = refl
ranked-all (suc n) (block ∷ blocks) [] same far = absurd (omega (same, arith))
ranked-all (suc n) (block ∷ blocks) (rank ∷ ranks) same far =
    ap (λ (l : List Block). record block { rank = rank } ∷ l)
    (ranked-all n blocks ranks (omega (same, arith)) (omega (far, arith)))
