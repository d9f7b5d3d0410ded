-- Lists of shared blocks, by the place where they are listed.
use Rattle.std.proofs.Common.{◌≡◌, ◌∙◌, ◌++◌, ◌∷◌, ◌<◌, ◌==◌, inl, inr, ℕ, zero, suc, Bool, List, [], length, slice_set, if◌then◌else◌, refl, sym, ap, arith}
use Rattle.std.proofs.lemmas.Bool.Decides.{eqb_tells}
use Rattle.lower_rules.specs.Build.{listed_at, with_shared}
use Rattle.lower_blocks.specs.Building.{blocks_at, building_of, end_of, listed_as, listed_in}
use Rattle.lower_blocks.specs.declared.blocks.Blocks.{Blocks}
use Rattle.lower_blocks.specs.declared.blocks.SharedBlock.{SharedBlock}
use Rattle.lower_blocks.proofs.Lasts.{shared_last}

-- a list without blocks adds nothing
pub none_more : (lists : List (List SharedBlock)) (i : ℕ) → blocks_at (lists ++ [] ∷ []) i ≡ blocks_at lists i
none_more [] zero = refl
none_more [] (suc i) = refl
none_more (x ∷ lists) zero = refl
none_more (x ∷ lists) (suc i) = none_more lists i

set_here : (lists : List (List SharedBlock)) (place : ℕ) (x : List SharedBlock) → place < length lists →
    blocks_at (slice_set lists place x) place ≡ x
set_here [] place x less = absurd (omega arith)
set_here (y ∷ lists) zero x less = refl
set_here (y ∷ lists) (suc place) x less = set_here lists place x (omega arith)

set_elsewhere : (lists : List (List SharedBlock)) (place i : ℕ) (x : List SharedBlock) → (i ≡ place → ⊥) →
    blocks_at (slice_set lists place x) i ≡ blocks_at lists i
set_elsewhere [] place i x apart = refl
set_elsewhere (y ∷ lists) zero zero x apart = absurd (apart refl)
set_elsewhere (y ∷ lists) zero (suc i) x apart = refl
set_elsewhere (y ∷ lists) (suc place) zero x apart = refl
set_elsewhere (y ∷ lists) (suc place) (suc i) x apart = set_elsewhere lists place i x (λ is. apart (ap suc is))

-- one block more is listed
listed_more : (old lists : List (List SharedBlock)) (place i : ℕ) (b : SharedBlock) → place < length lists →
    ((j : ℕ) → blocks_at lists j ≡ blocks_at old j) →
    listed_in (blocks_at (slice_set lists place (blocks_at lists place ++ b ∷ [])) i)
    ≡ (if i == place then listed_as b ∷ listed_in (blocks_at old i) else listed_in (blocks_at old i))
listed_more old lists place i b less same =
    elim (eqb_tells i place) [
      | inl here ↦
          ap (λ (j : ℕ). listed_in (blocks_at (slice_set lists place (blocks_at lists place ++ b ∷ [])) j)) here.1
          ∙ ap listed_in (set_here lists place (blocks_at lists place ++ b ∷ []) less)
          ∙ shared_last (blocks_at lists place) b
          ∙ ap (λ (bs : List SharedBlock). listed_as b ∷ listed_in bs)
          (ap (blocks_at lists) (sym here.1) ∙ same i)
          ∙ ap (λ (t : Bool). if t then listed_as b ∷ listed_in (blocks_at old i) else listed_in (blocks_at old i))
          (sym here.0)
      | inr there ↦
          ap listed_in (set_elsewhere lists place i (blocks_at lists place ++ b ∷ []) there.1 ∙ same i)
          ∙ ap (λ (t : Bool). if t then listed_as b ∷ listed_in (blocks_at old i) else listed_in (blocks_at old i))
          (sym there.0)
    ]

pub kept : (old : Blocks) (lists : List (List SharedBlock)) (place : ℕ) (b : SharedBlock) →
    place < length lists → ((j : ℕ) → blocks_at lists j ≡ blocks_at old.shared j) → place ≡ listed_at (end_of b.end) →
    building_of (record old { shared = slice_set lists place (blocks_at lists place ++ b ∷ []) })
    ≡ with_shared (end_of b.end) b.block (building_of old)
kept old lists place b less same is = λ j. record {
  blocks = (building_of old).blocks;
  shared = λ i.
      (listed_more old.shared lists place i b less same
      ∙ ap (λ (p : ℕ). if i == p then listed_as b ∷ listed_in (blocks_at old.shared i) else listed_in
      (blocks_at old.shared i)) is) j;
}
