-- A test of a list, element after element; and of the plans of parts and of variants.
use Rattle.std.proofs.Common.{◌≡◌, ◌∙◌, ◌∷◌, [], ◌+◌, ◌<◌, ◌≤◌, ℕ, suc, Bool, true, false, ◌||◌, List, drop, length, map, refl, sym, ap}
use Rattle.std.specs.Prelude.{get_or}
use Rattle.std.proofs.lemmas.List.{at_drop_more, at_drop_all}
use Rattle.drop_values.specs.Plan.{Plans}
use Rattle.drop_blocks.specs.View.{plan_in, parts_in, plans_from, cases_from}
use Rattle.drop_blocks.specs.declared.plan.Plan.{Plan}
use Rattle.drop_blocks.specs.declared.plan.VariantPlan.{VariantPlan}
use Rattle.drop_laws.specs.Rungs.{has_rung, any_rung, some_rung, reads, any_reads, some_reads}

module _ {X : Type 0} (F : List X → Bool) (f : X → Bool) (cons : (x : X) (xs : List X) → F (x ∷ xs) ≡ (f x || F xs))
  where
    pub one-more : (xs : List X) (i : ℕ) (x : X) → i < length xs → x ≡ get_or xs i x →
        F (drop i xs) ≡ (f x || F (drop (i + 1) xs))
    one-more xs i x less is =
        at_drop_more F xs i x less ∙ cons (get_or xs i x) (drop (i + 1) xs)
        ∙ ap (λ (y : X). f y || F (drop (i + 1) xs)) (sym is)

pub rung-cons : (plan : Plan) (plans : List Plan) → any_rung (plans_from (map plan_in (plan ∷ plans)))
    ≡ (has_rung (plan_in plan) || any_rung (plans_from (map plan_in plans)))
rung-cons plan plans = refl

rung-from : (parts : List Plans) (n m : ℕ) → some_rung (cases_from parts n) ≡ some_rung (cases_from parts m)
rung-from [] n m = refl
rung-from (first ∷ rest) n m = ap (λ (b : Bool). any_rung first || b) (rung-from rest (suc n) (suc m))

pub variant-rung-cons : (variant : VariantPlan) (variants : List VariantPlan) →
    some_rung (cases_from (map parts_in (variant ∷ variants)) 0)
    ≡ (any_rung (parts_in variant) || some_rung (cases_from (map parts_in variants) 0))
variant-rung-cons variant variants =
    ap (λ (b : Bool). any_rung (parts_in variant) || b) (rung-from (map parts_in variants) 1 0)

pub reads-cons : (k : ℕ) (plan : Plan) (plans : List Plan) → any_reads k (plans_from (map plan_in (plan ∷ plans)))
    ≡ (reads k (plan_in plan) || any_reads k (plans_from (map plan_in plans)))
reads-cons k plan plans = refl

reads-from : (k : ℕ) (parts : List Plans) (n m : ℕ) → some_reads k (cases_from parts n)
    ≡ some_reads k (cases_from parts m)
reads-from k [] n m = refl
reads-from k (first ∷ rest) n m = ap (λ (b : Bool). any_reads k first || b) (reads-from k rest (suc n) (suc m))

pub variant-reads-cons : (k : ℕ) (variant : VariantPlan) (variants : List VariantPlan) →
    some_reads k (cases_from (map parts_in (variant ∷ variants)) 0)
    ≡ (any_reads k (parts_in variant) || some_reads k (cases_from (map parts_in variants) 0))
variant-reads-cons k variant variants =
    ap (λ (b : Bool). any_reads k (parts_in variant) || b) (reads-from k (map parts_in variants) 1 0)
