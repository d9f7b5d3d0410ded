-- The types of parts by their numbers, and the steps to them.
use Rattle.std.proofs.Common.{◌≡◌, ◌∙◌, ◌∷◌, [], ◌++◌, ◌+◌, ◌<◌, ◌≤◌, ℕ, zero, suc, Bool, List, Option, Some, None, drop, length, map, slice_get, refl, rules, sym, ap, append_assoc, append-nil, arith}
use Rattle.std.specs.Prelude.{get_or, is_some, option_and_then, unwrap_or}
use Rattle.std.proofs.Math.Path.{fun_ext}
use Rattle.std.proofs.lemmas.List.{at_drop_more, at_drop_all}
use Rattle.std.proofs.lemmas.Option.{get_or_from_slice_get, slice_get_within}
use Rattle.mir_ty.specs.declared.ty.Ty.{Ty}
use Rattle.mir_ty.specs.declared.ty.TyId.{TyId}
use Rattle.mir_ty.specs.ItemTable.{ItemTable, type_at}
use Rattle.mir_ty.specs.Parts.{field_ty, parts_of}
use Rattle.store_model.specs.Places.Place.{Step, ToPart, ToField, is_enum, part_if, unless_enum, step_ty}
use Rattle.cfg_graph.specs.Places.{named_step}
use Rattle.drop_values.specs.Planning.{stepped}
use Rattle.drop_blocks.specs.Ladders.{step_of}
use Rattle.drop_blocks.specs.View.{plan_in, parts_in, plans_from}
use Rattle.drop_blocks.specs.declared.plan.Plan.{Plan, the_lemmas}
use Rattle.drop_blocks.specs.declared.plan.VariantPlan.{roll-VariantPlan}
use Rattle.drop_plans.specs.Plans.{ids_in}

pub field-is : (items : ItemTable) (id : TyId) (variant n : ℕ) →
    field_ty items id variant n ≡ slice_get (ids_in items (type_at items id) variant) n
field-is items id variant n = by (type_at items id)
  where
    by : (o : Option Ty) → option_and_then (λ ty. slice_get (parts_of items ty variant) n) o ≡ slice_get (ids_in items o variant) n
    by None = refl
    by (Some ty) = refl

pub past-all : {X : Type 0} (xs : List X) (n : ℕ) → slice_get xs n ≡ None → length xs ≤ n
past-all [] n none = omega arith
past-all (x ∷ xs) zero none = absurd (cc)
past-all (x ∷ xs) (suc n) none = let rest = past-all xs n none in omega (rest, arith)

pub part-steps : (λ (n : ℕ). named_step (step_of None n)) ≡ ToPart
part-steps = fun_ext (λ n. refl)

-- the step to a part leads to its type
pub fits : (items : ItemTable) (id part : TyId) (variant : Option ℕ) (n : ℕ) (ty : Ty) → type_at items id ≡ Some ty →
    is_enum items ty ≡ is_some variant → slice_get (parts_of items ty (unwrap_or variant 0)) n ≡ Some part →
    stepped items (named_step (step_of variant n)) id ≡ part
fits items id part None n ty typed enum at =
    ap (λ (o : Option Ty). unwrap_or (option_and_then (step_ty items (ToPart n)) o) id) typed
    ∙ ap (λ (b : Bool). unwrap_or (unless_enum b (slice_get (parts_of items ty 0) n)) id) enum
    ∙ ap (λ (o : Option TyId). unwrap_or o id) at
fits items id part (Some v) n ty typed enum at =
    ap (λ (o : Option Ty). unwrap_or (option_and_then (step_ty items (named_step (step_of (Some v) n))) o) id) typed
    ∙ ap (λ (b : Bool). unwrap_or (part_if b (slice_get (parts_of items ty v) n)) id) enum
    ∙ ap (λ (o : Option TyId). unwrap_or o id) at

-- one element more
pub listed-more :
    {X Y : Type 0} (F : List X → ℕ → List Y) (part : X → ℕ → Y) (xs : List X) (n next : ℕ) (x : X) (made new all : List Y) →
    ((y : X) (rest : List X) (k : ℕ) → F (y ∷ rest) k ≡ part y k ∷ F rest (suc k)) → slice_get xs n ≡ Some x →
    next ≡ suc n → new ≡ made ++ part x n ∷ [] → made ++ F (drop n xs) n ≡ all → new ++ F (drop next xs) next ≡ all
listed-more {X} {Y} F part xs n next x made new all cons at is_next is_new so_far =
    let less : n < length xs = slice_get_within xs n x at in
    let one : next ≡ n + 1 = omega arith in
    let first : F (drop n xs) n ≡ part x n ∷ F (drop next xs) next =
    at_drop_more (λ (l : List X). F l n) xs n x less ∙ cons (get_or xs n x) (drop (n + 1) xs) n
    ∙ (λ i. part (get_or_from_slice_get xs n x x at i) n ∷ F (drop (sym one i) xs) (sym is_next i)) in
    ap (λ (l : List Y). l ++ F (drop next xs) next) is_new
    ∙ append_assoc made (part x n ∷ []) (F (drop next xs) next)
    ∙ ap (λ (l : List Y). made ++ l) (sym first)
    ∙ so_far

pub listed-all : {X Y : Type 0} (F : List X → ℕ → List Y) (xs : List X) (n : ℕ) (made all : List Y) → F [] n ≡ [] →
    length xs ≤ n → made ++ F (drop n xs) n ≡ all → made ≡ all
listed-all {X} {Y} F xs n made all none far so_far =
    sym (append-nil made) ∙ ap (λ (l : List Y). made ++ l) (sym none)
    ∙ ap (λ (l : List Y). made ++ l) (sym (at_drop_all (λ (l : List X). F l n) xs n far)) ∙ so_far

pub some-at : {X : Type 0} (xs : List X) (n : ℕ) → n < length xs → (x : X) × (slice_get xs n ≡ Some x)
some-at [] n less = absurd (omega (less, arith))
some-at (x ∷ xs) zero less = (x, refl)
some-at (x ∷ xs) (suc n) less = some-at xs n (omega (less, arith))

pub field-steps : (variant : ℕ) → (λ (n : ℕ). named_step (step_of (Some variant) n)) ≡ ToField variant
field-steps variant = fun_ext (λ n. refl)

pub variant_made : (parts : List Plan) →
    parts_in (roll-VariantPlan record { parts = parts }) ≡ plans_from (map plan_in parts)
variant_made parts = search (rules, the_lemmas)
