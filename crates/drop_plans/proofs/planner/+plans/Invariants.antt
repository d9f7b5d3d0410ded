use Rattle.std.proofs.Common.{◌≡◌, ◌+◌, ◌-◌, ◌*◌, ◌++◌, ℕ, drop, length, map, slice_get}
use Rattle.mir_ty.specs.Parts.{variants_of}
use Rattle.move_paths.specs.Forest.{path_at}
use Rattle.drop_values.specs.Facts.{Branches, at_path}
use Rattle.drop_blocks.specs.View.{plan_in, parts_in}
use Rattle.drop_plans.specs.Plans.{IsOfVariant, IsEnum, ids_of}
use Rattle.drop_plans.specs.Trees.{IsTreeOf}
use Rattle.drop_plans.proofs.Listed.{plan_list, variant_list}
use Rattle.drop_plans.proofs.planner.+plans.Given as goal

abbrev pub decreases-plan : goal.decreases-plan
decreases-plan l = 8 * (length l.at.now.forest.now.paths - l.path) + 5

abbrev pub decreases-inner : goal.decreases-inner
decreases-inner l = 8 * (length l.at.now.forest.now.paths - l.path) + 4

abbrev pub decreases-variant_plans : goal.decreases-variant_plans
decreases-variant_plans l = 8 * (length l.at.now.forest.now.paths - l.path) + 3

abbrev pub decreases-part_plans : goal.decreases-part_plans
decreases-part_plans l = 8 * (length l.at.now.forest.now.paths - l.path) + 2

abbrev pub decreases-part : goal.decreases-part
decreases-part l = 8 * (length l.at.now.forest.now.paths - l.path) + 1

abbrev pub decreases-part_plans-loop-part_ty : goal.decreases-part_plans-loop-part_ty
decreases-part_plans-loop-part_ty l = length (ids_of l.at l.ty l.variant) - l.n

abbrev pub invariant-part_plans-loop-part_ty : goal.invariant-part_plans-loop-part_ty
invariant-part_plans-loop-part_ty l =
    (number : ℕ) (under : Branches) → IsTreeOf l.at.forest.now.paths (path_at l.at.forest.now.paths l.path) (at_path number under) →
    IsOfVariant l.at l.ty l.variant →
    map plan_in l.plans ++ plan_list l.at under l.ty l.variant l.guard (drop l.n (ids_of l.at l.ty l.variant)) l.n
    ≡ plan_list l.at under l.ty l.variant l.guard (ids_of l.at l.ty l.variant) 0

abbrev pub invariant-variant_plans-loop : goal.invariant-variant_plans-loop
invariant-variant_plans-loop l =
    (l.variant ≡ l.counter)
    × ((number : ℕ) (under : Branches) → IsTreeOf l.at.forest.now.paths (path_at l.at.forest.now.paths l.path) (at_path number under) →
    (n : ℕ) → IsEnum l.at l.ty n l.fn.count →
    map parts_in l.variants ++ variant_list l.at under l.ty (drop l.variant (variants_of (slice_get l.at.items.now.adts n))) l.variant
    ≡ variant_list l.at under l.ty (variants_of (slice_get l.at.items.now.adts n)) 0)
