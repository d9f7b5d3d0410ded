-- What plans are made of, as the definition of plans sees it.
use Rattle.std.specs.Prelude.{◌≡◌, ℕ, true, false, List, [], Option, Some, None, is_some, length, slice_get, slice_index_or, unwrap_or}
use Rattle.mir_ty.specs.declared.ty.Ty.{Ty}
use Rattle.mir_ty.specs.declared.ty.TyId.{TyId}
use Rattle.mir_ty.specs.ItemTable.{ItemTable, type_at}
use Rattle.mir_ty.specs.Parts.{parts_of, variants_of}
use Rattle.store_model.specs.Places.Place.{Step, is_enum}
use Rattle.cfg_graph.specs.Places.{named_step}
use Rattle.init_flow.specs.Moved.{masks_of}
use Rattle.move_paths.specs.Trie.{AreOnce}
use Rattle.drop_values.specs.Facts as values
use Rattle.drop_values.specs.Facts.{Tree, Branches}
use Rattle.drop_values.specs.Plan as plain
use Rattle.drop_values.specs.Plan.{Plans, Cases}
use Rattle.drop_values.specs.Planning as planning
use Rattle.drop_blocks.specs.Ladders.{step_of}
use Rattle.drop_plans.specs.Trees.{AreClosed}
use Rattle.drop_plans.specs.declared.facts.Facts.{Facts}
use Rattle.drop_plans.specs.declared.planner.Planner.{Planner}

-- of each path, by its number
abbrev pub facts_of : Facts → values.Facts
facts_of facts = record {
  present = λ number. slice_index_or facts.present number false;
  gone = λ number. slice_index_or facts.gone number false;
}

abbrev pub flag_of : List (Option ℕ) → ℕ → Option ℕ
flag_of flags number = slice_index_or flags number None

-- rows and flags are of all paths, each of which stands once and behind its containers
pub record AreTold (at : Planner) : Type 0 where
  pub once : AreOnce at.forest.now.paths
  pub closed : AreClosed at.forest.now.paths
  pub below : at.below.now ≡ masks_of at.forest.now.paths
  pub present : length at.facts.now.present ≡ length at.forest.now.paths
  pub gone : length at.facts.now.gone ≡ length at.forest.now.paths
  pub flags : length at.flags.now ≡ length at.forest.now.paths

-- the types of the parts of a value in one of its variants
abbrev pub ids_in : ItemTable → Option Ty → ℕ → List TyId
ids_in items None variant = []
ids_in items (Some ty) variant = parts_of items ty variant

module _ (at : Planner) where
  abbrev pub below_of : Branches → TyId → List (Step × plain.Plan)
  below_of under id = planning.plans_below at.items.now (facts_of at.facts.now) (flag_of at.flags.now) under id

  abbrev pub plan_at : Tree → TyId → plain.Plan
  plan_at tree id = planning.plan_of at.items.now (facts_of at.facts.now) (flag_of at.flags.now) tree id

  abbrev pub inner_at : Branches → TyId → Option ℕ → plain.Plan
  inner_at under id guard = planning.inner_plan at.items.now (facts_of at.facts.now) (flag_of at.flags.now) under id
      (below_of under id) guard

  abbrev pub part_at : Branches → TyId → Option ℕ → Step → TyId → plain.Plan
  part_at under id guard step part =
      planning.part_plan at.items.now guard part (planning.plan_by step (below_of under id))

  abbrev pub ids_of : TyId → Option ℕ → List TyId
  ids_of id variant = ids_in at.items.now (type_at at.items.now id) (unwrap_or variant 0)

  abbrev pub parts_at : Branches → TyId → Option ℕ → Option ℕ → Plans
  parts_at under id variant guard =
      planning.part_plans at.items.now guard (ids_of id variant) (λ n. named_step (step_of variant n)) (below_of under id) 0

  -- a value has variants where its type is an enum
  abbrev pub IsOfVariant : TyId → Option ℕ → Type 0
  IsOfVariant id variant =
      (ty : Ty) × (type_at at.items.now id ≡ Some ty) × (is_enum at.items.now ty ≡ is_some variant)

  -- a type is the enum with this number, which has so many variants
  pub record IsEnum (id : TyId) (n count : ℕ) : Type 0 where
    pub typed : type_at at.items.now id ≡ Some (Ty.Adt n)
    pub is : is_enum at.items.now (Ty.Adt n) ≡ true
    pub variants : length (variants_of (slice_get at.items.now.adts n)) ≡ count

  abbrev pub variants_at : Branches → TyId → ℕ → Cases
  variants_at under id n =
      planning.variant_plans at.items.now (variants_of (slice_get at.items.now.adts n)) (below_of under id) 0
