-- The plan of a drop, by its path, its type, and what is known of the paths at and below it.
use Rattle.std.specs.Prelude.{◌≡◌, ℕ, suc, ◌&&◌, ◌||◌, not, Bool, true, false, List, [], ◌∷◌, Option, Some, None, if◌then◌else◌, slice_get, unwrap_or, option_and_then}
use Rattle.mir_ty.specs.declared.adt.Variant.{Variant}
use Rattle.mir_ty.specs.declared.ty.Ty.{Ty}
use Rattle.mir_ty.specs.declared.ty.TyId.{TyId}
use Rattle.mir_ty.specs.Facts.{needs_drop, has_drop_impl}
use Rattle.mir_ty.specs.ItemTable.{ItemTable, type_at}
use Rattle.mir_ty.specs.Parts.{parts_of, variants_of}
use Rattle.store_model.specs.Places.Place.{Step, ToPart, ToField, ToContent, same_step, is_enum, step_ty}
use Rattle.drop_values.specs.Facts.{Tree, at_path, Branches, no_branch, a_branch, Facts}
use Rattle.drop_values.specs.Plan.{Plan, Nothing, Entire, ByFlag, InParts, OfBox, ByVariant, Plans, no_plan, a_plan, Cases, no_case, a_case}

-- the path to which a step leads, if it is one
abbrev pub branch_by : Step → Branches → Option Tree
branch_by step no_branch = None
branch_by step (a_branch other tree rest) = if same_step step other then Some tree else branch_by step rest

-- a plan for each path just below a path
abbrev pub plan_by : Step → List (Step × Plan) → Option Plan
plan_by step [] = None
plan_by step (p ∷ plans) = if same_step step p.0 then Some p.1 else plan_by step plans

-- what is done where the own part of a place is there, which its flag tells, if it is not sure
abbrev pub guarded : Option ℕ → Plan → Plan
guarded None plan = plan
guarded (Some flag) plan = ByFlag flag plan

-- of what is no path all is there, where its container is
abbrev pub whole_plan : Option ℕ → Bool → Plan
whole_plan guard true = guarded guard Entire
whole_plan guard false = Nothing

-- whether it needs dropping, whether its own part may be present, whether all of it is there for sure, whether its own
-- part may be gone, its flag, and the plan by the flag of its own part
abbrev pub decided : (needs present sure gone : Bool) → Option ℕ → (Option ℕ → Plan) → Plan
decided false present sure gone flag inner = Nothing
decided true false sure gone flag inner = Nothing
decided true true true gone flag inner = Entire
decided true true false true flag inner = inner flag
decided true true false false flag inner = inner None

-- no path lies at the end of a step
abbrev pub is_none_tree : Option Tree → Bool
is_none_tree None = true
is_none_tree (Some tree) = false

abbrev pub is_bare : Step → Branches → Bool
is_bare step below = is_none_tree (branch_by step below)

module _ (items : ItemTable) where
  -- a part that is a path has a flag of its own, which is false where its container is gone: it needs no guard
  abbrev pub part_plan : Option ℕ → TyId → Option Plan → Plan
  part_plan guard id plan = unwrap_or plan (whole_plan guard (needs_drop items id))

  abbrev pub part_plans : Option ℕ → List TyId → (ℕ → Step) → List (Step × Plan) → ℕ → Plans
  part_plans guard [] step plans n = no_plan
  part_plans guard (id ∷ ids) step plans n = a_plan (part_plan guard id (plan_by (step n) plans))
      (part_plans guard ids step plans (suc n))

  abbrev pub variant_plans : List Variant → List (Step × Plan) → ℕ → Cases
  variant_plans [] plans n = no_case
  variant_plans (variant ∷ variants) plans n = a_case n (part_plans None variant.fields (ToField n) plans 0)
      (variant_plans variants plans (suc n))

  -- an enum has to be there before its variant is looked at; the parts of any other value tell of themselves
  abbrev pub taken_apart : Option ℕ → Bool → Ty → List (Step × Plan) → Plan
  taken_apart guard enum (Ty.Boxed content) plans = OfBox guard (part_plan guard content (plan_by ToContent plans))
  taken_apart guard true (Ty.Adt n) plans = guarded guard
      (ByVariant (variant_plans (variants_of (slice_get items.adts n)) plans 0))
  taken_apart guard enum ty plans = InParts (part_plans guard (parts_of items ty 0) ToPart plans 0)

  -- some of these parts is no path and needs dropping
  abbrev pub any_bare : List TyId → (ℕ → Step) → Branches → ℕ → Bool
  any_bare [] step below n = false
  any_bare (id ∷ ids) step below n =
      (is_bare (step n) below && needs_drop items id) || any_bare ids step below (suc n)

  -- What is taken apart reads the flag of its own part for the freeing of a box, for the variants of an enum, and for
  -- parts that are no paths.
  abbrev pub apart_reads : Bool → Ty → Branches → Bool
  apart_reads enum (Ty.Boxed content) below = true
  apart_reads true (Ty.Adt n) below = true
  apart_reads enum ty below = any_bare (parts_of items ty 0) ToPart below 0

  abbrev pub unless_reads : Bool → Option Ty → Branches → Bool
  unless_reads true ty below = true
  unless_reads false None below = true
  unless_reads false (Some ty) below = apart_reads (is_enum items ty) ty below

  -- whether the plan of a path, where it may be present and may be gone, reads the flag of its own part
  abbrev pub reads_flag : Branches → TyId → Bool
  reads_flag no_branch id = true
  reads_flag (a_branch step tree rest) id =
      unless_reads (has_drop_impl items id) (type_at items id) (a_branch step tree rest)

  -- the type to which a step leads
  abbrev pub stepped : Step → TyId → TyId
  stepped step id = unwrap_or (option_and_then (step_ty items step) (type_at items id)) id

  -- each path below has a type
  abbrev mutual
    pub IsTyped : Tree → TyId → Type 0
    IsTyped (at_path number below) id = AreTyped below id

    pub AreTyped : Branches → TyId → Type 0
    AreTyped no_branch id = Unit {0}
    AreTyped (a_branch step tree rest) id =
        ((next : TyId) × (option_and_then (step_ty items step) (type_at items id) ≡ Some next) × IsTyped tree next)
        × AreTyped rest id

  abbrev pub IsBranch : Step → Tree → TyId → Type 0
  IsBranch step tree id = (next : TyId) × (option_and_then (step_ty items step) (type_at items id) ≡ Some next)
      × IsTyped tree next

  module _ (facts : Facts) (flag_of : ℕ → Option ℕ) where
    abbrev mutual
      -- no path at or below may be gone
      pub sure : Tree → Bool
      sure (at_path number below) = not (facts.gone number) && sure_below below

      pub sure_below : Branches → Bool
      sure_below no_branch = true
      sure_below (a_branch step tree rest) = sure tree && sure_below rest

    abbrev pub unless_impl : Option ℕ → Bool → Option Ty → List (Step × Plan) → Plan
    unless_impl guard true ty plans = guarded guard Entire
    unless_impl guard false None plans = guarded guard Entire
    unless_impl guard false (Some ty) plans = taken_apart guard (is_enum items ty) ty plans

    -- neither a path with none below nor a value with a `Drop` body is taken apart
    abbrev pub inner_plan : Branches → TyId → List (Step × Plan) → Option ℕ → Plan
    inner_plan no_branch id plans guard = guarded guard Entire
    inner_plan (a_branch step tree rest) id plans guard = unless_impl guard (has_drop_impl items id)
        (type_at items id) plans

    abbrev mutual
      pub plan_of : Tree → TyId → Plan
      plan_of (at_path number below) id =
          decided (needs_drop items id) (facts.present number) (sure (at_path number below)) (facts.gone number)
          (flag_of number) (inner_plan below id (plans_below below id))

      pub plans_below : Branches → TyId → List (Step × Plan)
      plans_below no_branch id = []
      plans_below (a_branch step tree rest) id = (step, plan_of tree (stepped step id)) ∷ plans_below rest id
