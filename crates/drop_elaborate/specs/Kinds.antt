-- Of each drop, by the paths that lead to it (the rustc development guide, "Drop elaboration"): dead, where nothing
-- that has to be dropped may be there; plain, where all of its place is there on each path; opened, where only parts of
-- it may be, by paths of their own; and conditional otherwise. What the paths that lead to a drop tell of the paths at
-- and below its place; and which paths need a flag.
use Rattle.std.specs.Prelude.{◌≡◌, ◌↔◌, ℕ, Bool, true, false, ◌||◌, List, [], ◌∷◌, ◌++◌, Option, Some, None, slice_get, filter, Contains}
use Rattle.mir_ty.specs.declared.ty.Ty.{Ty}
use Rattle.mir_ty.specs.declared.ty.TyId.{TyId}
use Rattle.mir_ty.specs.Facts.{needs_drop, has_drop_impl}
use Rattle.mir_ty.specs.ItemTable.{ItemTable, type_at}
use Rattle.store_model.specs.Places.Place.{Step, Place, place_ty, watched}
use Rattle.store_model.specs.Places.TypeForms.{is_dyn}
use Rattle.cfg_graph.specs.declared.graph.Block.{Block}
use Rattle.cfg_graph.specs.declared.graph.Body.{Body}
use Rattle.cfg_graph.specs.declared.terminator.Term.{Term}
use Rattle.cfg_graph.specs.declared.terminator.Unwind.{Unwind}
use Rattle.cfg_graph.specs.declared.place.Place as graph
use Rattle.cfg_graph.specs.Moves.Actions.{actions_on}
use Rattle.cfg_graph.specs.Moves.Gone.{PathAction, below, reaches_whole, is_gone_after, IsWholeAfter}
use Rattle.cfg_graph.specs.Moves.Paths.{IsPath}
use Rattle.cfg_graph.specs.Places.{named}
use Rattle.move_paths.specs.Forest.{is_path}
use Rattle.drop_values.specs.Facts.{Tree, at_path, Branches, no_branch, a_branch, Facts}
use Rattle.drop_values.specs.Planning.{branch_by, reads_flag}

-- all but the last
abbrev pub before_last : List PathAction → List PathAction
before_last [] = []
before_last (action ∷ []) = []
before_last (action ∷ next ∷ later) = action ∷ before_last (next ∷ later)

pub data DropKind : Type 0 where
  Dead : DropKind
  Plain : DropKind
  Conditional : DropKind
  Opened : DropKind

abbrev pub is_box : Option Ty → Bool
is_box (Some (Ty.Boxed content)) = true
is_box _ = false

module _ (items : ItemTable) (body : Body) where
  -- a block ends by the drop of a place
  pub record IsDrop (n : ℕ) (place : Place) : Type 0 where
    pub block : Block
    pub there : slice_get body.blocks n ≡ Some block
    pub dropped : graph.Place
    pub next : ℕ
    pub unwind : Unwind
    pub term_is : block.term ≡ Term.DropAt dropped next unwind
    pub place_is : place ≡ named dropped

  -- these actions are what some path does before it comes to the terminator of a block, of which the drop is the last
  -- use
  pub record Comes (n : ℕ) (before : List PathAction) : Type 0 where
    pub path : List ℕ
    pub given : List Bool
    pub is_path : IsPath items body (path ++ n ∷ []) given
    pub before_is : before ≡ before_last (actions_on body (path ++ n ∷ []))

  -- a place whose value has a number: a box, a trait object, or a value of a type with a `Drop` impl
  abbrev pub is_numbered : TyId → Bool
  is_numbered id = is_box (type_at items id) || (is_dyn (type_at items id) || has_drop_impl items id)

  abbrev pub place_id : Place → Option TyId
  place_id place = place_ty items (slice_get body.locals) place

  -- these steps lead from a place to what lies in it: through no reference, and to no element by a local
  abbrev pub stays_within : Place → List Step → Bool
  stays_within place steps = reaches_whole (watched items (place_id place) steps)

  -- no path comes to the drop with a numbered place at or below it present
  abbrev pub IsDead : ℕ → Place → Type 0
  IsDead n place = (before : List PathAction) (steps : List Step) (id : TyId) → Comes n before →
      stays_within place steps ≡ true → place_id (below place steps) ≡ Some id → is_numbered id ≡ true →
      is_gone_after items body before (below place steps) ≡ true

  -- on each path that comes to the drop all of its place is present
  abbrev pub IsSure : ℕ → Place → Type 0
  IsSure n place = (before : List PathAction) → Comes n before → IsWholeAfter items body before place

  -- some path of the body lies below a place
  pub record IsOpenable (place : Place) : Type 0 where
    pub step : Step
    pub steps : List Step
    pub path : is_path items body (below place (step ∷ steps)) ≡ true

  abbrev pub IsKind : ℕ → Place → DropKind → Type 0
  IsKind n place Dead = IsDead n place
  IsKind n place Plain = (IsDead n place → ⊥) × IsSure n place
  IsKind n place Conditional = (IsDead n place → ⊥) × (IsSure n place → ⊥) × (IsOpenable place → ⊥)
  IsKind n place Opened = (IsDead n place → ⊥) × (IsSure n place → ⊥) × IsOpenable place

  -- on some path that comes to the drop a place is gone, or its own part is present
  abbrev pub MayBe : ℕ → Place → (gone : Bool) → Type 0
  MayBe n place gone = (before : List PathAction) × Comes n before × (is_gone_after items body before place ≡ gone)

  -- by a list of the paths of the body, which gives each its number
  module _ (paths : List Place) where
    -- what the paths that come to the drop tell of each path of the body
    pub record AreFacts (n : ℕ) (facts : Facts) : Type 0 where
      pub present : (number : ℕ) (path : Place) → slice_get paths number ≡ Some path →
          (facts.present number ≡ true) ↔ MayBe n path false
      pub gone : (number : ℕ) (path : Place) → slice_get paths number ≡ Some path →
          (facts.gone number ≡ true) ↔ MayBe n path true

    -- the tree of the paths at and below a place
    abbrev mutual
      pub IsTree : Place → Tree → Type 0
      IsTree place (at_path number under) = (slice_get paths number ≡ Some place) × AreBranches place under
          × ((step : Step) → branch_by step under ≡ None → is_path items body (below place (step ∷ [])) ≡ false)

      pub AreBranches : Place → Branches → Type 0
      AreBranches place no_branch = Unit {0}
      AreBranches place (a_branch step tree rest) = IsTree (below place (step ∷ [])) tree × AreBranches place rest

    -- A drop that is conditional or opened needs a flag of a path at or below it whose type needs dropping, and which
    -- may be present and may be gone, if what is done there reads it.
    pub record NeedsFlag (n : ℕ) (place path : Place) : Type 0 where
      pub not_dead : IsDead n place → ⊥
      pub not_sure : IsSure n place → ⊥
      pub steps : List Step
      pub path_is : path ≡ below place steps
      pub number : ℕ
      pub under : Branches
      pub tree : IsTree path (at_path number under)
      pub id : TyId
      pub typed : place_id path ≡ Some id
      pub needed : needs_drop items id ≡ true
      pub reads : reads_flag items under id ≡ true
      -- what has a `Drop` body is not taken apart
      pub apart : (upper lower : List Step) (step : Step) (outer : TyId) → steps ≡ upper ++ step ∷ lower →
          place_id (below place upper) ≡ Some outer → has_drop_impl items outer ≡ false
      pub present : MayBe n path false
      pub gone : MayBe n path true

    -- some drop of the body needs a flag of the path
    abbrev pub IsFlagged : Place → Type 0
    IsFlagged path = (n : ℕ) × (place : Place) × IsDrop n place × NeedsFlag n place path

    -- all paths that need a flag, in the order of their numbers
    pub record AreFlagged (flagged : List Place) : Type 0 where
      pub test : Place → Bool
      pub exact : (path : Place) → Contains paths path → (test path ≡ true) ↔ IsFlagged path
      pub those : flagged ≡ filter test paths
