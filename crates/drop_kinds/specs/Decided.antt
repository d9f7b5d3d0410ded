-- What is decided of the drop at the end of a block, and of all drops of a body.
use Rattle.std.specs.Prelude.{◌≡◌, ◌↔◌, ◌<◌, ℕ, Bool, true, false, List, Option, Some, length, slice_get}
use Rattle.mir_ty.specs.declared.ty.TyId.{TyId}
use Rattle.mir_ty.specs.ItemTable.{ItemTable}
use Rattle.cfg_graph.specs.declared.graph.Block.{Block}
use Rattle.cfg_graph.specs.declared.graph.Body.{Body}
use Rattle.cfg_graph.specs.declared.place.Place as graph
use Rattle.cfg_graph.specs.declared.terminator.Term.{Term}
use Rattle.cfg_graph.specs.declared.terminator.Unwind.{Unwind}
use Rattle.cfg_graph.specs.Moves.Gone.{PathAction}
use Rattle.cfg_graph.specs.Places.{named}
use Rattle.store_model.specs.Places.Place.{Place}
use Rattle.drop_values.specs.Facts.{Tree, Facts}
use Rattle.drop_values.specs.Plan.{Plan}
use Rattle.drop_values.specs.Planning.{plan_of}
use Rattle.drop_elaborate.specs.Elaborated.{is_drop}
use Rattle.drop_elaborate.specs.Kinds.{place_id, Comes, IsDead, IsSure, AreFacts, IsTree}
use Rattle.drop_blocks.specs.View.{plan_in}
use Rattle.drop_ends.specs.declared.decided.Decided.{Decided}
use Rattle.drop_plans.specs.Analysed.{AreAnalyses}
use Rattle.drop_plans.specs.Plans.{facts_of}
use Rattle.drop_plans.specs.declared.analyses.Analyses.{Analyses}
use Rattle.drop_plans.specs.declared.facts.Facts.{Facts as Known}
use Rattle.drop_laws.specs.Rungs.{has_rung}

-- a block ends in the drop of a place
abbrev pub EndsInDropOf : Body → (n : ℕ) → Block → graph.Place → Type 0
EndsInDropOf body n block place =
    (slice_get body.blocks n ≡ Some block)
    × ((next : ℕ) × (unwind : Unwind) × (block.term ≡ Term.DropAt place next unwind))

module _ (items : ItemTable) (body : Body) (paths : List Place) (flag_of : ℕ → Option ℕ) where
  -- a drop is neither dead nor plain, and this is its plan, by the flags of the paths by their numbers
  pub record HasPlan (n : ℕ) (place : Place) (plan : Plan) : Type 0 where
    pub not_dead : IsDead items body n place → ⊥
    pub not_sure : IsSure items body n place → ⊥
    pub tree : Tree
    pub is_tree : IsTree items body paths place tree
    pub id : TyId
    pub typed : place_id items body place ≡ Some id
    pub facts : Facts
    pub are_facts : AreFacts items body paths n facts
    pub plan_is : plan ≡ plan_of items facts flag_of tree id

  abbrev pub IsDecided : (n : ℕ) → Place → Decided → Type 0
  IsDecided n place Decided.Dead = IsDead items body n place
  IsDecided n place Decided.Plain = (IsDead items body n place → ⊥) × IsSure items body n place
  IsDecided n place (Decided.Planned plan) = HasPlan n place (plan_in plan)

  -- of each of the first blocks, so many, that ends in a drop
  pub record AreDecided (count : ℕ) (decided : List Decided) : Type 0 where
    pub long : length decided ≡ count
    pub each : (n : ℕ) (block : Block) (place : graph.Place) (how : Decided) → EndsInDropOf body n block place →
        slice_get decided n ≡ Some how → IsDecided n (named place) how
    pub others : (n : ℕ) (block : Block) (how : Decided) → slice_get body.blocks n ≡ Some block →
        is_drop block.term ≡ false → slice_get decided n ≡ Some how → how ≡ Decided.Dead

-- what the code goes on with; no public contract speaks of it
-- by a plan, and by whether all of the place is there for sure
abbrev pub IsDecidedBy : Decided → Plan → (is_sure : Bool) → Type 0
IsDecidedBy Decided.Dead plan is_sure = has_rung plan ≡ false
IsDecidedBy Decided.Plain plan is_sure = (has_rung plan ≡ true) × (is_sure ≡ true)
IsDecidedBy (Decided.Planned made) plan is_sure =
    (has_rung plan ≡ true) × (is_sure ≡ false) × (plan_in made ≡ plan)

-- some path of a body comes to a drop, by what is known there of its paths
abbrev pub IsReachedBy : Analyses → Known → (local : ℕ) → Bool → Type 0
IsReachedBy told facts local result =
    (items : ItemTable) (body : Body) (n : ℕ) → AreAnalyses items body told →
    AreFacts items body told.forest.paths n (facts_of facts) → local < length body.locals →
    (result ≡ true) ↔ ((before : List PathAction) × Comes items body n before)

-- of a place that is no path
abbrev pub IsElsewhere : (needs reached : Bool) → Decided → Type 0
IsElsewhere true true how = how ≡ Decided.Plain
IsElsewhere needs reached how = how ≡ Decided.Dead
