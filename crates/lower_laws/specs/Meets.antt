-- What a free walk of a body meets, and what a path with the same choices meets.
use Rattle.std.specs.Prelude.{◌≡◌, ℕ, Bool, true, false, ◌&&◌, List, [], ◌∷◌, ◌++◌, Some, slice_get, Contains, if◌then◌else◌, option_and_then}
use Rattle.std.specs.List.{list_any}
use Rattle.mir_ty.specs.ItemTable.{ItemTable, type_at}
use Rattle.store_model.specs.Places.Place.{place_ty}
use Rattle.store_model.specs.Places.TypeForms.{is_never}
use Rattle.store_model.specs.Effects as effects
use Rattle.store_model.specs.Effects.{EffectSite, Halt, BadStore, Halts}
use Rattle.store_model.specs.Abstract.Effects.{AbstractState}
use Rattle.cfg_graph.specs.declared.graph.Block.{Block}
use Rattle.cfg_graph.specs.declared.graph.Body.{Body}
use Rattle.cfg_graph.specs.declared.graph.Graph.{Graph}
use Rattle.cfg_graph.specs.Edges.{onward, unwind_targets, IsRanked}
use Rattle.cfg_graph.specs.Uses.{PlaceUse, Copies, Stores}
use Rattle.cfg_graph.specs.Moves.Gone.{PathAction}
use Rattle.cfg_graph.specs.Moves.Actions.{actions_on}
use Rattle.cfg_graph.specs.Moves.BadUses.{UseRule, U1, U2, BadUse}
use Rattle.cfg_graph.specs.WellFormed.Faults.{IsWellFormed}
use Rattle.cfg_meaning.specs.Programs.{free_walk}
use Rattle.move_errors.specs.Reaches.{is_bad, ReachesInBlock, ReachesOnWay}

-- no panic of a block leads where its way on leads, so that a path tells which of the two it took
abbrev pub PanicsLeadElsewhere : Body → Type 0
PanicsLeadElsewhere body =
    (n next : ℕ) (block : Block) → slice_get body.blocks n ≡ Some block →
    Contains (onward block.term) next → Contains (unwind_targets block.term) next → ⊥

abbrev pub site_of : (node : ℕ → ℕ → ℕ) → PathAction → EffectSite
site_of node action = record { node = node action.block action.line; place = action.place }

-- how a free walk halts at a bad use, where each line stands for a node of the source
abbrev pub halt_by : UseRule → EffectSite → Halt
halt_by U1 site = effects.BadUse site
halt_by U2 site = BadStore site

abbrev pub halt_of : (node : ℕ → ℕ → ℕ) → BadUse → Halt
halt_of node bad = halt_by bad.rule (site_of node bad.action)

abbrev pub is_refused : Halt → Bool
is_refused (effects.BadUse site) = true
is_refused (BadStore site) = true
is_refused halt = false

abbrev pub is_copy_or_store : PlaceUse → Bool
is_copy_or_store Copies = true
is_copy_or_store Stores = true
is_copy_or_store how = false

module _ (items : ItemTable) (body : Body) where
  -- A value of type `!` is copied or stored: none is ever made, so no run goes on behind it, while a path does.
  abbrev pub ends_runs : PathAction → Bool
  ends_runs action =
      is_copy_or_store action.how
      && is_never (option_and_then (type_at items) (place_ty items (slice_get body.locals) action.place))

  -- of these actions, after earlier ones, those before the first bad one
  abbrev pub before_bad : List PathAction → List PathAction → List PathAction
  before_bad earlier [] = []
  before_bad earlier (action ∷ later) =
      if is_bad items body earlier action action.how then [] else action ∷ before_bad (earlier ++ action ∷ []) later

  -- A path with these choices reaches a bad use, in its last block or on a way out of it, and no value of type `!`
  -- is copied or stored before.
  pub data RunsReach (path : List ℕ) (given : List Bool) (bad : BadUse) : Type 0 where
    in_block :
        ReachesInBlock items body path given bad →
        list_any ends_runs (before_bad [] (actions_on body path)) ≡ false → RunsReach path given bad
    on_way :
        (reaches : ReachesOnWay items body path given bad) →
        list_any ends_runs (before_bad [] (actions_on body path ++ reaches.stored)) ≡ false → RunsReach path given bad

  -- A free walk that is given the choices by which a path reaches a bad use meets this use, and leaves the further
  -- choices. And where a free walk meets a refused use, a path reaches it by the choices that the walk took.
  pub record MeetsSame (node : ℕ → ℕ → ℕ) : Type 0 where
    pub walks :
        (path : List ℕ) (given rest : List Bool) (bad : BadUse) → RunsReach path given bad →
        (w : AbstractState) × (free_walk items node body (given ++ rest) ≡ Halts (halt_of node bad) w)
        × (w.choices ≡ rest)
    pub paths :
        (choices : List Bool) (halt : Halt) (w : AbstractState) →
        free_walk items node body choices ≡ Halts halt w → is_refused halt ≡ true →
        (path : List ℕ) × (given : List Bool) × (bad : BadUse) × RunsReach path given bad
        × (choices ≡ given ++ w.choices) × (halt ≡ halt_of node bad)

-- what the law of free walks says: a free walk, and a path with the same choices, meet the same bad use
abbrev pub FreeWalksMeetWhatPathsMeet : Type 0
FreeWalksMeetWhatPathsMeet =
    (items : ItemTable) (body : Body) → IsRanked body → PanicsLeadElsewhere body → (node : ℕ → ℕ → ℕ) →
    MeetsSame items body node

-- it holds of each body of a graph without a fault
abbrev pub WellFormedPanicsLeadElsewhere : Type 0
WellFormedPanicsLeadElsewhere =
    (graph : Graph) (n : ℕ) (body : Body) → IsWellFormed graph → slice_get graph.bodies n ≡ Some body →
    PanicsLeadElsewhere body
