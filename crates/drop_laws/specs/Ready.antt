-- What a body with exact drops is made from: a body of a graph that has all that drop elaboration asks of the bodies by
-- themselves. That an elaborated graph runs as the raw one needs one fact more (`NamedStays`).
use Rattle.std.specs.Prelude.{◌≡◌, ℕ, true, List, Bool, Some, slice_get, Contains}
use Rattle.mir_ty.specs.AreItems.{AreItems}
use Rattle.mir_ty.specs.ItemTable.{ItemTable}
use Rattle.mir_ty.specs.declared.ty.Ty.{Ty}
use Rattle.cfg_graph.specs.declared.graph.Body.{Body}
use Rattle.cfg_graph.specs.declared.graph.Graph.{Graph}
use Rattle.cfg_graph.specs.Moves.Actions.{actions_on}
use Rattle.cfg_graph.specs.Moves.Paths.{IsPath}
use Rattle.cfg_graph.specs.NamedPlaces.{keeps_named}
use Rattle.cfg_graph.specs.Ready.{begins_once, frees_nothing, moves_well, references_in_locals, references_stand_alone, refills_dropped, MeetsNoBadUse}
use Rattle.cfg_graph.specs.WellFormed.Faults.{IsWellFormed}

-- of a body all that `IsPreparedBody` asks, but that what a reference names stays
pub record IsElaborableBody (items : ItemTable) (body : Body) : Type 0 where
  pub no_free : frees_nothing body ≡ true
  pub one_beginning : begins_once body ≡ true
  pub moves : moves_well items body ≡ true
  pub drops : refills_dropped items body ≡ true
  pub references : references_in_locals items body ≡ true

-- of a graph all that `IsReadyGraph` asks, but that
pub record IsElaborable (graph : Graph) : Type 0 where
  pub well_formed : IsWellFormed graph
  pub has_bool : Contains graph.items.types Ty.Bool
  pub alone : references_stand_alone graph.items ≡ true
  pub prepared : (n : ℕ) (body : Body) → slice_get graph.bodies n ≡ Some body → IsElaborableBody graph.items body
  pub uses : MeetsNoBadUse graph

-- on no path of a body is what a reference names taken between its making and a use of it
abbrev pub NamedStays : Graph → Type 0
NamedStays graph = (n : ℕ) (body : Body) (path : List ℕ) (given : List Bool) (local : ℕ) →
    slice_get graph.bodies n ≡ Some body → IsPath graph.items body path given →
    keeps_named body (actions_on body path) local ≡ true

pub record IsReadyBody (items : ItemTable) (body : Body) : Type 0 where
  pub graph : Graph
  pub number : ℕ
  pub there : slice_get graph.bodies number ≡ Some body
  pub items_are : graph.items ≡ items
  pub sound : AreItems graph.items
  pub ready : IsElaborable graph
