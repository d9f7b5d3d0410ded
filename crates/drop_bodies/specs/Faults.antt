-- A body adds no fault to another, whatever graph of these items they stand in.
use Rattle.std.specs.Prelude.{◌≡◌, ℕ, []}
use Rattle.mir_ty.specs.ItemTable.{ItemTable}
use Rattle.cfg_graph.specs.declared.graph.Body.{Body}
use Rattle.cfg_graph.specs.declared.graph.Graph.{Graph}
use Rattle.cfg_graph.specs.WellFormed.Faults.{faults_of_body}

abbrev pub AddsNoFault : ItemTable → (body after : Body) → Type 0
AddsNoFault items body after = (graph : Graph) (number : ℕ) → graph.items ≡ items → faults_of_body graph number body ≡ [] →
    faults_of_body graph number after ≡ []
