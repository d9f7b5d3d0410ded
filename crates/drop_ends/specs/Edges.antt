-- Blocks that are made for the end of a block, and what holds in each body that holds them.
use Rattle.std.specs.Prelude.{ℕ, List, [], ◌∷◌, Option, Some, None}
use Rattle.mir_ty.specs.ItemTable.{ItemTable}
use Rattle.store_model.specs.Places.Place as plain
use Rattle.cfg_graph.specs.declared.graph.Body.{Body}
use Rattle.cfg_graph.specs.declared.graph.Kind.{Kind}
use Rattle.cfg_graph.specs.declared.place.Place.{Place}
use Rattle.cfg_graph.specs.declared.statement.Stmt.{Stmt}
use Rattle.cfg_graph.specs.declared.terminator.Term.{Term}
use Rattle.cfg_graph.specs.declared.terminator.Unwind.{Unwind}
use Rattle.drop_elaborate.specs.Build.{Made, Begun}
use Rattle.drop_elaborate.specs.Elaborated.{BlockIs, EdgeTo, cleared}
use Rattle.drop_blocks.specs.Ladders.{with_one}
use Rattle.drop_blocks.specs.Standing.{Holds, Grows}

-- earlier blocks stay, and this holds in each body that holds all of them
pub record IsMade (made later : Made) (P : Body → Type 0) : Type 0 where
  pub grows : Grows made later
  pub holds : (after : Body) → Holds after later → P after

-- an edge: at once to its end, or by a block more
abbrev pub edge_to : Kind → List Stmt → (to : ℕ) → Made → Begun
edge_to kind [] to made = record { at = to; made = made }
edge_to kind (stmt ∷ stmts) to made = with_one kind (stmt ∷ stmts) (Term.Goto to) made

-- where a panic in the ladder of a drop goes on
module _ (items : ItemTable) (body : Body) (flagged : List plain.Place) (after : Body) where
  abbrev pub TwinTo : Place → Option ℕ → Unwind → Type 0
  TwinTo place (Some twin) (Unwind.Block block) =
      EdgeTo items body flagged after Kind.Cleanup (cleared items body flagged after place) twin block
  TwinTo place (Some twin) Unwind.Resume = BlockIs items body flagged after twin Kind.Cleanup [] Term.Resume
  TwinTo place None Unwind.Abort = Unit {0}
  TwinTo place _ _ = ⊥
