-- What the paths of a body tell of its move paths where one of its blocks comes to a drop.
use Rattle.std.specs.Prelude.{◌≡◌, ◌↔◌, ℕ, Bool, true, false, List, [], Some, slice_get, slice_index_or}
use Rattle.mir_ty.specs.ItemTable.{ItemTable}
use Rattle.store_model.specs.Places.Place.{Place}
use Rattle.cfg_graph.specs.declared.graph.Block.{Block}
use Rattle.cfg_graph.specs.declared.graph.Body.{Body}
use Rattle.cfg_graph.specs.declared.place.Place as graph
use Rattle.cfg_graph.specs.declared.terminator.Term.{Term}
use Rattle.cfg_graph.specs.declared.terminator.Unwind.{Unwind}
use Rattle.drop_elaborate.specs.Kinds.{MayBe}
use Rattle.init_flow.specs.Carried.{Bits}

-- a block ends in a drop
abbrev pub EndsInDrop : Block → Type 0
EndsInDrop block = (dropped : graph.Place) × (next : ℕ) × (unwind : Unwind) × (block.term ≡ Term.DropAt dropped next unwind)

-- the first bit of the row of a block is on
abbrev pub starts_on : List Bits → ℕ → Bool
starts_on rows n = slice_index_or (slice_index_or rows n []) 0 false

module _ (items : ItemTable) (body : Body) where
  -- a row says of each path whether it may be so
  abbrev pub RowKnows : List Place → ℕ → (gone : Bool) → Bits → Type 0
  RowKnows paths n gone row =
      (number : ℕ) (path : Place) → slice_get paths number ≡ Some path →
      (slice_index_or row number false ≡ true) ↔ MayBe items body n path gone
