-- What the rows of an analysis say of the paths of a body.
use Rattle.std.specs.Prelude.{◌≡◌, ◌↔◌, ◌<◌, ℕ, Bool, true, false, List, [], Some, length, slice_get, slice_index_or}
use Rattle.mir_ty.specs.ItemTable.{ItemTable}
use Rattle.store_model.specs.Places.Place.{Place}
use Rattle.cfg_graph.specs.declared.graph.Body.{Body}
use Rattle.init_flow.specs.Carried.{Bits}
use Rattle.init_flow.specs.Moved.{LeadsTo}

module _ (items : ItemTable) (body : Body) where
  -- what the row of a block says as the block begins: of each place whether some path leads there with it gone, or
  -- present
  pub record RowSays (paths : List Place) (n : ℕ) (gone : Bool) (row : Bits) : Type 0 where
    pub width : length row ≡ length paths
    pub bits : (number : ℕ) (path : Place) → slice_get paths number ≡ Some path →
        (slice_index_or row number false ≡ true) ↔ LeadsTo items body n path gone

  -- the rows of all blocks
  pub record RowsSay (paths : List Place) (gone : Bool) (rows : List Bits) : Type 0 where
    pub count : length rows ≡ length body.blocks
    pub each : (n : ℕ) → n < length body.blocks → RowSays paths n gone (slice_index_or rows n [])
