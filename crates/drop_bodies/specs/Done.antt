-- The first blocks of a body, so many, in each body that holds what is made for them.
use Rattle.std.specs.Prelude.{◌≡◌, ◌<◌, ℕ, List, Some, length, slice_get}
use Rattle.mir_ty.specs.ItemTable.{ItemTable}
use Rattle.store_model.specs.Places.Place as plain
use Rattle.cfg_graph.specs.declared.graph.Block.{Block}
use Rattle.cfg_graph.specs.declared.graph.Body.{Body}
use Rattle.drop_elaborate.specs.Build.{Made}
use Rattle.drop_blocks.specs.Standing.{Holds}
use Rattle.drop_ends.specs.Decisions.{IsBlockOf}
use Rattle.drop_ends.specs.declared.decided.Decided.{Decided}

module _ (items : ItemTable) (body : Body) (flagged : List plain.Place) where
  -- a block by its number becomes one of those that were made
  abbrev pub BecomesOf : (after : Body) → Decided → (n : ℕ) → Block → (made : List Block) → Type 0
  BecomesOf after how n block made =
      (there : Block) × (slice_get made n ≡ Some there) × IsBlockOf items body flagged after how n block there

  pub record AreDone (decided : List Decided) (count : ℕ) (made : List Block) (new : Made) : Type 0 where
    -- what is made for them comes behind all blocks of the body
    pub first : new.first ≡ length body.blocks
    pub long : length made ≡ count
    pub each : (after : Body) → Holds after new → (n : ℕ) (block : Block) (how : Decided) → n < count →
        slice_get body.blocks n ≡ Some block → slice_get decided n ≡ Some how → BecomesOf after how n block made
