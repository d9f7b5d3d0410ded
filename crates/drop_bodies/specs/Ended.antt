-- What is made for the blocks of a body, exactly: they end one after another by what is decided of the drop of each.
use Rattle.std.specs.Prelude.{◌≡◌, ℕ, ◌+◌, ◌++◌, List, [], ◌∷◌, Some, length, slice_get}
use Rattle.mir_ty.specs.ItemTable.{ItemTable}
use Rattle.store_model.specs.Places.Place as plain
use Rattle.cfg_graph.specs.declared.graph.Block.{Block}
use Rattle.cfg_graph.specs.declared.graph.Body.{Body}
use Rattle.drop_elaborate.specs.Build.{Made}
use Rattle.drop_elaborate.specs.Elaborated.{kind_after}
use Rattle.drop_blocks.specs.Ladders.{no_block}
use Rattle.drop_ends.specs.Ends.{made_end, end_by}
use Rattle.drop_ends.specs.declared.decided.Decided.{Decided}

module _ (items : ItemTable) (body : Body) (flagged : List plain.Place) (decided : List Decided) where
  -- the first blocks, so many, and what is made for them
  pub data AreEnded : ℕ → List Block → Made → Type 0 where
    none_ended : AreEnded 0 [] (no_block (length body.blocks))
    one_ended : (n : ℕ) (made : List Block) (old new : Made) (block there : Block) (how : Decided) → AreEnded n made old →
        slice_get body.blocks n ≡ Some block → slice_get decided n ≡ Some how → there.kind ≡ block.kind →
        made_end there.term new
        ≡ end_by items body flagged how (kind_after items body flagged body block.kind) block.term old →
        AreEnded (n + 1) (made ++ there ∷ []) new
