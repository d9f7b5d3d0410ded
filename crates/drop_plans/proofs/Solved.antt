-- The rows of a solution say of the paths of a body what its paths tell.
use Rattle.std.proofs.Common.{◌≡◌, ◌<◌, ℕ, Bool, List, [], length, slice_index_or, ◌∙◌}
use Rattle.mir_ty.specs.ItemTable.{ItemTable}
use Rattle.store_model.specs.Places.Place.{Place}
use Rattle.cfg_graph.specs.declared.graph.Body.{Body}
use Rattle.init_flow.specs.Carried.{Bits, AreCarried}
use Rattle.init_flow.specs.Ways.{target}
use Rattle.init_flow.specs.Moved.{Says}
use Rattle.init_flow.proofs.OnPaths.{solved-says}
use Rattle.drop_plans.specs.Known.{RowsSay}

pub rows-say :
    (items : ItemTable) (body : Body) (paths : List Place) (gone : Bool) (pass : ℕ → ℕ → Bits → Bits) (first : Bits) (rows : List Bits)
    → Says items body paths gone (target items body) pass first
    → AreCarried (length body.blocks) (target items body) pass first rows
    → length rows ≡ length body.blocks
    → ((n : ℕ) → n < length body.blocks → length (slice_index_or rows n []) ≡ length first)
    → RowsSay items body paths gone rows
rows-say items body paths gone pass first rows says carried count widths = record {
  count = count;
  each = λ n within. record {
    width = widths n within ∙ says.width;
    bits = λ number path at. solved-says items body paths gone pass first rows says carried n number path within at;
  };
}
