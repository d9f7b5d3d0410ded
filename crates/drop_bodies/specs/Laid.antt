-- What the code goes on with; no public contract speaks of it.
use Rattle.std.specs.Prelude.{◌≡◌, ◌↔◌, ℕ, ◌++◌, Bool, true, List, Some, map, replicate}
use Rattle.mir_ty.specs.declared.ty.Ty.{Ty}
use Rattle.mir_ty.specs.declared.ty.TyId.{TyId}
use Rattle.mir_ty.specs.ItemTable.{ItemTable, type_at}
use Rattle.cfg_graph.specs.declared.graph.Block.{Block}
use Rattle.cfg_graph.specs.declared.graph.Body.{Body}
use Rattle.drop_laws.specs.Ranked.{ranked_with}
use Rattle.drop_ranks.specs.Ranks.{AreTops, lower_ranks}

-- new ranks: of blocks, and then of what is made for them
abbrev pub IsRankedBy : (before sizes ranks : List ℕ) → Type 0
IsRankedBy before sizes ranks =
    (tops : List ℕ) × AreTops before sizes tops × (ranks ≡ tops ++ lower_ranks tops sizes)

abbrev pub IsBoolAt : ItemTable → TyId → Bool → Type 0
IsBoolAt items id result = (result ≡ true) ↔ (type_at items id ≡ Some Ty.Bool)

-- a body is one of these blocks, with new ranks, and has so many flags behind its locals
pub record IsFinished
    (body : Body) (raw new : List Block) (sizes : List ℕ) (flag_ty : TyId) (flags : ℕ) (after : Body) : Type 0 where
  pub ranks : List ℕ
  pub ranked : IsRankedBy (map (λ block. block.rank) body.blocks) sizes ranks
  pub params : after.params ≡ body.params
  pub locals : after.locals ≡ body.locals ++ replicate flags flag_ty
  pub blocks : after.blocks ≡ ranked_with (raw ++ new) ranks
