-- The listing of a graph.
use Rattle.std.specs.Prelude.{ℕ, ◌<◌, ◌-◌, ◌^◌, List, ◌++◌, flat_map, codes, length, All}
use Rattle.std.specs.Fmt.{decimal}
use Rattle.mir_ty.specs.declared.ty.TyId.{TyId}
use Rattle.mir_ty.specs.ItemTable.{ItemTable}
use Rattle.mir_ty.specs.Named.{body_name}
use Rattle.cfg_graph.specs.declared.graph.Block.{Block}
use Rattle.cfg_graph.specs.declared.graph.Body.{Body}
use Rattle.cfg_graph.specs.declared.graph.Graph.{Graph}
use Rattle.cfg_graph.specs.declared.graph.Kind.{Kind}
use Rattle.listing_write.specs.Lists.{line}
use Rattle.listing_write.specs.Types.{type_text}
use Rattle.listing_write.specs.Parts.{stmt_text, term_text}
use Rattle.listing_write.specs.Items.{items_text, counted}

abbrev pub kind_word : Kind → List ℕ
kind_word Kind.Plain = codes "plain"
kind_word Kind.Turn = codes "turn"
kind_word Kind.Cleanup = codes "cleanup"

abbrev pub local_line : ItemTable → ℕ → TyId → List ℕ
local_line items n id = line (codes "local " ++ decimal n ++ codes " " ++ type_text items id)

-- the lines of a body and of its locals
abbrev pub body_text : ItemTable → ℕ → ℕ → List TyId → List ℕ
body_text items body params locals =
    line (codes "body " ++ decimal body ++ codes " " ++ body_name items body ++ codes " " ++ decimal params) ++
    counted (local_line items) 0 locals

abbrev pub block_line : ℕ → Block → List ℕ
block_line n block =
    line (codes "block " ++ decimal n ++ codes " " ++ kind_word block.kind ++ codes " rank " ++ decimal block.rank)

abbrev pub block_text : ItemTable → ℕ → Block → List ℕ
block_text items n block = block_line n block ++ flat_map (λ stmt. line (stmt_text items stmt)) block.stmts ++
    line (term_text items block.term)

abbrev pub whole_body_text : ItemTable → ℕ → Body → List ℕ
whole_body_text items n body = body_text items n body.params body.locals ++ counted (block_text items) 0 body.blocks

abbrev pub listing : Graph → List ℕ
listing graph = line (codes "mirdrop 1") ++ items_text graph.items ++
    counted (whole_body_text graph.items) 0 graph.bodies ++ line (codes "end")

-- the lists of a graph have fewer members than a number of 32 bits can count
pub record IsShortBody (body : Body) : Type 0 where
  pub locals : length body.locals < 2 ^ 32 - 1
  pub blocks : length body.blocks < 2 ^ 32 - 1

abbrev pub AreShortBodies : List Body → Type 0
AreShortBodies bodies = All IsShortBody bodies

pub record IsShortGraph (graph : Graph) : Type 0 where
  pub bodies : length graph.bodies < 2 ^ 32 - 1
  pub each : AreShortBodies graph.bodies
