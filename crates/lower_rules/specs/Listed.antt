-- The sites of a program, in the order of its bodies, blocks and lines; a block's terminator is its last line.
use Rattle.std.specs.Prelude.{ℕ, suc, List, [], ◌∷◌, ◌++◌, map, Option, Some, None}
use Rattle.cfg_graph.specs.declared.graph.Block.{Block}
use Rattle.cfg_graph.specs.declared.statement.Stmt.{Stmt}
use Rattle.mir_ty.specs.ItemTable.{ItemTable}
use Rattle.typed_tree.specs.Tree.{BodyTree, ProgramTree}
use Rattle.mir_base.specs.declared.place_in_text.NodeId.{NodeId}
use Rattle.lower_rules.specs.Lower as low
use Rattle.lower_rules.specs.Lower.{body_of}
use Rattle.lower_rules.specs.Sites.{UseSite, site_at}
use Rattle.lower_rules.specs.declared.site.Site.{Site}

abbrev pub placed : (body block line : ℕ) → Option UseSite → List Site
placed body block line None = []
placed body block line (Some site) =
    record { body = body; block = block; line = line; at = site.at; by = site.by; name = site.name } ∷ []

module _ (items : ItemTable) (tree : BodyTree) (body : ℕ) where
  abbrev pub at_line : (block line : ℕ) → List Site
  at_line block line = placed body block line (site_at items tree block line)

  abbrev pub of_lines : (block line : ℕ) → List Stmt → List Site
  of_lines block line [] = at_line block line
  of_lines block line (stmt ∷ stmts) = at_line block line ++ of_lines block (suc line) stmts

  abbrev pub of_blocks : (block : ℕ) → List Block → List Site
  of_blocks block [] = []
  of_blocks block (one ∷ blocks) = of_lines block 0 one.stmts ++ of_blocks (suc block) blocks

  abbrev pub body_sites : List Site
  body_sites = of_blocks 0 (body_of items tree).blocks

abbrev pub of_bodies : ItemTable → (body : ℕ) → List BodyTree → List Site
of_bodies items body [] = []
of_bodies items body (tree ∷ trees) = body_sites items tree body ++ of_bodies items (suc body) trees

abbrev pub program_sites : ProgramTree → List Site
program_sites program = of_bodies program.items 0 program.bodies

-- the nodes of lines, and those of a body, block by block
abbrev pub ids_of : List NodeId → List ℕ
ids_of ids = map (λ id. id.0) ids

abbrev pub nodes_of_body : ItemTable → BodyTree → List (List ℕ)
nodes_of_body items tree = low.nodes_of (low.built (low.frame items tree) tree)
