-- The line by which a bad use of a lowered graph is told in the text, and its site.
use Rattle.std.specs.Prelude.{◌≡◌, ◌==◌, ℕ, Bool, true, ◌&&◌, All, List, Option, Some, slice_get}
use Rattle.std.specs.List.{list_any}
use Rattle.move_errors.specs.Reaches.{Reaches}
use Rattle.lower_rules.specs.Laws.{AllNameTheirLoops}
use Rattle.lower_rules.specs.Lower.{graph_of, node_of}
use Rattle.lower_rules.specs.Sites.{position_of}
use Rattle.cfg_graph.specs.declared.graph.Block.{Block}
use Rattle.cfg_graph.specs.declared.graph.Body.{Body}
use Rattle.cfg_graph.specs.declared.terminator.Term.{Term}
use Rattle.cfg_graph.specs.Moves.BadUses.{BadUse}
use Rattle.cfg_graph.specs.Moves.Gone.{PathAction}
use Rattle.cfg_graph.specs.Uses.{PlaceUse, Drops}
use Rattle.typed_tree.specs.Nodes.{body_nodes, first_with}
use Rattle.typed_tree.specs.Tree.{Node, BodyTree, ProgramTree}
use Rattle.lower_rules.specs.Listed.{program_sites}
use Rattle.lower_rules.specs.declared.site.Site.{Site}

-- a line of a body, by its block; a block's terminator is the line behind its last statement
pub record LineOfBody : Type 0 where
  pub block : ℕ
  pub line : ℕ

abbrev pub behind_drop : Term → LineOfBody → LineOfBody
behind_drop (Term.DropAt place next unwind) own = record { block = next; line = 0 }
behind_drop term own = own

abbrev pub told_by : PlaceUse → Option Block → LineOfBody → LineOfBody
told_by Drops (Some block) own = behind_drop block.term own
told_by how block own = own

-- its own line; where a place is dropped before it is stored into, that of the store
abbrev pub line_told : Body → PathAction → LineOfBody
line_told body action =
    told_by action.how (slice_get body.blocks action.block) (record { block = action.block; line = action.line })

abbrev pub stands_at : ℕ → LineOfBody → Site → Bool
stands_at body at site = site.body == body && (site.block == at.block && site.line == at.line)

-- some site of the program is that of a line of a body
abbrev pub has_site : ProgramTree → ℕ → LineOfBody → Bool
has_site program body at = list_any (stands_at body at) (program_sites program)

-- A use of a body is told in the text: its line, or that of the store behind a drop, has a site, and each site of that
-- line has the position of the node that the use's own line is of.
pub record IsTold (program : ProgramTree) (n : ℕ) (body : Body) (action : PathAction) : Type 0 where
  pub sited : has_site program n (line_told body action) ≡ true
  pub tree : BodyTree
  pub there : slice_get program.bodies n ≡ Some tree
  pub node : Node
  pub found : first_with (node_of program.items tree action.block action.line) (body_nodes tree) ≡ Some node
  pub at : All (λ site. stands_at n (line_told body action) site ≡ true → site.at ≡ position_of node) (program_sites program)

-- each bad use that a path reaches is told so
abbrev pub LoweredUsesHaveSites : Type 0
LoweredUsesHaveSites =
    (program : ProgramTree) → AllNameTheirLoops program → (n : ℕ) (body : Body) →
    slice_get (graph_of program).bodies n ≡ Some body → (path : List ℕ) (given : List Bool) (bad : BadUse) →
    Reaches program.items body path given bad → IsTold program n body bad.action
