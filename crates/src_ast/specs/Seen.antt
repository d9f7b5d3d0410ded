-- What nodes that are borrowed from a tree are in the definitions.
use Rattle.std.specs.Prelude.{Bool, true, false, ◌&&◌, List, Option, Some, None}
use Rattle.std.specs.Borrow.{Bor}
use Rattle.src_tree.specs.declared.node.SyntaxNode.{SyntaxNode}
use Rattle.src_tree.specs.declared.node.NodePiece.{NodePiece}
use Rattle.src_tree.specs.declared.row.GrammarRow.{GrammarRow}
use Rattle.src_tree.specs.View.{layout_of, parts_in}
use Rattle.src_ast.specs.declared.nodes.Nodes.{Nodes}
use Rattle.src_ast.specs.declared.nodes.First.{First}
use Rattle.src_ast.specs.declared.nodes.Last.{Last}
use Rattle.src_ast.specs.Syntax.{Word, Syn, Shape, Syns, no_syn, a_syn, MaybeSyn, nothing, just}
use Rattle.src_ast.specs.View.{view, views, is_ident, made, tokens_in}

abbrev pub syn_of : SyntaxNode → Syn
syn_of n = view (layout_of n)

abbrev pub nodes_of : Nodes → Syns
nodes_of n = views (parts_in n.pieces.now)

abbrev pub by_first : Option First → Syns
by_first None = no_syn
by_first (Some s) = a_syn (syn_of s.first.now) (nodes_of s.rest)

abbrev pub maybe_of : Option (Bor SyntaxNode) → MaybeSyn
maybe_of None = nothing
maybe_of (Some n) = just (syn_of n.now)

abbrev pub last_node : Option Last → MaybeSyn
last_node None = nothing
last_node (Some s) = just (syn_of s.last.now)

abbrev pub word_of : Option (Bor Word) → Option Word
word_of None = None
word_of (Some w) = Some w.now

abbrev pub is_none : Syns → Bool
is_none no_syn = true
is_none (a_syn first rest) = false

-- all of them are names
abbrev pub are_idents : Syns → Bool
are_idents no_syn = true
are_idents (a_syn first rest) = is_ident first && are_idents rest

-- the form that these parts of a row make
abbrev pub made_of : GrammarRow → List NodePiece → Shape
made_of row pieces = made row (tokens_in (parts_in pieces)) (views (parts_in pieces))

abbrev pub two_first : Syns → Option (Syn × Syn)
two_first (a_syn first (a_syn second rest)) = Some (first, second)
two_first _ = None
