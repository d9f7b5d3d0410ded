-- What the lister of uses answers, as the uses that graphs speak of.
use Rattle.std.specs.Prelude.{List, [], ◌∷◌, ◌++◌, map, flat_map, Option, Some, None}
use Rattle.cfg_graph.specs.declared.place.Place.{Place}
use Rattle.cfg_graph.specs.declared.place.Operand.{Operand}
use Rattle.cfg_graph.specs.declared.statement.Stmt.{Stmt}
use Rattle.cfg_graph.specs.declared.terminator.Term.{Term}
use Rattle.cfg_graph.specs.declared.graph.Block.{Block}
use Rattle.cfg_graph.specs.Uses as graph
use Rattle.cfg_graph.specs.Uses.{Copies, Moves, Borrows, Touches, Tests, Stores, Drops, Frees, stmt_uses, term_uses, stored_by_term}
use Rattle.move_paths.specs.declared.uses.Use.{Use}
use Rattle.move_paths.specs.declared.uses.Used.{Used}

abbrev pub use_of : Use → graph.PlaceUse
use_of Use.Copies = Copies
use_of Use.Moves = Moves
use_of Use.Borrows = Borrows
use_of Use.Touches = Touches
use_of Use.Tests = Tests
use_of Use.Stores = Stores
use_of Use.Drops = Drops
use_of Use.Frees = Frees

abbrev pub listed : List Used → List (graph.PlaceUse × Place)
listed uses = map (λ used. (use_of used.how, used.place.now)) uses

abbrev pub operand_uses : Operand → List (graph.PlaceUse × Place)
operand_uses (Operand.Copied place) = (Copies, place) ∷ []
operand_uses (Operand.Moved place) = (Moves, place) ∷ []
operand_uses _ = []

abbrev pub other_uses : Stmt → List (graph.PlaceUse × Place)
other_uses (Stmt.Borrow to unique of) = (Borrows, of) ∷ []
other_uses (Stmt.Touch place) = (Touches, place) ∷ []
other_uses (Stmt.Free place) = (Frees, place) ∷ []
other_uses _ = []

abbrev pub other_term_uses : Term → List (graph.PlaceUse × Place)
other_term_uses (Term.Case on variant if_true if_false) = (Tests, on) ∷ []
other_term_uses (Term.DropAt place next unwind) = (Drops, place) ∷ []
other_term_uses _ = []

abbrev pub optional : Option Place → List Place
optional None = []
optional (Some place) = place ∷ []

-- what a block uses before it takes a way out
abbrev pub inner_uses : Block → List (graph.PlaceUse × Place)
inner_uses block = flat_map stmt_uses block.stmts ++ term_uses block.term

-- all uses of a block, the store of its terminator's result among them
abbrev pub block_uses : Block → List (graph.PlaceUse × Place)
block_uses block =
    flat_map stmt_uses block.stmts
    ++ (term_uses block.term ++ map (λ place. (Stores, place)) (stored_by_term block.term))
