-- The stores that uses ask for, as the code makes them; no public contract speaks of it.
use Rattle.std.specs.Prelude.{Bool, true, false, List, [], ◌∷◌, ◌++◌, flat_map}
use Rattle.cfg_graph.specs.declared.place.Place.{Place}
use Rattle.cfg_graph.specs.declared.place.Operand.{Operand}
use Rattle.cfg_graph.specs.declared.statement.Stmt.{Stmt}
use Rattle.cfg_graph.specs.declared.terminator.Term.{Term}
use Rattle.cfg_graph.specs.Places.{named}
use Rattle.cfg_graph.specs.Uses.{operands_of_stmt, operands_of_term, stored_by_stmt}
use Rattle.drop_flags.specs.Flags.{paths_of, stores_below}
use Rattle.drop_flags.specs.declared.flags.Flags.{Flags}

-- into the flags at and below a place
abbrev pub place_stores : Flags → Place → (present : Bool) → List Stmt
place_stores flags place present = stores_below (named place) present (paths_of flags) flags.first

-- what is moved is gone
abbrev pub operand_stores : Flags → Operand → List Stmt
operand_stores flags (Operand.Moved place) = place_stores flags place false
operand_stores flags _ = []

-- so is a box that is freed
abbrev pub freed_stores : Flags → Stmt → List Stmt
freed_stores flags (Stmt.Free place) = place_stores flags place false
freed_stores flags _ = []

-- what is stored is present
abbrev pub stored_stores : Flags → List Place → List Stmt
stored_stores flags [] = []
stored_stores flags (place ∷ places) = place_stores flags place true

abbrev pub stmt_stores : Flags → Stmt → List Stmt
stmt_stores flags stmt =
    flat_map (operand_stores flags) (operands_of_stmt stmt)
    ++ (freed_stores flags stmt ++ stored_stores flags (stored_by_stmt stmt))

abbrev pub dropped_stores : Flags → Term → List Stmt
dropped_stores flags (Term.DropAt place next unwind) = place_stores flags place false
dropped_stores flags _ = []

abbrev pub term_stores : Flags → Term → List Stmt
term_stores flags term = flat_map (operand_stores flags) (operands_of_term term) ++ dropped_stores flags term
