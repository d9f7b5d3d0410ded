-- What the law of code says: each line of a statement or a terminator that may stand is found by its reader, and
-- nothing but such a line in front; and what each line behind statements is not.
use Rattle.std.specs.Prelude.{◌≡◌, ℕ, List, ◌++◌, Some, None}
use Rattle.mir_ty.specs.ItemTable.{ItemTable}
use Rattle.cfg_graph.specs.declared.statement.Stmt.{Stmt}
use Rattle.cfg_graph.specs.declared.terminator.Term.{Term}
use Rattle.listing_write.specs.Lines.{Line, line_text, line_of_stmt, line_of_term}
use Rattle.listing_write.specs.Lists.{line}
use Rattle.listing_lines.specs.CodeReading.{statement_read, terminator_read}
use Rattle.listing_lines.specs.CodeStands.{StmtLineStands, TermLineStands, stmt_in, term_in, AreNames}

abbrev pub StatementsAreRead : Type 0
StatementsAreRead =
    (heads : ItemTable) (one : Line) (behind : List ℕ) → StmtLineStands heads one →
    statement_read heads (line (line_text one) ++ behind) ≡ Some (stmt_in heads one, behind)

abbrev pub TerminatorsAreRead : Type 0
TerminatorsAreRead =
    (heads : ItemTable) (one : Line) (behind : List ℕ) → TermLineStands heads one →
    terminator_read heads (line (line_text one) ++ behind) ≡ Some (term_in heads one, behind)

-- a loop over statements ends where the terminator stands
abbrev pub TerminatorsAreNoStatements : Type 0
TerminatorsAreNoStatements =
    (heads : ItemTable) (one : Line) (behind : List ℕ) → TermLineStands heads one →
    statement_read heads (line (line_text one) ++ behind) ≡ None

abbrev pub StatementsAreSound : Type 0
StatementsAreSound =
    (heads : ItemTable) → AreNames heads → (text : List ℕ) (stmt : Stmt) (behind : List ℕ) →
    statement_read heads text ≡ Some (stmt, behind) →
    (text ≡ line (line_text (line_of_stmt heads stmt)) ++ behind) × StmtLineStands heads (line_of_stmt heads stmt)

abbrev pub TerminatorsAreSound : Type 0
TerminatorsAreSound =
    (heads : ItemTable) → AreNames heads → (text : List ℕ) (term : Term) (behind : List ℕ) →
    terminator_read heads text ≡ Some (term, behind) →
    (text ≡ line (line_text (line_of_term heads term)) ++ behind) × TermLineStands heads (line_of_term heads term)
