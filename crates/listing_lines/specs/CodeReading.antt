-- The code of a body, read from the front of a text: statements, terminators and blocks, each exactly as it is written.
use Rattle.std.specs.Prelude.{ℕ, zero, suc, Bool, true, false, if◌then◌else◌, nat_lt, List, [], ◌∷◌, length, Option, Some, None}
use Rattle.mir_ty.specs.ItemTable.{ItemTable}
use Rattle.cfg_graph.specs.declared.graph.Block.{Block}
use Rattle.cfg_graph.specs.declared.graph.Kind.{Kind}
use Rattle.cfg_graph.specs.declared.statement.Stmt.{Stmt}
use Rattle.cfg_graph.specs.declared.terminator.Term.{Term}
use Rattle.listing_write.specs.Parts.{stmt_text, term_text}
use Rattle.listing_write.specs.Reading.Lines.{stmt_read, term_read}
use Rattle.listing_write.specs.Reading.Rows.{many}
use Rattle.listing_write.specs.Reading.Words.{FoundInText, bind}
use Rattle.listing_lines.specs.LineReading.{block_read}
use Rattle.listing_parts.specs.LinesFound.{behind_line}
use Rattle.listing_parts.specs.Numbers.{adt_no, trait_no}

-- the struct, enum or trait that a statement or a terminator names is there
abbrev pub names_stmt : ItemTable → Stmt → Bool
names_stmt heads (Stmt.Make to adt variant parts) = nat_lt adt (length heads.adts)
names_stmt heads (Stmt.Unsize to trait_no from) = nat_lt trait_no (length heads.traits)
names_stmt heads _ = true

abbrev pub names_term : ItemTable → Term → Bool
names_term heads (Term.Virtual to trait_no method args next unwind) = nat_lt trait_no (length heads.traits)
names_term heads _ = true

module _ (heads : ItemTable) where
  -- what stands behind the line of a statement, and behind that of a terminator, whose names are there
  abbrev pub behind_stmt : List ℕ → Stmt → Option (List ℕ)
  behind_stmt t stmt = if names_stmt heads stmt then behind_line (stmt_text heads stmt) t else None

  abbrev pub behind_term : List ℕ → Term → Option (List ℕ)
  behind_term t term = if names_term heads term then behind_line (term_text heads term) t else None

  -- a statement, and a terminator, that is read and writes the line in front
  abbrev pub stmt_from : List ℕ → Stmt × List ℕ → FoundInText Stmt
  stmt_from t f = bind (behind_stmt t f.0) (λ r. Some (f.0, r))

  abbrev pub term_from : List ℕ → Term × List ℕ → FoundInText Term
  term_from t f = bind (behind_term t f.0) (λ r. Some (f.0, r))

  abbrev pub statement_read : List ℕ → FoundInText Stmt
  statement_read t = bind (stmt_read (adt_no heads) (trait_no heads) t) (stmt_from t)

  abbrev pub terminator_read : List ℕ → FoundInText Term
  terminator_read t = bind (term_read (adt_no heads) (trait_no heads) t) (term_from t)

-- a block, and whether its terminator was found; where it was not, it is closed by a `return`
abbrev pub closed : Kind × ℕ → List Stmt → List ℕ → FoundInText Term → (Block × Bool) × List ℕ
closed head stmts t None =
    ((record { kind = head.0; rank = head.1; stmts = stmts; term = Term.Return }, false), t)
closed head stmts t (Some term) =
    ((record { kind = head.0; rank = head.1; stmts = stmts; term = term.0 }, true), term.1)

module _ (heads : ItemTable) where
  abbrev pub code_behind : Kind × ℕ → List Stmt × List ℕ → (Block × Bool) × List ℕ
  code_behind head stmts = closed head stmts.0 stmts.1 (terminator_read heads stmts.1)

  -- the line of the block with a number, its statements and its terminator
  abbrev pub code_read : ℕ → List ℕ → FoundInText (Block × Bool)
  code_read n t = bind (block_read n t) (λ head. Some (code_behind head.0 (many (statement_read heads) head.1)))

-- things with the numbers that are due, one behind the other, until one is broken off; and whether none was
abbrev pub goes_on : {X : Type 0} → FoundInText (X × Bool) → (List ℕ → (List X × Bool) × List ℕ) → List ℕ →
    (List X × Bool) × List ℕ
goes_on None more t = (([], true), t)
goes_on (Some ((x, false), r)) more t = ((x ∷ [], false), r)
goes_on (Some ((x, true), r)) more t = ((x ∷ (more r).0.0, (more r).0.1), (more r).1)

abbrev pub until_within : {X : Type 0} → ℕ → (ℕ → List ℕ → FoundInText (X × Bool)) → ℕ → List ℕ →
    (List X × Bool) × List ℕ
until_within zero read n t = (([], true), t)
until_within (suc k) read n t = goes_on (read n t) (until_within k read (suc n)) t

-- each has a byte, so there are no more than bytes
abbrev pub until_broken : {X : Type 0} → (ℕ → List ℕ → FoundInText (X × Bool)) → List ℕ → (List X × Bool) × List ℕ
until_broken read t = until_within (length t) read 0 t

-- the blocks of a body
abbrev pub blocks_read : ItemTable → List ℕ → (List Block × Bool) × List ℕ
blocks_read heads t = until_broken (code_read heads) t
