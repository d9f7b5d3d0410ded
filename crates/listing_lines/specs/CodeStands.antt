-- Which lines of statements and terminators can stand in a listing.
use Rattle.std.specs.Prelude.{◌≡◌, ℕ, ◌<◌, true, List, [], length, ⊤, All}
use Rattle.mir_ty.specs.ItemTable.{ItemTable}
use Rattle.cfg_graph.specs.declared.statement.Stmt.{Stmt}
use Rattle.cfg_graph.specs.declared.terminator.Term.{Term}
use Rattle.cfg_graph.specs.WellFormed.NameFaults.{is_name, is_adt_name}
use Rattle.listing_write.specs.Fields.{Fits, PlaceFits, OperandFits, StmtFits, TermFits, WaysFit}
use Rattle.listing_write.specs.Lines.{Line, MakeLine, UnsizeLine, StmtLine, VirtualLine, TermLine}
use Rattle.listing_parts.specs.Numbers.{adt_no, trait_no}

-- a struct or enum, and a trait, of this name is there
abbrev pub IsAdtName : ItemTable → List ℕ → Type 0
IsAdtName items name = (is_name name ≡ true) × (adt_no items name < length items.adts)

abbrev pub IsTraitName : ItemTable → List ℕ → Type 0
IsTraitName items name = (is_name name ≡ true) × (trait_no items name < length items.traits)

-- the lines of `make`, `unsize` and `virtual` are lines of their own
abbrev pub NamesNothing : Stmt → Type 0
NamesNothing (Stmt.Make to adt variant parts) = ⊥
NamesNothing (Stmt.Unsize to trait_no from) = ⊥
NamesNothing _ = ⊤

abbrev pub SendsNothing : Term → Type 0
SendsNothing (Term.Virtual to trait_no method args next unwind) = ⊥
SendsNothing _ = ⊤

-- a line of a statement whose numbers fit their fields, and whose names are there
abbrev pub StmtLineStands : ItemTable → Line → Type 0
StmtLineStands heads (MakeLine to name variant parts) =
    PlaceFits to × IsAdtName heads name × Fits variant × All OperandFits parts
StmtLineStands heads (UnsizeLine to name from) = PlaceFits to × IsTraitName heads name × OperandFits from
StmtLineStands heads (StmtLine stmt) = StmtFits stmt × NamesNothing stmt
StmtLineStands heads _ = ⊥

-- such a line of a terminator
abbrev pub TermLineStands : ItemTable → Line → Type 0
TermLineStands heads (VirtualLine to name method args next unwind) =
    PlaceFits to × IsTraitName heads name × Fits method × All OperandFits args × WaysFit next unwind
TermLineStands heads (TermLine term) = TermFits term × SendsNothing term
TermLineStands heads _ = ⊥

-- the statement and the terminator of a line, with the numbers that its names have
abbrev pub stmt_in : ItemTable → Line → Stmt
stmt_in heads (MakeLine to name variant parts) = Stmt.Make to (adt_no heads name) variant parts
stmt_in heads (UnsizeLine to name from) = Stmt.Unsize to (trait_no heads name) from
stmt_in heads (StmtLine stmt) = stmt
stmt_in heads _ = Stmt.Free (record { local = 0; steps = [] })

abbrev pub term_in : ItemTable → Line → Term
term_in heads (VirtualLine to name method args next unwind) =
    Term.Virtual to (trait_no heads name) method args next unwind
term_in heads (TermLine term) = term
term_in heads _ = Term.Return

-- the names of the structs, enums and traits can stand in a listing
pub record AreNames (heads : ItemTable) : Type 0 where
  pub adts : All (λ adt. is_adt_name adt.name ≡ true) heads.adts
  pub traits : All (λ def. is_name def.name ≡ true) heads.traits
