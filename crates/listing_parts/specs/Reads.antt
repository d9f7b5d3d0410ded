-- What the law of parts says: each part that is written is found, before whatever ends it.
use Rattle.std.specs.Prelude.{◌≡◌, ℕ, ◌<◌, Bool, true, not, ◌||◌, nat_eq, List, [], ◌∷◌, ◌++◌, length, codes, Some, None, All, ⊤}
use Rattle.std.specs.List.{list_any, list_all}
use Rattle.mir_ty.specs.ItemTable.{ItemTable}
use Rattle.mir_ty.specs.Named.{adt_name}
use Rattle.cfg_graph.specs.WellFormed.NameFaults.{stands_in_names}
use Rattle.cfg_graph.specs.declared.place.Operand.{Operand}
use Rattle.cfg_graph.specs.declared.place.Place.{Place}
use Rattle.cfg_graph.specs.declared.statement.Stmt.{Stmt}
use Rattle.cfg_graph.specs.declared.terminator.Term.{Term}
use Rattle.listing_write.specs.Fields.{PlaceFits, OperandFits, StmtFits, TermFits}
use Rattle.listing_write.specs.Parts.{place_text, operand_text, operands_text, stmt_text, term_text}
use Rattle.listing_write.specs.Reading.Lines.{stmt_read, term_read}
use Rattle.listing_write.specs.Reading.Parts.{place_read, operand_read, operands_read}
use Rattle.listing_write.specs.Reading.Words.{is_digit}
use Rattle.listing_write.specs.Types.{trait_name}
use Rattle.listing_parts.specs.Numbers.{adt_no, trait_no}

-- no place goes on with this text
abbrev pub ends_place : List ℕ → Bool
ends_place [] = true
ends_place (b ∷ bs) = not (is_digit b || list_any (nat_eq b) (codes ".:["))

abbrev pub PlacesAreRead : Type 0
PlacesAreRead =
    (place : Place) → PlaceFits place → (behind : List ℕ) → ends_place behind ≡ true →
    place_read (place_text place ++ behind) ≡ Some (place, behind)

abbrev pub OperandsAreRead : Type 0
OperandsAreRead =
    (operand : Operand) → OperandFits operand → (behind : List ℕ) → ends_place behind ≡ true →
    operand_read (operand_text operand ++ behind) ≡ Some (operand, behind)

abbrev pub RowsAreRead : Type 0
RowsAreRead =
    (operands : List Operand) → All OperandFits operands → (behind : List ℕ) →
    operands_read (operands_text operands ++ behind) ≡ Some (operands, behind)

-- the names of structs, enums and traits can stand in a listing, and each tells its number
pub record AreTold (items : ItemTable) : Type 0 where
  pub adts : (n : ℕ) → n < length items.adts →
      (list_all stands_in_names (adt_name items n) ≡ true) × (adt_no items (adt_name items n) ≡ n)
  pub traits : (n : ℕ) → n < length items.traits →
      (list_all stands_in_names (trait_name items n) ≡ true) × (trait_no items (trait_name items n) ≡ n)

-- what a statement or a terminator names is there
abbrev pub StmtNames : ItemTable → Stmt → Type 0
StmtNames items (Stmt.Make to adt variant parts) = adt < length items.adts
StmtNames items (Stmt.Unsize to trait from) = trait < length items.traits
StmtNames items _ = ⊤

abbrev pub TermNames : ItemTable → Term → Type 0
TermNames items (Term.Virtual to trait method args next unwind) = trait < length items.traits
TermNames items _ = ⊤

abbrev pub StmtsAreRead : Type 0
StmtsAreRead =
    (items : ItemTable) → AreTold items → (stmt : Stmt) → StmtFits stmt → StmtNames items stmt → (behind : List ℕ) →
    stmt_read (adt_no items) (trait_no items) (stmt_text items stmt ++ 10 ∷ behind) ≡ Some (stmt, 10 ∷ behind)

abbrev pub TermsAreRead : Type 0
TermsAreRead =
    (items : ItemTable) → AreTold items → (term : Term) → TermFits term → TermNames items term → (behind : List ℕ) →
    term_read (adt_no items) (trait_no items) (term_text items term ++ 10 ∷ behind) ≡ Some (term, 10 ∷ behind)

-- no terminator is read as a statement
abbrev pub TermsAreNoStmts : Type 0
TermsAreNoStmts =
    (items : ItemTable) → AreTold items → (term : Term) → TermFits term → (behind : List ℕ) →
    stmt_read (adt_no items) (trait_no items) (term_text items term ++ behind) ≡ None
