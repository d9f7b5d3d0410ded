-- Each part that is written is found.
use Rattle.std.proofs.Common.{◌≡◌, ℕ, Bool, true, false, not, ◌||◌, nat_eq, nat_lt, List, [], ◌∷◌, length, refl, sym, ◌∙◌, eqb-true, ltb-true}
use Rattle.std.specs.List.{list_all}
use Rattle.std.proofs.lemmas.Bool.{false≢true, eq-eqb, lt-ltb}
use Rattle.mir_ty.specs.ItemTable.{ItemTable}
use Rattle.mir_ty.specs.Named.{adt_name}
use Rattle.cfg_graph.specs.WellFormed.NameFaults.{stands_in_names}
use Rattle.cfg_graph.specs.declared.statement.Stmt.{Stmt}
use Rattle.cfg_graph.specs.declared.terminator.Term.{Term}
use Rattle.listing_write.specs.Types.{trait_name}
use Rattle.listing_write.specs.Reading.Words.{is_digit}
use Rattle.listing_write.proofs.Reading.Parts.{IsPlaceEnd, place_reads, operand_reads, operands_reads}
use Rattle.listing_write.proofs.Reading.Lines.{Named, TermNamed, stmt_reads, term_reads, no_stmt}
use Rattle.listing_parts.specs.Numbers.{adt_no, trait_no}
use Rattle.listing_parts.specs.Reads.{ends_place, AreTold, StmtNames, TermNames, PlacesAreRead, OperandsAreRead, RowsAreRead, StmtsAreRead, TermsAreRead, TermsAreNoStmts}

not_true : (v : Bool) → not v ≡ true → v ≡ false
not_true true h = absurd (false≢true h)
not_true false h = refl

neither : (a b : Bool) → (a || b) ≡ false → (a ≡ false) × (b ≡ false)
neither true b h = absurd (false≢true (sym h))
neither false b h = (refl, h)

swapped : (a b : ℕ) → nat_eq a b ≡ false → nat_eq b a ≡ false
swapped a b h = by (nat_eq b a) refl
  where
    by : (v : Bool) → nat_eq b a ≡ v → nat_eq b a ≡ false
    by true e = absurd (false≢true (sym h ∙ eq-eqb a b (sym (eqb-true b a e))))
    by false e = e

is_end : (r : List ℕ) → ends_place r ≡ true → IsPlaceEnd r
is_end [] h = record { over = refl; none = refl }
is_end (b ∷ bs) h =
    let (digit, marks) = neither (is_digit b) _ (not_true _ h) in
    let (dot, more) = neither (nat_eq b 46) _ marks in
    let (colon, last) = neither (nat_eq b 58) _ more in
    let (bracket, none) = neither (nat_eq b 91) _ last in
    record {
      over = rw (digit, colon) refl;
      none = rw (swapped b 46 dot, swapped b 91 bracket) refl;
    }

pub places_are_read : PlacesAreRead
places_are_read place fits behind ends = place_reads place fits behind (is_end behind ends)

pub operands_are_read : OperandsAreRead
operands_are_read operand fits behind ends = operand_reads operand fits behind (is_end behind ends)

pub rows_are_read : RowsAreRead
rows_are_read = operands_reads

module _ (items : ItemTable) (told : AreTold items) where
  adts : (n : ℕ) → nat_lt n (length items.adts) ≡ true → (list_all stands_in_names (adt_name items n) ≡ true) × (adt_no items (adt_name items n) ≡ n)
  adts n h = told.adts n (ltb-true n (length items.adts) h)

  traits : (n : ℕ) → nat_lt n (length items.traits) ≡ true → (list_all stands_in_names (trait_name items n) ≡ true) × (trait_no items (trait_name items n) ≡ n)
  traits n h = told.traits n (ltb-true n (length items.traits) h)

  named : (stmt : Stmt) → StmtNames items stmt → Named (adt_no items) (trait_no items) items adts traits stmt
  named (Stmt.Make to adt variant parts) h = lt-ltb adt (length items.adts) h
  named (Stmt.Unsize to trait from) h = lt-ltb trait (length items.traits) h
  named _ h = tt

  term_named : (term : Term) → TermNames items term → TermNamed (adt_no items) (trait_no items) items traits term
  term_named (Term.Virtual to trait method args next unwind) h = lt-ltb trait (length items.traits) h
  term_named _ h = tt

pub stmts_are_read : StmtsAreRead
stmts_are_read items told stmt fits names behind =
    stmt_reads (adt_no items) (trait_no items) items (adts items told) (traits items told) stmt fits (named items told stmt names) behind

pub terms_are_read : TermsAreRead
terms_are_read items told term fits names behind =
    term_reads (adt_no items) (trait_no items) items (traits items told) term fits (term_named items told term names) behind

pub terms_are_no_stmts : TermsAreNoStmts
terms_are_no_stmts items told term fits behind = no_stmt (adt_no items) (trait_no items) items (traits items told) term fits behind
