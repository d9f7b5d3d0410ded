-- Each line of a statement or a terminator that may stand is found by its reader, and none of a terminator as a statement.
use Rattle.std.proofs.Common.{◌≡◌, ℕ, ◌<◌, Bool, true, nat_lt, if◌then◌else◌, List, [], ◌∷◌, ◌++◌, length, codes, Option, Some, None, decimal, refl, ap, sym, ◌∙◌, arith, append_assoc, lt-ltb, ltb-true}
use Rattle.std.specs.Prelude.{All}
use Rattle.std.specs.List.{list_all}
use Rattle.cfg_graph.specs.WellFormed.NameFaults.{stands_in_names, is_name}
use Rattle.cfg_graph.specs.declared.place.Operand.{Operand}
use Rattle.cfg_graph.specs.declared.place.Place.{Place}
use Rattle.cfg_graph.specs.declared.statement.Stmt.{Stmt}
use Rattle.cfg_graph.specs.declared.terminator.Term.{Term}
use Rattle.cfg_graph.specs.declared.terminator.Unwind.{Unwind}
use Rattle.mir_ty.specs.declared.adt.Adt.{Adt}
use Rattle.mir_ty.specs.declared.def.TraitDef.{TraitDef}
use Rattle.mir_ty.specs.ItemTable.{ItemTable, no_items}
use Rattle.mir_ty.specs.Named.{adt_name, name_of_adt}
use Rattle.listing_write.specs.Fields.{Fits, PlaceFits, OperandFits, WaysFit}
use Rattle.listing_write.specs.Lines.{HeadLine, StructLine, EnumLine, TraitLine, ImplLine, ClosureLine, BodyLine, LocalLine, BlockLine, MakeLine, UnsizeLine, StmtLine, VirtualLine, TermLine, EndLine, line_text}
use Rattle.listing_write.specs.Lists.{line}
use Rattle.listing_write.specs.Parts.{place_text, operand_text, operands_text, stmt_text, term_text, ways_text}
use Rattle.listing_write.specs.Reading.Lines.{numbered_operands, operands_from, make_from, unsize_from, virtual_from, sent_of, assigned, assigned_to, returned, returned_to, stmt_read, term_read}
use Rattle.listing_write.specs.Reading.Words.{as_}
use Rattle.listing_write.specs.Types.{trait_name, name_of_trait}
use Rattle.listing_write.proofs.Reading.Basics.{FoundInText, bind, span_run, behind5, behind7, behind8}
use Rattle.listing_write.proofs.Reading.Lines.{Named, TermNamed, stmt_reads, term_reads, no_stmt}
use Rattle.listing_write.proofs.Reading.Parts.{number_of, IsPlaceEnd, place_reads, operand_reads, operands_reads, ways_reads}
use Rattle.listing_parts.specs.LinesFound.{behind_line}
use Rattle.listing_parts.specs.Numbers.{adt_no, trait_no}
use Rattle.listing_parts.proofs.LineByLine.{strip_append, strip_whole}
use Rattle.listing_parts.proofs.Complete.{found_at, name_all}
use Rattle.listing_parts.proofs.Sound.{placed_name}
use Rattle.listing_lines.specs.CodeFound.{StatementsAreRead, TerminatorsAreRead, TerminatorsAreNoStatements}
use Rattle.listing_lines.specs.CodeReading.{names_stmt, names_term, stmt_from, term_from, statement_read, terminator_read}
use Rattle.listing_lines.specs.CodeStands.{NamesNothing, SendsNothing}

line_whole : (w r : List ℕ) → behind_line w (line w ++ r) ≡ Some r
line_whole w r = sym (strip_append w (10 ∷ []) (line w ++ r)) ∙ strip_whole (line w) r

space : (t : List ℕ) → IsPlaceEnd (codes " " ++ t)
space t = record { over = refl; none = refl }

feed : (t : List ℕ) → IsPlaceEnd (10 ∷ t)
feed t = record { over = refl; none = refl }

-- a name among heads
pub adt_called : (heads : ItemTable) (name : List ℕ) → adt_no heads name < length heads.adts → adt_name heads (adt_no heads name) ≡ name
adt_called heads name there =
    let (adt, is) = found_at heads.adts (adt_no heads name) there in
    ap name_of_adt is ∙ sym (placed_name (λ (adt : Adt). adt.name) heads.adts name adt is)

pub trait_called : (heads : ItemTable) (name : List ℕ) → trait_no heads name < length heads.traits → trait_name heads (trait_no heads name) ≡ name
trait_called heads name there =
    let (def, is) = found_at heads.traits (trait_no heads name) there in
    ap name_of_trait is ∙ sym (placed_name (λ (def : TraitDef). def.name) heads.traits name def is)

module _ (heads : ItemTable) where
  stmt_back : (words : List ℕ) (x : Stmt) (behind : List ℕ) → stmt_read (adt_no heads) (trait_no heads) (words ++ 10 ∷ behind) ≡ Some (x, 10 ∷ behind) → names_stmt heads x ≡ true → stmt_text heads x ≡ words
      → statement_read heads (line words ++ behind) ≡ Some (x, behind)
  stmt_back words x behind read named same =
      let t : List ℕ = line words ++ behind in
      ap (λ (f : FoundInText Stmt). bind f (stmt_from heads t)) (ap (stmt_read (adt_no heads) (trait_no heads)) (append_assoc words (10 ∷ []) behind) ∙ read)
      ∙ ap (λ (v : Bool). bind (if v then behind_line (stmt_text heads x) t else None) (λ r. Some (x, r))) named
      ∙ ap (λ (w : List ℕ). bind (behind_line w t) (λ r. Some (x, r))) same
      ∙ ap (λ (o : Option (List ℕ)). bind o (λ r. Some (x, r))) (line_whole words behind)

  term_back : (words : List ℕ) (x : Term) (behind : List ℕ) → term_read (adt_no heads) (trait_no heads) (words ++ 10 ∷ behind) ≡ Some (x, 10 ∷ behind) → names_term heads x ≡ true → term_text heads x ≡ words
      → terminator_read heads (line words ++ behind) ≡ Some (x, behind)
  term_back words x behind read named same =
      let t : List ℕ = line words ++ behind in
      ap (λ (f : FoundInText Term). bind f (term_from heads t)) (ap (term_read (adt_no heads) (trait_no heads)) (append_assoc words (10 ∷ []) behind) ∙ read)
      ∙ ap (λ (v : Bool). bind (if v then behind_line (term_text heads x) t else None) (λ r. Some (x, r))) named
      ∙ ap (λ (w : List ℕ). bind (behind_line w t) (λ r. Some (x, r))) same
      ∙ ap (λ (o : Option (List ℕ)). bind o (λ r. Some (x, r))) (line_whole words behind)

  -- what names nothing is read under any names
  no_adts : (n : ℕ) → nat_lt n (length no_items.adts) ≡ true → (list_all stands_in_names (adt_name no_items n) ≡ true) × (adt_no heads (adt_name no_items n) ≡ n)
  no_adts n h = absurd (omega (arith, ltb-true n 0 h))

  no_traits : (n : ℕ) → nat_lt n (length no_items.traits) ≡ true → (list_all stands_in_names (trait_name no_items n) ≡ true) × (trait_no heads (trait_name no_items n) ≡ n)
  no_traits n h = absurd (omega (arith, ltb-true n 0 h))

  unnamed : (stmt : Stmt) → NamesNothing stmt → Named (adt_no heads) (trait_no heads) no_items no_adts no_traits stmt
  unnamed (Stmt.Make to adt variant parts) h = absurd h
  unnamed (Stmt.Unsize to trait_no from) h = absurd h
  unnamed _ h = tt

  none_named : (stmt : Stmt) → NamesNothing stmt → (names_stmt heads stmt ≡ true) × (stmt_text heads stmt ≡ stmt_text no_items stmt)
  none_named (Stmt.Make to adt variant parts) h = absurd h
  none_named (Stmt.Unsize to trait_no from) h = absurd h
  none_named _ h = (refl, refl)

  unsent : (term : Term) → SendsNothing term → TermNamed (adt_no heads) (trait_no heads) no_items no_traits term
  unsent (Term.Virtual to trait_no method args next unwind) h = absurd h
  unsent _ h = tt

  none_sent : (term : Term) → SendsNothing term → (names_term heads term ≡ true) × (term_text heads term ≡ term_text no_items term)
  none_sent (Term.Virtual to trait_no method args next unwind) h = absurd h
  none_sent _ h = (refl, refl)

  stored : (to : Place) (t : List ℕ) (f : FoundInText Stmt) → PlaceFits to → assigned (adt_no heads) (trait_no heads) to t ≡ f → stmt_read (adt_no heads) (trait_no heads) (place_text to ++ (codes " = " ++ t)) ≡ f
  stored to t f fits h =
      ap (λ (p : FoundInText Place). bind p (assigned_to (adt_no heads) (trait_no heads))) (place_reads to fits (codes " = " ++ t) (space (codes "= " ++ t))) ∙ h

  given : (to : Place) (t : List ℕ) (f : FoundInText Term) → PlaceFits to → returned (adt_no heads) (trait_no heads) to t ≡ f → term_read (adt_no heads) (trait_no heads) (place_text to ++ (codes " = " ++ t)) ≡ f
  given to t f fits h =
      ap (λ (p : FoundInText Place). bind p (returned_to (adt_no heads) (trait_no heads))) (place_reads to fits (codes " = " ++ t) (space (codes "= " ++ t))) ∙ h

  numbered_read : (n : ℕ) (parts : List Operand) → Fits n → All OperandFits parts → (r : List ℕ)
      → numbered_operands (decimal n ++ (codes " " ++ (operands_text parts ++ r))) ≡ Some ((n, parts), r)
  numbered_read n parts fits all r =
      ap (λ (f : FoundInText ℕ). bind f operands_from) (number_of n (codes " " ++ (operands_text parts ++ r)) fits refl)
      ∙ ap (as_ (λ (ps : List Operand). (n, ps))) (operands_reads parts all r)

  make_line : (to : Place) (name : List ℕ) (variant : ℕ) (parts : List Operand) (r : List ℕ) → PlaceFits to → is_name name ≡ true → Fits variant → All OperandFits parts
      → stmt_read (adt_no heads) (trait_no heads) (line_text (MakeLine to name variant parts) ++ (10 ∷ r)) ≡ Some (Stmt.Make to (adt_no heads name) variant parts, 10 ∷ r)
  make_line to name variant parts r fits is count all =
      let at_variant : List ℕ = codes " " ++ (decimal variant ++ (codes " " ++ (operands_text parts ++ (10 ∷ r)))) in
      ap (stmt_read (adt_no heads) (trait_no heads)) (behind7 (place_text to) (codes " = make ") name (codes " ") (decimal variant) (codes " ") (operands_text parts) (10 ∷ r))
      ∙ stored to (codes "make " ++ (name ++ at_variant)) (Some (Stmt.Make to (adt_no heads name) variant parts, 10 ∷ r)) fits
      (ap (make_from (adt_no heads) (trait_no heads) to) (span_run stands_in_names name at_variant (name_all name is) refl)
      ∙ ap (as_ (λ (q : ℕ × List Operand). Stmt.Make to (adt_no heads name) q.0 q.1)) (numbered_read variant parts count all (10 ∷ r)))

  unsize_line : (to : Place) (name : List ℕ) (from : Operand) (r : List ℕ) → PlaceFits to → is_name name ≡ true → OperandFits from
      → stmt_read (adt_no heads) (trait_no heads) (line_text (UnsizeLine to name from) ++ (10 ∷ r)) ≡ Some (Stmt.Unsize to (trait_no heads name) from, 10 ∷ r)
  unsize_line to name from r fits is own =
      let at_from : List ℕ = codes " " ++ (operand_text from ++ (10 ∷ r)) in
      ap (stmt_read (adt_no heads) (trait_no heads)) (behind5 (place_text to) (codes " = unsize ") name (codes " ") (operand_text from) (10 ∷ r))
      ∙ stored to (codes "unsize " ++ (name ++ at_from)) (Some (Stmt.Unsize to (trait_no heads name) from, 10 ∷ r)) fits
      (ap (unsize_from (adt_no heads) (trait_no heads) to) (span_run stands_in_names name at_from (name_all name is) refl)
      ∙ ap (as_ (Stmt.Unsize to (trait_no heads name))) (operand_reads from own (10 ∷ r) (feed r)))

  virtual_line : (to : Place) (name : List ℕ) (method : ℕ) (args : List Operand) (next : ℕ) (unwind : Unwind) (r : List ℕ) → PlaceFits to → is_name name ≡ true → Fits method → All OperandFits args → WaysFit next unwind
      → term_read (adt_no heads) (trait_no heads) (line_text (VirtualLine to name method args next unwind) ++ (10 ∷ r)) ≡ Some (Term.Virtual to (trait_no heads name) method args next unwind, 10 ∷ r)
  virtual_line to name method args next unwind r fits is count all ways =
      let at_ways : List ℕ = ways_text next unwind ++ (10 ∷ r) in
      let at_method : List ℕ = codes " " ++ (decimal method ++ (codes " " ++ (operands_text args ++ at_ways))) in
      ap (term_read (adt_no heads) (trait_no heads)) (behind8 (place_text to) (codes " = virtual ") name (codes " ") (decimal method) (codes " ") (operands_text args) (ways_text next unwind) (10 ∷ r))
      ∙ given to (codes "virtual " ++ (name ++ at_method)) (Some (Term.Virtual to (trait_no heads name) method args next unwind, 10 ∷ r)) fits
      (ap (virtual_from (adt_no heads) (trait_no heads) to) (span_run stands_in_names name at_method (name_all name is) refl)
      ∙ ap (λ (f : FoundInText (ℕ × List Operand)). bind f (sent_of (adt_no heads) (trait_no heads) to name)) (numbered_read method args count all at_ways)
      ∙ ap (as_ (λ (w : ℕ × Unwind). Term.Virtual to (trait_no heads name) method args w.0 w.1)) (ways_reads next unwind ways (10 ∷ r) refl))

  no_virtual : (to : Place) (name : List ℕ) (method : ℕ) (args : List Operand) (next : ℕ) (unwind : Unwind) (r : List ℕ) → PlaceFits to
      → stmt_read (adt_no heads) (trait_no heads) (line_text (VirtualLine to name method args next unwind) ++ r) ≡ None
  no_virtual to name method args next unwind r fits =
      let at_method : List ℕ = codes " " ++ (decimal method ++ (codes " " ++ (operands_text args ++ (ways_text next unwind ++ r)))) in
      ap (stmt_read (adt_no heads) (trait_no heads)) (behind8 (place_text to) (codes " = virtual ") name (codes " ") (decimal method) (codes " ") (operands_text args) (ways_text next unwind) r)
      ∙ stored to (codes "virtual " ++ (name ++ at_method)) None fits refl

pub statements_read : StatementsAreRead
statements_read heads (MakeLine to name variant parts) behind stands =
    stmt_back heads (line_text (MakeLine to name variant parts)) (Stmt.Make to (adt_no heads name) variant parts) behind
    (make_line heads to name variant parts behind stands.0 stands.1.0 stands.2 stands.3) (lt-ltb (adt_no heads name) (length heads.adts) stands.1.1)
    (ap (λ (n : List ℕ). line_text (MakeLine to n variant parts)) (adt_called heads name stands.1.1))
statements_read heads (UnsizeLine to name from) behind stands =
    stmt_back heads (line_text (UnsizeLine to name from)) (Stmt.Unsize to (trait_no heads name) from) behind
    (unsize_line heads to name from behind stands.0 stands.1.0 stands.2) (lt-ltb (trait_no heads name) (length heads.traits) stands.1.1)
    (ap (λ (n : List ℕ). line_text (UnsizeLine to n from)) (trait_called heads name stands.1.1))
statements_read heads (StmtLine stmt) behind stands =
    let (named, same) = none_named heads stmt stands.1 in
    stmt_back heads (stmt_text no_items stmt) stmt behind
    (stmt_reads (adt_no heads) (trait_no heads) no_items (no_adts heads) (no_traits heads) stmt stands.0 (unnamed heads stmt stands.1) behind) named same
statements_read heads other behind stands = absurd stands

pub terminators_read : TerminatorsAreRead
terminators_read heads (VirtualLine to name method args next unwind) behind stands =
    term_back heads (line_text (VirtualLine to name method args next unwind)) (Term.Virtual to (trait_no heads name) method args next unwind) behind
    (virtual_line heads to name method args next unwind behind stands.0 stands.1.0 stands.2 stands.3 stands.4) (lt-ltb (trait_no heads name) (length heads.traits) stands.1.1)
    (ap (λ (n : List ℕ). line_text (VirtualLine to n method args next unwind)) (trait_called heads name stands.1.1))
terminators_read heads (TermLine term) behind stands =
    let (named, same) = none_sent heads term stands.1 in
    term_back heads (term_text no_items term) term behind
    (term_reads (adt_no heads) (trait_no heads) no_items (no_traits heads) term stands.0 (unsent heads term stands.1) behind) named same
terminators_read heads other behind stands = absurd stands

nothing_read : (heads : ItemTable) (words behind : List ℕ) → stmt_read (adt_no heads) (trait_no heads) (words ++ 10 ∷ behind) ≡ None → statement_read heads (line words ++ behind) ≡ None
nothing_read heads words behind none =
    ap (λ (f : FoundInText Stmt). bind f (stmt_from heads (line words ++ behind))) (ap (stmt_read (adt_no heads) (trait_no heads)) (append_assoc words (10 ∷ []) behind) ∙ none)

pub no_statements : TerminatorsAreNoStatements
no_statements heads (VirtualLine to name method args next unwind) behind stands =
    nothing_read heads (line_text (VirtualLine to name method args next unwind)) behind (no_virtual heads to name method args next unwind (10 ∷ behind) stands.0)
no_statements heads (TermLine term) behind stands =
    nothing_read heads (term_text no_items term) behind (no_stmt (adt_no heads) (trait_no heads) no_items (no_traits heads) term stands.0 (10 ∷ behind))
no_statements heads other behind stands = absurd stands
