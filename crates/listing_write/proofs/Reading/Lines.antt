-- Statements and terminators, read as their lines are written. The names of structs, enums and traits are read as numbers.
use Rattle.std.proofs.Common.{◌≡◌, ℕ, true, false, List, ◌∷◌, ◌++◌, length, codes, Some, None, decimal, nat_lt, refl, ap, ◌∙◌, append_assoc}
use Rattle.std.specs.Prelude.{⊤, All}
use Rattle.std.specs.List.{list_all}
use Rattle.mir_base.specs.declared.operator.Cmp.{Cmp}
use Rattle.mir_base.specs.declared.operator.Math.{Math}
use Rattle.mir_base.specs.declared.trace.Why.{Why}
use Rattle.mir_base.specs.Lines.{why_word}
use Rattle.mir_ty.specs.ItemTable.{ItemTable}
use Rattle.mir_ty.specs.Named.{adt_name}
use Rattle.cfg_graph.specs.WellFormed.NameFaults.{stands_in_names}
use Rattle.cfg_graph.specs.declared.place.Operand.{Operand}
use Rattle.cfg_graph.specs.declared.place.Place.{Place}
use Rattle.cfg_graph.specs.declared.statement.Stmt.{Stmt}
use Rattle.cfg_graph.specs.declared.terminator.Term.{Term}
use Rattle.cfg_graph.specs.declared.terminator.Unwind.{Unwind}
use Rattle.listing_write.specs.Fields.{Fits, PlaceFits, OperandFits, StmtFits, TermFits}
use Rattle.listing_write.specs.Parts.{place_text, operand_text, operands_text, comparison_text, math_text, stmt_text, term_text, ways_text, unwind_text}
use Rattle.listing_write.specs.Types.{trait_name}
use Rattle.listing_write.proofs.Reading.Basics.{FoundInText, bind, span_run, behind3, behind4, behind5, behind6, behind7, behind8}
use Rattle.listing_write.specs.Reading.Words.{as_}
use Rattle.listing_write.specs.Reading.Parts.{operand_read}
pub use Rattle.listing_write.specs.Reading.Lines.{ended, stmt_read, term_read}
use Rattle.listing_write.specs.Reading.Lines.{why_read, second_operand, two_operands, operands_from, numbered_operands, second_number, two_numbers, make_from, unsize_from, assigned, assigned_to, math_of, calculated, negated_of, call_of, if_of, if_read, case_ways, case_of, case_read, count_of, bounds_of, bounds_read, drop_of, drop_read, panic_of, panic_read, virtual_from, sent_of, returned, returned_to}
use Rattle.listing_write.proofs.Reading.Parts.{number_of, IsPlaceEnd, place_reads, operand_reads, operands_reads, unwind_reads, ways_reads}

space : (t : List ℕ) → IsPlaceEnd (codes " " ++ t)
space t = record { over = refl; none = refl }

feed : (t : List ℕ) → IsPlaceEnd (10 ∷ t)
feed t = record { over = refl; none = refl }

-- two operands, before what ends a place
two_read : (left right : Operand) → OperandFits left → OperandFits right → (r : List ℕ) → IsPlaceEnd r
    → two_operands (operand_text left ++ (codes " " ++ (operand_text right ++ r))) ≡ Some ((left, right), r)
two_read left right l r_fits r e =
    ap (λ (f : FoundInText Operand). bind f second_operand) (operand_reads left l (codes " " ++ (operand_text right ++ r)) (space (operand_text right ++ r)))
    ∙ ap (as_ (λ (o : Operand). (left, o))) (operand_reads right r_fits r e)

-- a number and operands
numbered_read : (n : ℕ) (parts : List Operand) → Fits n → All OperandFits parts → (r : List ℕ)
    → numbered_operands (decimal n ++ (codes " " ++ (operands_text parts ++ r))) ≡ Some ((n, parts), r)
numbered_read n parts fits all r =
    ap (λ (f : FoundInText ℕ). bind f operands_from) (number_of n (codes " " ++ (operands_text parts ++ r)) fits refl)
    ∙ ap (as_ (λ (ps : List Operand). (n, ps))) (operands_reads parts all r)

-- two numbers before the end of the line
two_numbers_read : (n m : ℕ) → Fits n → Fits m → (r : List ℕ) → two_numbers (codes " " ++ (decimal n ++ (codes " " ++ (decimal m ++ (10 ∷ r))))) ≡ Some ((n, m), 10 ∷ r)
two_numbers_read n m fits also r =
    ap (λ (f : FoundInText ℕ). bind f second_number) (number_of n (codes " " ++ (decimal m ++ (10 ∷ r))) fits refl)
    ∙ ap (as_ (λ (k : ℕ). (n, k))) (number_of m (10 ∷ r) also refl)

module _ (adt_no trait_no : List ℕ → ℕ) where
  stored : (to : Place) (t : List ℕ) (f : Stmt × List ℕ) → PlaceFits to → assigned adt_no trait_no to t ≡ Some f → stmt_read adt_no trait_no (place_text to ++ (codes " = " ++ t)) ≡ Some f
  stored to t f fits h =
      ap (λ (p : FoundInText Place). bind p (assigned_to adt_no trait_no)) (place_reads to fits (codes " = " ++ t) (space (codes "= " ++ t))) ∙ h

  not_stored : (to : Place) (t : List ℕ) → PlaceFits to → assigned adt_no trait_no to t ≡ None → stmt_read adt_no trait_no (place_text to ++ (codes " = " ++ t)) ≡ None
  not_stored to t fits h =
      ap (λ (p : FoundInText Place). bind p (assigned_to adt_no trait_no)) (place_reads to fits (codes " = " ++ t) (space (codes "= " ++ t))) ∙ h

  -- an operand is no other thing that is stored
  only_stored : (to : Place) (from : Operand) (t : List ℕ) → assigned adt_no trait_no to (operand_text from ++ t) ≡ as_ (Stmt.Put to) (operand_read (operand_text from ++ t))
  only_stored to (Operand.Copied place) t = refl
  only_stored to (Operand.Moved place) t = refl
  only_stored to (Operand.Number value kind) t = refl
  only_stored to (Operand.Truth true) t = refl
  only_stored to (Operand.Truth false) t = refl
  only_stored to Operand.Unit t = refl

  module _ (items : ItemTable)
      (adts : (n : ℕ) → nat_lt n (length items.adts) ≡ true → (list_all stands_in_names (adt_name items n) ≡ true) × (adt_no (adt_name items n) ≡ n))
      (traits : (n : ℕ) → nat_lt n (length items.traits) ≡ true → (list_all stands_in_names (trait_name items n) ≡ true) × (trait_no (trait_name items n) ≡ n)) where
    abbrev pub Named : Stmt → Type 0
    Named (Stmt.Make to adt variant parts) = nat_lt adt (length items.adts) ≡ true
    Named (Stmt.Unsize to trait from) = nat_lt trait (length items.traits) ≡ true
    Named _ = ⊤

    pub stmt_reads : (stmt : Stmt) → StmtFits stmt → Named stmt → (r : List ℕ) → stmt_read adt_no trait_no (stmt_text items stmt ++ (10 ∷ r)) ≡ Some (stmt, 10 ∷ r)
    stmt_reads (Stmt.Put to from) fits named r =
        ap (stmt_read adt_no trait_no) (behind3 (place_text to) (codes " = ") (operand_text from) (10 ∷ r))
        ∙ stored to (operand_text from ++ (10 ∷ r)) (Stmt.Put to from, 10 ∷ r) fits.0
        (only_stored to from (10 ∷ r) ∙ ap (as_ (Stmt.Put to)) (operand_reads from fits.1 (10 ∷ r) (feed r)))
    stmt_reads (Stmt.Compare to op left right) fits named r =
        let at_left : List ℕ = operand_text left ++ (codes " " ++ (operand_text right ++ (10 ∷ r))) in
        ap (stmt_read adt_no trait_no) (behind7 (place_text to) (codes " = ") (comparison_text op) (codes " ") (operand_text left) (codes " ") (operand_text right) (10 ∷ r))
        ∙ stored to (comparison_text op ++ (codes " " ++ at_left)) (Stmt.Compare to op left right, 10 ∷ r) fits.0
        (compared op at_left ∙ ap (as_ (λ (both : Operand × Operand). Stmt.Compare to op both.0 both.1)) (two_read left right fits.1 fits.2 (10 ∷ r) (feed r)))
      where
        compared : (op : Cmp) (t : List ℕ) → assigned adt_no trait_no to (comparison_text op ++ (codes " " ++ t)) ≡ as_ (λ (both : Operand × Operand). Stmt.Compare to op both.0 both.1) (two_operands t)
        compared Cmp.Eq t = refl
        compared other t = refl
    stmt_reads (Stmt.Not to operand) fits named r =
        ap (stmt_read adt_no trait_no) (behind3 (place_text to) (codes " = not ") (operand_text operand) (10 ∷ r))
        ∙ stored to (codes "not " ++ (operand_text operand ++ (10 ∷ r))) (Stmt.Not to operand, 10 ∷ r) fits.0
        (ap (as_ (Stmt.Not to)) (operand_reads operand fits.1 (10 ∷ r) (feed r)))
    stmt_reads (Stmt.Tuple to parts) fits named r =
        ap (stmt_read adt_no trait_no) (behind3 (place_text to) (codes " = tuple ") (operands_text parts) (10 ∷ r))
        ∙ stored to (codes "tuple " ++ (operands_text parts ++ (10 ∷ r))) (Stmt.Tuple to parts, 10 ∷ r) fits.0
        (ap (as_ (Stmt.Tuple to)) (operands_reads parts fits.1 (10 ∷ r)))
    stmt_reads (Stmt.Array to parts) fits named r =
        ap (stmt_read adt_no trait_no) (behind3 (place_text to) (codes " = array ") (operands_text parts) (10 ∷ r))
        ∙ stored to (codes "array " ++ (operands_text parts ++ (10 ∷ r))) (Stmt.Array to parts, 10 ∷ r) fits.0
        (ap (as_ (Stmt.Array to)) (operands_reads parts fits.1 (10 ∷ r)))
    stmt_reads (Stmt.Make to adt variant parts) fits named r =
        let (stands, numbered) = adts adt named in
        let at_variant : List ℕ = codes " " ++ (decimal variant ++ (codes " " ++ (operands_text parts ++ (10 ∷ r)))) in
        ap (stmt_read adt_no trait_no) (behind7 (place_text to) (codes " = make ") (adt_name items adt) (codes " ") (decimal variant) (codes " ") (operands_text parts) (10 ∷ r))
        ∙ stored to (codes "make " ++ (adt_name items adt ++ at_variant)) (Stmt.Make to adt variant parts, 10 ∷ r) fits.0
        (ap (make_from adt_no trait_no to) (span_run stands_in_names (adt_name items adt) at_variant stands refl)
        ∙ ap (as_ (λ (q : ℕ × List Operand). Stmt.Make to (adt_no (adt_name items adt)) q.0 q.1)) (numbered_read variant parts fits.1 fits.2 (10 ∷ r))
        ∙ ap (λ (n : ℕ). Some (Stmt.Make to n variant parts, 10 ∷ r)) numbered)
    stmt_reads (Stmt.Close to closure parts) fits named r =
        ap (stmt_read adt_no trait_no) (behind5 (place_text to) (codes " = close ") (decimal closure) (codes " ") (operands_text parts) (10 ∷ r))
        ∙ stored to (codes "close " ++ (decimal closure ++ (codes " " ++ (operands_text parts ++ (10 ∷ r))))) (Stmt.Close to closure parts, 10 ∷ r) fits.0
        (ap (as_ (λ (q : ℕ × List Operand). Stmt.Close to q.0 q.1)) (numbered_read closure parts fits.1 fits.2 (10 ∷ r)))
    stmt_reads (Stmt.NewBox to operand) fits named r =
        ap (stmt_read adt_no trait_no) (behind3 (place_text to) (codes " = box ") (operand_text operand) (10 ∷ r))
        ∙ stored to (codes "box " ++ (operand_text operand ++ (10 ∷ r))) (Stmt.NewBox to operand, 10 ∷ r) fits.0
        (ap (as_ (Stmt.NewBox to)) (operand_reads operand fits.1 (10 ∷ r) (feed r)))
    stmt_reads (Stmt.Unsize to trait from) fits named r =
        let (stands, numbered) = traits trait named in
        let at_from : List ℕ = codes " " ++ (operand_text from ++ (10 ∷ r)) in
        ap (stmt_read adt_no trait_no) (behind5 (place_text to) (codes " = unsize ") (trait_name items trait) (codes " ") (operand_text from) (10 ∷ r))
        ∙ stored to (codes "unsize " ++ (trait_name items trait ++ at_from)) (Stmt.Unsize to trait from, 10 ∷ r) fits.0
        (ap (unsize_from adt_no trait_no to) (span_run stands_in_names (trait_name items trait) at_from stands refl)
        ∙ ap (as_ (Stmt.Unsize to (trait_no (trait_name items trait)))) (operand_reads from fits.1 (10 ∷ r) (feed r))
        ∙ ap (λ (n : ℕ). Some (Stmt.Unsize to n from, 10 ∷ r)) numbered)
    stmt_reads (Stmt.Borrow to true of) fits named r =
        ap (stmt_read adt_no trait_no) (behind3 (place_text to) (codes " = &mut ") (place_text of) (10 ∷ r))
        ∙ stored to (codes "&mut " ++ (place_text of ++ (10 ∷ r))) (Stmt.Borrow to true of, 10 ∷ r) fits.0
        (ap (as_ (Stmt.Borrow to true)) (place_reads of fits.1 (10 ∷ r) (feed r)))
    stmt_reads (Stmt.Borrow to false of) fits named r =
        ap (stmt_read adt_no trait_no) (behind3 (place_text to) (codes " = & ") (place_text of) (10 ∷ r))
        ∙ stored to (codes "& " ++ (place_text of ++ (10 ∷ r))) (Stmt.Borrow to false of, 10 ∷ r) fits.0
        (ap (as_ (Stmt.Borrow to false)) (place_reads of fits.1 (10 ∷ r) (feed r)))
    stmt_reads (Stmt.Touch place) fits named r = ap (as_ Stmt.Touch) (place_reads place fits (10 ∷ r) (feed r))
    stmt_reads (Stmt.Print operand) fits named r = ap (as_ Stmt.Print) (operand_reads operand fits (10 ∷ r) (feed r))
    stmt_reads (Stmt.Forget operand) fits named r = ap (as_ Stmt.Forget) (operand_reads operand fits (10 ∷ r) (feed r))
    stmt_reads (Stmt.Free place) fits named r = ap (as_ Stmt.Free) (place_reads place fits (10 ∷ r) (feed r))

  -- terminators
  given : (to : Place) (t : List ℕ) (f : Term × List ℕ) → PlaceFits to → returned adt_no trait_no to t ≡ Some f → term_read adt_no trait_no (place_text to ++ (codes " = " ++ t)) ≡ Some f
  given to t f fits h =
      ap (λ (p : FoundInText Place). bind p (returned_to adt_no trait_no)) (place_reads to fits (codes " = " ++ t) (space (codes "= " ++ t))) ∙ h

  ways_end : (next : ℕ) (unwind : Unwind) (r : List ℕ) → IsPlaceEnd (ways_text next unwind ++ r)
  ways_end next unwind r = record { over = refl; none = refl }

  why_reads : (why : Why) (r : List ℕ) → why_read (why_word why ++ r) ≡ Some (why, r)
  why_reads Why.Explicit r = refl
  why_reads other r = refl

  module _ (items : ItemTable)
      (traits : (n : ℕ) → nat_lt n (length items.traits) ≡ true → (list_all stands_in_names (trait_name items n) ≡ true) × (trait_no (trait_name items n) ≡ n)) where
    abbrev pub TermNamed : Term → Type 0
    TermNamed (Term.Virtual to trait method args next unwind) = nat_lt trait (length items.traits) ≡ true
    TermNamed _ = ⊤

    pub term_reads : (term : Term) → TermFits term → TermNamed term → (r : List ℕ) → term_read adt_no trait_no (term_text items term ++ (10 ∷ r)) ≡ Some (term, 10 ∷ r)
    term_reads (Term.Goto block) fits named r = ap (as_ Term.Goto) (number_of block (10 ∷ r) fits refl)
    term_reads (Term.If on if_true if_false) fits named r =
        let at_first : List ℕ = codes " " ++ (decimal if_true ++ (codes " " ++ (decimal if_false ++ (10 ∷ r)))) in
        ap if_read (behind5 (operand_text on) (codes " ") (decimal if_true) (codes " ") (decimal if_false) (10 ∷ r))
        ∙ ap (λ (f : FoundInText Operand). bind f if_of) (operand_reads on fits.0 at_first (space (decimal if_true ++ (codes " " ++ (decimal if_false ++ (10 ∷ r))))))
        ∙ ap (as_ (λ (ways : ℕ × ℕ). Term.If on ways.0 ways.1)) (two_numbers_read if_true if_false fits.1 fits.2 r)
    term_reads (Term.Case on variant if_true if_false) fits named r =
        let at_first : List ℕ = codes " " ++ (decimal if_true ++ (codes " " ++ (decimal if_false ++ (10 ∷ r)))) in
        let at_variant : List ℕ = codes " " ++ (decimal variant ++ at_first) in
        ap case_read (behind7 (place_text on) (codes " ") (decimal variant) (codes " ") (decimal if_true) (codes " ") (decimal if_false) (10 ∷ r))
        ∙ ap (λ (f : FoundInText Place). bind f case_of) (place_reads on fits.0 at_variant (space (decimal variant ++ at_first)))
        ∙ ap (λ (f : FoundInText ℕ). bind f (case_ways on)) (number_of variant at_first fits.1 refl)
        ∙ ap (as_ (λ (ways : ℕ × ℕ). Term.Case on variant ways.0 ways.1)) (two_numbers_read if_true if_false fits.2 fits.3 r)
    term_reads (Term.Math to op left right next unwind) fits named r =
        let at_ways : List ℕ = ways_text next unwind ++ (10 ∷ r) in
        let at_left : List ℕ = operand_text left ++ (codes " " ++ (operand_text right ++ at_ways)) in
        ap (term_read adt_no trait_no) (behind8 (place_text to) (codes " = ") (math_text op) (codes " ") (operand_text left) (codes " ") (operand_text right) (ways_text next unwind) (10 ∷ r))
        ∙ given to (math_text op ++ (codes " " ++ at_left)) (Term.Math to op left right next unwind, 10 ∷ r) fits.0
        (worked op at_left
        ∙ ap (λ (f : FoundInText (Operand × Operand)). bind f (math_of to op)) (two_read left right fits.1 fits.2 at_ways (ways_end next unwind (10 ∷ r)))
        ∙ ap (as_ (λ (w : ℕ × Unwind). Term.Math to op left right w.0 w.1)) (ways_reads next unwind fits.3 (10 ∷ r) refl))
      where
        worked : (op : Math) (t : List ℕ) → returned adt_no trait_no to (math_text op ++ (codes " " ++ t)) ≡ calculated to op t
        worked Math.Add t = refl
        worked Math.Sub t = refl
        worked Math.Mul t = refl
        worked Math.Div t = refl
        worked Math.Rem t = refl
    term_reads (Term.Negate to of next unwind) fits named r =
        let at_ways : List ℕ = ways_text next unwind ++ (10 ∷ r) in
        ap (term_read adt_no trait_no) (behind4 (place_text to) (codes " = neg ") (operand_text of) (ways_text next unwind) (10 ∷ r))
        ∙ given to (codes "neg " ++ (operand_text of ++ at_ways)) (Term.Negate to of next unwind, 10 ∷ r) fits.0
        (ap (λ (f : FoundInText Operand). bind f (negated_of to)) (operand_reads of fits.1 at_ways (ways_end next unwind (10 ∷ r)))
        ∙ ap (as_ (λ (w : ℕ × Unwind). Term.Negate to of w.0 w.1)) (ways_reads next unwind fits.2 (10 ∷ r) refl))
    term_reads (Term.Bounds index count next unwind) fits named r =
        let at_ways : List ℕ = ways_text next unwind ++ (10 ∷ r) in
        let at_count : List ℕ = codes " " ++ (decimal count ++ at_ways) in
        ap bounds_read (behind4 (operand_text index) (codes " ") (decimal count) (ways_text next unwind) (10 ∷ r))
        ∙ ap (λ (f : FoundInText Operand). bind f bounds_of) (operand_reads index fits.0 at_count (space (decimal count ++ at_ways)))
        ∙ ap (λ (f : FoundInText ℕ). bind f (count_of index)) (number_of count at_ways fits.1 refl)
        ∙ ap (as_ (λ (w : ℕ × Unwind). Term.Bounds index count w.0 w.1)) (ways_reads next unwind fits.2 (10 ∷ r) refl)
    term_reads (Term.Call to body args next unwind) fits named r =
        let at_ways : List ℕ = ways_text next unwind ++ (10 ∷ r) in
        ap (term_read adt_no trait_no) (behind6 (place_text to) (codes " = call ") (decimal body) (codes " ") (operands_text args) (ways_text next unwind) (10 ∷ r))
        ∙ given to (codes "call " ++ (decimal body ++ (codes " " ++ (operands_text args ++ at_ways)))) (Term.Call to body args next unwind, 10 ∷ r) fits.0
        (ap (λ (f : FoundInText (ℕ × List Operand)). bind f (call_of to)) (numbered_read body args fits.1 fits.2 at_ways)
        ∙ ap (as_ (λ (w : ℕ × Unwind). Term.Call to body args w.0 w.1)) (ways_reads next unwind fits.3 (10 ∷ r) refl))
    term_reads (Term.Virtual to trait method args next unwind) fits named r =
        let (stands, numbered) = traits trait named in
        let at_ways : List ℕ = ways_text next unwind ++ (10 ∷ r) in
        let at_method : List ℕ = codes " " ++ (decimal method ++ (codes " " ++ (operands_text args ++ at_ways))) in
        ap (term_read adt_no trait_no) (behind8 (place_text to) (codes " = virtual ") (trait_name items trait) (codes " ") (decimal method) (codes " ") (operands_text args) (ways_text next unwind) (10 ∷ r))
        ∙ given to (codes "virtual " ++ (trait_name items trait ++ at_method)) (Term.Virtual to trait method args next unwind, 10 ∷ r) fits.0
        (ap (virtual_from adt_no trait_no to) (span_run stands_in_names (trait_name items trait) at_method stands refl)
        ∙ ap (λ (f : FoundInText (ℕ × List Operand)). bind f (sent_of adt_no trait_no to (trait_name items trait))) (numbered_read method args fits.1 fits.2 at_ways)
        ∙ ap (as_ (λ (w : ℕ × Unwind). Term.Virtual to (trait_no (trait_name items trait)) method args w.0 w.1)) (ways_reads next unwind fits.3 (10 ∷ r) refl)
        ∙ ap (λ (n : ℕ). Some (Term.Virtual to n method args next unwind, 10 ∷ r)) numbered)
    term_reads (Term.Ask to next unwind) fits named r =
        ap (term_read adt_no trait_no) (behind3 (place_text to) (codes " = ask") (ways_text next unwind) (10 ∷ r))
        ∙ given to (codes "ask" ++ (ways_text next unwind ++ (10 ∷ r))) (Term.Ask to next unwind, 10 ∷ r) fits.0
        (ap (as_ (λ (w : ℕ × Unwind). Term.Ask to w.0 w.1)) (ways_reads next unwind fits.1 (10 ∷ r) refl))
    term_reads (Term.DropAt place next unwind) fits named r =
        let at_ways : List ℕ = ways_text next unwind ++ (10 ∷ r) in
        ap drop_read (append_assoc (place_text place) (ways_text next unwind) (10 ∷ r))
        ∙ ap (λ (f : FoundInText Place). bind f drop_of) (place_reads place fits.0 at_ways (ways_end next unwind (10 ∷ r)))
        ∙ ap (as_ (λ (w : ℕ × Unwind). Term.DropAt place w.0 w.1)) (ways_reads next unwind fits.1 (10 ∷ r) refl)
    term_reads (Term.Panic why unwind) fits named r =
        let at_unwind : List ℕ = codes " unwind " ++ (unwind_text unwind ++ (10 ∷ r)) in
        ap panic_read (behind3 (why_word why) (codes " unwind ") (unwind_text unwind) (10 ∷ r))
        ∙ ap (λ (f : FoundInText Why). bind f panic_of) (why_reads why at_unwind)
        ∙ ap (as_ (Term.Panic why)) (unwind_reads unwind fits (10 ∷ r) refl)
    term_reads Term.Return fits named r = refl
    term_reads Term.Resume fits named r = refl

    -- no terminator is a statement
    pub no_stmt : (term : Term) → TermFits term → (r : List ℕ) → stmt_read adt_no trait_no (term_text items term ++ r) ≡ None
    no_stmt (Term.Math to op left right next unwind) fits r =
        let rest : List ℕ = codes " " ++ (operand_text left ++ (codes " " ++ (operand_text right ++ (ways_text next unwind ++ r)))) in
        ap (stmt_read adt_no trait_no) (behind8 (place_text to) (codes " = ") (math_text op) (codes " ") (operand_text left) (codes " ") (operand_text right) (ways_text next unwind) r)
        ∙ not_stored to (math_text op ++ rest) fits.0 (by op (operand_text left ++ (codes " " ++ (operand_text right ++ (ways_text next unwind ++ r)))))
      where
        by : (op : Math) (t : List ℕ) → assigned adt_no trait_no to (math_text op ++ (codes " " ++ t)) ≡ None
        by Math.Add t = refl
        by Math.Sub t = refl
        by Math.Mul t = refl
        by Math.Div t = refl
        by Math.Rem t = refl
    no_stmt (Term.Negate to of next unwind) fits r =
        ap (stmt_read adt_no trait_no) (behind4 (place_text to) (codes " = neg ") (operand_text of) (ways_text next unwind) r)
        ∙ not_stored to (codes "neg " ++ (operand_text of ++ (ways_text next unwind ++ r))) fits.0 refl
    no_stmt (Term.Call to body args next unwind) fits r =
        ap (stmt_read adt_no trait_no) (behind6 (place_text to) (codes " = call ") (decimal body) (codes " ") (operands_text args) (ways_text next unwind) r)
        ∙ not_stored to (codes "call " ++ (decimal body ++ (codes " " ++ (operands_text args ++ (ways_text next unwind ++ r))))) fits.0 refl
    no_stmt (Term.Virtual to trait method args next unwind) fits r =
        ap (stmt_read adt_no trait_no) (behind8 (place_text to) (codes " = virtual ") (trait_name items trait) (codes " ") (decimal method) (codes " ") (operands_text args) (ways_text next unwind) r)
        ∙ not_stored to (codes "virtual " ++ (trait_name items trait ++ (codes " " ++ (decimal method ++ (codes " " ++ (operands_text args ++ (ways_text next unwind ++ r))))))) fits.0 refl
    no_stmt (Term.Ask to next unwind) fits r =
        ap (stmt_read adt_no trait_no) (behind3 (place_text to) (codes " = ask") (ways_text next unwind) r)
        ∙ not_stored to (codes "ask" ++ (ways_text next unwind ++ r)) fits.0 refl
    no_stmt _ fits r = refl
