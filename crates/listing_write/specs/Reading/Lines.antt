-- Statements and terminators. The names of structs, enums and traits are read as numbers.
use Rattle.std.specs.Prelude.{ℕ, true, false, List, ◌∷◌, [], codes, Some}
use Rattle.mir_base.specs.declared.operator.Cmp.{Cmp}
use Rattle.mir_base.specs.declared.operator.Math.{Math}
use Rattle.mir_base.specs.declared.trace.Why.{Why}
use Rattle.cfg_graph.specs.WellFormed.NameFaults.{stands_in_names}
use Rattle.cfg_graph.specs.declared.place.Operand.{Operand}
use Rattle.cfg_graph.specs.declared.place.Place.{Place}
use Rattle.cfg_graph.specs.declared.statement.Stmt.{Stmt}
use Rattle.cfg_graph.specs.declared.terminator.Term.{Term}
use Rattle.listing_write.specs.Reading.Parts.{place_from, place_read, operand_read, operands_read, unwind_read, ways_read}
use Rattle.listing_write.specs.Reading.Words.{FoundInText, bind, or_else, chosen, as_, strip, said, span, number}

-- the end of a line
abbrev pub ended : {X : Type 0} → FoundInText X → FoundInText X
ended f = bind f (λ f. bind (strip (10 ∷ []) f.1) (λ r. Some (f.0, r)))

abbrev pub comparison_read : List ℕ → FoundInText Cmp
comparison_read t =
    or_else (said (codes "eq ") Cmp.Eq t) (or_else (said (codes "ne ") Cmp.Ne t) (or_else (said (codes "lt ") Cmp.Lt t)
    (or_else (said (codes "le ") Cmp.Le t) (or_else (said (codes "gt ") Cmp.Gt t) (said (codes "ge ") Cmp.Ge t)))))

abbrev pub math_read : List ℕ → FoundInText Math
math_read t =
    or_else (said (codes "add ") Math.Add t) (or_else (said (codes "sub ") Math.Sub t)
    (or_else (said (codes "mul ") Math.Mul t)
    (or_else (said (codes "div ") Math.Div t) (said (codes "rem ") Math.Rem t))))

abbrev pub why_read : List ℕ → FoundInText Why
why_read t =
    or_else (said (codes "explicit") Why.Explicit t) (or_else (said (codes "overflow") Why.Overflow t)
    (or_else (said (codes "divide") Why.Divide t) (or_else (said (codes "index") Why.Index t)
    (or_else (said (codes "ask") Why.Ask t) (said (codes "match") Why.Match t)))))

-- two operands
abbrev pub second_operand : Operand × List ℕ → FoundInText (Operand × Operand)
second_operand l = bind (strip (codes " ") l.1) (λ t. as_ (λ r. (l.0, r)) (operand_read t))

abbrev pub two_operands : List ℕ → FoundInText (Operand × Operand)
two_operands t = bind (operand_read t) second_operand

-- a number and operands
abbrev pub operands_from : ℕ × List ℕ → FoundInText (ℕ × List Operand)
operands_from n = bind (strip (codes " ") n.1) (λ t. as_ (λ parts. (n.0, parts)) (operands_read t))

abbrev pub numbered_operands : List ℕ → FoundInText (ℕ × List Operand)
numbered_operands t = bind (number t) operands_from

-- a number behind a blank, and two of them
abbrev pub blank_number : List ℕ → FoundInText ℕ
blank_number t = bind (strip (codes " ") t) number

abbrev pub second_number : ℕ × List ℕ → FoundInText (ℕ × ℕ)
second_number k = as_ (λ l. (k.0, l)) (blank_number k.1)

abbrev pub two_numbers : List ℕ → FoundInText (ℕ × ℕ)
two_numbers t = bind (blank_number t) second_number

-- a reference, or an operand
abbrev pub borrowed : Place → List ℕ → FoundInText Stmt
borrowed to t =
    chosen (strip (codes "&mut ") t) (λ t. as_ (Stmt.Borrow to true) (place_read t))
    (chosen (strip (codes "& ") t) (λ t. as_ (Stmt.Borrow to false) (place_read t))
    (as_ (Stmt.Put to) (operand_read t)))

-- a statement that stores nothing
abbrev pub without_place : List ℕ → FoundInText Stmt
without_place t =
    chosen (strip (codes "touch ") t) (λ t. as_ Stmt.Touch (place_read t))
    (chosen (strip (codes "print ") t) (λ t. as_ Stmt.Print (operand_read t))
    (chosen (strip (codes "forget ") t) (λ t. as_ Stmt.Forget (operand_read t))
    (bind (strip (codes "free ") t) (λ t. as_ Stmt.Free (place_read t)))))

module _ (adt_no trait_no : List ℕ → ℕ) where
  abbrev pub make_from : Place → List ℕ × List ℕ → FoundInText Stmt
  make_from to n =
      bind (strip (codes " ") n.1) (λ t. as_ (λ q. Stmt.Make to (adt_no n.0) q.0 q.1) (numbered_operands t))

  abbrev pub make_read : Place → List ℕ → FoundInText Stmt
  make_read to t = make_from to (span stands_in_names t)

  abbrev pub unsize_from : Place → List ℕ × List ℕ → FoundInText Stmt
  unsize_from to n = bind (strip (codes " ") n.1) (λ t. as_ (Stmt.Unsize to (trait_no n.0)) (operand_read t))

  abbrev pub unsize_read : Place → List ℕ → FoundInText Stmt
  unsize_read to t = unsize_from to (span stands_in_names t)

  -- what is made of one operand
  abbrev pub of_one : Place → List ℕ → FoundInText Stmt
  of_one to t =
      chosen (strip (codes "not ") t) (λ t. as_ (Stmt.Not to) (operand_read t))
      (chosen (strip (codes "box ") t) (λ t. as_ (Stmt.NewBox to) (operand_read t))
      (chosen (strip (codes "unsize ") t) (unsize_read to) (borrowed to t)))

  -- what is made of parts
  abbrev pub of_parts : Place → List ℕ → FoundInText Stmt
  of_parts to t =
      chosen (strip (codes "tuple ") t) (λ t. as_ (Stmt.Tuple to) (operands_read t))
      (chosen (strip (codes "array ") t) (λ t. as_ (Stmt.Array to) (operands_read t))
      (chosen (strip (codes "close ") t) (λ t. as_ (λ q. Stmt.Close to q.0 q.1) (numbered_operands t))
      (chosen (strip (codes "make ") t) (make_read to) (of_one to t))))

  -- what is stored at a place
  abbrev pub assigned : Place → List ℕ → FoundInText Stmt
  assigned to t =
      chosen (comparison_read t) (λ c. as_ (λ both. Stmt.Compare to c.0 both.0 both.1) (two_operands c.1))
      (of_parts to t)

  abbrev pub assigned_to : Place × List ℕ → FoundInText Stmt
  assigned_to p = bind (strip (codes " = ") p.1) (assigned p.0)

  abbrev pub stmt_read : List ℕ → FoundInText Stmt
  stmt_read t = chosen (strip (codes "_") t) (λ t. bind (place_from t) assigned_to) (without_place t)

-- terminators
abbrev pub math_of : Place → Math → (Operand × Operand) × List ℕ → FoundInText Term
math_of to op both = as_ (λ w. Term.Math to op both.0.0 both.0.1 w.0 w.1) (ways_read both.1)

abbrev pub calculated : Place → Math → List ℕ → FoundInText Term
calculated to op t = bind (two_operands t) (math_of to op)

abbrev pub negated_of : Place → Operand × List ℕ → FoundInText Term
negated_of to o = as_ (λ w. Term.Negate to o.0 w.0 w.1) (ways_read o.1)

abbrev pub negated : Place → List ℕ → FoundInText Term
negated to t = bind (operand_read t) (negated_of to)

abbrev pub call_of : Place → (ℕ × List Operand) × List ℕ → FoundInText Term
call_of to a = as_ (λ w. Term.Call to a.0.0 a.0.1 w.0 w.1) (ways_read a.1)

abbrev pub call_read : Place → List ℕ → FoundInText Term
call_read to t = bind (numbered_operands t) (call_of to)

abbrev pub ask_read : Place → List ℕ → FoundInText Term
ask_read to t = as_ (λ w. Term.Ask to w.0 w.1) (ways_read t)

abbrev pub if_of : Operand × List ℕ → FoundInText Term
if_of o = as_ (λ ways. Term.If o.0 ways.0 ways.1) (two_numbers o.1)

abbrev pub if_read : List ℕ → FoundInText Term
if_read t = bind (operand_read t) if_of

abbrev pub case_ways : Place → ℕ × List ℕ → FoundInText Term
case_ways on v = as_ (λ ways. Term.Case on v.0 ways.0 ways.1) (two_numbers v.1)

abbrev pub case_of : Place × List ℕ → FoundInText Term
case_of p = bind (blank_number p.1) (case_ways p.0)

abbrev pub case_read : List ℕ → FoundInText Term
case_read t = bind (place_read t) case_of

abbrev pub count_of : Operand → ℕ × List ℕ → FoundInText Term
count_of index n = as_ (λ w. Term.Bounds index n.0 w.0 w.1) (ways_read n.1)

abbrev pub bounds_of : Operand × List ℕ → FoundInText Term
bounds_of o = bind (blank_number o.1) (count_of o.0)

abbrev pub bounds_read : List ℕ → FoundInText Term
bounds_read t = bind (operand_read t) bounds_of

abbrev pub drop_of : Place × List ℕ → FoundInText Term
drop_of p = as_ (λ w. Term.DropAt p.0 w.0 w.1) (ways_read p.1)

abbrev pub drop_read : List ℕ → FoundInText Term
drop_read t = bind (place_read t) drop_of

abbrev pub panic_of : Why × List ℕ → FoundInText Term
panic_of w = bind (strip (codes " unwind ") w.1) (λ t. as_ (Term.Panic w.0) (unwind_read t))

abbrev pub panic_read : List ℕ → FoundInText Term
panic_read t = bind (why_read t) panic_of

-- where a body ends, or goes on in a block
abbrev pub leaving : List ℕ → FoundInText Term
leaving t =
    chosen (strip (codes "goto ") t) (λ t. as_ Term.Goto (number t))
    (chosen (strip (codes "panic ") t) panic_read
    (or_else (said (codes "return") Term.Return t) (said (codes "resume") Term.Resume t)))

-- a terminator that stores no result
abbrev pub without_result : List ℕ → FoundInText Term
without_result t =
    chosen (strip (codes "if ") t) if_read
    (chosen (strip (codes "case ") t) case_read
    (chosen (strip (codes "bounds ") t) bounds_read
    (chosen (strip (codes "drop ") t) drop_read (leaving t))))

module _ (adt_no trait_no : List ℕ → ℕ) where
  abbrev pub sent_of : Place → List ℕ → (ℕ × List Operand) × List ℕ → FoundInText Term
  sent_of to name a = as_ (λ w. Term.Virtual to (trait_no name) a.0.0 a.0.1 w.0 w.1) (ways_read a.1)

  abbrev pub virtual_from : Place → List ℕ × List ℕ → FoundInText Term
  virtual_from to n = bind (strip (codes " ") n.1) (λ t. bind (numbered_operands t) (sent_of to n.0))

  abbrev pub virtual_read : Place → List ℕ → FoundInText Term
  virtual_read to t = virtual_from to (span stands_in_names t)

  -- what a call stores
  abbrev pub called : Place → List ℕ → FoundInText Term
  called to t =
      chosen (strip (codes "call ") t) (call_read to)
      (chosen (strip (codes "virtual ") t) (virtual_read to) (bind (strip (codes "ask") t) (ask_read to)))

  -- what may panic and stores a result
  abbrev pub returned : Place → List ℕ → FoundInText Term
  returned to t =
      chosen (math_read t) (λ m. calculated to m.0 m.1) (chosen (strip (codes "neg ") t) (negated to) (called to t))

  abbrev pub returned_to : Place × List ℕ → FoundInText Term
  returned_to p = bind (strip (codes " = ") p.1) (returned p.0)

  abbrev pub term_read : List ℕ → FoundInText Term
  term_read t = chosen (strip (codes "_") t) (λ t. bind (place_from t) returned_to) (without_result t)
