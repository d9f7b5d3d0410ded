-- What is read of a statement or a terminator fits the fields of its numbers.
use Rattle.std.proofs.Common.{◌≡◌, ℕ, zero, suc, ◌+◌, ◌^◌, ◌<◌, Bool, true, false, nat_lt, if◌then◌else◌, List, [], ◌∷◌, length, codes, Option, Some, None, All, pos, refl, subst, ap, arith, ltb-true}
use Rattle.std.specs.Str.Parse.{digits_value}
use Rattle.std.proofs.lemmas.List.Elements.{All-cons, All-nil}
use Rattle.std.proofs.lemmas.Option.{same_Some, none-some}
use Rattle.cfg_graph.specs.WellFormed.NameFaults.{stands_in_names}
use Rattle.mir_base.specs.declared.operator.Math.{Math}
use Rattle.cfg_graph.specs.declared.place.Operand.{Operand}
use Rattle.cfg_graph.specs.declared.place.Place.{Place}
use Rattle.cfg_graph.specs.declared.place.Step.{Step}
use Rattle.cfg_graph.specs.declared.statement.Stmt.{Stmt}
use Rattle.cfg_graph.specs.declared.terminator.Term.{Term}
use Rattle.cfg_graph.specs.declared.terminator.Unwind.{Unwind}
use Rattle.listing_write.specs.Fields.{Fits, StepFits, PlaceFits, ConstantFits, OperandFits, StmtFits, UnwindFits, WaysFit, TermFits}
use Rattle.listing_write.specs.Reading.Lines as lines
use Rattle.listing_write.specs.Reading.Lines.{comparison_read, math_read, stmt_read, term_read}
use Rattle.listing_write.specs.Reading.Parts as parts
use Rattle.listing_write.specs.Reading.Parts.{step_read, place_from, place_read, operand_read, operands_read, unwind_read, ways_read}
use Rattle.listing_write.specs.Reading.Rows.{many, many_within, comma, row, row_from, closed_row}
use Rattle.listing_write.specs.Reading.Words.{FoundInText, bind, or_else, chosen, as_, strip, said, span, is_digit, limited, valued, number, negative, signed}

-- all that a reader can find there is such
abbrev pub Gives : {X : Type 0} → (X → Type 0) → FoundInText X → Type 0
Gives {X} P found = (x : X) (r : List ℕ) → found ≡ Some (x, r) → P x

module _ {X : Type 0} (P : X → Type 0) where
  pub binds : {A : Type 0} (o : Option A) (go : A → FoundInText X) → ((a : A) → o ≡ Some a → Gives P (go a)) → Gives P (bind o go)
  binds None go h x r e = absurd (none-some (x, r) e)
  binds (Some a) go h x r e = h a refl x r e

  pub chooses : {A : Type 0} (o : Option A) (go : A → FoundInText X) (other : FoundInText X) → ((a : A) → o ≡ Some a → Gives P (go a)) → Gives P other → Gives P (chosen o go other)
  chooses None go other h k x r e = k x r e
  chooses (Some a) go other h k x r e = h a refl x r e

  pub ors : (a b : FoundInText X) → Gives P a → Gives P b → Gives P (or_else a b)
  ors None b h k x r e = k x r e
  ors (Some a) b h k x r e = h x r e

  pub somes : (y : X) (s : List ℕ) → P y → Gives P (Some (y, s))
  somes y s p x r e = subst P (ap (λ (q : X × List ℕ). q.0) (same_Some (y, s) (x, r) e)) p

  pub saids : (w : List ℕ) (y : X) (t : List ℕ) → P y → Gives P (said w y t)
  saids w y t p = binds (strip w t) (λ r. Some (y, r)) (λ r e. somes y r p)

  pub ases : {A : Type 0} (make : A → X) (f : FoundInText A) → Gives (λ a. P (make a)) f → Gives P (as_ make f)
  ases make f h = binds f (λ f. Some (make f.0, f.1)) (λ q e. somes (make q.0) q.1 (h q.0 q.1 e))

  pub manies : (read : List ℕ → FoundInText X) → ((t : List ℕ) → Gives P (read t)) → (k : ℕ) (t : List ℕ) → All P (many_within k read t).0
  manies read each zero t = All-nil P
  manies read each (suc k) t = by (read t) refl (manies read each k)
    where
      by : (o : FoundInText X) → read t ≡ o → ((u : List ℕ) → All P (many_within k read u).0) → All P (many_within (suc k) read t).0
      by None e deeper = rw e (All-nil P)
      by (Some f) e deeper = rw e (All-cons P f.0 (many_within k read f.1).0 (each t f.0 f.1 e) (deeper f.1))

  pub commas : (read : List ℕ → FoundInText X) → ((t : List ℕ) → Gives P (read t)) → (t : List ℕ) → Gives P (comma read t)
  commas read each t = binds (strip (codes ", ") t) read (λ r e. each r)

  pub rows : (read : List ℕ → FoundInText X) → ((t : List ℕ) → Gives P (read t)) → (t : List ℕ) → All P (row read t).0
  rows read each t = by (read t) refl
    where
      by : (o : FoundInText X) → read t ≡ o → All P (row_from read o t).0
      by None e = All-nil P
      by (Some f) e = All-cons P f.0 (many (comma read) f.1).0 (each t f.0 f.1 e) (manies (comma read) (commas read each) (length f.1) f.1)

-- numbers
limits : (limit n : ℕ) (k : ℕ) → limited limit n ≡ Some k → k < limit
limits limit n k e = by (nat_lt n limit) refl e
  where
    by : (v : Bool) → nat_lt n limit ≡ v → (if v then Some n else None) ≡ Some k → k < limit
    by true is e = subst (λ (m : ℕ). m < limit) (same_Some n k e) (ltb-true n limit is)
    by false is e = absurd (none-some k e)

values : (limit : ℕ) (q : List ℕ × List ℕ) → Gives (λ n. n < limit) (valued limit q)
values limit ([], s) n r e = absurd (none-some (n, r) e)
values limit (d ∷ ds, s) n r e =
    binds (λ n. n < limit) (limited limit (digits_value 10 (d ∷ ds))) (λ n. Some (n, s)) (λ n e. somes (λ n. n < limit) n s (limits limit (digits_value 10 (d ∷ ds)) n e)) n r e

pub numbers : (t : List ℕ) → Gives Fits (number t)
numbers t = values (2 ^ 32) (span is_digit t)

negatives : (n : ℕ) → n < 2 ^ 127 + 1 → ConstantFits (negative n)
negatives zero h = omega arith
negatives (suc n) h = omega (arith, h)

signs : (t : List ℕ) → Gives ConstantFits (signed t)
signs t =
    chooses ConstantFits (strip (codes "-") t) (λ t. as_ negative (valued (2 ^ 127 + 1) (span is_digit t))) (as_ pos (valued (2 ^ 127) (span is_digit t)))
    (λ u e. ases ConstantFits negative (valued (2 ^ 127 + 1) (span is_digit u)) (λ n r f. negatives n (values (2 ^ 127 + 1) (span is_digit u) n r f)))
    (ases ConstantFits pos (valued (2 ^ 127) (span is_digit t)) (values (2 ^ 127) (span is_digit t)))

-- places
part_fits : (q : ℕ × List ℕ) → Fits q.0 → Gives StepFits (parts.part_from q)
part_fits q fits =
    chooses StepFits (strip (codes ":") q.1) (λ t. as_ (Step.Field q.0) (number t)) (Some (Step.Part q.0, q.1))
    (λ t e. ases StepFits (Step.Field q.0) (number t) (λ n r f. (fits, numbers t n r f)))
    (somes StepFits (Step.Part q.0) q.1 fits)

step_fits : (t : List ℕ) → Gives StepFits (step_read t)
step_fits t =
    chooses StepFits (strip (codes ".") t) parts.behind_dot (bind (strip (codes "[_") t) parts.behind_bracket)
    (λ t e. chooses StepFits (strip (codes "*") t) (λ r. Some (Step.Inside, r)) (bind (number t) parts.part_from)
    (λ r f. somes StepFits Step.Inside r tt)
    (binds StepFits (number t) parts.part_from (λ q f. part_fits q (numbers t q.0 q.1 f))))
    (binds StepFits (strip (codes "[_") t) parts.behind_bracket (λ t e. binds StepFits (number t) parts.index_from
    (λ f g. binds StepFits (strip (codes "]") f.1) (λ r. Some (Step.Index f.0, r)) (λ r d. somes StepFits (Step.Index f.0) r (numbers t f.0 f.1 g)))))

place_behind : (t : List ℕ) → Gives PlaceFits (place_from t)
place_behind t =
    binds PlaceFits (number t) parts.steps_from
    (λ f e. somes PlaceFits (record { local = f.0; steps = (many step_read f.1).0 }) (many step_read f.1).1 (numbers t f.0 f.1 e, manies StepFits step_read step_fits (length f.1) f.1))

place_fits : (t : List ℕ) → Gives PlaceFits (place_read t)
place_fits t = binds PlaceFits (strip (codes "_") t) place_from (λ t e. place_behind t)

-- operands
operand_fits : (t : List ℕ) → Gives OperandFits (operand_read t)
operand_fits t =
    chooses OperandFits (strip (codes "copy ") t) (λ t. as_ Operand.Copied (place_read t)) _ (λ t e. ases OperandFits Operand.Copied (place_read t) (place_fits t))
    (chooses OperandFits (strip (codes "move ") t) (λ t. as_ Operand.Moved (place_read t)) _ (λ t e. ases OperandFits Operand.Moved (place_read t) (place_fits t))
    (binds OperandFits (strip (codes "const ") t) parts.constant_read (λ t e. constant t)))
  where
    constant : (t : List ℕ) → Gives OperandFits (parts.constant_read t)
    constant t =
        ors OperandFits (bind (signed t) parts.constant_from) (parts.other_constant t)
        (binds OperandFits (signed t) parts.constant_from (λ f e. binds OperandFits (strip (codes "_") f.1) (λ t. as_ (Operand.Number f.0) (parts.kind_read t))
        (λ u d. ases OperandFits (Operand.Number f.0) (parts.kind_read u) (λ k r g. signs t f.0 f.1 e))))
        (ors OperandFits (said (codes "true") (Operand.Truth true) t) (or_else (said (codes "false") (Operand.Truth false) t) (said (codes "()") Operand.Unit t)) (saids OperandFits (codes "true") (Operand.Truth true) t tt)
        (ors OperandFits (said (codes "false") (Operand.Truth false) t) (said (codes "()") Operand.Unit t) (saids OperandFits (codes "false") (Operand.Truth false) t tt) (saids OperandFits (codes "()") Operand.Unit t tt)))

operands_fit : (t : List ℕ) → Gives (All OperandFits) (operands_read t)
operands_fit t =
    binds (All OperandFits) (strip (codes "(") t) (λ t. closed_row (row operand_read t))
    (λ t e. binds (All OperandFits) (strip (codes ")") (row operand_read t).1) (λ r. Some ((row operand_read t).0, r))
    (λ r f. somes (All OperandFits) (row operand_read t).0 r (rows OperandFits operand_read operand_fits t)))

abbrev BothFit : Operand × Operand → Type 0
BothFit both = OperandFits both.0 × OperandFits both.1

two_fit : (t : List ℕ) → Gives BothFit (lines.two_operands t)
two_fit t =
    binds BothFit (operand_read t) lines.second_operand
    (λ l e. binds BothFit (strip (codes " ") l.1) (λ t. as_ (λ r. (l.0, r)) (operand_read t))
    (λ u f. ases BothFit (λ r. (l.0, r)) (operand_read u) (λ o r g. (operand_fits t l.0 l.1 e, operand_fits u o r g))))

abbrev CountedFit : ℕ × List Operand → Type 0
CountedFit q = Fits q.0 × All OperandFits q.1

counted_fit : (t : List ℕ) → Gives CountedFit (lines.numbered_operands t)
counted_fit t =
    binds CountedFit (number t) lines.operands_from
    (λ n e. binds CountedFit (strip (codes " ") n.1) (λ t. as_ (λ parts. (n.0, parts)) (operands_read t))
    (λ u f. ases CountedFit (λ parts. (n.0, parts)) (operands_read u) (λ ps r g. (numbers t n.0 n.1 e, operands_fit u ps r g))))

-- ways out
abbrev BothWays : ℕ × Unwind → Type 0
BothWays w = WaysFit w.0 w.1

unwind_fits : (t : List ℕ) → Gives UnwindFits (unwind_read t)
unwind_fits t =
    ors UnwindFits (as_ Unwind.Block (number t)) _ (ases UnwindFits Unwind.Block (number t) (numbers t))
    (ors UnwindFits (said (codes "resume") Unwind.Resume t) (said (codes "abort") Unwind.Abort t) (saids UnwindFits (codes "resume") Unwind.Resume t tt) (saids UnwindFits (codes "abort") Unwind.Abort t tt))

ways_fit : (t : List ℕ) → Gives BothWays (ways_read t)
ways_fit t =
    binds BothWays (strip (codes " then ") t) parts.ways_from
    (λ t e. binds BothWays (number t) parts.unwind_from
    (λ f d. binds BothWays (strip (codes " unwind ") f.1) (λ t. as_ (λ u. (f.0, u)) (unwind_read t))
    (λ u g. ases BothWays (λ u. (f.0, u)) (unwind_read u) (λ w r h. (numbers t f.0 f.1 d, unwind_fits u w r h)))))

blank_fits : (t : List ℕ) → Gives Fits (lines.blank_number t)
blank_fits t = binds Fits (strip (codes " ") t) number (λ t e. numbers t)

abbrev TwoFit : ℕ × ℕ → Type 0
TwoFit q = Fits q.0 × Fits q.1

two_numbers_fit : (t : List ℕ) → Gives TwoFit (lines.two_numbers t)
two_numbers_fit t =
    binds TwoFit (lines.blank_number t) lines.second_number
    (λ k e. ases TwoFit (λ l. (k.0, l)) (lines.blank_number k.1) (λ l r f. (blank_fits t k.0 k.1 e, blank_fits k.1 l r f)))

-- statements
module _ (adt_no trait_no : List ℕ → ℕ) where
  made_fits : (to : Place) → PlaceFits to → (n : List ℕ × List ℕ) → Gives StmtFits (lines.make_from adt_no trait_no to n)
  made_fits to fits n =
      binds StmtFits (strip (codes " ") n.1) (λ t. as_ (λ q. Stmt.Make to (adt_no n.0) q.0 q.1) (lines.numbered_operands t))
      (λ t e. ases StmtFits (λ q. Stmt.Make to (adt_no n.0) q.0 q.1) (lines.numbered_operands t) (λ q r f. let own = counted_fit t q r f in (fits, own.0, own.1)))

  unsized_fits : (to : Place) → PlaceFits to → (n : List ℕ × List ℕ) → Gives StmtFits (lines.unsize_from adt_no trait_no to n)
  unsized_fits to fits n =
      binds StmtFits (strip (codes " ") n.1) (λ t. as_ (Stmt.Unsize to (trait_no n.0)) (operand_read t))
      (λ t e. ases StmtFits (Stmt.Unsize to (trait_no n.0)) (operand_read t) (λ o r f. (fits, operand_fits t o r f)))

  module _ (to : Place) (fits : PlaceFits to) where
    borrowed_fits : (t : List ℕ) → Gives StmtFits (lines.borrowed to t)
    borrowed_fits t =
        chooses StmtFits (strip (codes "&mut ") t) (λ t. as_ (Stmt.Borrow to true) (place_read t)) _ (λ t e. ases StmtFits (Stmt.Borrow to true) (place_read t) (λ p r f. (fits, place_fits t p r f)))
        (chooses StmtFits (strip (codes "& ") t) (λ t. as_ (Stmt.Borrow to false) (place_read t)) _ (λ t e. ases StmtFits (Stmt.Borrow to false) (place_read t) (λ p r f. (fits, place_fits t p r f)))
        (ases StmtFits (Stmt.Put to) (operand_read t) (λ o r f. (fits, operand_fits t o r f))))

    one_fits : (t : List ℕ) → Gives StmtFits (lines.of_one adt_no trait_no to t)
    one_fits t =
        chooses StmtFits (strip (codes "not ") t) (λ t. as_ (Stmt.Not to) (operand_read t)) _ (λ t e. ases StmtFits (Stmt.Not to) (operand_read t) (λ o r f. (fits, operand_fits t o r f)))
        (chooses StmtFits (strip (codes "box ") t) (λ t. as_ (Stmt.NewBox to) (operand_read t)) _ (λ t e. ases StmtFits (Stmt.NewBox to) (operand_read t) (λ o r f. (fits, operand_fits t o r f)))
        (chooses StmtFits (strip (codes "unsize ") t) (lines.unsize_read adt_no trait_no to) _ (λ t e. unsized_fits to fits (span stands_in_names t)) (borrowed_fits t)))

    parts_fit : (t : List ℕ) → Gives StmtFits (lines.of_parts adt_no trait_no to t)
    parts_fit t =
        chooses StmtFits (strip (codes "tuple ") t) (λ t. as_ (Stmt.Tuple to) (operands_read t)) _ (λ t e. ases StmtFits (Stmt.Tuple to) (operands_read t) (λ o r f. (fits, operands_fit t o r f)))
        (chooses StmtFits (strip (codes "array ") t) (λ t. as_ (Stmt.Array to) (operands_read t)) _ (λ t e. ases StmtFits (Stmt.Array to) (operands_read t) (λ o r f. (fits, operands_fit t o r f)))
        (chooses StmtFits (strip (codes "close ") t) (λ t. as_ (λ q. Stmt.Close to q.0 q.1) (lines.numbered_operands t)) _
        (λ t e. ases StmtFits (λ q. Stmt.Close to q.0 q.1) (lines.numbered_operands t) (λ q r f. let own = counted_fit t q r f in (fits, own.0, own.1)))
        (chooses StmtFits (strip (codes "make ") t) (lines.make_read adt_no trait_no to) _ (λ t e. made_fits to fits (span stands_in_names t)) (one_fits t))))

    assigned_fits : (t : List ℕ) → Gives StmtFits (lines.assigned adt_no trait_no to t)
    assigned_fits t =
        chooses StmtFits (comparison_read t) (λ c. as_ (λ both. Stmt.Compare to c.0 both.0 both.1) (lines.two_operands c.1)) _
        (λ c e. ases StmtFits (λ both. Stmt.Compare to c.0 both.0 both.1) (lines.two_operands c.1) (λ both r f. let own = two_fit c.1 both r f in (fits, own.0, own.1)))
        (parts_fit t)

  without_fits : (t : List ℕ) → Gives StmtFits (lines.without_place t)
  without_fits t =
      chooses StmtFits (strip (codes "touch ") t) (λ t. as_ Stmt.Touch (place_read t)) _ (λ t e. ases StmtFits Stmt.Touch (place_read t) (place_fits t))
      (chooses StmtFits (strip (codes "print ") t) (λ t. as_ Stmt.Print (operand_read t)) _ (λ t e. ases StmtFits Stmt.Print (operand_read t) (operand_fits t))
      (chooses StmtFits (strip (codes "forget ") t) (λ t. as_ Stmt.Forget (operand_read t)) _ (λ t e. ases StmtFits Stmt.Forget (operand_read t) (operand_fits t))
      (binds StmtFits (strip (codes "free ") t) (λ t. as_ Stmt.Free (place_read t)) (λ t e. ases StmtFits Stmt.Free (place_read t) (place_fits t)))))

  pub stmt_fits : (t : List ℕ) → Gives StmtFits (stmt_read adt_no trait_no t)
  stmt_fits t =
      chooses StmtFits (strip (codes "_") t) (λ t. bind (place_from t) (lines.assigned_to adt_no trait_no)) (lines.without_place t)
      (λ t e. binds StmtFits (place_from t) (lines.assigned_to adt_no trait_no)
      (λ p f. binds StmtFits (strip (codes " = ") p.1) (lines.assigned adt_no trait_no p.0) (λ u g. assigned_fits p.0 (place_behind t p.0 p.1 f) u)))
      (without_fits t)

  -- terminators
  module _ (to : Place) (fits : PlaceFits to) where
    calculated_fits : (op : Math) (t : List ℕ) → Gives TermFits (lines.calculated to op t)
    calculated_fits op t =
        binds TermFits (lines.two_operands t) (lines.math_of to op)
        (λ b e. ases TermFits (λ w. Term.Math to op b.0.0 b.0.1 w.0 w.1) (ways_read b.1) (λ w r f. let both = two_fit t b.0 b.1 e in (fits, both.0, both.1, ways_fit b.1 w r f)))

    negated_fits : (t : List ℕ) → Gives TermFits (lines.negated to t)
    negated_fits t =
        binds TermFits (operand_read t) (lines.negated_of to)
        (λ o e. ases TermFits (λ w. Term.Negate to o.0 w.0 w.1) (ways_read o.1) (λ w r f. (fits, operand_fits t o.0 o.1 e, ways_fit o.1 w r f)))

    call_fits : (t : List ℕ) → Gives TermFits (lines.call_read to t)
    call_fits t =
        binds TermFits (lines.numbered_operands t) (lines.call_of to)
        (λ a e. ases TermFits (λ w. Term.Call to a.0.0 a.0.1 w.0 w.1) (ways_read a.1) (λ w r f. let own = counted_fit t a.0 a.1 e in (fits, own.0, own.1, ways_fit a.1 w r f)))

    virtual_fits : (n : List ℕ × List ℕ) → Gives TermFits (lines.virtual_from adt_no trait_no to n)
    virtual_fits n =
        binds TermFits (strip (codes " ") n.1) (λ t. bind (lines.numbered_operands t) (lines.sent_of adt_no trait_no to n.0))
        (λ t d. binds TermFits (lines.numbered_operands t) (lines.sent_of adt_no trait_no to n.0)
        (λ a e. ases TermFits (λ w. Term.Virtual to (trait_no n.0) a.0.0 a.0.1 w.0 w.1) (ways_read a.1) (λ w r f. let own = counted_fit t a.0 a.1 e in (fits, own.0, own.1, ways_fit a.1 w r f))))

    called_fits : (t : List ℕ) → Gives TermFits (lines.called adt_no trait_no to t)
    called_fits t =
        chooses TermFits (strip (codes "call ") t) (lines.call_read to) _ (λ t e. call_fits t)
        (chooses TermFits (strip (codes "virtual ") t) (lines.virtual_read adt_no trait_no to) _ (λ t e. virtual_fits (span stands_in_names t))
        (binds TermFits (strip (codes "ask") t) (lines.ask_read to) (λ t e. ases TermFits (λ w. Term.Ask to w.0 w.1) (ways_read t) (λ w r f. (fits, ways_fit t w r f)))))

    returned_fits : (t : List ℕ) → Gives TermFits (lines.returned adt_no trait_no to t)
    returned_fits t =
        chooses TermFits (math_read t) (λ m. lines.calculated to m.0 m.1) _ (λ m e. calculated_fits m.0 m.1)
        (chooses TermFits (strip (codes "neg ") t) (lines.negated to) _ (λ t e. negated_fits t) (called_fits t))

  if_fits : (t : List ℕ) → Gives TermFits (lines.if_read t)
  if_fits t =
      binds TermFits (operand_read t) lines.if_of
      (λ o e. ases TermFits (λ ways. Term.If o.0 ways.0 ways.1) (lines.two_numbers o.1) (λ w r f. let own = two_numbers_fit o.1 w r f in (operand_fits t o.0 o.1 e, own.0, own.1)))

  case_fits : (t : List ℕ) → Gives TermFits (lines.case_read t)
  case_fits t =
      binds TermFits (place_read t) lines.case_of
      (λ p e. binds TermFits (lines.blank_number p.1) (lines.case_ways p.0)
      (λ v d. ases TermFits (λ ways. Term.Case p.0 v.0 ways.0 ways.1) (lines.two_numbers v.1)
      (λ w r f. let own = two_numbers_fit v.1 w r f in (place_fits t p.0 p.1 e, blank_fits p.1 v.0 v.1 d, own.0, own.1))))

  bounds_fit : (t : List ℕ) → Gives TermFits (lines.bounds_read t)
  bounds_fit t =
      binds TermFits (operand_read t) lines.bounds_of
      (λ o e. binds TermFits (lines.blank_number o.1) (lines.count_of o.0)
      (λ n d. ases TermFits (λ w. Term.Bounds o.0 n.0 w.0 w.1) (ways_read n.1) (λ w r f. (operand_fits t o.0 o.1 e, blank_fits o.1 n.0 n.1 d, ways_fit n.1 w r f))))

  drop_fits : (t : List ℕ) → Gives TermFits (lines.drop_read t)
  drop_fits t =
      binds TermFits (place_read t) lines.drop_of
      (λ p e. ases TermFits (λ w. Term.DropAt p.0 w.0 w.1) (ways_read p.1) (λ w r f. (place_fits t p.0 p.1 e, ways_fit p.1 w r f)))

  panic_fits : (t : List ℕ) → Gives TermFits (lines.panic_read t)
  panic_fits t =
      binds TermFits (lines.why_read t) lines.panic_of
      (λ w e. binds TermFits (strip (codes " unwind ") w.1) (λ t. as_ (Term.Panic w.0) (unwind_read t)) (λ t f. ases TermFits (Term.Panic w.0) (unwind_read t) (unwind_fits t)))

  leaving_fits : (t : List ℕ) → Gives TermFits (lines.leaving t)
  leaving_fits t =
      chooses TermFits (strip (codes "goto ") t) (λ t. as_ Term.Goto (number t)) _ (λ t e. ases TermFits Term.Goto (number t) (numbers t))
      (chooses TermFits (strip (codes "panic ") t) lines.panic_read _ (λ t e. panic_fits t)
      (ors TermFits (said (codes "return") Term.Return t) (said (codes "resume") Term.Resume t) (saids TermFits (codes "return") Term.Return t tt) (saids TermFits (codes "resume") Term.Resume t tt)))

  no_result_fits : (t : List ℕ) → Gives TermFits (lines.without_result t)
  no_result_fits t =
      chooses TermFits (strip (codes "if ") t) lines.if_read _ (λ t e. if_fits t)
      (chooses TermFits (strip (codes "case ") t) lines.case_read _ (λ t e. case_fits t)
      (chooses TermFits (strip (codes "bounds ") t) lines.bounds_read _ (λ t e. bounds_fit t)
      (chooses TermFits (strip (codes "drop ") t) lines.drop_read _ (λ t e. drop_fits t) (leaving_fits t))))

  pub term_fits : (t : List ℕ) → Gives TermFits (term_read adt_no trait_no t)
  term_fits t =
      chooses TermFits (strip (codes "_") t) (λ t. bind (place_from t) (lines.returned_to adt_no trait_no)) (lines.without_result t)
      (λ t e. binds TermFits (place_from t) (lines.returned_to adt_no trait_no)
      (λ p f. binds TermFits (strip (codes " = ") p.1) (lines.returned adt_no trait_no p.0) (λ u g. returned_fits p.0 (place_behind t p.0 p.1 f) u)))
      (no_result_fits t)
