-- What code is that ends with a word.
use Rattle.std.proofs.Common.{◌≡◌, ◌∙◌, ◌≤◌, ℕ, suc, List, Some, refl, sym, subst, arith}
use Rattle.std.proofs.lemmas.Option.{same_Some}
use Rattle.std.specs.Prelude.{slice_get}
use Rattle.lower_code.specs.Code as code
use Rattle.lower_code.specs.Code.{Code, Arms, no_arm, an_arm, Arm, Taken, Empty, no_guard, a_guard}
use Rattle.lower_code.specs.Ops as ops
use Rattle.lower_code.specs.Ops.{CodeWord}
use Rattle.lower_rules.specs.Build.{LoweringFrame}
use Rattle.lower_passes.specs.Spans.{OneBefore, TwoBefore, Stands, StandArms, StandsArm}
use Rattle.lower_passes.specs.declared.marks.CodeMark.{CodeMark}

abbrev word_of : Code → CodeWord
word_of code.Nothing = ops.Nothing
word_of (code.Changes change) = ops.Changes change
word_of (code.From change inner) = ops.From change
word_of (code.Then one another) = ops.Then
word_of (code.BackIn inner) = ops.BackIn
word_of (code.Acts node action) = ops.Acts node action
word_of (code.InScope node for_temporaries inner) = ops.InScope node for_temporaries
word_of code.Leaves = ops.Leaves
word_of (code.Branches node on held otherwise) = ops.Branches node on
word_of (code.Loops id turn) = ops.Loops id
word_of (code.Exits node exit) = ops.Exits node exit
word_of (code.Panics node why) = ops.Panics node why
word_of (code.Replaces site key) = ops.Replaces site key
word_of (code.Drops key) = ops.Drops key
word_of (code.Matches node arms) = ops.Matches node

module _ (f : LoweringFrame) (words : List CodeWord) (marks : List CodeMark) where
  abbrev pub IsOne : (Code → Code) → Code → (s e : ℕ) → Type 0
  IsOne make c s e = (inner : Code) × ((c ≡ make inner) × OneBefore f words marks (Stands f words marks inner) s e)

  abbrev pub IsTwo : (Code → Code → Code) → Code → (s e : ℕ) → Type 0
  IsTwo make c s e =
      (one : Code) × ((another : Code) × ((c ≡ make one another)
      × TwoBefore f words marks (Stands f words marks one) (Stands f words marks another) s e))

  abbrev pub IsMatch : ℕ → Code → (s e : ℕ) → Type 0
  IsMatch node c s e =
      (arms : Arms) × ((c ≡ code.Matches node arms)
      × ((slice_get words s ≡ Some ops.BeforeArms) × StandArms f words marks arms (suc s) e))

  -- code is what its last word says
  abbrev pub Reads : CodeWord → Code → (s e : ℕ) → Type 0
  Reads ops.Nothing c s e = c ≡ code.Nothing
  Reads (ops.Changes change) c s e = c ≡ code.Changes change
  Reads (ops.From change) c s e = IsOne (code.From change) c s e
  Reads ops.Then c s e = IsTwo code.Then c s e
  Reads ops.BackIn c s e = IsOne code.BackIn c s e
  Reads (ops.Acts node action) c s e = c ≡ code.Acts node action
  Reads (ops.InScope node for_temporaries) c s e = IsOne (code.InScope node for_temporaries) c s e
  Reads ops.Leaves c s e = c ≡ code.Leaves
  Reads (ops.Branches node on) c s e = IsTwo (code.Branches node on) c s e
  Reads (ops.Loops id) c s e = IsOne (code.Loops id) c s e
  Reads (ops.Exits node exit) c s e = c ≡ code.Exits node exit
  Reads (ops.Panics node why) c s e = c ≡ code.Panics node why
  Reads (ops.Replaces site key) c s e = c ≡ code.Replaces site key
  Reads (ops.Drops key) c s e = c ≡ code.Drops key
  Reads ops.BeforeArms c s e = ⊥
  Reads (ops.IsArm tests guard) c s e = ⊥
  Reads ops.EmptyArm c s e = ⊥
  Reads (ops.Matches node) c s e = IsMatch node c s e

  word_is : (c : Code) (s e : ℕ) → Stands f words marks c s e → slice_get words e ≡ Some (word_of c)
  word_is code.Nothing s e is = is.0.0
  word_is other s e is = is.0.0

  reads_own : (c : Code) (s e : ℕ) → Stands f words marks c s e → Reads (word_of c) c s e
  reads_own (code.From change inner) s e is = (inner, (refl, is.1))
  reads_own (code.Then one another) s e is = (one, (another, (refl, is.1)))
  reads_own (code.BackIn inner) s e is = (inner, (refl, is.1))
  reads_own (code.InScope node for_temporaries inner) s e is = (inner, (refl, is.1))
  reads_own (code.Branches node on held otherwise) s e is = (held, (otherwise, (refl, is.1)))
  reads_own (code.Loops id turn) s e is = (turn, (refl, is.1))
  reads_own (code.Matches node arms) s e is = (arms, (refl, is.1))
  reads_own other s e is = refl

  pub reads : (c : Code) (s e : ℕ) (word : CodeWord) → Stands f words marks c s e → slice_get words e ≡ Some word → Reads word c s e
  reads c s e word is at =
      subst (λ w. Reads w c s e) (same_Some (word_of c) word (sym (word_is c s e is) ∙ at)) (reads_own c s e is)

  -- code begins where it ends, or before
  one_within : (s e : ℕ) (inner : ℕ → ℕ → Type 0) → ((d : ℕ) → inner s d → s ≤ d) → OneBefore f words marks inner s e → s ≤ e
  one_within s e inner within one =
      let below : s ≤ one.0 = within one.0 one.1.1 in
      let same : e ≡ suc one.0 = one.1.0 in
      omega arith

  two_within : (s e : ℕ) (one another : ℕ → ℕ → Type 0) → ((m : ℕ) → one s m → s ≤ m) → ((m d : ℕ) → another m d → m ≤ d) → TwoBefore f words marks one another s e → s ≤ e
  two_within s e one another within1 within2 two =
      let below1 : s ≤ two.1.0 = within1 two.1.0 two.1.1.1.0 in
      let below2 : suc two.1.0 ≤ two.0 = within2 (suc two.1.0) two.0 two.1.1.1.1 in
      let same : e ≡ suc two.0 = two.1.1.0 in
      omega arith

  at_end : (s e : ℕ) → s ≡ e → s ≤ e
  at_end s e is = omega arith

  mutual
    pub within : (c : Code) (s e : ℕ) → Stands f words marks c s e → s ≤ e
    within (code.From change inner) s e is = one_within s e (Stands f words marks inner) (λ d one. within inner s d one) is.1
    within (code.Then one another) s e is =
        two_within s e (Stands f words marks one) (Stands f words marks another) (λ m stands. within one s m stands) (λ m d stands. within another m d stands) is.1
    within (code.BackIn inner) s e is = one_within s e (Stands f words marks inner) (λ d one. within inner s d one) is.1
    within (code.InScope node for_temporaries inner) s e is =
        one_within s e (Stands f words marks inner) (λ d one. within inner s d one) is.1
    within (code.Branches node on held otherwise) s e is =
        two_within s e (Stands f words marks held) (Stands f words marks otherwise) (λ m stands. within held s m stands) (λ m d stands. within otherwise m d stands) is.1
    within (code.Loops id turn) s e is = one_within s e (Stands f words marks turn) (λ d one. within turn s d one) is.1
    within (code.Matches node arms) s e is =
        let below : suc s ≤ e = arms_within arms (suc s) e is.1.1 in
        omega arith
    within other s e is = at_end s e is.1

    pub arms_within : (arms : Arms) (s e : ℕ) → StandArms f words marks arms s e → s ≤ e
    arms_within no_arm s e is = at_end s e is
    arms_within (an_arm first rest) s e is =
        let below : s ≤ is.0 = arm_within first s is.0 is.1.0 in
        let above : suc is.0 ≤ e = arms_within rest (suc is.0) e is.1.1 in
        omega arith

    pub arm_within : (arm : Arm) (s e : ℕ) → StandsArm f words marks arm s e → s ≤ e
    arm_within (Taken tests no_guard inner) s e is = one_within s e (Stands f words marks inner) (λ d one. within inner s d one) is.1
    arm_within (Taken tests (a_guard key guard) inner) s e is =
        two_within s e (Stands f words marks guard) (Stands f words marks inner) (λ m stands. within guard s m stands) (λ m d stands. within inner m d stands) is.1
    arm_within Empty s e is = at_end s e is.1
