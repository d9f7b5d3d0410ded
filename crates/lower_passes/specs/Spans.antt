-- Where code stands among the words of a body, and what is marked there.
use Rattle.std.specs.Prelude.{ℕ, suc, Bool, ◌≡◌, List, Some, None, slice_get}
use Rattle.lower_code.specs.Code as code
use Rattle.lower_code.specs.Code.{Code, Arms, no_arm, an_arm, Arm, Taken, Empty, no_guard, a_guard}
use Rattle.lower_code.specs.Ops as ops
use Rattle.lower_code.specs.Ops.{CodeWord}
use Rattle.lower_rules.specs.Build.{LoweringFrame}
use Rattle.lower_rules.specs.Codes.{lowers}
use Rattle.lower_passes.specs.declared.marks.CodeMark.{CodeMark}

module _ (f : LoweringFrame) (words : List CodeWord) (marks : List CodeMark) where
  -- the word at which code ends, where the code begins, and whether a run comes behind it
  abbrev pub IsMarked : (start end : ℕ) → CodeWord → Bool → Type 0
  IsMarked start end word has_end =
      (slice_get words end ≡ Some word)
      × ((m : CodeMark) × ((slice_get marks end ≡ Some m) × ((m.start ≡ start) × (m.has_end ≡ has_end))))

  -- the word at which an arm ends, and where it begins
  abbrev pub IsArmMarked : (start end : ℕ) → CodeWord → Type 0
  IsArmMarked start end word =
      (slice_get words end ≡ Some word) × ((m : CodeMark) × ((slice_get marks end ≡ Some m) × (m.start ≡ start)))

  abbrev pub IsLeaf : (start end : ℕ) → CodeWord → Code → Type 0
  IsLeaf start end word c = IsMarked start end word (lowers f c).has_end × (start ≡ end)

  -- a code ends at the word before, and begins where the whole begins; or two do, one before the other
  abbrev pub OneBefore : (ℕ → ℕ → Type 0) → (start end : ℕ) → Type 0
  OneBefore inner s e = (d : ℕ) × ((e ≡ suc d) × inner s d)

  abbrev pub TwoBefore : (one another : ℕ → ℕ → Type 0) → (start end : ℕ) → Type 0
  TwoBefore one another s e = (d : ℕ) × ((m : ℕ) × ((e ≡ suc d) × (one s m × another (suc m) d)))

  abbrev mutual
    -- code stands at the words from one number to another
    pub Stands : Code → (start end : ℕ) → Type 0
    Stands code.Nothing s e = IsLeaf s e ops.Nothing code.Nothing
    Stands (code.Changes change) s e = IsLeaf s e (ops.Changes change) (code.Changes change)
    Stands (code.From change inner) s e =
        IsMarked s e (ops.From change) (lowers f (code.From change inner)).has_end × OneBefore (Stands inner) s e
    Stands (code.Then one another) s e =
        IsMarked s e ops.Then (lowers f (code.Then one another)).has_end × TwoBefore (Stands one) (Stands another) s e
    Stands (code.BackIn inner) s e =
        IsMarked s e ops.BackIn (lowers f (code.BackIn inner)).has_end × OneBefore (Stands inner) s e
    Stands (code.Acts node action) s e = IsLeaf s e (ops.Acts node action) (code.Acts node action)
    Stands (code.InScope node for_temporaries inner) s e =
        IsMarked s e (ops.InScope node for_temporaries) (lowers f (code.InScope node for_temporaries inner)).has_end
        × OneBefore (Stands inner) s e
    Stands code.Leaves s e = IsLeaf s e ops.Leaves code.Leaves
    Stands (code.Branches node on held otherwise) s e =
        IsMarked s e (ops.Branches node on) (lowers f (code.Branches node on held otherwise)).has_end
        × TwoBefore (Stands held) (Stands otherwise) s e
    Stands (code.Loops id turn) s e =
        IsMarked s e (ops.Loops id) (lowers f (code.Loops id turn)).has_end × OneBefore (Stands turn) s e
    Stands (code.Exits node exit) s e = IsLeaf s e (ops.Exits node exit) (code.Exits node exit)
    Stands (code.Panics node why) s e = IsLeaf s e (ops.Panics node why) (code.Panics node why)
    Stands (code.Replaces site key) s e = IsLeaf s e (ops.Replaces site key) (code.Replaces site key)
    Stands (code.Drops key) s e = IsLeaf s e (ops.Drops key) (code.Drops key)
    Stands (code.Matches node arms) s e =
        IsMarked s e (ops.Matches node) (lowers f (code.Matches node arms)).has_end
        × ((slice_get words s ≡ Some ops.BeforeArms) × StandArms arms (suc s) e)

    -- arms stand one after the other, up to a word that is none of theirs
    pub StandArms : Arms → (start end : ℕ) → Type 0
    StandArms no_arm s e = s ≡ e
    StandArms (an_arm first rest) s e = (m : ℕ) × (StandsArm first s m × StandArms rest (suc m) e)

    pub StandsArm : Arm → (start end : ℕ) → Type 0
    StandsArm (Taken tests no_guard inner) s e =
        IsArmMarked s e (ops.IsArm tests None) × OneBefore (Stands inner) s e
    StandsArm (Taken tests (a_guard key guard) inner) s e =
        IsArmMarked s e (ops.IsArm tests (Some key)) × TwoBefore (Stands guard) (Stands inner) s e
    StandsArm Empty s e = IsArmMarked s e ops.EmptyArm × (s ≡ e)
