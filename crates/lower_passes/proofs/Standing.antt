-- Where code stands, it still stands when more is marked; and what is marked where it ends.
use Rattle.std.proofs.Common.{◌≡◌, ◌∙◌, ◌++◌, ℕ, suc, Bool, List, ap}
use Rattle.std.specs.Option.{unwrap_or}
use Rattle.mir_ty.proofs.ListLemmas.{slice_get-append_left}
use Rattle.lower_code.specs.Code as code
use Rattle.lower_code.specs.Code.{Code, Arms, no_arm, an_arm, Arm, Taken, Empty, no_guard, a_guard}
use Rattle.lower_code.specs.Ops.{CodeWord}
use Rattle.lower_rules.specs.Build.{LoweringFrame}
use Rattle.lower_rules.specs.Codes.{lowers}
use Rattle.lower_passes.specs.Spans.{IsMarked, IsArmMarked, Stands, StandArms, StandsArm}
use Rattle.lower_passes.specs.MarkRules.{mark_at, no_mark}
use Rattle.lower_passes.specs.declared.marks.CodeMark.{CodeMark}

module _ (f : LoweringFrame) (words : List CodeWord) (marks more : List CodeMark) where
  pub still_marked : (s e : ℕ) (word : CodeWord) (has_end : Bool) → IsMarked f words marks s e word has_end → IsMarked f words (marks ++ more) s e word has_end
  still_marked s e word has_end is = (is.0, (is.1.0, (slice_get-append_left marks more e _ is.1.1.0, is.1.1.1)))

  pub arm_still_marked : (s e : ℕ) (word : CodeWord) → IsArmMarked f words marks s e word → IsArmMarked f words (marks ++ more) s e word
  arm_still_marked s e word is = (is.0, (is.1.0, (slice_get-append_left marks more e _ is.1.1.0, is.1.1.1)))

  mutual
    pub still_stands : (c : Code) (s e : ℕ) → Stands f words marks c s e → Stands f words (marks ++ more) c s e
    still_stands code.Nothing s e is = (still_marked s e _ _ is.0, is.1)
    still_stands (code.Changes change) s e is = (still_marked s e _ _ is.0, is.1)
    still_stands (code.From change inner) s e is =
        (still_marked s e _ _ is.0, (is.1.0, (is.1.1.0, still_stands inner s is.1.0 is.1.1.1)))
    still_stands (code.Then one another) s e is = (
      still_marked s e _ _ is.0,
      (is.1.0, (is.1.1.0, (is.1.1.1.0, (still_stands one s is.1.1.0 is.1.1.1.1.0, still_stands another (suc is.1.1.0) is.1.0 is.1.1.1.1.1)))),
    )
    still_stands (code.BackIn inner) s e is =
        (still_marked s e _ _ is.0, (is.1.0, (is.1.1.0, still_stands inner s is.1.0 is.1.1.1)))
    still_stands (code.Acts node action) s e is = (still_marked s e _ _ is.0, is.1)
    still_stands (code.InScope node for_temporaries inner) s e is =
        (still_marked s e _ _ is.0, (is.1.0, (is.1.1.0, still_stands inner s is.1.0 is.1.1.1)))
    still_stands code.Leaves s e is = (still_marked s e _ _ is.0, is.1)
    still_stands (code.Branches node on held otherwise) s e is = (
      still_marked s e _ _ is.0,
      (is.1.0, (is.1.1.0, (is.1.1.1.0, (still_stands held s is.1.1.0 is.1.1.1.1.0, still_stands otherwise (suc is.1.1.0) is.1.0 is.1.1.1.1.1)))),
    )
    still_stands (code.Loops id turn) s e is =
        (still_marked s e _ _ is.0, (is.1.0, (is.1.1.0, still_stands turn s is.1.0 is.1.1.1)))
    still_stands (code.Exits node exit) s e is = (still_marked s e _ _ is.0, is.1)
    still_stands (code.Panics node why) s e is = (still_marked s e _ _ is.0, is.1)
    still_stands (code.Replaces site key) s e is = (still_marked s e _ _ is.0, is.1)
    still_stands (code.Drops key) s e is = (still_marked s e _ _ is.0, is.1)
    still_stands (code.Matches node arms) s e is =
        (still_marked s e _ _ is.0, (is.1.0, arms_still_stand arms (suc s) e is.1.1))

    pub arms_still_stand : (arms : Arms) (s e : ℕ) → StandArms f words marks arms s e → StandArms f words (marks ++ more) arms s e
    arms_still_stand no_arm s e is = is
    arms_still_stand (an_arm first rest) s e is =
        (is.0, (arm_still_stands first s is.0 is.1.0, arms_still_stand rest (suc is.0) e is.1.1))

    pub arm_still_stands : (arm : Arm) (s e : ℕ) → StandsArm f words marks arm s e → StandsArm f words (marks ++ more) arm s e
    arm_still_stands (Taken tests no_guard inner) s e is =
        (arm_still_marked s e _ is.0, (is.1.0, (is.1.1.0, still_stands inner s is.1.0 is.1.1.1)))
    arm_still_stands (Taken tests (a_guard key guard) inner) s e is = (
      arm_still_marked s e _ is.0,
      (is.1.0, (is.1.1.0, (is.1.1.1.0, (still_stands guard s is.1.1.0 is.1.1.1.1.0, still_stands inner (suc is.1.1.0) is.1.0 is.1.1.1.1.1)))),
    )
    arm_still_stands Empty s e is = (arm_still_marked s e _ is.0, is.1)

module _ (f : LoweringFrame) (words : List CodeWord) (marks : List CodeMark) where
  -- the mark where code ends says where it begins, and whether a run comes behind it
  abbrev pub Says : (s e : ℕ) → Bool → Type 0
  Says s e has_end = ((mark_at marks e).start ≡ s) × ((mark_at marks e).has_end ≡ has_end)

  says : (s e : ℕ) (word : CodeWord) (has_end : Bool) → IsMarked f words marks s e word has_end → Says s e has_end
  says s e word has_end is =
      let same : mark_at marks e ≡ is.1.0 = ap (λ o. unwrap_or o no_mark) is.1.1.0 in
      (ap (λ (m : CodeMark). m.start) same ∙ is.1.1.1.0, ap (λ (m : CodeMark). m.has_end) same ∙ is.1.1.1.1)

  pub code_says : (c : Code) (s e : ℕ) → Stands f words marks c s e → Says s e (lowers f c).has_end
  code_says code.Nothing s e is = says s e _ _ is.0
  code_says other s e is = says s e _ _ is.0
