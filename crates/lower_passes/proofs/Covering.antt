-- The parts of the words so far stand one behind the other, up to before a word.
use Rattle.std.proofs.Common.{◌≡◌, ◌∙◌, ◌++◌, ◌∷◌, ◌||◌, ℕ, suc, Bool, true, false, List, [], Some, length, sym, ap}
use Rattle.std.specs.Option.{unwrap_or}
use Rattle.std.specs.Prelude.{slice_get}
use Rattle.mir_ty.proofs.ListLemmas.{slice_get-append_left, slice_get-last}
use Rattle.src_meaning.specs.Scopes.{Exit}
use Rattle.lower_code.specs.Ops as ops
use Rattle.lower_code.specs.Ops.{CodeWord}
use Rattle.lower_rules.specs.Build.{LoweringFrame}
use Rattle.lower_rules.specs.Codes.{lowers, lowers_arm}
use Rattle.lower_passes.specs.Spans.{Stands, StandsArm}
use Rattle.lower_passes.specs.MarkRules.{mark_at, no_mark}
use Rattle.lower_passes.specs.declared.marks.CodeMark.{CodeMark}
use Rattle.lower_passes.proofs.Parts.{Part, ACode, AnArm, ArmsBegin}
use Rattle.lower_passes.proofs.Lengths.{length_push}
use Rattle.lower_passes.proofs.Standing.{still_stands, arm_still_stands}

module _ (f : LoweringFrame) where
  abbrev pub jumps_of : Part → List Exit
  jumps_of (ACode c) = (lowers f c).jumps
  jumps_of (AnArm arm) = (lowers_arm f arm).jumps
  jumps_of ArmsBegin = []

-- whether arms stand last, behind their beginning
abbrev pub in_match : List Part → Bool
in_match [] = false
in_match (ACode c ∷ parts) = false
in_match (AnArm arm ∷ parts) = in_match parts
in_match (ArmsBegin ∷ parts) = true

module _ (f : LoweringFrame) (words : List CodeWord) (marks : List CodeMark) where
  -- something is marked at a word, and so many jumps stand before its own
  abbrev pub IsBehind : (e : ℕ) → List Exit → Type 0
  IsBehind e before = (slice_get marks e ≡ Some (mark_at marks e)) × ((mark_at marks e).jumps ≡ length before)

  abbrev pub StandsPart : Part → (s e : ℕ) → Type 0
  StandsPart (ACode c) = Stands f words marks c
  StandsPart (AnArm arm) = StandsArm f words marks arm
  StandsPart ArmsBegin = λ s e. (slice_get words e ≡ Some ops.BeforeArms) × (s ≡ e)

  -- an arm has the mark of the word before all arms, and whether a run comes behind it or one of those before it
  abbrev pub ArmFollows : Bool → (s e : ℕ) → Type 0
  ArmFollows has_end s e =
      (d : ℕ) × ((s ≡ suc d) × ((slice_get marks d ≡ Some (mark_at marks d))
      × (((mark_at marks e).has_end ≡ ((mark_at marks d).has_end || has_end)) × ((mark_at marks e).arms ≡ (mark_at marks d).arms))))

  abbrev pub Follows : Part → List Part → (s e : ℕ) → Type 0
  Follows (ACode c) parts s e = Unit {0}
  Follows (AnArm arm) parts s e = in_match parts ≡ true → ArmFollows (lowers_arm f arm).has_end s e
  Follows ArmsBegin parts s e = ((mark_at marks e).has_end ≡ false) × ((mark_at marks e).arms ≡ e)

  -- parts stand one behind the other up to before a word, and the jumps of each behind those of the parts before it
  abbrev pub Cover : List Part → (upto : ℕ) → List Exit → Type 0
  Cover [] n jumps = (n ≡ 0) × (jumps ≡ [])
  Cover (part ∷ parts) n jumps =
      (s : ℕ) × ((e : ℕ) × ((before : List Exit) ×
      ((n ≡ suc e) × (StandsPart part s e × (IsBehind e before × ((jumps ≡ before ++ jumps_of f part)
      × (Follows part parts s e × Cover parts s before)))))))

module _ (f : LoweringFrame) (words : List CodeWord) (marks more : List CodeMark) where
  pub same_mark : (e : ℕ) → slice_get marks e ≡ Some (mark_at marks e) → mark_at (marks ++ more) e ≡ mark_at marks e
  same_mark e is = ap (λ o. unwrap_or o no_mark) (slice_get-append_left marks more e _ is)

  pub part_still_stands : (part : Part) (s e : ℕ) → StandsPart f words marks part s e → StandsPart f words (marks ++ more) part s e
  part_still_stands (ACode c) s e is = still_stands f words marks more c s e is
  part_still_stands (AnArm arm) s e is = arm_still_stands f words marks more arm s e is
  part_still_stands ArmsBegin s e is = is

  still_behind : (e : ℕ) (before : List Exit) → IsBehind f words marks e before → IsBehind f words (marks ++ more) e before
  still_behind e before is =
      let same : mark_at (marks ++ more) e ≡ mark_at marks e = same_mark e is.0 in
      (slice_get-append_left marks more e _ is.0 ∙ ap (λ (m : CodeMark). Some m) (sym same), ap (λ (m : CodeMark). m.jumps) same ∙ is.1)

  still_follows : (part : Part) (parts : List Part) (s e : ℕ) → slice_get marks e ≡ Some (mark_at marks e) → Follows f words marks part parts s e → Follows f words (marks ++ more) part parts s e
  still_follows (ACode c) parts s e here is = tt
  still_follows (AnArm arm) parts s e here is = λ found.
      let is : ArmFollows f words marks (lowers_arm f arm).has_end s e = is found in
      let d : ℕ = is.0 in
      let before : mark_at (marks ++ more) d ≡ mark_at marks d = same_mark d is.1.1.0 in
      let own : mark_at (marks ++ more) e ≡ mark_at marks e = same_mark e here in (
        d,
        (
          is.1.0,
          (
            slice_get-append_left marks more d _ is.1.1.0 ∙ ap (λ (m : CodeMark). Some m) (sym before),
            (
              ap (λ (m : CodeMark). m.has_end) own ∙ is.1.1.1.0 ∙ ap (λ (m : CodeMark). m.has_end || (lowers_arm f arm).has_end) (sym before),
              ap (λ (m : CodeMark). m.arms) own ∙ is.1.1.1.1 ∙ ap (λ (m : CodeMark). m.arms) (sym before),
            ),
          ),
        ),
      )
  still_follows ArmsBegin parts s e here is =
      let own : mark_at (marks ++ more) e ≡ mark_at marks e = same_mark e here in
      (ap (λ (m : CodeMark). m.has_end) own ∙ is.0, ap (λ (m : CodeMark). m.arms) own ∙ is.1)

  pub still_cover : (parts : List Part) (n : ℕ) (jumps : List Exit) → Cover f words marks parts n jumps → Cover f words (marks ++ more) parts n jumps
  still_cover [] n jumps is = is
  still_cover (part ∷ parts) n jumps is = (
    is.0,
    (
      is.1.0,
      (
        is.1.1.0,
        (
          is.1.1.1.0,
          (
            part_still_stands part is.0 is.1.0 is.1.1.1.1.0,
            (
              still_behind is.1.0 is.1.1.0 is.1.1.1.1.1.0,
              (
                is.1.1.1.1.1.1.0,
                (
                  still_follows part parts is.0 is.1.0 is.1.1.1.1.1.0.0 is.1.1.1.1.1.1.1.0,
                  still_cover parts is.0 is.1.1.0 is.1.1.1.1.1.1.1.1,
                ),
              ),
            ),
          ),
        ),
      ),
    ),
  )

module _ (f : LoweringFrame) (words : List CodeWord) (marks : List CodeMark) where
  abbrev pub marks_with : CodeMark → List CodeMark
  marks_with m = marks ++ m ∷ []

  pub last_marked : (m : CodeMark) → mark_at (marks_with m) (length marks) ≡ m
  last_marked m = ap (λ o. unwrap_or o no_mark) (slice_get-last marks m)

  behind_last : (m : CodeMark) (before : List Exit) → m.jumps ≡ length before → IsBehind f words (marks_with m) (length marks) before
  behind_last m before is = (
    slice_get-last marks m ∙ ap (λ (o : CodeMark). Some o) (sym (last_marked m)),
    ap (λ (o : CodeMark). o.jumps) (last_marked m) ∙ is,
  )

  -- one part more, which begins at a word up to which others are covered
  pub covers_more : (part : Part) (parts : List Part) (s : ℕ) (before jumps : List Exit) (m : CodeMark) → Cover f words marks parts s before → StandsPart f words (marks_with m) part s (length marks) → m.jumps ≡ length before → jumps ≡ before ++ jumps_of f part → Follows f words (marks_with m) part parts s (length marks) → Cover f words (marks_with m) (part ∷ parts) (length (marks_with m)) jumps
  covers_more part parts s before jumps m covered stands behind are follows = (
    s,
    (
      length marks,
      (
        before,
        (
          length_push marks m,
          (stands, (behind_last m before behind, (are, (follows, still_cover f words marks (m ∷ []) parts s before covered)))),
        ),
      ),
    ),
  )
