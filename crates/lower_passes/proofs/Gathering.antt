-- The arms of a match stand behind the word before them.
use Rattle.std.proofs.Common.{◌≡◌, ◌∙◌, ◌++◌, ◌∷◌, ◌-◌, ◌||◌, ℕ, suc, Bool, true, List, [], Some, refl, sym, ap, subst, append_assoc, arith}
use Rattle.std.proofs.Math.Bool.{or_assoc}
use Rattle.std.proofs.lemmas.Option.{none-some, same_Some}
use Rattle.std.specs.Prelude.{slice_get}
use Rattle.src_meaning.specs.Scopes.{Exit}
use Rattle.lower_code.specs.Code.{Arms, an_arm}
use Rattle.lower_code.specs.Ops as ops
use Rattle.lower_code.specs.Ops.{CodeWord}
use Rattle.lower_rules.specs.Build.{LoweringFrame}
use Rattle.lower_rules.specs.Codes.{lowers_arms, lowers_arm, all_jumps, some_end}
use Rattle.lower_passes.specs.MarkRules.{mark_at}
use Rattle.lower_passes.specs.Spans.{StandArms}
use Rattle.lower_passes.specs.declared.marks.CodeMark.{CodeMark}
use Rattle.lower_passes.proofs.Parts.{Part, ACode, AnArm, ArmsBegin, gathered}
use Rattle.lower_passes.proofs.Covering.{IsBehind, ArmFollows, Cover, in_match}

pub are_in_match : (others : Arms) (parts : List Part) (found : Arms × List Part) → gathered others parts ≡ Some found → in_match parts ≡ true
are_in_match others [] found are = absurd (none-some found are)
are_in_match others (ACode c ∷ parts) found are = absurd (none-some found are)
are_in_match others (AnArm arm ∷ parts) found are = are_in_match (an_arm arm others) parts found are
are_in_match others (ArmsBegin ∷ parts) found are = refl

module _ (f : LoweringFrame) (words : List CodeWord) (marks : List CodeMark) where
  abbrev arms_end : Arms → Bool
  arms_end arms = some_end f (lowers_arms f arms)

  -- arms stand behind the word before arms up to a word, and other parts before that word; the mark of the last of them
  -- says where that word is and whether a run comes behind one of them
  abbrev pub Gathered : (n end : ℕ) (total : List Exit) → Bool → Arms × List Part → Type 0
  Gathered n end total others_end found =
      (s : ℕ) × ((before : List Exit) ×
      ((slice_get words s ≡ Some ops.BeforeArms) × (StandArms f words marks found.0 (suc s) end
      × (IsBehind f words marks s before × ((total ≡ before ++ all_jumps f (lowers_arms f found.0))
      × (((mark_at marks (n - 1)).arms ≡ s) × ((arms_end found.0 ≡ ((mark_at marks (n - 1)).has_end || others_end))
      × Cover f words marks found.1 s before)))))))

  before_is : (n e : ℕ) → n ≡ suc e → n - 1 ≡ e
  before_is n e is = omega arith

  pub gathers_cover : (parts : List Part) (others : Arms) (found : Arms × List Part) (n end : ℕ) (jumps total : List Exit) → gathered others parts ≡ Some found → Cover f words marks parts n jumps → StandArms f words marks others n end → total ≡ jumps ++ all_jumps f (lowers_arms f others) → Gathered n end total (arms_end others) found
  gathers_cover [] others found n end jumps total are covered stand is = absurd (none-some found are)
  gathers_cover (ACode c ∷ parts) others found n end jumps total are covered stand is = absurd (none-some found are)
  gathers_cover (AnArm arm ∷ parts) others found n end jumps total are covered stand is =
      let s : ℕ = covered.0 in
      let e : ℕ = covered.1.0 in
      let before : List Exit = covered.1.1.0 in
      let follows : ArmFollows f words marks (lowers_arm f arm).has_end s e =
      covered.1.1.1.1.1.1.1.0 (are_in_match (an_arm arm others) parts found are) in
      let d : ℕ = follows.0 in
      let rest_stands : StandArms f words marks others (suc e) end =
      subst (λ (begins : ℕ). StandArms f words marks others begins end) covered.1.1.1.0 stand in
      let total_is : total ≡ before ++ all_jumps f (lowers_arms f (an_arm arm others)) =
      is ∙ ap (λ (js : List Exit). js ++ all_jumps f (lowers_arms f others)) covered.1.1.1.1.1.1.0
      ∙ append_assoc before (lowers_arm f arm).jumps (all_jumps f (lowers_arms f others)) in
      let inner : Gathered s end total (arms_end (an_arm arm others)) found =
      gathers_cover parts (an_arm arm others) found s end before total are covered.1.1.1.1.1.1.1.1
      (e, (covered.1.1.1.1.0, rest_stands)) total_is in
      let own : n - 1 ≡ e = before_is n e covered.1.1.1.0 in
      let prior : s - 1 ≡ d = before_is s d follows.1.0 in
      let at_begin : (mark_at marks (n - 1)).arms ≡ inner.0 =
      ap (λ (k : ℕ). (mark_at marks k).arms) own ∙ follows.1.1.1.1
      ∙ ap (λ (k : ℕ). (mark_at marks k).arms) (sym prior) ∙ inner.1.1.1.1.1.1.0 in
      let ends : arms_end found.0 ≡ ((mark_at marks (n - 1)).has_end || arms_end others) =
      inner.1.1.1.1.1.1.1.0
      ∙ ap (λ (k : ℕ). (mark_at marks k).has_end || ((lowers_arm f arm).has_end || arms_end others)) prior
      ∙ sym (or_assoc (mark_at marks d).has_end (lowers_arm f arm).has_end (arms_end others))
      ∙ ap (λ (b : Bool). b || arms_end others) (sym follows.1.1.1.0)
      ∙ ap (λ (k : ℕ). (mark_at marks k).has_end || arms_end others) (sym own) in
      (inner.0, (inner.1.0, (inner.1.1.0, (inner.1.1.1.0, (inner.1.1.1.1.0, (inner.1.1.1.1.1.0, (at_begin, (ends, inner.1.1.1.1.1.1.1.1))))))))
  gathers_cover (ArmsBegin ∷ parts) others found n end jumps total are covered stand is =
      let s : ℕ = covered.0 in
      let e : ℕ = covered.1.0 in
      let before : List Exit = covered.1.1.0 in
      let same : s ≡ e = covered.1.1.1.1.0.1 in
      let begin : slice_get words s ≡ Some ops.BeforeArms = ap (slice_get words) same ∙ covered.1.1.1.1.0.0 in
      let all_stand : StandArms f words marks others (suc s) end =
      subst (λ (begins : ℕ). StandArms f words marks others begins end) (covered.1.1.1.0 ∙ ap suc (sym same)) stand in
      let behind : IsBehind f words marks s before = subst (λ (at : ℕ). IsBehind f words marks at before) (sym same) covered.1.1.1.1.1.0 in
      let total_is : total ≡ before ++ all_jumps f (lowers_arms f others) =
      is ∙ ap (λ (js : List Exit). js ++ all_jumps f (lowers_arms f others)) covered.1.1.1.1.1.1.0
      ∙ append_assoc before [] (all_jumps f (lowers_arms f others)) in
      let own : n - 1 ≡ e = before_is n e covered.1.1.1.0 in
      let at_begin : (mark_at marks (n - 1)).arms ≡ s =
      ap (λ (k : ℕ). (mark_at marks k).arms) own ∙ covered.1.1.1.1.1.1.1.0.1 ∙ sym same in
      let ends : arms_end others ≡ ((mark_at marks (n - 1)).has_end || arms_end others) =
      ap (λ (b : Bool). b || arms_end others) (sym covered.1.1.1.1.1.1.1.0.0)
      ∙ ap (λ (k : ℕ). (mark_at marks k).has_end || arms_end others) (sym own) in
      subst (Gathered n end total (arms_end others)) (same_Some (others, parts) found are)
      (s, (before, (begin, (all_stand, (behind, (total_is, (at_begin, (ends, covered.1.1.1.1.1.1.1.1))))))))
