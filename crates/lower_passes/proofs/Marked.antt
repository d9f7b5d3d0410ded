-- What is marked at one more word covers the parts that the word makes.
use Rattle.std.proofs.Common.{◌≡◌, ◌∙◌, ◌++◌, ◌∷◌, ◌-◌, ◌+◌, ◌&&◌, ◌||◌, not, ℕ, suc, Bool, true, false, List, [], Option, Some, None, length, take, drop, reverse, refl, sym, ap, subst, append_assoc, add-zero, arith}
use Rattle.std.proofs.Math.Bool.{and-true, or-false}
use Rattle.std.proofs.Math.Seq.{take-append_seam, drop-append_seam}
use Rattle.std.proofs.lemmas.List.{append-nil, reverse-append}
use Rattle.std.proofs.lemmas.Option.{none-some, same_Some}
use Rattle.std.specs.Option.{option_and_then}
use Rattle.std.specs.Prelude.{slice_get}
use Rattle.mir_ty.proofs.ListLemmas.{slice_get-append_left, slice_get-last}
use Rattle.src_meaning.specs.Scopes.{Exit}
use Rattle.lower_code.specs.Code as code
use Rattle.lower_code.specs.Code.{Code, Arms, no_arm, an_arm, Arm, Taken, Empty, no_guard, a_guard}
use Rattle.lower_code.specs.Ops as ops
use Rattle.lower_code.specs.Ops.{CodeWord, onto}
use Rattle.lower_rules.specs.Build.{LoweringFrame, act_by, Done, is_last, done_by, jumps_if, outside, is_left_by}
use Rattle.lower_rules.specs.Codes.{lowers}
use Rattle.lower_passes.specs.MarkRules.{Marking, mark_at, last, first, cut, own_jumps, leaf, around_one, of_both, of_either, around_loop, arm_of_one, arm_of_two, empty_arm, of_arms, before_arms, marked, all_marked, none_marked, both_end, arm_behind}
use Rattle.lower_passes.specs.Spans.{IsMarked, IsArmMarked, IsLeaf, OneBefore, TwoBefore, Stands}
use Rattle.lower_passes.specs.declared.marks.CodeMark.{CodeMark}
use Rattle.lower_passes.proofs.Lengths.{length_push}
use Rattle.lower_passes.proofs.Parts.{Part, ACode, AnArm, ArmsBegin, gathered, matched, matching, taken, parted, of_one, of_two}
use Rattle.lower_passes.proofs.Parting.{parts_of}
use Rattle.lower_passes.proofs.Standing.{still_stands, arms_still_stand, code_says, Says}
use Rattle.lower_passes.proofs.Covering.{Cover, StandsPart, Follows, ArmFollows, jumps_of, in_match, same_mark, last_marked, covers_more}
use Rattle.lower_passes.proofs.Gathering.{Gathered, gathers_cover}

before_is : (n e : ℕ) → n ≡ suc e → n - 1 ≡ e
before_is n e is = omega arith

module _ (f : LoweringFrame) (words : List CodeWord) (m : Marking) where
  abbrev marks : List CodeMark
  marks = m.marks

  abbrev n : ℕ
  n = length m.marks

  abbrev Covered : List Part → Type 0
  Covered parts = Cover f words m.marks parts n m.jumps

  abbrev Covers : Marking → List Part → Type 0
  Covers after parts = Cover f words after.marks parts (length after.marks) after.jumps

  is_marked : (own : CodeMark) (s : ℕ) (word : CodeWord) (has_end : Bool) → slice_get words n ≡ Some word → own.start ≡ s → own.has_end ≡ has_end → IsMarked f words (marks ++ own ∷ []) s n word has_end
  is_marked own s word has_end at starts ends = (at, (own, (slice_get-last marks own, (starts, ends))))

  is_arm_marked : (own : CodeMark) (s : ℕ) (word : CodeWord) → slice_get words n ≡ Some word → own.start ≡ s → IsArmMarked f words (marks ++ own ∷ []) s n word
  is_arm_marked own s word at starts = (at, (own, (slice_get-last marks own, starts)))

  -- the mark of the code that comes last among covered parts
  last_says : (inner : Code) (parts : List Part) (k : ℕ) (jumps : List Exit) → (covered : Cover f words marks (ACode inner ∷ parts) k jumps) → Says f words marks covered.0 (k - 1) (lowers f inner).has_end × ((mark_at marks (k - 1)).jumps ≡ length covered.1.1.0)
  last_says inner parts k jumps covered =
      let e : ℕ = covered.1.0 in
      let number : k - 1 ≡ e = before_is k e covered.1.1.1.0 in
      let P : ℕ → Type 0 = λ at. Says f words marks covered.0 at (lowers f inner).has_end × ((mark_at marks at).jumps ≡ length covered.1.1.0) in
      subst P (sym number) (code_says f words marks inner covered.0 e covered.1.1.1.1.0, covered.1.1.1.1.1.0.1)

  -- an arm follows what stands before it
  arm_follows : (own : CodeMark) (parts : List Part) (begin s : ℕ) (before : List Exit) (has_end : Bool) → Cover f words marks parts s before → begin ≡ s → own.has_end ≡ ((mark_at marks (begin - 1)).has_end || has_end) → own.arms ≡ (mark_at marks (begin - 1)).arms → in_match parts ≡ true → ArmFollows f words (marks ++ own ∷ []) has_end s n
  arm_follows own [] begin s before has_end covered starts ends arms found = let never : false ≡ true = found in cc
  arm_follows own (part ∷ parts) begin s before has_end covered starts ends arms found =
      let e : ℕ = covered.1.0 in
      let here : slice_get marks e ≡ Some (mark_at marks e) = covered.1.1.1.1.1.0.0 in
      let number : begin - 1 ≡ e = ap (λ (k : ℕ). k - 1) starts ∙ before_is s e covered.1.1.1.0 in
      let same : mark_at (marks ++ own ∷ []) e ≡ mark_at marks e = same_mark f words marks (own ∷ []) e here in
      let at_last : mark_at (marks ++ own ∷ []) n ≡ own = last_marked f words marks own in (
        e,
        (
          covered.1.1.1.0,
          (
            slice_get-append_left marks (own ∷ []) e _ here ∙ ap (λ (o : CodeMark). Some o) (sym same),
            (
              ap (λ (o : CodeMark). o.has_end) at_last ∙ ends ∙ ap (λ (k : ℕ). (mark_at marks k).has_end || has_end) number ∙ ap (λ (o : CodeMark). o.has_end || has_end) (sym same),
              ap (λ (o : CodeMark). o.arms) at_last ∙ arms ∙ ap (λ (k : ℕ). (mark_at marks k).arms) number ∙ ap (λ (o : CodeMark). o.arms) (sym same),
            ),
          ),
        ),
      )

  -- Words that are code by themselves.

  abbrev leaf_mark : Bool → CodeMark
  leaf_mark has_end = record { start = n; jumps = length m.jumps; has_end = has_end; arms = 0 }

  leaf_covers : (word : CodeWord) (c : Code) (has_end : Bool) (parts : List Part) → Covered parts → slice_get words n ≡ Some word → (IsLeaf f words (marks ++ leaf_mark has_end ∷ []) n n word c → Stands f words (marks ++ leaf_mark has_end ∷ []) c n n) → has_end ≡ (lowers f c).has_end → [] ≡ (lowers f c).jumps → Covers (leaf has_end m) (ACode c ∷ parts)
  leaf_covers word c has_end parts covered at stands ends none =
      let own : CodeMark = leaf_mark has_end in
      let is : IsLeaf f words (marks ++ own ∷ []) n n word c = (is_marked own n word (lowers f c).has_end at refl ends, refl) in
      covers_more f words marks (ACode c) parts n m.jumps m.jumps own covered (stands is) refl
      (sym (append-nil m.jumps) ∙ ap (λ (more : List Exit). m.jumps ++ more) none) tt

  exit_covers : (node : ℕ) (exit : Exit) (parts : List Part) → Covered parts → slice_get words n ≡ Some (ops.Exits node exit) → Covers (marked f (ops.Exits node exit) m) (ACode (code.Exits node exit) ∷ parts)
  exit_covers node exit parts covered at =
      let own : CodeMark = leaf_mark false in
      covers_more f words marks (ACode (code.Exits node exit)) parts n m.jumps (marked f (ops.Exits node exit) m).jumps own covered
      (is_marked own n (ops.Exits node exit) false at refl refl, refl) refl refl tt

  act_ends : (last : Bool) (node : ℕ) (by : Done) → not last ≡ (act_by f last node by).has_end
  act_ends true node by = refl
  act_ends false node by = refl

  act_jumps : (last : Bool) (node : ℕ) (by : Done) → [] ≡ (act_by f last node by).jumps
  act_jumps true node by = refl
  act_jumps false node by = refl

  -- Words that are made of the code before.

  -- the code before, with one word more
  one_covers : (inner : Code) (part : Part) (parts : List Part) (own : CodeMark) (left : List Exit) (covered : Covered (ACode inner ∷ parts)) → (own.start ≡ (last m).start) → (own.jumps ≡ (last m).jumps) → ((s : ℕ) → own.start ≡ s → (last m).has_end ≡ (lowers f inner).has_end → OneBefore f words (marks ++ own ∷ []) (Stands f words (marks ++ own ∷ []) inner) s n → StandsPart f words (marks ++ own ∷ []) part s n) → left ≡ covered.1.1.0 ++ jumps_of f part → ((s : ℕ) → (before : List Exit) → (last m).start ≡ s → Cover f words marks parts s before → Follows f words (marks ++ own ∷ []) part parts s n) → Cover f words (marks ++ own ∷ []) (part ∷ parts) (length (marks ++ own ∷ [])) left
  one_covers inner part parts own left covered starts jumps stands are follows =
      let s : ℕ = covered.0 in
      let e : ℕ = covered.1.0 in
      let before : List Exit = covered.1.1.0 in
      let said : Says f words marks s (n - 1) (lowers f inner).has_end × ((last m).jumps ≡ length before) = last_says inner parts n m.jumps covered in
      let one : OneBefore f words (marks ++ own ∷ []) (Stands f words (marks ++ own ∷ []) inner) s n =
      (e, (covered.1.1.1.0, still_stands f words marks (own ∷ []) inner s e covered.1.1.1.1.0)) in
      covers_more f words marks part parts s before left own covered.1.1.1.1.1.1.1.1
      (stands s (starts ∙ said.0.0) said.0.1 one) (jumps ∙ said.1) are (follows s before said.0.0 covered.1.1.1.1.1.1.1.1)

  -- the two codes before, with one word more
  two_covers : (one another : Code) (part : Part) (parts : List Part) (own : CodeMark) (left : List Exit) (covered : Covered (ACode another ∷ ACode one ∷ parts)) → (own.start ≡ (first m).start) → (own.jumps ≡ (first m).jumps) → ((s : ℕ) → own.start ≡ s → (first m).has_end ≡ (lowers f one).has_end → (last m).has_end ≡ (lowers f another).has_end → TwoBefore f words (marks ++ own ∷ []) (Stands f words (marks ++ own ∷ []) one) (Stands f words (marks ++ own ∷ []) another) s n → StandsPart f words (marks ++ own ∷ []) part s n) → ((before : List Exit) → (first m).has_end ≡ (lowers f one).has_end → (last m).jumps ≡ length (before ++ (lowers f one).jumps) → m.jumps ≡ (before ++ (lowers f one).jumps) ++ (lowers f another).jumps → left ≡ before ++ jumps_of f part) → ((s : ℕ) → (before : List Exit) → (first m).start ≡ s → (first m).has_end ≡ (lowers f one).has_end → (last m).has_end ≡ (lowers f another).has_end → Cover f words marks parts s before → Follows f words (marks ++ own ∷ []) part parts s n) → Cover f words (marks ++ own ∷ []) (part ∷ parts) (length (marks ++ own ∷ [])) left
  two_covers one another part parts own left covered starts jumps stands are follows =
      let s2 : ℕ = covered.0 in
      let e2 : ℕ = covered.1.0 in
      let before2 : List Exit = covered.1.1.0 in
      let firsts : Cover f words marks (ACode one ∷ parts) s2 before2 = covered.1.1.1.1.1.1.1.1 in
      let s : ℕ = firsts.0 in
      let e : ℕ = firsts.1.0 in
      let before : List Exit = firsts.1.1.0 in
      let said2 : Says f words marks s2 (n - 1) (lowers f another).has_end × ((last m).jumps ≡ length before2) = last_says another (ACode one ∷ parts) n m.jumps covered in
      let said1 : Says f words marks s (s2 - 1) (lowers f one).has_end × ((mark_at marks (s2 - 1)).jumps ≡ length before) = last_says one parts s2 before2 firsts in
      let P : ℕ → Type 0 = λ k. Says f words marks s (k - 1) (lowers f one).has_end × ((mark_at marks (k - 1)).jumps ≡ length before) in
      let said : Says f words marks s ((last m).start - 1) (lowers f one).has_end × ((first m).jumps ≡ length before) = subst P (sym said2.0.0) said1 in
      let stands1 : Stands f words (marks ++ own ∷ []) one s e = still_stands f words marks (own ∷ []) one s e firsts.1.1.1.1.0 in
      let stands2 : Stands f words (marks ++ own ∷ []) another (suc e) e2 =
      subst (λ (begins : ℕ). Stands f words (marks ++ own ∷ []) another begins e2) firsts.1.1.1.0
      (still_stands f words marks (own ∷ []) another s2 e2 covered.1.1.1.1.0) in
      let two : TwoBefore f words (marks ++ own ∷ []) (Stands f words (marks ++ own ∷ []) one) (Stands f words (marks ++ own ∷ []) another) s n =
      (e2, (e, (covered.1.1.1.0, (stands1, stands2)))) in
      let before2_is : before2 ≡ before ++ (lowers f one).jumps = firsts.1.1.1.1.1.1.0 in
      let all : m.jumps ≡ (before ++ (lowers f one).jumps) ++ (lowers f another).jumps =
      covered.1.1.1.1.1.1.0 ∙ ap (λ (js : List Exit). js ++ (lowers f another).jumps) before2_is in
      covers_more f words marks part parts s before left own firsts.1.1.1.1.1.1.1.1
      (stands s (starts ∙ said.0.0) said.0.1 said2.0.1 two) (jumps ∙ said.1)
      (are before said.0.1 (said2.1 ∙ ap (λ (js : List Exit). length js) before2_is) all)
      (follows s before said.0.0 said.0.1 said2.0.1 firsts.1.1.1.1.1.1.1.1)

  -- jumps of a code behind one without an end are cut off
  cut_is : (has_end : Bool) (count : ℕ) (before one another jumps : List Exit) → count ≡ length (before ++ one) → jumps ≡ (before ++ one) ++ another → cut has_end count jumps ≡ before ++ (one ++ jumps_if has_end another)
  cut_is true count before one another jumps counts are = are ∙ append_assoc before one another
  cut_is false count before one another jumps counts are =
      ap (λ (k : ℕ). take k jumps) counts ∙ ap (take (length (before ++ one))) are
      ∙ take-append_seam (before ++ one) another ∙ ap (λ (js : List Exit). before ++ js) (sym (append-nil one))

  both_are : (h g : Bool) (h' g' : Bool) → h ≡ h' → g ≡ g' → (h && g) ≡ (h' && g')
  both_are h g h' g' is are = ap (λ (b : Bool). b && g) is ∙ ap (λ (b : Bool). h' && b) are

  either_are : (h g : Bool) (h' g' : Bool) → h ≡ h' → g ≡ g' → (h || g) ≡ (h' || g')
  either_are h g h' g' is are = ap (λ (b : Bool). b || g) is ∙ ap (λ (b : Bool). h' || b) are

  abbrev one_mark : CodeMark
  one_mark = record (last m) { arms = 0 }

  plain_one : (word : CodeWord) (inner c : Code) (parts : List Part) → (covered : Covered (ACode inner ∷ parts)) → slice_get words n ≡ Some word → ((s : ℕ) → IsMarked f words (marks ++ one_mark ∷ []) s n word (lowers f c).has_end × OneBefore f words (marks ++ one_mark ∷ []) (Stands f words (marks ++ one_mark ∷ []) inner) s n → Stands f words (marks ++ one_mark ∷ []) c s n) → (lowers f inner).has_end ≡ (lowers f c).has_end → (lowers f inner).jumps ≡ (lowers f c).jumps → Covers (around_one m) (ACode c ∷ parts)
  plain_one word inner c parts covered at stands ends jumps =
      one_covers inner (ACode c) parts one_mark m.jumps covered refl refl
      (λ s starts had one. stands s (is_marked one_mark s word (lowers f c).has_end at starts (had ∙ ends), one))
      (covered.1.1.1.1.1.1.0 ∙ ap (λ (js : List Exit). covered.1.1.0 ++ js) jumps)
      (λ s before starts rest. tt)

  abbrev both_mark : CodeMark
  both_mark = record (first m) { has_end = both_end m; arms = 0 }

  then_covers : (one another : Code) (parts : List Part) → Covered (ACode another ∷ ACode one ∷ parts) → slice_get words n ≡ Some ops.Then → Covers (of_both m) (ACode (code.Then one another) ∷ parts)
  then_covers one another parts covered at =
      two_covers one another (ACode (code.Then one another)) parts both_mark (of_both m).jumps covered refl refl
      (λ s starts had1 had2 two. (
        is_marked both_mark s ops.Then (lowers f (code.Then one another)).has_end at starts
            (both_are (first m).has_end (last m).has_end (lowers f one).has_end (lowers f another).has_end had1 had2),
        two,
      ))
      (λ before had1 counts are. ap (λ (b : Bool). cut b (last m).jumps m.jumps) had1
      ∙ cut_is (lowers f one).has_end (last m).jumps before (lowers f one).jumps (lowers f another).jumps m.jumps counts are)
      (λ s before starts had1 had2 rest. tt)

  abbrev either_mark : CodeMark
  either_mark = record (first m) { has_end = (first m).has_end || (last m).has_end; arms = 0 }

  branch_covers : (node : ℕ) (on : code.Condition) (one another : Code) (parts : List Part) → Covered (ACode another ∷ ACode one ∷ parts) → slice_get words n ≡ Some (ops.Branches node on) → Covers (of_either m) (ACode (code.Branches node on one another) ∷ parts)
  branch_covers node on one another parts covered at =
      two_covers one another (ACode (code.Branches node on one another)) parts either_mark m.jumps covered refl refl
      (λ s starts had1 had2 two. (
        is_marked either_mark s (ops.Branches node on) (lowers f (code.Branches node on one another)).has_end at starts
            (either_are (first m).has_end (last m).has_end (lowers f one).has_end (lowers f another).has_end had1 had2),
        two,
      ))
      (λ before had1 counts are. are ∙ append_assoc before (lowers f one).jumps (lowers f another).jumps)
      (λ s before starts had1 had2 rest. tt)

  abbrev loop_mark : ℕ → CodeMark
  loop_mark id = record (last m) { has_end = is_left_by id (own_jumps m); arms = 0 }

  loop_covers : (id : ℕ) (turn : Code) (parts : List Part) → Covered (ACode turn ∷ parts) → slice_get words n ≡ Some (ops.Loops id) → Covers (around_loop id m) (ACode (code.Loops id turn) ∷ parts)
  loop_covers id turn parts covered at =
      let before : List Exit = covered.1.1.0 in
      let said : Says f words marks covered.0 (n - 1) (lowers f turn).has_end × ((last m).jumps ≡ length before) = last_says turn parts n m.jumps covered in
      let are : m.jumps ≡ before ++ (lowers f turn).jumps = covered.1.1.1.1.1.1.0 in
      let kept : take (last m).jumps m.jumps ≡ before =
      ap (λ (k : ℕ). take k m.jumps) said.1 ∙ ap (take (length before)) are ∙ take-append_seam before (lowers f turn).jumps in
      let own : own_jumps m ≡ (lowers f turn).jumps =
      ap (λ (k : ℕ). drop k m.jumps) said.1 ∙ ap (drop (length before)) are ∙ drop-append_seam before (lowers f turn).jumps in
      one_covers turn (ACode (code.Loops id turn)) parts (loop_mark id) (around_loop id m).jumps covered refl refl
      (λ s starts had one. (is_marked (loop_mark id) s (ops.Loops id) (lowers f (code.Loops id turn)).has_end at starts (ap (is_left_by id) own), one))
      (ap (λ (js : List Exit). js ++ outside id (own_jumps m)) kept ∙ ap (λ (js : List Exit). before ++ outside id js) own)
      (λ s before starts rest. tt)

  -- Arms.

  begin_covers : (parts : List Part) → Covered parts → slice_get words n ≡ Some ops.BeforeArms → Covers (before_arms m) (ArmsBegin ∷ parts)
  begin_covers parts covered at =
      let own : CodeMark = record { start = n; jumps = length m.jumps; has_end = false; arms = n } in
      let same : mark_at (marks ++ own ∷ []) n ≡ own = last_marked f words marks own in
      covers_more f words marks ArmsBegin parts n m.jumps m.jumps own covered (at, refl) refl (sym (append-nil m.jumps))
      (ap (λ (o : CodeMark). o.has_end) same, ap (λ (o : CodeMark). o.arms) same)

  empty_covers : (parts : List Part) → Covered parts → slice_get words n ≡ Some ops.EmptyArm → Covers (empty_arm m) (AnArm Empty ∷ parts)
  empty_covers parts covered at =
      let own : CodeMark = arm_behind (last m) true (record { start = n; jumps = length m.jumps; has_end = true; arms = 0 }) in
      covers_more f words marks (AnArm Empty) parts n m.jumps m.jumps own covered
      (is_arm_marked own n ops.EmptyArm at refl, refl) refl (sym (append-nil m.jumps))
      (arm_follows own parts n n m.jumps true covered refl refl refl)

  abbrev arm_mark : CodeMark
  arm_mark = arm_behind (mark_at marks ((last m).start - 1)) (last m).has_end (last m)

  arm_covers : (tests : _) (inner : Code) (parts : List Part) → Covered (ACode inner ∷ parts) → slice_get words n ≡ Some (ops.IsArm tests None) → Covers (arm_of_one m) (AnArm (Taken tests no_guard inner) ∷ parts)
  arm_covers tests inner parts covered at =
      let said : Says f words marks covered.0 (n - 1) (lowers f inner).has_end × ((last m).jumps ≡ length covered.1.1.0) = last_says inner parts n m.jumps covered in
      one_covers inner (AnArm (Taken tests no_guard inner)) parts arm_mark m.jumps covered refl refl
      (λ s starts had one. (is_arm_marked arm_mark s (ops.IsArm tests None) at starts, one))
      covered.1.1.1.1.1.1.0
      (λ s before starts rest. arm_follows arm_mark parts (last m).start s before (lowers f inner).has_end rest starts
      (ap (λ (b : Bool). (mark_at marks ((last m).start - 1)).has_end || b) said.0.1) refl)

  abbrev guarded_mark : CodeMark
  guarded_mark = arm_behind (mark_at marks ((first m).start - 1)) (both_end m) (first m)

  guarded_covers : (tests : _) (key : ℕ) (guard inner : Code) (parts : List Part) → Covered (ACode inner ∷ ACode guard ∷ parts) → slice_get words n ≡ Some (ops.IsArm tests (Some key)) → Covers (arm_of_two m) (AnArm (Taken tests (a_guard key guard) inner) ∷ parts)
  guarded_covers tests key guard inner parts covered at =
      two_covers guard inner (AnArm (Taken tests (a_guard key guard) inner)) parts guarded_mark (arm_of_two m).jumps covered refl refl
      (λ s starts had1 had2 two. (is_arm_marked guarded_mark s (ops.IsArm tests (Some key)) at starts, two))
      (λ before had1 counts are. ap (λ (b : Bool). cut b (last m).jumps m.jumps) had1
      ∙ cut_is (lowers f guard).has_end (last m).jumps before (lowers f guard).jumps (lowers f inner).jumps m.jumps counts are)
      (λ s before starts had1 had2 rest. arm_follows guarded_mark parts (first m).start s before ((lowers f guard).has_end && (lowers f inner).has_end) rest starts
      (ap (λ (b : Bool). (mark_at marks ((first m).start - 1)).has_end || b)
      (both_are (first m).has_end (last m).has_end (lowers f guard).has_end (lowers f inner).has_end had1 had2)) refl)

  abbrev match_mark : CodeMark
  match_mark = record { start = (last m).arms; jumps = (mark_at marks (last m).arms).jumps; has_end = (last m).has_end; arms = 0 }

  match_covers : (node : ℕ) (parts : List Part) (found : Arms × List Part) → gathered no_arm parts ≡ Some found → Covered parts → slice_get words n ≡ Some (ops.Matches node) → Covers (of_arms m) (matching node found)
  match_covers node parts found are covered at =
      let g : Gathered f words marks n n m.jumps false found =
      gathers_cover f words marks parts no_arm found n n m.jumps m.jumps are covered refl (sym (append-nil m.jumps)) in
      let s : ℕ = g.0 in
      let before : List Exit = g.1.0 in
      let c : Code = code.Matches node found.0 in
      let ends : (last m).has_end ≡ (lowers f c).has_end = sym (g.1.1.1.1.1.1.1.0 ∙ or-false (last m).has_end) in
      let own : CodeMark = match_mark in
      let begin : (mark_at marks (last m).arms).jumps ≡ length before =
      ap (λ (k : ℕ). (mark_at marks k).jumps) g.1.1.1.1.1.1.0 ∙ g.1.1.1.1.0.1 in
      covers_more f words marks (ACode c) found.1 s before m.jumps own g.1.1.1.1.1.1.1.1
      (is_marked own s (ops.Matches node) (lowers f c).has_end at g.1.1.1.1.1.1.0 ends, (g.1.1.0, arms_still_stand f words marks (own ∷ []) found.0 (suc s) n g.1.1.1.0))
      begin g.1.1.1.1.1.0 tt

  to_match : (node : ℕ) (parts parts' : List Part) (o : Option (Arms × List Part)) → gathered no_arm parts ≡ o → matched node o ≡ Some parts' → Covered parts → slice_get words n ≡ Some (ops.Matches node) → Covers (of_arms m) parts'
  to_match node parts parts' None are is covered at = absurd (none-some parts' is)
  to_match node parts parts' (Some found) are is covered at =
      subst (Covers (of_arms m)) (same_Some (matching node found) parts' is) (match_covers node parts found are covered at)

  scoped_jumps : (has_end : Bool) (jumps : List Exit) → jumps ≡ jumps ++ jumps_if has_end []
  scoped_jumps true jumps = sym (append-nil jumps)
  scoped_jumps false jumps = sym (append-nil jumps)

  -- Any word.

  one_taken : (make : Code → Part) (after : Marking) (parts parts' : List Part) → ((inner : Code) (rest : List Part) → Covered (ACode inner ∷ rest) → Covers after (make inner ∷ rest)) → of_one make parts ≡ Some parts' → Covered parts → Covers after parts'
  one_taken make after [] parts' step is covered = absurd (none-some parts' is)
  one_taken make after (ACode inner ∷ rest) parts' step is covered = subst (Covers after) (same_Some (make inner ∷ rest) parts' is) (step inner rest covered)
  one_taken make after (AnArm arm ∷ rest) parts' step is covered = absurd (none-some parts' is)
  one_taken make after (ArmsBegin ∷ rest) parts' step is covered = absurd (none-some parts' is)

  two_taken : (make : Code → Code → Part) (after : Marking) (parts parts' : List Part) → ((one another : Code) (rest : List Part) → Covered (ACode another ∷ ACode one ∷ rest) → Covers after (make one another ∷ rest)) → of_two make parts ≡ Some parts' → Covered parts → Covers after parts'
  two_taken make after [] parts' step is covered = absurd (none-some parts' is)
  two_taken make after (ACode another ∷ []) parts' step is covered = absurd (none-some parts' is)
  two_taken make after (ACode another ∷ ACode one ∷ rest) parts' step is covered = subst (Covers after) (same_Some (make one another ∷ rest) parts' is) (step one another rest covered)
  two_taken make after (ACode another ∷ AnArm arm ∷ rest) parts' step is covered = absurd (none-some parts' is)
  two_taken make after (ACode another ∷ ArmsBegin ∷ rest) parts' step is covered = absurd (none-some parts' is)
  two_taken make after (AnArm arm ∷ rest) parts' step is covered = absurd (none-some parts' is)
  two_taken make after (ArmsBegin ∷ rest) parts' step is covered = absurd (none-some parts' is)

  none_taken : (after : Marking) (made parts' : List Part) → Covers after made → Some made ≡ Some parts' → Covers after parts'
  none_taken after made parts' covers is = subst (Covers after) (same_Some made parts' is) covers

  pub marked_covers : (word : CodeWord) (parts parts' : List Part) → Covered parts → slice_get words n ≡ Some word → taken word parts ≡ Some parts' → Covers (marked f word m) parts'
  marked_covers ops.Nothing parts parts' covered at is =
      none_taken (leaf true m) (ACode code.Nothing ∷ parts) parts' (leaf_covers ops.Nothing code.Nothing true parts covered at (λ same. same) refl refl) is
  marked_covers (ops.Changes change) parts parts' covered at is =
      none_taken (leaf true m) (ACode (code.Changes change) ∷ parts) parts' (leaf_covers (ops.Changes change) (code.Changes change) true parts covered at (λ same. same) refl refl) is
  marked_covers (ops.From change) parts parts' covered at is =
      one_taken (λ inner. ACode (code.From change inner)) (around_one m) parts parts'
      (λ inner rest covers. plain_one (ops.From change) inner (code.From change inner) rest covers at (λ s both. both) refl refl) is covered
  marked_covers ops.Then parts parts' covered at is =
      two_taken (λ one another. ACode (code.Then one another)) (of_both m) parts parts' (λ one another rest covers. then_covers one another rest covers at) is covered
  marked_covers ops.BackIn parts parts' covered at is =
      one_taken (λ inner. ACode (code.BackIn inner)) (around_one m) parts parts'
      (λ inner rest covers. plain_one ops.BackIn inner (code.BackIn inner) rest covers at (λ s both. both) refl refl) is covered
  marked_covers (ops.Acts node action) parts parts' covered at is =
      none_taken (marked f (ops.Acts node action) m) (ACode (code.Acts node action) ∷ parts) parts'
      (leaf_covers (ops.Acts node action) (code.Acts node action) (not (is_last f action)) parts covered at (λ same. same)
      (act_ends (is_last f action) node (done_by f action)) (act_jumps (is_last f action) node (done_by f action))) is
  marked_covers (ops.InScope node for_temporaries) parts parts' covered at is =
      one_taken (λ inner. ACode (code.InScope node for_temporaries inner)) (around_one m) parts parts'
      (λ inner rest covers. plain_one (ops.InScope node for_temporaries) inner (code.InScope node for_temporaries inner) rest covers at (λ s both. both)
      (sym (and-true (lowers f inner).has_end)) (scoped_jumps (lowers f inner).has_end (lowers f inner).jumps)) is covered
  marked_covers ops.Leaves parts parts' covered at is =
      none_taken (leaf true m) (ACode code.Leaves ∷ parts) parts' (leaf_covers ops.Leaves code.Leaves true parts covered at (λ same. same) refl refl) is
  marked_covers (ops.Branches node on) parts parts' covered at is =
      two_taken (λ one another. ACode (code.Branches node on one another)) (of_either m) parts parts' (λ one another rest covers. branch_covers node on one another rest covers at) is covered
  marked_covers (ops.Loops id) parts parts' covered at is =
      one_taken (λ turn. ACode (code.Loops id turn)) (around_loop id m) parts parts' (λ turn rest covers. loop_covers id turn rest covers at) is covered
  marked_covers (ops.Exits node exit) parts parts' covered at is =
      none_taken (marked f (ops.Exits node exit) m) (ACode (code.Exits node exit) ∷ parts) parts' (exit_covers node exit parts covered at) is
  marked_covers (ops.Panics node why) parts parts' covered at is =
      none_taken (leaf false m) (ACode (code.Panics node why) ∷ parts) parts' (leaf_covers (ops.Panics node why) (code.Panics node why) false parts covered at (λ same. same) refl refl) is
  marked_covers (ops.Replaces site key) parts parts' covered at is =
      none_taken (leaf true m) (ACode (code.Replaces site key) ∷ parts) parts' (leaf_covers (ops.Replaces site key) (code.Replaces site key) true parts covered at (λ same. same) refl refl) is
  marked_covers (ops.Drops key) parts parts' covered at is =
      none_taken (leaf true m) (ACode (code.Drops key) ∷ parts) parts' (leaf_covers (ops.Drops key) (code.Drops key) true parts covered at (λ same. same) refl refl) is
  marked_covers ops.BeforeArms parts parts' covered at is =
      none_taken (before_arms m) (ArmsBegin ∷ parts) parts' (begin_covers parts covered at) is
  marked_covers (ops.IsArm tests None) parts parts' covered at is =
      one_taken (λ inner. AnArm (Taken tests no_guard inner)) (arm_of_one m) parts parts' (λ inner rest covers. arm_covers tests inner rest covers at) is covered
  marked_covers (ops.IsArm tests (Some key)) parts parts' covered at is =
      two_taken (λ guard inner. AnArm (Taken tests (a_guard key guard) inner)) (arm_of_two m) parts parts' (λ guard inner rest covers. guarded_covers tests key guard inner rest covers at) is covered
  marked_covers ops.EmptyArm parts parts' covered at is =
      none_taken (empty_arm m) (AnArm Empty ∷ parts) parts' (empty_covers parts covered at) is
  marked_covers (ops.Matches node) parts parts' covered at is = to_match node parts parts' (gathered no_arm parts) refl is covered at

-- All words.

module _ (f : LoweringFrame) where
  length_marked : (word : CodeWord) (m : Marking) → length (marked f word m).marks ≡ suc (length m.marks)
  length_marked ops.Nothing m = length_push m.marks _
  length_marked (ops.IsArm tests None) m = length_push m.marks _
  length_marked (ops.IsArm tests (Some key)) m = length_push m.marks _
  length_marked other m = length_push m.marks _

  abbrev CoversAll : (words done : List CodeWord) → Marking → Type 0
  CoversAll words done m = (parts : List Part) → parted (reverse done) ≡ Some parts → Cover f words m.marks parts (length m.marks) m.jumps

  reverse_push : (done : List CodeWord) (word : CodeWord) → reverse (done ++ word ∷ []) ≡ word ∷ reverse done
  reverse_push done word = reverse-append done (word ∷ [])

  at_seam : (done rest : List CodeWord) (word : CodeWord) → slice_get (done ++ word ∷ rest) (length done) ≡ Some word
  at_seam [] rest word = refl
  at_seam (one ∷ done) rest word = at_seam done rest word

  word_covers : (words done rest : List CodeWord) (word : CodeWord) (m : Marking) → words ≡ done ++ word ∷ rest → length m.marks ≡ length done → CoversAll words done m → CoversAll words (done ++ word ∷ []) (marked f word m)
  word_covers words done rest word m split counts covers = λ parts' are.
      by_parts parts' (parted (reverse done)) refl (sym (ap parted (reverse_push done word)) ∙ are)
    where
      here : slice_get words (length m.marks) ≡ Some word
      here = ap (slice_get words) counts ∙ ap (λ (ws : List CodeWord). slice_get ws (length done)) split ∙ at_seam done rest word

      by_parts : (parts' : List Part) (o : Option (List Part)) → parted (reverse done) ≡ o → option_and_then (taken word) o ≡ Some parts' → Cover f words (marked f word m).marks parts' (length (marked f word m).marks) (marked f word m).jumps
      by_parts parts' None is are = absurd (none-some parts' are)
      by_parts parts' (Some parts) is are = marked_covers f words m word parts parts' (covers parts is) here are

  pub all_cover : (words done rest : List CodeWord) (m : Marking) → words ≡ done ++ rest → length m.marks ≡ length done → CoversAll words done m → CoversAll words words (all_marked f rest m)
  all_cover words done [] m split counts covers = subst (λ (ws : List CodeWord). CoversAll words ws m) (sym (split ∙ append-nil done)) covers
  all_cover words done (word ∷ rest) m split counts covers =
      all_cover words (done ++ word ∷ []) rest (marked f word m)
      (split ∙ sym (append_assoc done (word ∷ []) rest))
      (length_marked word m ∙ ap suc counts ∙ sym (length_push done word))
      (word_covers words done rest word m split counts covers)

  length_all : (words : List CodeWord) (m : Marking) → length (all_marked f words m).marks ≡ length m.marks + length words
  length_all [] m = sym (add-zero (length m.marks))
  length_all (word ∷ words) m = length_all words (marked f word m) ∙ ap (λ k. k + length words) (length_marked word m) ∙ (omega arith)

  -- the code of which the words are stands at all of them
  pub all_stand : (words : List CodeWord) (c : Code) → reverse words ≡ onto c [] → Stands f words (all_marked f words none_marked).marks c 0 (length words - 1)
  all_stand words c are =
      let m : Marking = all_marked f words none_marked in
      let start : CoversAll words [] none_marked = λ parts is. subst (λ ps. Cover f words [] ps 0 []) (same_Some [] parts is) (refl, refl) in
      let covered : Cover f words m.marks (ACode c ∷ []) (length m.marks) m.jumps =
      all_cover words [] words none_marked refl refl start (ACode c ∷ []) (ap parted are ∙ parts_of c [] [] refl) in
      let e : ℕ = covered.1.0 in
      let counts : length m.marks ≡ length words = length_all words none_marked ∙ (omega arith) in
      let ends : e ≡ length words - 1 = sym (before_is (length words) e (sym counts ∙ covered.1.1.1.0)) in
      subst (λ at. Stands f words m.marks c 0 at) ends
      (subst (λ at. Stands f words m.marks c at e) covered.1.1.1.1.1.1.1.1.0 covered.1.1.1.1.0)
