-- What is marked at each word, by what is marked before it.
use Rattle.std.specs.Prelude.{ℕ, ◌-◌, not, Bool, true, false, ◌&&◌, ◌||◌, List, [], ◌∷◌, ◌++◌, length, map, take, drop, Some, None, slice_get}
use Rattle.std.specs.Option.{unwrap_or}
use Rattle.src_meaning.specs.Scopes.{Exit}
use Rattle.lower_code.specs.Ops as ops
use Rattle.lower_code.specs.Ops.{CodeWord}
use Rattle.lower_code.specs.View.{exit_of}
use Rattle.lower_rules.specs.Build.{LoweringFrame, is_last, is_left_by, naming, outside}
use Rattle.lower_passes.specs.declared.mark_pass.CodeMarks.{CodeMarks}
use Rattle.lower_passes.specs.declared.marks.CodeMark.{CodeMark}

-- the marks so far, and the jumps out of the code before, each behind those before it
pub record Marking : Type 0 where
  pub marks : List CodeMark
  pub jumps : List Exit

abbrev pub marking_of : CodeMarks → Marking
marking_of m = record { marks = m.marks; jumps = map exit_of m.jumps }

abbrev pub no_mark : CodeMark
no_mark = record { start = 0; jumps = 0; has_end = false; arms = 0 }

abbrev pub mark_at : List CodeMark → ℕ → CodeMark
mark_at marks end = unwrap_or (slice_get marks end) no_mark

-- the code just before, and the one before that
abbrev pub last : Marking → CodeMark
last m = mark_at m.marks (length m.marks - 1)

abbrev pub first : Marking → CodeMark
first m = mark_at m.marks ((last m).start - 1)

abbrev pub with_mark : CodeMark → Marking → Marking
with_mark mark m = record m { marks = m.marks ++ mark ∷ [] }

-- code that is one word
abbrev pub leaf : Bool → Marking → Marking
leaf has_end m =
    with_mark (record { start = length m.marks; jumps = length m.jumps; has_end = has_end; arms = 0 }) m

abbrev pub leaves : Exit → Marking → Marking
leaves exit m = record (leaf false m) { jumps = m.jumps ++ naming exit }

-- code that is made of the one before, or of two
abbrev pub around_one : Marking → Marking
around_one m = with_mark (record (last m) { arms = 0 }) m

abbrev pub cut : Bool → ℕ → List Exit → List Exit
cut true count jumps = jumps
cut false count jumps = take count jumps

abbrev pub both_end : Marking → Bool
both_end m = (first m).has_end && (last m).has_end

abbrev pub of_both : Marking → Marking
of_both m = record {
  marks = m.marks ++ record (first m) { has_end = both_end m; arms = 0 } ∷ [];
  jumps = cut (first m).has_end (last m).jumps m.jumps;
}

abbrev pub of_either : Marking → Marking
of_either m = with_mark (record (first m) { has_end = (first m).has_end || (last m).has_end; arms = 0 }) m

abbrev pub own_jumps : Marking → List Exit
own_jumps m = drop (last m).jumps m.jumps

abbrev pub around_loop : ℕ → Marking → Marking
around_loop id m = record {
  marks = m.marks ++ record (last m) { has_end = is_left_by id (own_jumps m); arms = 0 } ∷ [];
  jumps = take (last m).jumps m.jumps ++ outside id (own_jumps m);
}

-- An arm has the mark of the word before all arms, and whether a run comes behind one of those so far.

abbrev pub before_arms : Marking → Marking
before_arms m =
    with_mark (record { start = length m.marks; jumps = length m.jumps; has_end = false; arms = length m.marks }) m

-- an arm that begins at a word, behind those before it
abbrev pub arm_behind : (before : CodeMark) → Bool → CodeMark → CodeMark
arm_behind before has_end own = record own { has_end = before.has_end || has_end; arms = before.arms }

abbrev pub arm_of_one : Marking → Marking
arm_of_one m =
    with_mark (arm_behind (mark_at m.marks ((last m).start - 1)) (last m).has_end (last m)) m

abbrev pub arm_of_two : Marking → Marking
arm_of_two m = record {
  marks = m.marks ++ arm_behind (mark_at m.marks ((first m).start - 1)) (both_end m) (first m) ∷ [];
  jumps = cut (first m).has_end (last m).jumps m.jumps;
}

abbrev pub empty_arm : Marking → Marking
empty_arm m =
    with_mark (arm_behind (last m) true (record {
      start = length m.marks;
      jumps = length m.jumps;
      has_end = true;
      arms = 0;
    })) m

abbrev pub of_arms : Marking → Marking
of_arms m =
    with_mark (record {
      start = (last m).arms;
      jumps = (mark_at m.marks (last m).arms).jumps;
      has_end = (last m).has_end;
      arms = 0;
    }) m

abbrev pub marked : LoweringFrame → CodeWord → Marking → Marking
marked f ops.Nothing = leaf true
marked f (ops.Changes change) = leaf true
marked f (ops.From change) = around_one
marked f ops.Then = of_both
marked f ops.BackIn = around_one
marked f (ops.Acts node action) = leaf (not (is_last f action))
marked f (ops.InScope node for_temporaries) = around_one
marked f ops.Leaves = leaf true
marked f (ops.Branches node on) = of_either
marked f (ops.Loops id) = around_loop id
marked f (ops.Exits node exit) = leaves exit
marked f (ops.Panics node why) = leaf false
marked f (ops.Replaces site key) = leaf true
marked f (ops.Drops key) = leaf true
marked f ops.BeforeArms = before_arms
marked f (ops.IsArm tests None) = arm_of_one
marked f (ops.IsArm tests (Some key)) = arm_of_two
marked f ops.EmptyArm = empty_arm
marked f (ops.Matches node) = of_arms

-- all words in order
abbrev pub all_marked : LoweringFrame → List CodeWord → Marking → Marking
all_marked f [] m = m
all_marked f (word ∷ words) m = all_marked f words (marked f word m)

abbrev pub none_marked : Marking
none_marked = record { marks = []; jumps = [] }
