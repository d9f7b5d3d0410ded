-- The typed program of a text is well typed and breaks no rule of borrows, so its jumps name loops around them, the
-- numbers of its nodes rise, its graph has no fault and is prepared for drop elaboration, and it passes all checks where
-- it is accepted.
use Rattle.std.proofs.Common.{◌≡◌, ℕ, List, Option, Some, None, Result, Ok, Err, IfOk, refl, subst}
use Rattle.lower_laws.proofs.AcceptedWhole.{are_lowerable, accepted_graphs_are_well_formed}
use Rattle.lower_ready.proofs.Prepared.{graphs_are_prepared}
use Rattle.lower_rules.proofs.Typed.{bodies_name_loops}
use Rattle.lower_rules.specs.Laws.{AllNameTheirLoops}
use Rattle.lower_laws.proofs.Exact.{bodies_rise}
use Rattle.soundness_values.specs.Laws.{IsSound}
use Rattle.src_meaning.specs.Programs.{IsAccepted}
use Rattle.src_tree.specs.View.{items_of}
use Rattle.typing_soundness.specs.Texts.{IsTypedProgram}
use Rattle.typing_soundness.proofs.Texts.{read_is_typed}
use Rattle.typed_tree.specs.Tree.{ProgramTree}
use Rattle.typing_rules.specs.Borrows.{broken_borrow, unless_broken, unless_borrows}
use Rattle.typing_rules.specs.Check.{Broken}
use Rattle.typing_rules.specs.Program.{typed_program}
use Rattle.well_typed.specs.Program.{WellTyped}
use Rattle.mir_pipeline.specs.Building.{HasGraph}
use Rattle.mir_pipeline.specs.Programs.{IsProgramOf}
use Rattle.mir_pipeline.specs.Trees.{end_place}

is_typed : (text : List ℕ) (program : ProgramTree) → IsProgramOf text program → IsTypedProgram program
is_typed text program (tree, (tokens, cut, is), read) = read_is_typed text tokens (end_place text) tree program cut is read

-- so of what is answered
pub typed_result : {A E : Type 0} (text : List ℕ) (program : A → ProgramTree) (r : Result A E) → IfOk r (λ a. IsProgramOf text
    (program a)) → IfOk r (λ a. WellTyped (program a))
typed_result text program (Ok a) h = (is_typed text (program a) h).well_typed
typed_result text program (Err e) h = h

pub name_their_loops : (text : List ℕ) (program : ProgramTree) → IsProgramOf text program → AllNameTheirLoops program
name_their_loops text program p =
    bodies_name_loops program.items 0 program.items.bodies program.bodies (is_typed text program p).well_typed.1

-- what is read breaks no rule of borrows
unbroken : (r : Result ProgramTree Broken) (program : ProgramTree) → unless_borrows r ≡ Ok program →
    broken_borrow program ≡ None
unbroken (Ok found) program e = by (broken_borrow found) refl e
  where
    by : (o : Option Broken) → broken_borrow found ≡ o → unless_broken found o ≡ Ok program →
        broken_borrow program ≡ None
    by None none k = let same : found ≡ program = cc in subst (λ (p : ProgramTree). broken_borrow p ≡ None) same none
    by (Some broken) none k = let never : ⊥ = cc in absurd never
unbroken (Err broken) program e = let never : ⊥ = cc in absurd never

keeps_borrows : (text : List ℕ) (program : ProgramTree) → IsProgramOf text program → broken_borrow program ≡ None
keeps_borrows text program (tree, is, read) = unbroken (typed_program (items_of tree) tree.end) program read

-- where it is accepted too, it passes all checks
pub is_sound : (text : List ℕ) (program : ProgramTree) → IsProgramOf text program → IsAccepted program → IsSound program
is_sound text program p accepted = record {
  typed = (is_typed text program p).well_typed;
  borrows = keeps_borrows text program p;
  accepted = accepted;
}

pub has_graph : (text : List ℕ) (program : ProgramTree) → IsProgramOf text program → HasGraph program
has_graph text program p = (
  name_their_loops text program p,
  bodies_rise program.items 0 program.items.bodies program.bodies (is_typed text program p).well_typed.1,
  accepted_graphs_are_well_formed program (is_typed text program p),
  graphs_are_prepared program (is_typed text program p).well_typed (are_lowerable program (is_typed text program p))
      (keeps_borrows text program p),
  is_sound text program p,
)
