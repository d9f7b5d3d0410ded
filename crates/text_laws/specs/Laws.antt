-- What is read of a text is one thing: it has one program, and is refused where it has none, or one that is not
-- accepted.
use Rattle.std.specs.Prelude.{◌≡◌, ◌≤◌, ℕ, List}
use Rattle.mir_pipeline.specs.Graphs.{IsNotAccepted}
use Rattle.mir_pipeline.specs.Programs.{HasNoProgram, IsProgramOf}
use Rattle.mir_pipeline.specs.declared.refusal.Refusal.{Refusal}
use Rattle.mir_pipeline.specs.declared.refusal.Refusal.TheVariants.{Memory}
use Rattle.soak_text.specs.Text.{soak_text}
use Rattle.src_meaning.specs.Programs.{IsAccepted}
use Rattle.typed_tree.specs.Tree.{ProgramTree}

-- a text has at most one typed program
abbrev pub ProgramsAreOne : Type 0
ProgramsAreOne = (text : List ℕ) (p q : ProgramTree) → IsProgramOf text p → IsProgramOf text q → p ≡ q

-- where it has one, there is no reason why it has none, but want of memory
abbrev pub ProgramsAreRead : Type 0
ProgramsAreRead = (text : List ℕ) (program : ProgramTree) (why : Refusal) → IsProgramOf text program →
    HasNoProgram text why → why ≡ Memory

-- where that is accepted, there is no reason to refuse it, but want of memory
abbrev pub AcceptedAreNotRefused : Type 0
AcceptedAreNotRefused = (text : List ℕ) (program : ProgramTree) (why : Refusal) → IsProgramOf text program →
    IsAccepted program → IsNotAccepted text why → why ≡ Memory

-- so what is made of the text of the program that `soak` runs is refused for want of memory alone
abbrev pub SoakIsNotRefused : Type 0
SoakIsNotRefused = (k : ℕ) (why : Refusal) → 1 ≤ k → k ≤ 1500 → IsNotAccepted (soak_text k) why → why ≡ Memory
