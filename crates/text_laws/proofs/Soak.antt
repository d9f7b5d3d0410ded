-- The text of the program that `soak` runs has an accepted program, so it is not refused.
use Rattle.std.proofs.Common.{ℕ, List}
use Rattle.mir_pipeline.specs.Programs.{IsProgramOf}
use Rattle.soak_laws.specs.Laws.{IsAcceptedProgramOf}
use Rattle.soak_laws.proofs.Accepted.{soak_is_accepted}
use Rattle.soak_text.specs.Text.{soak_text}
use Rattle.text_laws.specs.Laws.{SoakIsNotRefused}
use Rattle.text_laws.proofs.Programs.{accepted_are_not_refused}
use Rattle.typed_tree.specs.Tree.{ProgramTree}

pub is_program_of : (text : List ℕ) (program : ProgramTree) → IsAcceptedProgramOf text program →
    IsProgramOf text program
is_program_of text program is = (is.tree, (is.tokens, is.cut, is.is_tree), is.typed)

pub soak_is_not_refused : SoakIsNotRefused
soak_is_not_refused k why some few refused =
    let (program, is) = soak_is_accepted k some few in
    accepted_are_not_refused (soak_text k) program why (is_program_of (soak_text k) program is) is.accepted refused
