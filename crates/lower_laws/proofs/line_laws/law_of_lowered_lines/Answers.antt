use Rattle.lower_laws.proofs.WholeLines.{lowered_lines_have_no_fault}
use Rattle.lower_laws.proofs.line_laws.law_of_lowered_lines.Goals as goal

pub returns : goal.returns
returns c = record { lines = lowered_lines_have_no_fault }
