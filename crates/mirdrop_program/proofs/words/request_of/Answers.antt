use Rattle.std.proofs.Common.{sym}
use Rattle.clap.specs.Words.{found_of, rows_of}
use Rattle.mirdrop_program.proofs.Limits.{has_few_functions, has_few_ticks}
use Rattle.mirdrop_program.proofs.words.request_of.Goals as goal

pub returns-in-Ok-Some-clause-ticks : goal.returns-in-Ok-Some-clause-ticks
returns-in-Ok-Some-clause-ticks c = has_few_ticks (rows_of (found_of c.in_ok-found.found)) _ (sym (rw c.in-Ok-Some.field-0-is at c.in-Ok-Some.ensures))

pub returns-in-Ok-Some-clause-functions : goal.returns-in-Ok-Some-clause-functions
returns-in-Ok-Some-clause-functions c = has_few_functions (rows_of (found_of c.in_ok-found.found)) _ (sym (rw c.in-Ok-Some.field-0-is at c.in-Ok-Some.ensures))
