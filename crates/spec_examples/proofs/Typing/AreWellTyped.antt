-- Each program of the examples is well typed, by the test of the rules.
use Rattle.std.proofs.Common.{◌≡◌, true, refl}
use Rattle.well_typed.specs.Program.{is_well_typed}
use Rattle.src_meaning.proofs.Examples.Assignments as assignments
use Rattle.src_meaning.proofs.Examples.Boxes as boxes
use Rattle.src_meaning.proofs.Examples.Closures as closures
use Rattle.src_meaning.proofs.Examples.Conditions as conditions
use Rattle.src_meaning.proofs.Examples.FreeRuns as free_runs
use Rattle.src_meaning.proofs.Examples.JobQueue as job_queue
use Rattle.src_meaning.proofs.Examples.LiteralTests as literal_tests
use Rattle.src_meaning.proofs.Examples.Locals as locals
use Rattle.src_meaning.proofs.Examples.Loops as loops
use Rattle.src_meaning.proofs.Examples.Operands as operands
use Rattle.src_meaning.proofs.Examples.Operators as operators
use Rattle.src_meaning.proofs.Examples.Panics as panics
use Rattle.src_meaning.proofs.Examples.Patterns as patterns
use Rattle.src_meaning.proofs.Examples.Temporaries as temporaries
use Rattle.src_meaning.proofs.Examples.TraitObjects as trait_objects
use Rattle.src_meaning.proofs.Examples.Unwinding as unwinding

assignments_element : is_well_typed assignments.element ≡ true
assignments_element = refl

boxes_part : is_well_typed boxes.part ≡ true
boxes_part = refl

boxes_forgotten : is_well_typed boxes.forgotten ≡ true
boxes_forgotten = refl

closures_called : is_well_typed closures.called ≡ true
closures_called = refl

closures_dropped : is_well_typed closures.dropped ≡ true
closures_dropped = refl

conditions_moved_if : is_well_typed conditions.moved_if ≡ true
conditions_moved_if = refl

free_runs_moved_if : is_well_typed free_runs.moved_if ≡ true
free_runs_moved_if = refl

free_runs_again : is_well_typed free_runs.again ≡ true
free_runs_again = refl

job_queue_job_queue : is_well_typed job_queue.job_queue ≡ true
job_queue_job_queue = refl

literal_tests_literal : is_well_typed literal_tests.literal ≡ true
literal_tests_literal = refl

locals_two : is_well_typed locals.two ≡ true
locals_two = refl

locals_again : is_well_typed locals.again ≡ true
locals_again = refl

loops_breaking : is_well_typed loops.breaking ≡ true
loops_breaking = refl

loops_while_let : is_well_typed loops.while_let ≡ true
loops_while_let = refl

loops_continuing : is_well_typed loops.continuing ≡ true
loops_continuing = refl

operands_break_in_operands : is_well_typed operands.break_in_operands ≡ true
operands_break_in_operands = refl

operands_panic_in_operands : is_well_typed operands.panic_in_operands ≡ true
operands_panic_in_operands = refl

operands_panic_in_a_tail : is_well_typed operands.panic_in_a_tail ≡ true
operands_panic_in_a_tail = refl

operators_past_the_end : is_well_typed operators.past_the_end ≡ true
operators_past_the_end = refl

operators_within : is_well_typed operators.within ≡ true
operators_within = refl

operators_sum : is_well_typed operators.sum_ ≡ true
operators_sum = refl

operators_remainder : is_well_typed operators.remainder ≡ true
operators_remainder = refl

panics_struct : is_well_typed panics.struct_ ≡ true
panics_struct = refl

panics_twice : is_well_typed panics.twice ≡ true
panics_twice = refl

panics_assigned : is_well_typed panics.assigned ≡ true
panics_assigned = refl

panics_result : is_well_typed panics.result ≡ true
panics_result = refl

panics_pending : is_well_typed panics.pending ≡ true
panics_pending = refl

patterns_params : is_well_typed patterns.params ≡ true
patterns_params = refl

patterns_of_let : is_well_typed patterns.of_let ≡ true
patterns_of_let = refl

patterns_match : is_well_typed patterns.match_ ≡ true
patterns_match = refl

patterns_or : is_well_typed patterns.or_ ≡ true
patterns_or = refl

temporaries_tail : is_well_typed temporaries.tail ≡ true
temporaries_tail = refl

temporaries_if_let : is_well_typed temporaries.if_let ≡ true
temporaries_if_let = refl

temporaries_if : is_well_typed temporaries.if_ ≡ true
temporaries_if = refl

temporaries_match : is_well_typed temporaries.match_ ≡ true
temporaries_match = refl

trait_objects_shown : is_well_typed trait_objects.shown ≡ true
trait_objects_shown = refl

unwinding_boxed : is_well_typed unwinding.boxed ≡ true
unwinding_boxed = refl

unwinding_of_let : is_well_typed unwinding.of_let ≡ true
unwinding_of_let = refl
