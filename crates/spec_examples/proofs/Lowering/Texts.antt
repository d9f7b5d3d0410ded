-- Texts whose typed programs are lowerable, by computation: those of the examples of typing, all of them well typed. So
-- their graphs are well formed.
use Rattle.std.proofs.Common.{◌≡◌, Bool, true, false, List, ℕ, refl}
use Rattle.typing_rules.proofs.Accepted as texts
use Rattle.typing_rules.proofs.Words.{Outcome, Typed, outcome}
use Rattle.lower_laws.specs.Lowerable.{is_lowerable}

abbrev gives_lowerable : Outcome → Bool
gives_lowerable (Typed p) = is_lowerable p
gives_lowerable _ = false

abbrev is_text_lowerable : List ℕ → Bool
is_text_lowerable text = gives_lowerable (outcome text)

empty_main_lowerable : is_text_lowerable texts.empty_main ≡ true
empty_main_lowerable = refl

two_locals_lowerable : is_text_lowerable texts.two_locals ≡ true
two_locals_lowerable = refl

break_in_operands_lowerable : is_text_lowerable texts.break_in_operands ≡ true
break_in_operands_lowerable = refl

panic_in_operands_lowerable : is_text_lowerable texts.panic_in_operands ≡ true
panic_in_operands_lowerable = refl

tail_lowerable : is_text_lowerable texts.tail ≡ true
tail_lowerable = refl

params_lowerable : is_text_lowerable texts.params ≡ true
params_lowerable = refl

let_parts_lowerable : is_text_lowerable texts.let_parts ≡ true
let_parts_lowerable = refl

moved_if_lowerable : is_text_lowerable texts.moved_if ≡ true
moved_if_lowerable = refl

moved_again_lowerable : is_text_lowerable texts.moved_again ≡ true
moved_again_lowerable = refl

assigned_again_lowerable : is_text_lowerable texts.assigned_again ≡ true
assigned_again_lowerable = refl

part_of_a_box_lowerable : is_text_lowerable texts.part_of_a_box ≡ true
part_of_a_box_lowerable = refl

struct_fields_lowerable : is_text_lowerable texts.struct_fields ≡ true
struct_fields_lowerable = refl

trait_objects_lowerable : is_text_lowerable texts.trait_objects ≡ true
trait_objects_lowerable = refl

guarded_match_lowerable : is_text_lowerable texts.guarded_match ≡ true
guarded_match_lowerable = refl

part_of_self_lowerable : is_text_lowerable texts.part_of_self ≡ true
part_of_self_lowerable = refl

job_queue_lowerable : is_text_lowerable texts.job_queue ≡ true
job_queue_lowerable = refl

element_lowerable : is_text_lowerable texts.element ≡ true
element_lowerable = refl

assigned_lowerable : is_text_lowerable texts.assigned ≡ true
assigned_lowerable = refl

result_lowerable : is_text_lowerable texts.result ≡ true
result_lowerable = refl

closure_lowerable : is_text_lowerable texts.closure ≡ true
closure_lowerable = refl

forgotten_lowerable : is_text_lowerable texts.forgotten ≡ true
forgotten_lowerable = refl

sum_lowerable : is_text_lowerable texts.sum_ ≡ true
sum_lowerable = refl

into_a_part_lowerable : is_text_lowerable texts.into_a_part ≡ true
into_a_part_lowerable = refl

soak_lowerable : is_text_lowerable texts.soak ≡ true
soak_lowerable = refl

calls_itself_lowerable : is_text_lowerable texts.calls_itself ≡ true
calls_itself_lowerable = refl

references_lowerable : is_text_lowerable texts.references ≡ true
references_lowerable = refl

methods_lowerable : is_text_lowerable texts.methods ≡ true
methods_lowerable = refl

loops_lowerable : is_text_lowerable texts.loops ≡ true
loops_lowerable = refl

patterns_lowerable : is_text_lowerable texts.patterns ≡ true
patterns_lowerable = refl

hiding_lowerable : is_text_lowerable texts.hiding ≡ true
hiding_lowerable = refl

literals_lowerable : is_text_lowerable texts.literals ≡ true
literals_lowerable = refl

never_lowerable : is_text_lowerable texts.never ≡ true
never_lowerable = refl

nested_closures_lowerable : is_text_lowerable texts.nested_closures ≡ true
nested_closures_lowerable = refl
