use Rattle.text_laws.proofs.Programs.{accepted_are_not_refused, programs_are_one, programs_are_read}
use Rattle.text_laws.proofs.law.law_of_texts.Goals as goal

pub returns-clause-one : goal.returns-clause-one
returns-clause-one c = programs_are_one

pub returns-clause-read : goal.returns-clause-read
returns-clause-read c = programs_are_read

pub returns-clause-accepted : goal.returns-clause-accepted
returns-clause-accepted c = accepted_are_not_refused
