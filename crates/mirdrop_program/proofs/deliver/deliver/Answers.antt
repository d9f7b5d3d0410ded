use Rattle.mirdrop_program.specs.TopCall.{taken_whole, taken_part}
use Rattle.mirdrop_program.proofs.deliver.deliver.Goals as goal

pub returns-in-Ok-clause-done : goal.returns-in-Ok-clause-done
returns-in-Ok-clause-done g c = taken_whole (λ before told. c.in-Ok.ensures.whole before told)

pub returns-in-Err-clause-done : goal.returns-in-Err-clause-done
returns-in-Err-clause-done g c = taken_part c.in-Err.field-0.written c.in-Err.ensures.fault (λ before told. c.in-Err.ensures.part before told)
