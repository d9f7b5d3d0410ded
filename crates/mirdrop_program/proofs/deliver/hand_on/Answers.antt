use Rattle.mirdrop_program.proofs.deliver.hand_on.Goals as goal

pub returns-in-Ok-clause-done : goal.returns-in-Ok-clause-done
returns-in-Ok-clause-done g c = rw c.in-Ok.is (rw c.as_slice.ensures.value at c.deliver.ensures.done)
