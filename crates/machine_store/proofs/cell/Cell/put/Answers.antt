use Rattle.machine_store.proofs.Marks.{marks_put}
use Rattle.machine_store.proofs.cell.Cell.put.Goals as goal

pub invariant_of-self : goal.invariant_of-self
invariant_of-self c = rw (c.put-stood.ensures.after, c.remove_within.ensures) (marks_put _ _ _ _ c.requires c.self.invariant)
