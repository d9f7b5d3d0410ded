use Rattle.std.proofs.Common.{arith}
use Rattle.std.proofs.lemmas.Grind.{common_steps}
use Rattle.machine_store.proofs.Marks.{all_gone}
use Rattle.machine_store.proofs.cell.Cell.vacant.Goals as goal

pub invariant_of-result : goal.invariant_of-result
invariant_of-result c = all_gone _ (grind (arith, common_steps))
