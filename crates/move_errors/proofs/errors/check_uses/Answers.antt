use Rattle.move_errors.proofs.WellUsed.{has-its-locals}
use Rattle.move_errors.proofs.errors.check_uses.Goals as goal

pub check_body-requires-clause-locals : goal.check_body-requires-clause-locals
check_body-requires-clause-locals c = λ found at. has-its-locals c.args.graph.now c.args.body found c.requires.well_formed at
