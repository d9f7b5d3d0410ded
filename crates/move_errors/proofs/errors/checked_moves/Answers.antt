use Rattle.move_errors.proofs.WellUsed.{has-its-locals}
use Rattle.move_errors.proofs.errors.checked_moves.Goals as goal

pub checked_body-requires-clause-locals : goal.checked_body-requires-clause-locals
checked_body-requires-clause-locals c = λ found at. has-its-locals c.args.graph.now c.args.body found c.requires.well_formed at
