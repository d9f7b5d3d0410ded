use Rattle.mir_ty.proofs.Numbers.{found}
use Rattle.move_paths.specs.contracts.parts.PathPartPartialEq.TheImpl as part
use Rattle.move_paths.proofs.PartEq.{decides}
use Rattle.move_paths.proofs.parts.Parts.find.Goals as goal

pub returns-clause-found : goal.returns-clause-found
returns-clause-found c = rw (← c.self.view_is) (found part.ghosts.eq decides c.self.inside.parts.keys c.args.part.now c.get_index_of.result c.get_index_of.ensures.index)
