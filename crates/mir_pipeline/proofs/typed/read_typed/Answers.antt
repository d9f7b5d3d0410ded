-- Proves `returns-clause-well_typed` of `read_typed`.
use Rattle.typed_tree.specs.View.{program_of}
use Rattle.mir_pipeline.proofs.Programs.{typed_result}
use Rattle.mir_pipeline.proofs.typed.read_typed.Goals as goal

pub returns-clause-well_typed : goal.returns-clause-well_typed
returns-clause-well_typed c = typed_result _ program_of _ c.read_program.ensures.typed
