use Rattle.typed_tree.specs.Tree.{ProgramTree}
use Rattle.typed_tree.specs.View.{program_of}
use Rattle.mir_pipeline.proofs.Programs.{has_graph}
use Rattle.mir_pipeline.proofs.Sited.{is_graph}
use Rattle.mir_pipeline.proofs.graphs.build_raw.Goals as goal

pub returns-in-Ok-clause-graph : goal.returns-in-Ok-clause-graph
returns-in-Ok-clause-graph c =
    let program : ProgramTree = program_of c.in_ok-typed.typed in
    let read = c.in_ok-typed.ensures.typed in
    (program, read, is_graph program (has_graph c.args.text.now program read) c.in-Ok.lowered c.in-Ok.ensures.graph c.in-Ok.ensures.sites c.in-Ok.ensures.counted)
