use Rattle.std.proofs.Common.{◌≡◌, length}
use Rattle.init_flow.specs.WorkList.{Good, Started, problem, state_of, blocks_in, left}
use Rattle.init_flow.proofs.solver.solve.Given as goal

abbrev pub invariant-loop-block : goal.invariant-loop-block
invariant-loop-block g l =
    Good (problem (g.A.Analysis.width l.analysis) (g.A.Analysis.first l.analysis) (g.A.Analysis.passed l.analysis) l.items l.body) (state_of l.flow) (blocks_in l.flow) 0 2
    × Started (problem (g.A.Analysis.width l.analysis) (g.A.Analysis.first l.analysis) (g.A.Analysis.passed l.analysis) l.items l.body) (state_of l.flow)
    × (length l.row ≡ g.A.Analysis.width l.analysis)

abbrev pub decreases-loop-block : goal.decreases-loop-block
decreases-loop-block g l = left l.flow
