use Rattle.std.proofs.Common.{subst}
use Rattle.std.specs.Prelude.{IfOk}
use Rattle.cfg_graph.specs.declared.graph.Graph.{Graph}
use Rattle.drop_laws.specs.Ready.{NamedStays}
use Rattle.drop_graphs.specs.Runs.{RunsAsRaw}
use Rattle.drop_graphs.proofs.exact.elaborate.Goals as goal

-- the copy is the graph
pub returns-clause-runs : goal.returns-clause-runs
returns-clause-runs t =
    subst (λ (graph : Graph). IfOk t.elaborate_with.result (λ done. NamedStays graph → RunsAsRaw graph done.graph)) t.in_ok-copy.ensures
    t.elaborate_with.ensures.runs
