use Rattle.std.proofs.lemmas.Result.{IfOk-weaker}
use Rattle.mir_text.proofs.graphs.read_graph.Goals as goal

pub returns : goal.returns
returns c =
    IfOk-weaker c.graph_under-read.result _ _
    (λ found told. record { heads = c.in_ok-heads.heads; settled = c.in_ok-heads.ensures; told = told }) c.graph_under-read.ensures
