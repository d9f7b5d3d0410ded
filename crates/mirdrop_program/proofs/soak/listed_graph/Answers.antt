use Rattle.std.proofs.lemmas.Result.{IfOk-weaker}
use Rattle.mirdrop_program.proofs.Owing.{built_counted}
use Rattle.mirdrop_program.proofs.Built.{built_signed, built_well}
use Rattle.mirdrop_program.proofs.Soaked.{listed}
use Rattle.mirdrop_program.proofs.soak.listed_graph.Goals as goal

pub read_back-read-requires-clause-well_formed : goal.read_back-read-requires-clause-well_formed
read_back-read-requires-clause-well_formed c = built_well _ c.in_ok-done.done c.in_ok-done.ensures

pub read_back-read-requires-clause-counted : goal.read_back-read-requires-clause-counted
read_back-read-requires-clause-counted c = built_counted _ c.in_ok-done.done c.in_ok-done.ensures

pub read_back-read-requires-clause-signed : goal.read_back-read-requires-clause-signed
read_back-read-requires-clause-signed c = built_signed _ c.in_ok-done.done c.in_ok-done.ensures

pub returns-clause-runs : goal.returns-clause-runs
returns-clause-runs c =
    IfOk-weaker c.read_back-read.result _ _
    (λ read alike. listed c.args.functions c.requires.some c.requires.few c.in_ok-done.done read c.in_ok-done.ensures alike)
    c.read_back-read.ensures.runs
