use Rattle.std.proofs.Common.{sym, subst}
use Rattle.cfg_graph.specs.declared.graph.Graph.{Graph}
use Rattle.cfg_graph.specs.WellFormed.Faults.{IsCounted}
use Rattle.drop_elaborate.specs.Elaborated.{IsElaboration}
use Rattle.drop_elaborate.specs.Totals.{AreSums}
use Rattle.drop_bodies.specs.Counts.{totals_of}
use Rattle.drop_laws.specs.Ready.{IsElaborable, NamedStays}
use Rattle.drop_graphs.specs.GoneIn.{AreGoneIn}
use Rattle.drop_graphs.specs.Runs.{RunsAsRaw}
use Rattle.mir_pipeline.proofs.ExactDrops.{ready_of, counted_of, is_built}
use Rattle.mir_pipeline.proofs.exact.build.Goals as goal

pub elaborate_with-requires-clause-gone : goal.elaborate_with-requires-clause-gone
elaborate_with-requires-clause-gone c =
    subst (λ (g : Graph). AreGoneIn g c.in_ok-watched.watched.gone) (sym c.without_sites.ensures) c.in_ok-watched.ensures.gone

pub elaborate_with-requires-clause-ready : goal.elaborate_with-requires-clause-ready
elaborate_with-requires-clause-ready c =
    subst IsElaborable (sym c.without_sites.ensures)
    (ready_of c.args.text.now c.in_ok-watched.watched.lowered c.in_ok-watched.ensures.accepted)

pub elaborate_with-requires-clause-counted : goal.elaborate_with-requires-clause-counted
elaborate_with-requires-clause-counted c =
    subst IsCounted (sym c.without_sites.ensures)
    (counted_of c.args.text.now c.in_ok-watched.watched.lowered c.in_ok-watched.ensures.accepted)

pub returns-in-Ok-clause-built : goal.returns-in-Ok-clause-built
returns-in-Ok-clause-built c =
    let same = c.without_sites.ensures in
    is_built c.args.text.now c.in_ok-watched.watched.lowered c.in-Ok.done c.in_ok-watched.ensures.accepted
    (subst (λ (g : Graph). IsElaboration g c.in-Ok.done.graph) same c.in-Ok.ensures.elaborated)
    (subst (λ (g : Graph). AreSums g c.in-Ok.done.graph (totals_of c.in-Ok.done.counts)) same c.in-Ok.ensures.counts)
    c.in-Ok.ensures.well_formed c.in-Ok.ensures.counted
    (subst (λ (g : Graph). NamedStays g → RunsAsRaw g c.in-Ok.done.graph) same c.in-Ok.ensures.runs)
