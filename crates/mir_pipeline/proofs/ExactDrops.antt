-- The raw graph of an accepted program is ready for drop elaboration; and what is elaborated from it runs as the source.
use Rattle.std.proofs.Common.{◌≡◌, ℕ, List, subst}
use Rattle.cfg_graph.specs.declared.graph.Graph.{Graph}
use Rattle.cfg_graph.specs.Ready.{IsReadyGraph}
use Rattle.cfg_graph.specs.WellFormed.Faults.{IsCounted, IsWellFormed}
use Rattle.cfg_build.specs.declared.programs.Lowered.{Lowered}
use Rattle.drop_bodies.specs.Counts.{totals_of}
use Rattle.drop_elaborate.specs.Elaborated.{IsElaboration}
use Rattle.drop_elaborate.specs.Totals.{AreSums}
use Rattle.drop_laws.proofs.ReadyLines.{elaborable}
use Rattle.drop_laws.specs.Ready.{IsElaborable, NamedStays}
use Rattle.drop_graphs.specs.Runs.{RunsAsRaw}
use Rattle.drop_graphs.specs.declared.exact.Elaborated.{Elaborated}
use Rattle.lower_rules.specs.Lower.{graph_of}
use Rattle.typed_tree.specs.Tree.{ProgramTree}
use Rattle.mir_pipeline.proofs.ExactRuns.{runs_strictly}
use Rattle.mir_pipeline.proofs.SoundPrograms.{ends_each_once}
use Rattle.mir_pipeline.specs.Built.{IsBuiltAs, IsBuiltOf}
use Rattle.mir_pipeline.specs.Graphs.{IsAcceptedAs, IsAcceptedOf}
use Rattle.mir_pipeline.specs.Runs.{IsNeverStuck, RunsExactlyAsItsSource}

is_ready : (program : ProgramTree) (lowered : Lowered) → IsAcceptedAs program lowered → IsReadyGraph lowered.graph
is_ready program lowered is = record {
  prepared = is.lowered_is.prepared;
  uses = λ n body path given at is_path. is.uses n body at path given is_path;
}

-- of an accepted text
pub ready_of : (text : List ℕ) (lowered : Lowered) → IsAcceptedOf text lowered → IsElaborable lowered.graph
ready_of text lowered (program, p, is) = elaborable lowered.graph (is_ready program lowered is)

pub counted_of : (text : List ℕ) (lowered : Lowered) → IsAcceptedOf text lowered → IsCounted lowered.graph
counted_of text lowered (program, p, is) = is.lowered_is.counted

pub is_built : (text : List ℕ) (lowered : Lowered) (done : Elaborated) → IsAcceptedOf text lowered →
    IsElaboration lowered.graph done.graph → AreSums lowered.graph done.graph (totals_of done.counts) →
    IsWellFormed done.graph → IsCounted done.graph → (NamedStays lowered.graph → RunsAsRaw lowered.graph done.graph) →
    IsBuiltOf text done
is_built text lowered done (program, p, is) elaborated counts well_formed counted runs = (
  program,
  p,
  record {
    source = is.source;
    sound = is.lowered_is.sound is.source;
    ready = subst IsReadyGraph same (is_ready program lowered is);
    elaborated = subst (λ (raw : Graph). IsElaboration raw done.graph) same elaborated;
    counts = subst (λ (raw : Graph). AreSums raw done.graph (totals_of done.counts)) same counts;
    well_formed = well_formed;
    counted = counted;
    runs = runs_strictly program lowered.graph done.graph exact free (runs stays);
    never_stuck = free;
    once = ends_each_once program (is.lowered_is.sound is.source);
  },
)
  where
    exact : RunsExactlyAsItsSource program lowered.graph
    exact = is.lowered_is.exact is.source

    free : IsNeverStuck program
    free = is.lowered_is.never_stuck is.source

    same : lowered.graph ≡ graph_of program
    same = is.lowered_is.graph

    stays : NamedStays lowered.graph
    stays n body path given local at is_path =
        (is.lowered_is.prepared.prepared n body at).named_stays path given local is_path
