-- The graph with exact drops of a text.
use Rattle.std.specs.Prelude.{ℕ, List}
use Rattle.cfg_graph.specs.Ready.{IsReadyGraph}
use Rattle.cfg_graph.specs.WellFormed.Faults.{IsCounted, IsWellFormed}
use Rattle.drop_bodies.specs.Counts.{totals_of}
use Rattle.drop_elaborate.specs.Elaborated.{IsElaboration}
use Rattle.drop_elaborate.specs.Totals.{AreSums}
use Rattle.drop_graphs.specs.declared.exact.Elaborated.{Elaborated}
use Rattle.lower_rules.specs.Lower.{graph_of}
use Rattle.soundness_values.specs.Laws.{IsSound}
use Rattle.src_meaning.specs.Programs.{IsAccepted}
use Rattle.typed_tree.specs.Tree.{ProgramTree}
use Rattle.mir_pipeline.specs.Programs.{IsProgramOf}
use Rattle.mir_pipeline.specs.Runs.{EndsEachOnce, IsNeverStuck, RunsStrictlyAsItsSource}

-- The graph with exact drops of an accepted program, which so passes all checks: the elaboration of its raw graph, which
-- is ready for that, with how many of its drops are of each kind. It is well formed, and its lists are short. By strict
-- steps it runs exactly as the program does, which is never stuck; and each number of a run ends once.
pub record IsBuiltAs (program : ProgramTree) (done : Elaborated) : Type 0 where
  pub source : IsAccepted program
  pub sound : IsSound program
  pub ready : IsReadyGraph (graph_of program)
  pub elaborated : IsElaboration (graph_of program) done.graph
  pub counts : AreSums (graph_of program) done.graph (totals_of done.counts)
  pub well_formed : IsWellFormed done.graph
  pub counted : IsCounted done.graph
  pub runs : RunsStrictlyAsItsSource program done.graph
  pub never_stuck : IsNeverStuck program
  pub once : EndsEachOnce program

abbrev pub IsBuiltOf : List ℕ → Elaborated → Type 0
IsBuiltOf text done = (program : ProgramTree) × IsProgramOf text program × IsBuiltAs program done
