-- What is asked and found as a graph is made and looked at; no public contract speaks of these words.
use Rattle.std.specs.Prelude.{⊤}
use Rattle.lower_rules.specs.Laws.{AllNameTheirLoops}
use Rattle.lower_rules.specs.Lower.{graph_of}
use Rattle.cfg_graph.specs.declared.graph.Graph.{Graph}
use Rattle.cfg_graph.specs.Moves.BadUses.{U1, U2}
use Rattle.cfg_graph.specs.Ready.{IsPrepared}
use Rattle.cfg_graph.specs.WellFormed.Faults.{IsWellFormed}
use Rattle.lower_laws.specs.Refused.{AllNumbersRise}
use Rattle.move_errors.specs.declared.errors.UseError.{UseError}
use Rattle.soundness_values.specs.Laws.{IsSound}
use Rattle.src_meaning.specs.Programs.{IsAccepted}
use Rattle.mir_pipeline.specs.Graphs.{IsFirstBad}
use Rattle.typed_tree.specs.Tree.{ProgramTree}

-- the jumps of a program name loops around them, the numbers of its nodes rise, its graph has no fault and is prepared
-- for drop elaboration; and where it is accepted it passes all checks
abbrev pub HasGraph : ProgramTree → Type 0
HasGraph program =
    AllNameTheirLoops program × AllNumbersRise program × IsWellFormed (graph_of program)
    × IsPrepared (graph_of program) × (IsAccepted program → IsSound program)

abbrev pub HasFirstBad : Graph → UseError → Type 0
HasFirstBad graph (UseError.U1 bad) = IsFirstBad graph U1 bad
HasFirstBad graph (UseError.U2 bad) = IsFirstBad graph U2 bad
HasFirstBad graph UseError.Memory = ⊤
