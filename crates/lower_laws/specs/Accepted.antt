-- What is proved of the raw graphs of accepted texts, whose programs are typed (`IsTypedProgram`).
use Rattle.cfg_graph.specs.WellFormed.Faults.{IsWellFormed}
use Rattle.typed_tree.specs.Tree.{ProgramTree}
use Rattle.lower_rules.specs.Lower.{graph_of}
use Rattle.lower_laws.specs.Lowerable.{IsLowerable}
use Rattle.typing_soundness.specs.Texts.{IsTypedProgram}

-- the program is lowerable,
abbrev pub AreLowerable : Type 0
AreLowerable = (p : ProgramTree) → IsTypedProgram p → IsLowerable p

-- and so its graph is well formed
abbrev pub GraphsAreWellFormed : Type 0
GraphsAreWellFormed = (p : ProgramTree) → IsTypedProgram p → IsWellFormed (graph_of p)
