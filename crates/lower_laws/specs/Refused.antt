-- What the paths of a lowered body meet, and where the free runs of its source are refused.
use Rattle.std.specs.Prelude.{◌≡◌, ◌↔◌, ℕ, Bool, true, List, [], ◌∷◌, Option, Some, None, slice_get}
use Rattle.mir_ty.specs.ItemTable.{ItemTable}
use Rattle.store_model.specs.Abstract.Effects.{AbstractState}
use Rattle.store_model.specs.Effects.{EffectSite, Halt, BadUse as BadRead, BadStore, Out, Halts}
use Rattle.cfg_graph.specs.declared.graph.Body.{Body}
use Rattle.cfg_graph.specs.Moves.BadUses.{UseRule, U1, U2, BadUse}
use Rattle.cfg_graph.specs.WellFormed.Faults.{IsWellFormed}
use Rattle.move_errors.specs.Reaches.{Reaches, MeetsNone}
use Rattle.lower_laws.specs.Given.{GivesBeforeBad, IsTaken}
use Rattle.lower_laws.specs.Meets.{site_of, RunsReach}
use Rattle.typed_tree.specs.Nodes.{numbers_of}
use Rattle.typed_tree.specs.Tree.{BodyTree, ProgramTree}
use Rattle.src_meaning.specs.Programs.{free_run, reached_by}
use Rattle.well_typed.specs.Names.{do_rise}
use Rattle.lower_rules.specs.Laws.{NamesItsLoops, AllNameTheirLoops}
use Rattle.lower_rules.specs.Lower.{body_of, graph_of, node_of}

-- the rule by which a use is refused at which a run has halted, if all choices are taken: what stores by U2, any other by
-- U1
abbrev rule_if_taken : UseRule → List Bool → Option UseRule
rule_if_taken rule [] = Some rule
rule_if_taken rule (i ∷ rest) = None

abbrev rule_of_halt : Halt → List Bool → Option UseRule
rule_of_halt (BadRead site) rest = rule_if_taken U1 rest
rule_of_halt (BadStore site) rest = rule_if_taken U2 rest
rule_of_halt halt rest = None

abbrev pub rule_of_run : Out AbstractState → Option UseRule
rule_of_run (Halts halt w) = rule_of_halt halt w.choices
rule_of_run out = None

-- the rule by which a list of choices is refused: the free run takes exactly the list, and then meets a refused use
abbrev pub ruled_by : ItemTable → BodyTree → List Bool → Option UseRule
ruled_by items tree list = rule_of_run (free_run items tree list)

-- A body of a graph beside the body of the source that it is lowered from. No value of type `!` is ever made, so no run
-- comes behind a copy or a store of one, while a path does: a path reaches a use before the first of these.
pub record MeetsItsRefusals (items : ItemTable) (tree : BodyTree) (body : Body) : Type 0 where
  -- with the choices of a path that reaches a bad use the free run is refused, at the use's place and node, by its rule
  pub refused :
      (path : List ℕ) (given : List Bool) (bad : BadUse) → RunsReach items body path given bad →
      (reached_by items tree given ≡ Some (site_of (node_of items tree) bad.action))
      × (ruled_by items tree given ≡ Some bad.rule)
  -- with the choices by which a free run is refused a path reaches a bad use, at the same place and node, by the rule
  -- of the run
  pub reached :
      (given : List Bool) (site : EffectSite) → reached_by items tree given ≡ Some site →
      (path : List ℕ) × (bad : BadUse) × RunsReach items body path given bad
      × (site ≡ site_of (node_of items tree) bad.action) × (ruled_by items tree given ≡ Some bad.rule)
  -- where no path meets a bad use, no free run is refused
  pub accepted : MeetsNone items body → (given : List Bool) → reached_by items tree given ≡ None

-- what the law of lowered paths says
abbrev pub LoweredPathsMeetItsRefusals : Type 0
LoweredPathsMeetItsRefusals =
    (items : ItemTable) (tree : BodyTree) → NamesItsLoops tree → MeetsItsRefusals items tree (body_of items tree)

-- Behind a copy or a store of a value of type `!` a lowered body only returns, so a path reaches no bad use there: with
-- no word of such values, paths and free runs meet the same refused uses.
pub record MeetsExactly (items : ItemTable) (tree : BodyTree) (body : Body) : Type 0 where
  -- with the choices of a path that reaches a bad use the free run is refused, at the use's place and node, by its rule
  pub refused :
      (path : List ℕ) (given : List Bool) (bad : BadUse) → Reaches items body path given bad →
      (reached_by items tree given ≡ Some (site_of (node_of items tree) bad.action))
      × (ruled_by items tree given ≡ Some bad.rule)
  -- where a free run is refused, a path with its choices reaches a bad use, at the same place and node, by the rule
  -- of the run
  pub reached :
      (given : List Bool) (site : EffectSite) → reached_by items tree given ≡ Some site →
      (path : List ℕ) × (bad : BadUse) × Reaches items body path given bad
      × (site ≡ site_of (node_of items tree) bad.action) × (ruled_by items tree given ≡ Some bad.rule)
  -- no path meets a bad use exactly where no free run is refused
  pub exact : MeetsNone items body ↔ ((given : List Bool) → reached_by items tree given ≡ None)
  -- the lists of choices that paths give before their first bad use are exactly those that free runs take
  pub lists : (list : List Bool) → GivesBeforeBad items body list ↔ IsTaken items tree list

-- the numbers of each body's nodes rise
abbrev pub AllNumbersRise : ProgramTree → Type 0
AllNumbersRise program =
    (n : ℕ) (tree : BodyTree) → slice_get program.bodies n ≡ Some tree → do_rise (numbers_of tree) ≡ true

-- what it says where the graph has no fault
abbrev pub LoweredPathsMeetExactly : Type 0
LoweredPathsMeetExactly =
    (program : ProgramTree) → AllNameTheirLoops program → AllNumbersRise program → IsWellFormed (graph_of program) →
    (n : ℕ) (tree : BodyTree) → slice_get program.bodies n ≡ Some tree →
    MeetsExactly program.items tree (body_of program.items tree)
