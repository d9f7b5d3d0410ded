-- What a reference names stays on each path of a lowered body of a well typed, lowerable program, where only calls
-- use the reference and the watch over it finds nothing bad in the runs of the source over effects that only look.
use Rattle.std.proofs.Common.{◌≡◌, ℕ, Bool, true, List, Some, slice_get}
use Rattle.cfg_graph.specs.Moves.Actions.{actions_on}
use Rattle.cfg_graph.specs.Moves.Paths.{IsPath}
use Rattle.cfg_graph.specs.NamedPlaces.{keeps_named}
use Rattle.store_model.specs.Places.Place.{Place}
use Rattle.typed_tree.specs.Tree.{BodyTree, ProgramTree}
use Rattle.well_typed.specs.Program.{WellTyped}
use Rattle.lower_rules.proofs.Bodies.{holds}
use Rattle.lower_rules.proofs.Typed.{well_typed_names_loops}
use Rattle.lower_rules.specs.Lower.{body_of, node_of}
use Rattle.lower_laws.specs.Lowerable.{IsLowerable}
use Rattle.lower_ready.proofs.NamedByRuns.{NothingBad, watched_run, named_by_runs}
use Rattle.lower_ready.proofs.NamedLines.{OnlyPassed}
use Rattle.lower_ready.proofs.PathGoes.{goes_on}

module _ (p : ProgramTree) (w : WellTyped p) (low : IsLowerable p) (n : ℕ) (tree : BodyTree)
    (there : slice_get p.bodies n ≡ Some tree) (local : ℕ) (named : Place) where
  -- nothing bad is found in any run of the source
  abbrev pub NothingTaken : Type 0
  NothingTaken = (given : List Bool) → NothingBad
      (watched_run p.items tree (body_of p.items tree) (node_of p.items tree)
      (holds p.items tree (well_typed_names_loops p w n tree there)) (goes_on p w low n tree there) local named given)

  pub named_of_lowered : OnlyPassed (body_of p.items tree) local named → NothingTaken → (path : List ℕ)
      (given : List Bool) →
      IsPath p.items (body_of p.items tree) path given →
      keeps_named (body_of p.items tree) (actions_on (body_of p.items tree) path) local ≡ true
  named_of_lowered only fine path given is =
      named_by_runs p.items tree (body_of p.items tree) (node_of p.items tree)
      (holds p.items tree (well_typed_names_loops p w n tree there))
      (goes_on p w low n tree there) local named only fine path given is
