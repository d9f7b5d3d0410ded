-- What a reference names stays on each path of a lowered body, where only calls use the reference, and where it is
-- known of each call of the source that it passes no such reference, or that no argument behind the one that makes it
-- takes anything of what is named.
use Rattle.std.proofs.Common.{◌≡◌, ℕ, suc, Bool, true, false, List, [], length, Some, slice_get, refl}
use Rattle.cfg_graph.specs.Moves.Actions.{actions_on}
use Rattle.cfg_graph.specs.Moves.Paths.{IsPath}
use Rattle.cfg_graph.specs.NamedPlaces.{keeps_named}
use Rattle.store_model.specs.Effects.{EffectSite, Out, Go, Unwind, Halts}
use Rattle.store_model.specs.Places.Place.{Place}
use Rattle.typed_tree.specs.Tree.{BodyTree, ProgramTree}
use Rattle.well_typed.specs.Program.{WellTyped}
use Rattle.soundness_values.proofs.Leaving.{ShownOut}
use Rattle.soundness_frame.proofs.PassFrameBodies as bodies
use Rattle.soundness_frame.proofs.PassFrameBodies.{any_place}
use Rattle.soundness_frame.proofs.PassWithin.{Within, outermost}
use Rattle.lower_rules.specs.Lower.{body_of}
use Rattle.lower_laws.specs.Lowerable.{IsLowerable}
use Rattle.lower_ready.proofs.NamedByRuns.{NothingBad, at_first}
use Rattle.lower_ready.proofs.NamedFrames as frames
use Rattle.lower_ready.proofs.NamedLines.{OnlyPassed}
use Rattle.lower_ready.proofs.NamedOfLowered.{NothingTaken, named_of_lowered}
use Rattle.lower_ready.proofs.NamedPassing as passing

module _ (p : ProgramTree) (w : WellTyped p) (low : IsLowerable p) (n : ℕ) (tree : BodyTree)
    (there : slice_get p.bodies n ≡ Some tree) (local : ℕ) (named : Place) where
  -- what is known of each call of the source
  abbrev pub CallsSay : Type 0
  CallsSay = Within p.items any_place (passing.Says p.items tree
      (body_of p.items tree) local named) [] outermost tree.block

  abbrev V : Type 0
  V = frames.V p.items tree (body_of p.items tree) local named

  abbrev NotBad : V → Type 0
  NotBad = frames.NotBad p.items tree (body_of p.items tree) local named

  nothing_bad : (o : Out V) → ShownOut (frames.over p.items tree
      (body_of p.items tree) local named) NotBad NotBad o →
      NothingBad o
  nothing_bad (Go v) k = k
  nothing_bad (Unwind v) k = k
  nothing_bad (Halts halt v) k = k

  -- so the watch finds nothing bad in any run of the source
  pub nothing_taken : CallsSay → NothingTaken p w low n tree there local named
  nothing_taken says given = nothing_bad _
      (bodies.body_kept_by p.items (frames.q p.items tree (body_of p.items tree) local named)
      (frames.over p.items tree (body_of p.items tree) local named) (frames.NoCall p.items tree
      (body_of p.items tree) local named)
      (frames.any_site p.items tree (body_of p.items tree) local named)
      (frames.Coerced p.items tree (body_of p.items tree) local named) NotBad
      (frames.outer p.items tree (body_of p.items tree) local named)
      (passing.Says p.items tree (body_of p.items tree) local named) (suc (length given))
      (passing.outer_told p.items tree (body_of p.items tree) local named (suc (length given)))
      (passing.calling p.items tree (body_of p.items tree) local named (suc (length given)))
      (λ site v i. i) tree says
      (record { seen = at_first; choices = given }) refl)

  pub named_stays : OnlyPassed (body_of p.items tree) local named → CallsSay → (path : List ℕ) (given : List Bool) →
      IsPath p.items (body_of p.items tree) path given →
      keeps_named (body_of p.items tree) (actions_on (body_of p.items tree) path) local ≡ true
  named_stays only says path given is =
      named_of_lowered p w low n tree there local named only (nothing_taken says) path given is
