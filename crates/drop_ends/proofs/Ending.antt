-- Where ladders end, and other terminators.
use Rattle.std.proofs.Common.{◌≡◌, ℕ, List, Option, Some, None, refl}
use Rattle.mir_ty.specs.ItemTable.{ItemTable}
use Rattle.store_model.specs.Places.Place as plain
use Rattle.cfg_graph.specs.declared.graph.Body.{Body}
use Rattle.cfg_graph.specs.declared.graph.Kind.{Kind}
use Rattle.cfg_graph.specs.declared.place.Place.{Place}
use Rattle.cfg_graph.specs.declared.statement.Stmt.{Stmt}
use Rattle.cfg_graph.specs.declared.terminator.Term.{Term}
use Rattle.cfg_graph.specs.declared.terminator.Unwind.{Unwind}
use Rattle.drop_values.specs.Plan.{Plan}
use Rattle.drop_elaborate.specs.Build.{Made}
use Rattle.drop_elaborate.specs.Elaborated.{EdgeTo, LadderTo, cleared}
use Rattle.drop_elaborate.specs.Ladder.{LadderAt}
use Rattle.drop_blocks.specs.Ladders.{Built, ending_of}
use Rattle.drop_blocks.specs.Standing.{IsLadder}
use Rattle.drop_blocks.specs.declared.rungs.Chains.{Chains}
use Rattle.drop_ends.specs.Edges.{IsMade, TwinTo}
use Rattle.drop_ends.specs.Decisions.{EndsBy, TermEnds}
use Rattle.drop_ends.specs.declared.decided.Decided.{Decided}

pub ladder-made : (plan : Plan) (place : Place) (made : Made) (b : Built) (rest : Chains) → IsLadder plan place made b rest →
    IsMade made b.made (λ after. LadderAt after plan place b.chains.calm rest.calm (ending_of rest.twin))
ladder-made plan place made b rest stands = record { grows = stands.grows; holds = stands.calm }

module _ (items : ItemTable) (body : Body) (flagged : List plain.Place) (after : Body) where
  pub ladder-to : (plan : Plan) (kind : Kind) (place : Place) (from calm next : ℕ) (twin : Option ℕ) (unwind : Unwind) →
      EdgeTo items body flagged after kind (cleared items body flagged after place) calm next →
      TwinTo items body flagged after place twin unwind → LadderAt after plan place from calm (ending_of twin) →
      LadderTo items body flagged after plan kind place from next unwind
  ladder-to plan kind place from calm next (Some twin) (Unwind.Block block) edge two at = (calm, twin, edge, two, at)
  ladder-to plan kind place from calm next (Some twin) Unwind.Resume edge two at = (calm, twin, edge, two, at)
  ladder-to plan kind place from calm next None Unwind.Abort edge two at = (calm, edge, at)
  ladder-to plan kind place from calm next (Some twin) Unwind.Abort edge two at = absurd two
  ladder-to plan kind place from calm next None (Unwind.Block block) edge two at = absurd two
  ladder-to plan kind place from calm next None Unwind.Resume edge two at = absurd two

  -- a terminator that is no drop
  pub ends-other : (decided : Decided) (kind : Kind) (raw : Term) (ending : List Stmt) (term : Term) →
      ((place : Place) (next : ℕ) (unwind : Unwind) → raw ≡ Term.DropAt place next unwind → ⊥) →
      TermEnds items body flagged after kind raw ending term → EndsBy items body flagged after decided kind raw ending term
  ends-other decided kind (Term.Goto to) ending term differs h = h
  ends-other decided kind (Term.If on there to) ending term differs h = h
  ends-other decided kind (Term.Case on variant there to) ending term differs h = h
  ends-other decided kind (Term.Math to op left right next unwind) ending term differs h = h
  ends-other decided kind (Term.Negate to of next unwind) ending term differs h = h
  ends-other decided kind (Term.Bounds index count next unwind) ending term differs h = h
  ends-other decided kind (Term.Call to callee args next unwind) ending term differs h = h
  ends-other decided kind (Term.Virtual to trait_no method args next unwind) ending term differs h = h
  ends-other decided kind (Term.Ask to next unwind) ending term differs h = h
  ends-other decided kind (Term.DropAt place next unwind) ending term differs h = absurd (differs place next unwind refl)
  ends-other decided kind (Term.Panic why unwind) ending term differs h = h
  ends-other decided kind Term.Return ending term differs h = h
  ends-other decided kind Term.Resume ending term differs h = h
