-- The drop of a place of the body's own, by the ladder of the plan that the facts and the flags give: it does what the
-- raw drop does, where what is known of the locals fits what they hold.
use Rattle.std.proofs.Common.{◌≡◌, ℕ, ◌≤◌, ◌<◌, List, Option, Some}
use Rattle.mir_ty.specs.declared.ty.TyId.{TyId}
use Rattle.mir_ty.specs.ItemTable.{ItemTable}
use Rattle.cfg_graph.specs.declared.graph.Body.{Body}
use Rattle.cfg_graph.specs.declared.place.Place as graph
use Rattle.cfg_graph.specs.Places.{named}
use Rattle.cfg_meaning.specs.Walk.{Next, naming}
use Rattle.store_model.proofs.Concrete.Effects.{ticks_of, Spending}
use Rattle.store_model.specs.Abstract.Presence.{Presence, presence_along}
use Rattle.store_model.specs.Concrete.Drops.{Begins, drop_at}
use Rattle.store_model.specs.Concrete.Effects.{concrete_effects}
use Rattle.store_model.specs.Concrete.Location.{Setting, Located, Reaches, reach}
use Rattle.store_model.specs.Concrete.State.{State, Bodies}
use Rattle.store_model.specs.Values.Datum.{Datum, Gone}
use Rattle.drop_values.specs.Facts.{Tree, Facts}
use Rattle.drop_values.specs.Like.{Flags, Like, SameBodies, MayEnter, raw_setting, strict_setting, Extends}
use Rattle.drop_values.specs.Planning.{IsTyped, plan_of}
use Rattle.drop_values.proofs.Frame.{Frames}
use Rattle.drop_values.proofs.Sound.{Sound}
use Rattle.drop_values.proofs.Knows.{PlainSteps, Knows, own_place, own_fits}
use Rattle.drop_values.proofs.OwnNames.{own-names}
use Rattle.drop_values.proofs.Told.{Told, Flagged}
use Rattle.drop_values.proofs.PlanFits.{plan-fits}
use Rattle.drop_values.proofs.Stand.{Changed, Stands}
use Rattle.drop_elaborate.proofs.Ladder.{IsFlag, Ends, ladder}
use Rattle.drop_elaborate.proofs.Walks.{unplaced, Walks}
use Rattle.drop_elaborate.specs.Ladder.{Ending, mode_in, LadderAt}

module _ (items : ItemTable) (local_ty local_ty' : (body local : ℕ) → Option TyId)
    (extends : Extends local_ty local_ty') (run run' : Bodies)
    (frames : Frames (raw_setting items local_ty) run) (spending : Spending run) (most : ℕ)
    (good : ℕ → List Datum → State → Type 0) (may_enter : MayEnter items local_ty good)
    (tie : SameBodies local_ty good most run run') (bound : ℕ) (great : most < bound)
    (body' : Body) (node : ℕ → ℕ → ℕ) (WalkE : Next State)
    (walks : Walks (naming unplaced (concrete_effects (strict_setting items local_ty') run' bound))
    ticks_of most body' node WalkE)
    (flags : Flags) (number depth : ℕ) where
  abbrev raw : Setting
  raw = raw_setting items local_ty

  abbrev FlagHere : ℕ → Type 0
  FlagHere = IsFlag items local_ty local_ty' extends run run' frames spending most good may_enter
      tie bound great body' node WalkE walks flags number depth

  pub own-ladder : (facts : Facts) (flag_of : ℕ → Option ℕ) (tree : Tree) (present : ℕ → Presence)
      (w w' : State) (place : graph.Place) (id end : TyId) (s : Located) (from to : ℕ) (ending : Ending) →
      Knows raw number depth present w → local_ty number place.local ≡ Some id → PlainSteps items
      (named place).steps id end → reach raw w (named place) ≡ Reaches s → Stands raw w s →
      Sound items s.value s.dynamic →
      Told items facts flag_of FlagHere (flags depth) (presence_along (named place).steps (present place.local)) tree →
      Flagged items facts flag_of FlagHere (flags depth) tree end → IsTyped items tree end →
      LadderAt body' (plan_of items facts flag_of tree end) place from to ending → Like local_ty flags w w' →
      w.ticks ≤ most →
      Ends items local_ty local_ty' extends run run' frames spending most good may_enter tie bound
      great body' node WalkE walks flags number depth (Changed s.address Gone w) to ending
      (drop_at raw run bound Begins s (mode_in ending) w) (WalkE from w')
  own-ladder facts flag_of tree present w w' place id end s from to ending k typed plain e st sound
      told flagged tree_typed code like few =
      let o = own_place raw number depth present w (named place) id end s k typed plain e in
      ladder items local_ty local_ty' extends run run' frames spending most good may_enter tie bound
      great body' node WalkE walks flags number depth (plan_of items facts flag_of tree end)
      place from to ending s w w' code
      ((plan-fits items facts flag_of FlagHere (flags depth) s.value).at tree end s.dynamic
      (presence_along (named place).steps (present place.local)) o.arrives.of told flagged tree_typed
      (own_fits raw number depth present w (named place) id end s k typed o) sound)
      st (own-names items local_ty local_ty' extends number depth present w (named place) id end s k typed plain e)
      (record { deep = k.deep; number_is = k.number_is }) like few
