-- Where an effect stores, by locals.
use Rattle.std.proofs.Common.{◌≡◌, ◌∙◌, ◌∷◌, Bool, false, List, [], Option, Some, map, refl, sym, ap}
use Rattle.std.specs.Option.{option_map_or}
use Rattle.std.specs.Prelude.{slice_get}
use Rattle.lower_rules.specs.Build as build
use Rattle.lower_rules.specs.Build.{LoweringFrame}
use Rattle.cfg_graph.specs.Places.{named_step, named}
use Rattle.cfg_graph.specs.declared.place.Place as graph_place
use Rattle.cfg_graph.specs.declared.statement.Stmt.{Stmt}
use Rattle.cfg_meaning.specs.Actions.{site_of, action_of}
use Rattle.lower_code.specs.View.{effect_of}
use Rattle.lower_code.specs.declared.code.Action.{Action}
use Rattle.src_meaning.specs.Locals.Effects.{step_at, site_at}
use Rattle.store_model.specs.Abstract.Effects.{never_at}
use Rattle.store_model.specs.Places.Place.{Step, ToPart, ToField, ToContent, ToElement}
use Rattle.lower_passes.specs.Framed.{stored, stored_in}

module _ (f : LoweringFrame) where
  step_named : (step : Step) → named_step (build.step_of f step) ≡ step_at f.local_of step
  step_named (ToPart n) = refl
  step_named (ToField variant n) = refl
  step_named ToContent = refl
  step_named (ToElement index) = refl

  steps_named : (steps : List Step) → map named_step (map (build.step_of f) steps) ≡ map (step_at f.local_of) steps
  steps_named [] = refl
  steps_named (step ∷ steps) = (λ i. step_named step i ∷ steps_named steps i)

  abbrev is_never : graph_place.Place → Bool
  is_never to = never_at f.items (slice_get f.tys) (site_at f.local_of (site_of 0 to))

  place_named : (to : graph_place.Place) → site_of 0 (build.place_of f (site_of 0 to)) ≡ site_at f.local_of (site_of 0 to)
  place_named to = ap (λ (steps : List Step). record { node = 0; place = record { local = f.local_of to.local; steps = steps } }) (steps_named (named to).steps)

  of_stmt : (stmt : Stmt) → build.is_last f (action_of 0 stmt) ≡ option_map_or is_never (stored_in stmt) false
  of_stmt (Stmt.Put to from) = refl
  of_stmt other = refl

  of_action : (action : Action) → build.is_last f (effect_of 0 action) ≡ option_map_or is_never (stored action) false
  of_action (Action.Stmt stmt) = of_stmt stmt
  of_action other = refl

  -- the place by locals tells it
  pub last_is : (action : Action) (to : graph_place.Place) (found : graph_place.Place) → stored action ≡ Some to → found ≡ build.place_of f (site_of 0 to) → never_at f.items (slice_get f.tys) (site_of 0 found) ≡ build.is_last f (effect_of 0 action)
  last_is action to found is at =
      ap (λ (p : graph_place.Place). never_at f.items (slice_get f.tys) (site_of 0 p)) at
      ∙ ap (never_at f.items (slice_get f.tys)) (place_named to)
      ∙ sym (of_action action ∙ ap (λ (o : Option graph_place.Place). option_map_or is_never o false) is)
