-- Whole actions: none goes on that stores into a place of the type `!`.
use Rattle.std.proofs.Common.{◌≡◌, Bool, true, false, [], Option, Some, None, refl, ap, sym, ◌∙◌}
use Rattle.std.specs.Option.{option_map_or}
use Rattle.cfg_graph.specs.declared.place.Place.{Place}
use Rattle.cfg_graph.specs.declared.statement.Stmt.{Stmt}
use Rattle.cfg_meaning.specs.Actions.{site_of, action_of}
use Rattle.mir_base.specs.Trace.{Trace}
use Rattle.machine_steps.specs.Acting.{DoesAct, stopped, place_stored}
use Rattle.machine_steps.specs.declared.actions.Outcome.{Outcome}
use Rattle.machine_steps.specs.declared.world.World.{World}
use Rattle.machine_steps.specs.Steps.{seen, leaves, Goes, Panics, Halted, Does, DoesAction}
use Rattle.machine_steps.specs.Worlds.{state_of, run_setting}
use Rattle.store_model.specs.Concrete.Effects.{acted, never_at}
use Rattle.store_model.specs.Concrete.State.{State}
use Rattle.store_model.specs.Effects.{Action, Stuck, Out, Go, Unwind, Halts, halting_if, stores_where}

pub stops : (never : Bool) (out : Out State) (outcome : Outcome) (w : State) → seen out ≡ leaves outcome w → seen (halting_if never Stuck out) ≡ leaves (stopped never outcome) w
stops true (Go v) Outcome.Goes w e = let same : v ≡ w = cc in ap (λ v. Halted Stuck v.trace) same
stops true (Go v) Outcome.Panics w e = absurd (cc)
stops true (Go v) Outcome.Stuck w e = absurd (cc)
stops true (Unwind v) Outcome.Goes w e = absurd (cc)
stops true (Unwind v) Outcome.Panics w e = e
stops true (Unwind v) Outcome.Stuck w e = absurd (cc)
stops true (Halts halt v) Outcome.Goes w e = absurd (cc)
stops true (Halts halt v) Outcome.Panics w e = absurd (cc)
stops true (Halts halt v) Outcome.Stuck w e = e
stops false out outcome w e = e

-- an action does what it does without the rule, and then is stopped
pub acts_stopped : (action : Action) (old new : World) (outcome : Outcome) (never : Bool) → ((before : Trace) → stores_where (never_at (run_setting old) (state_of before old)) action ≡ never) →
    DoesAction action old outcome new → DoesAct action old (stopped never outcome) new
acts_stopped action old new outcome never e h run before =
    ap (λ b. seen (halting_if b Stuck (acted (run_setting old) run action (state_of before old)))) (e before)
    ∙ stops never (acted (run_setting old) run action (state_of before old)) outcome (state_of before new) (h run before)

-- a statement stores into its place
pub stores_into : (w : World) (before : Trace) (stmt : Stmt) →
    stores_where (never_at (run_setting w) (state_of before w)) (action_of 0 stmt) ≡ option_map_or (λ (place : Place). never_at (run_setting w) (state_of [] w) (site_of 0 place)) (place_stored stmt) false
stores_into w before (Stmt.Put to from) = refl
stores_into w before other = refl
