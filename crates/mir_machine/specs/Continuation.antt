-- What is left of a run: the bodies that wait, the youngest first, each for one that it called, or for a `Drop` body of
-- a drop that it makes. The number of ticks of the whole run bounds the nesting of bodies, so those that are called are
-- the same at each depth.
use Rattle.std.specs.Prelude.{ℕ, suc, Bool, List, [], ◌∷◌, slice_get}
use Rattle.std.specs.Option.{option_map_or}
use Rattle.cfg_graph.specs.declared.graph.Body.{Body}
use Rattle.cfg_graph.specs.declared.graph.Graph.{Graph}
use Rattle.cfg_graph.specs.declared.terminator.Unwind.{Unwind}
use Rattle.cfg_meaning.specs.Laws.{concrete_effects_of}
use Rattle.cfg_meaning.specs.Programs.{arguments_from, setting_of}
use Rattle.cfg_meaning.specs.Walk.{Next, acts, renamed, stuck_in, walk}
use Rattle.mir_base.specs.declared.trace.End.{End}
use Rattle.mir_base.specs.declared.trace.Event.{Event}
use Rattle.mir_base.specs.Trace.{Trace}
use Rattle.store_model.specs.Concrete.Bodies.{after_tick, ended, outcome_of}
use Rattle.store_model.specs.Concrete.Effects.{answered}
use Rattle.store_model.specs.Concrete.State.{Answer, State, tick, with_activation, with_event}
use Rattle.store_model.specs.Effects.{Out, EffectSite, Stuck, Halts, halting_if}
use Rattle.store_model.specs.Values.Datum.{Datum}

-- a body that waits in a block, and the ways on from there
pub record WaitingBody : Type 0 where
  pub number : ℕ
  pub body : Body
  pub block : ℕ
  pub onward : ℕ
  pub unwind : Unwind

-- a body waits for one that it called, whose result it stores, unless it is lost at a place of the type `!`; or it
-- waits for a `Drop` body, after which its drop comes to an end by how that ended
pub data Waiting : Type 0 where
  ForCall : (place : WaitingBody) (to : EffectSite) (lost : Bool) → Waiting
  ForDrop : (place : WaitingBody) (comes_to : Answer → Out State) → Waiting

module _ (strict : Bool) (graph : Graph) (ticks : ℕ) where
  -- a body walks from a block on
  abbrev pub walks : ℕ → Body → Next State
  walks number body block w =
      walk (concrete_effects_of strict graph ticks) number (λ block line. 0) body (suc ticks) block w

  -- a body is entered: a tick is spent, its line is told, and it walks from its first block
  abbrev pub entered : Event → ℕ → List Datum → State → Answer
  entered event number args w =
      after_tick (tick w) (λ w. ended number 0 (first_walk number
      (with_activation (record { body = number; cells = arguments_from 1 args }) (with_event event w))))
    where
      first_walk : ℕ → State → Out State
      first_walk number w =
          option_map_or (λ body. walks number body 0 w) (slice_get graph.bodies number) (Halts Stuck w)

  -- what a terminator comes to, and then the walk, and the end of the body
  abbrev pub goes_on : WaitingBody → Out State → Answer
  goes_on place out =
      ended place.number 0
      (acts (renamed (stuck_in place.number place.block) out) (walks place.number place.body) place.onward place.unwind)

  -- how a body that waits ends
  abbrev pub resumed : Waiting → Answer → Answer
  resumed (ForCall place to lost) answer =
      goes_on place (halting_if lost Stuck (answered (setting_of strict graph) to answer))
  resumed (ForDrop place comes_to) answer = goes_on place (comes_to answer)

  -- what a run tells, where the youngest body ends so
  abbrev pub left : List Waiting → Answer → Trace × End
  left [] answer = outcome_of answer
  left (waiting ∷ others) answer = left others (resumed waiting answer)
