-- What is left of a run.
use Rattle.std.proofs.Common.{◌≡◌, ℕ, suc, Bool, true, false, All, List, [], ◌∷◌, refl, ap, ◌∙◌, arith}
use Rattle.cfg_graph.specs.declared.graph.Graph.{Graph}
use Rattle.cfg_meaning.proofs.Runs.{values_nested, values_walk_on}
use Rattle.cfg_meaning.specs.Walk.{stuck_in}
use Rattle.mir_base.specs.declared.trace.End.{End}
use Rattle.mir_machine.specs.Laws.{BodyIsOneEquation, WalkIsOneEquation, CallIsOneEquation, HaltEndsTheRun, StuckBodyHasTheBlockOfItsCaller, IsPlaced, HaltsWithIt, place_of}
use Rattle.mir_machine.specs.Continuation.{Waiting, ForCall, ForDrop, goes_on, resumed, left}
use Rattle.store_model.specs.Concrete.Bodies.{outcome_of}
use Rattle.store_model.specs.Concrete.State.{HaltsIn, State}
use Rattle.store_model.specs.Effects.{Halt, Aborted, OutOfTicks, Stuck, StuckAt, BadUse, BadStore, NoChoice, Infeasible, Unreachable, Halts, halting_if}

pub body_on : BodyIsOneEquation
body_on strict graph ticks event number args w l = values_nested strict graph ticks (suc ticks) event number args w l (omega arith)

pub walk_on : WalkIsOneEquation
walk_on strict graph ticks number body ranked block w l = values_walk_on strict graph ticks number (λ block line. 0) body ranked (suc ticks) block w (omega arith)

pub call_on : CallIsOneEquation
call_on strict graph ticks place to callee args w after values e = rw e refl

placed : (number block : ℕ) (halt : Halt) → IsPlaced halt → stuck_in number block halt ≡ halt
placed number block Stuck h = absurd h
placed number block others h = refl

lost_halts : (lost : Bool) (halt : Halt) (w : State) → halting_if lost Stuck (Halts halt w) ≡ Halts halt w
lost_halts true halt w = refl
lost_halts false halt w = refl

module _ (strict : Bool) (graph : Graph) (ticks : ℕ) where
  resumed_halts : (waiting : Waiting) (halt : Halt) (w : State) → HaltsWithIt waiting →
      resumed strict graph ticks waiting (HaltsIn halt w) ≡ HaltsIn (stuck_in (place_of waiting).number (place_of waiting).block halt) w
  resumed_halts (ForCall place to lost) halt w h = ap (goes_on strict graph ticks place) (lost_halts lost halt w)
  resumed_halts (ForDrop place comes_to) halt w h = ap (goes_on strict graph ticks place) (h halt w)

  pub halts_end : (waiting : List Waiting) (halt : Halt) (w : State) → All HaltsWithIt waiting → IsPlaced halt → left strict graph ticks waiting (HaltsIn halt w) ≡ outcome_of (HaltsIn halt w)
  halts_end [] halt w all h = refl
  halts_end (first ∷ waiting) halt w all h =
      ap (left strict graph ticks waiting)
      (resumed_halts first halt w (all 0 first (omega arith)) ∙ ap (λ halt. HaltsIn halt w) (placed (place_of first).number (place_of first).block halt h))
      ∙ halts_end waiting halt w (λ k d l. all (suc k) d (omega arith)) h

  pub stuck_ends : (first : Waiting) (waiting : List Waiting) (w : State) → All HaltsWithIt (first ∷ waiting) →
      left strict graph ticks (first ∷ waiting) (HaltsIn Stuck w) ≡ (w.trace, End.Stuck (place_of first).number (place_of first).block)
  stuck_ends first waiting w all =
      ap (left strict graph ticks waiting) (resumed_halts first Stuck w (all 0 first (omega arith)))
      ∙ halts_end waiting (StuckAt (place_of first).number (place_of first).block) w (λ k d l. all (suc k) d (omega arith)) tt

pub halts_end_runs : HaltEndsTheRun
halts_end_runs strict graph ticks waiting halt w all h = halts_end strict graph ticks waiting halt w all h

pub stuck_by_caller : StuckBodyHasTheBlockOfItsCaller
stuck_by_caller strict graph ticks first waiting w all = stuck_ends strict graph ticks first waiting w all
