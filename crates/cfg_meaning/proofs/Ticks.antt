-- A run of a graph with one tick more goes on from the run without it.
use Rattle.std.proofs.Common.{ℕ, suc, ℤ, Bool, true, false, List, [], Option, Some, None, slice_get, subst, sym, arith}
use Rattle.std.specs.Option.{option_map_or}
use Rattle.cfg_graph.specs.declared.graph.Body.{Body}
use Rattle.cfg_graph.specs.declared.graph.Graph.{Graph}
use Rattle.cfg_meaning.proofs.Runs.{values_nested}
use Rattle.cfg_meaning.proofs.WalksFollow.{Names, walk_follows}
use Rattle.cfg_meaning.specs.Laws.{GraphRunGoesOn, RawGraphRunGoesOn}
use Rattle.cfg_meaning.specs.Programs.{setting_of, code_of}
use Rattle.cfg_meaning.specs.Walk.{stuck_in}
use Rattle.mir_base.specs.declared.trace.Event.{Event}
use Rattle.store_model.proofs.Effects.Following.{FollowsOuts, ends}
use Rattle.store_model.proofs.Concrete.MoreTicks.{Beside, OneMore, After}
use Rattle.store_model.proofs.Concrete.OneTickMore.{one_tick_more, FollowsWithin, bodies_more, goes_on_from}
use Rattle.store_model.specs.Effects.{Halt, OutOfTicks, Stuck, Out, Halts}
use Rattle.store_model.specs.Concrete.Bodies.{main_of, run_body, outcome_of, GoesOnFrom}
use Rattle.store_model.specs.Concrete.State.{State, Answer, beginning}

outlive : (body block : ℕ) (n : Beside) (halt : Halt) (w : State) (later : Beside) →
    one_tick_more.outlives n halt w later → one_tick_more.outlives n (stuck_in body block halt) w later
outlive body block OneMore OutOfTicks w (After before) r = r
outlive body block n halt w later r = absurd r

names : Names one_tick_more
names = record { lapse = λ body block n halt w r. absurd r; outlive = outlive; refuse = λ body block halt r. absurd r }

if_body_follows : (o : Option Body) (f : Body → State → Out State) → ((body : Body) → FollowsOuts one_tick_more (f body) (f body)) →
    FollowsOuts one_tick_more (λ w. option_map_or (λ body. f body w) o (Halts Stuck w)) (λ w. option_map_or (λ body. f body w) o (Halts Stuck w))
if_body_follows None f e n w c k = ends one_tick_more n Stuck w c k
if_body_follows (Some body) f e n w c k = e body n w c k

within_follows : (graph : Graph) → FollowsWithin (code_of graph)
within_follows graph p follow turns number =
    if_body_follows (slice_get graph.bodies number) _ (λ body. walk_follows one_tick_more names p p follow number (λ block line. 0) body turns 0)

module _ (strict : Bool) (graph : Graph) where
  abbrev run_within : ℕ → Event → ℕ → State → Answer
  run_within n event body w = run_body (setting_of strict graph) (code_of graph) n event body [] w

  pub run_goes_on : (event : Event) (main : ℕ) (asked : List ℤ) (ticks : ℕ) →
      GoesOnFrom (outcome_of (run_within (suc ticks) event main (beginning asked ticks))) (outcome_of (run_within (suc (suc ticks)) event main (beginning asked (suc ticks))))
  run_goes_on event main asked ticks =
      subst (λ a. GoesOnFrom (outcome_of a) (outcome_of (run_within (suc (suc ticks)) event main (beginning asked (suc ticks)))))
      (sym (values_nested strict graph (suc ticks) (suc (suc ticks)) event main [] (beginning asked ticks) (omega arith) (omega arith)))
      (goes_on_from _ _ (bodies_more (setting_of strict graph) (code_of graph) (within_follows graph) (suc (suc ticks)) OneMore event main [] (beginning asked ticks) tt))

pub graph_run_goes_on : GraphRunGoesOn
graph_run_goes_on graph asked ticks = run_goes_on true graph (Event.Call (main_of graph.items)) (main_of graph.items) asked ticks

pub raw_graph_run_goes_on : RawGraphRunGoesOn
raw_graph_run_goes_on graph asked ticks = run_goes_on false graph (Event.Call (main_of graph.items)) (main_of graph.items) asked ticks
