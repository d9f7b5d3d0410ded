use Rattle.std.proofs.Common.{true, [], ap, sym, subst, ◌∙◌}
use Rattle.cfg_meaning.specs.Programs.{setting_of}
use Rattle.machine_steps.specs.Reading.{IsFound}
use Rattle.machine_store.specs.Activations.{activations_of}
use Rattle.machine_store.specs.Standing.{dynamic_of, with_activations}
use Rattle.machine_steps.specs.Worlds.{state_of, run_setting}
use Rattle.store_model.specs.Concrete.Location.{located_at}
use Rattle.machine_steps.specs.Continuation.{is_still}
use Rattle.machine_steps.specs.Reading.{ShowsValue}
use Rattle.machine_steps.proofs.TurnsLeft.{freed_box, something_found}
use Rattle.mir_base.specs.declared.trace.Event.{Event}
use Rattle.store_model.specs.Concrete.State.{State, with_event}
use Rattle.machine_steps.proofs.turns.free.Goals as goal

pub returns-clause-freed : goal.returns-clause-freed
returns-clause-freed c = λ before run.
    let world = c.args.world.now in
    let address = c.args.address.now in
    let finds = subst (IsFound world.graph.now.items (located_at (setting_of true world.graph.now) (with_activations (activations_of world.store)) address)) c.in-Some.is c.in_ok-found.ensures in
    let shows = subst (ShowsValue world.graph.now.items finds.s.value finds.s.dynamic) c.in-Boxed.is finds.shows in
    freed_box (run_setting world) run (state_of before world) address c.args.dynamic c.in-Boxed.serial shows.impl_no shows.inside finds.s (something_found world before address c.in-Some.found finds)
    (ap (is_still world.graph.now.items (dynamic_of c.args.dynamic)) finds.dynamic_is ∙ sym c.is_still.ensures ∙ c.if-not-is_still.false)
    shows.is (state_of before c.tell.new.self)
    (c.in_ok-tell.ensures.told before ∙ ap (with_event (Event.Freed c.in-Boxed.serial)) (c.in_ok-take_away.ensures.gone before))

pub returns-clause-ticks : goal.returns-clause-ticks
returns-clause-ticks c = ap (λ (w : State). w.ticks) (c.in_ok-tell.ensures.told []) ∙ c.in_ok-take_away.ensures.ticks
