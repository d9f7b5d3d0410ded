use Rattle.std.proofs.Common.{true, ap, sym, subst, ◌∙◌}
use Rattle.cfg_meaning.specs.Programs.{setting_of}
use Rattle.machine_steps.specs.Reading.{IsFound}
use Rattle.machine_store.specs.Activations.{activations_of}
use Rattle.machine_store.specs.Standing.{dynamic_of, with_activations}
use Rattle.machine_steps.specs.Worlds.{state_of, run_setting}
use Rattle.store_model.specs.Concrete.Location.{located_at}
use Rattle.machine_steps.specs.Continuation.{is_still}
use Rattle.machine_steps.proofs.TurnsLeft.{cleared_there, something_found}
use Rattle.machine_steps.proofs.turns.clear.Goals as goal

pub returns-clause-cleared : goal.returns-clause-cleared
returns-clause-cleared c = λ before run.
    let world = c.args.world.now in
    let address = c.args.address.now in
    let finds = subst (IsFound world.graph.now.items (located_at (setting_of true world.graph.now) (with_activations (activations_of world.store)) address)) c.in-Some.is c.in_ok-found.ensures in
    cleared_there (run_setting world) run (state_of before world) address c.args.dynamic finds.s (something_found world before address c.in-Some.found finds)
    (ap (is_still world.graph.now.items (dynamic_of c.args.dynamic)) finds.dynamic_is ∙ sym c.is_still.ensures ∙ c.if-not-is_still.false)
    (state_of before c.take_away.new.world) (c.in_ok-take_away.ensures.gone before)
