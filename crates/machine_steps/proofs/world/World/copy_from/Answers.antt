use Rattle.std.proofs.Common.{◌≡◌, true, Some, arith}
use Rattle.std.proofs.lemmas.Grind.{common_steps}
use Rattle.cfg_meaning.specs.Actions.{site_of}
use Rattle.cfg_meaning.specs.Programs.{setting_of}
use Rattle.machine_store.specs.Activations.{activations_of}
use Rattle.machine_store.specs.Standing.{located_of, with_activations}
use Rattle.machine_steps.specs.Worlds.{state_of}
use Rattle.machine_steps.proofs.Operands.{copied_some}
use Rattle.store_model.specs.Concrete.Effects.{whole_at}
use Rattle.store_model.specs.Values.Datum.{datum_of}
use Rattle.machine_steps.proofs.world.World.copy_from.Goals as goal

pub returns-in-Some-value : goal.returns-in-Some-value
returns-in-Some-value c = λ before.
    let world = c.args.self.now in
    let found : whole_at (setting_of true c.args.self.now.graph.now) (with_activations (activations_of c.args.self.now.store)) (site_of 0 c.args.place.now) ≡ Some (located_of c.in-Some.s) = grind (arith, common_steps) in
    copied_some world.strict world.graph.now c.args.place.now (state_of before world) (located_of c.in-Some.s) found (datum_of c.in_ok-copy-in-Some-value.field-0) (grind (arith, common_steps))
