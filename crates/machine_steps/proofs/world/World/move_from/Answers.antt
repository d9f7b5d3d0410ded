use Rattle.std.proofs.Common.{◌≡◌, true, [], Some, ap, sym, ◌∙◌, arith}
use Rattle.std.proofs.lemmas.Grind.{common_steps}
use Rattle.cfg_meaning.specs.Actions.{site_of}
use Rattle.cfg_meaning.specs.Programs.{setting_of}
use Rattle.machine_store.specs.Activations.{activations_of, root_in}
use Rattle.machine_store.specs.Standing.{standing, located_of, with_activations}
use Rattle.machine_steps.specs.Worlds.{state_of}
use Rattle.machine_steps.proofs.Operands.{if_ok_both, taken_whole, place_whole}
use Rattle.store_model.specs.Concrete.Effects.{whole_at}
use Rattle.store_model.specs.Values.Access.{value_at, replaced}
use Rattle.store_model.specs.Concrete.State.{with_cell_at}
use Rattle.store_model.specs.Values.Datum.{Gone}
use Rattle.machine_steps.proofs.world.World.move_from.Goals as goal

pub returns-clause-taken : goal.returns-clause-taken
returns-clause-taken c =
    let world = c.args.self.now in
    let s = located_of c.in-Some.s in
    let found : whole_at (setting_of true c.args.self.now.graph.now) (with_activations (activations_of c.args.self.now.store)) (site_of 0 c.args.place.now) ≡ Some (located_of c.in-Some.s) = grind (arith, common_steps) in
    let whole = place_whole world.strict world.graph.now c.args.place.now (state_of [] world) s found in
    let path = c.as_slice.ensures in
    let stands : value_at c.as_slice.result.now (root_in c.in-Some.s.address.depth c.in-Some.s.address.key.0 (activations_of c.args.self.now.store)) ≡ Some (standing c.in-Some.s.value) =
    ap (λ p. value_at p (root_in c.in-Some.s.address.depth c.in-Some.s.address.key.0 (activations_of c.args.self.now.store))) path ∙ whole.1.there
    in
    if_ok_both c.take.result _ _ _ c.take.ensures.taken c.take.ensures.after
    (λ taken value acts before. taken_whole world.strict world.graph.now c.args.place.now (state_of before world) _ s found
    (ap (λ a. record (state_of before world) { activations = a })
    (sym (acts ∙ ap (λ p. with_cell_at c.in-Some.s.address.depth c.in-Some.s.address.key.0
    (replaced p Gone (root_in c.in-Some.s.address.depth c.in-Some.s.address.key.0 (activations_of c.args.self.now.store))) (activations_of c.args.self.now.store)) path)))
    taken (value ∙ stands))
