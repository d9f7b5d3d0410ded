use Rattle.std.proofs.Common.{◌≡◌, suc, Some, None, map, ap, sym, ◌∙◌, arith}
use Rattle.std.proofs.lemmas.Grind.{common_steps}
use Rattle.std.specs.Prelude.{slice_get}
use Rattle.cfg_meaning.specs.Programs.{arguments_from}
use Rattle.mir_machine.proofs.BodiesLeft.{out_of_ticks, no_body, body_walks}
use Rattle.machine_steps.specs.Worlds.{state_of}
use Rattle.store_model.specs.Concrete.State.{with_activation}
use Rattle.store_model.specs.Values.Datum.{datum_of}
use Rattle.mir_machine.proofs.calls.enter.Goals as goal

pub returns-in_default : goal.returns-in_default
returns-in_default c = λ strict ticks run before ranked runs h.
    let zero : c.args.world.now.ticks ≡ 0 = grind (arith, common_steps) in
    (runs, out_of_ticks strict c.args.graph.now ticks run c.args.tasks.now c.args.event c.args.number (map datum_of c.args.args) (state_of before c.args.world.now) h zero)

pub returns-in-None : goal.returns-in-None
returns-in-None c = λ strict ticks run before ranked runs h.
    let n : c.args.world.now.ticks ≡ suc c.in-Some.left = grind (arith, common_steps) in
    let none : slice_get c.args.graph.now.bodies c.args.number ≡ None = grind (arith, common_steps) in (
      c.in_ok-tell.ensures.run ∙ runs,
      no_body strict c.args.graph.now ticks run c.args.tasks.now c.args.event c.args.number (map datum_of c.args.args) (state_of before c.args.world.now) h c.in-Some.left n none
          (record (state_of before c.tell.new.self) { activations = _ })
          (ap (λ a. record (state_of before c.tell.new.self) { activations = a }) c.in_ok-enter.ensures
          ∙ ap (with_activation (record { body = c.args.number; cells = arguments_from 1 (map datum_of c.args.args) })) (c.in_ok-tell.ensures.told before))
          ∙ ap (λ e. ((state_of before c.tell.new.self).trace, e)) (sym c.end_of_lost.ensures),
    )

pub returns-in-Some-get : goal.returns-in-Some-get
returns-in-Some-get c = λ strict ticks run before ranked runs h.
    let n : c.args.world.now.ticks ≡ suc c.in-Some.left = grind (arith, common_steps) in
    let some : slice_get c.args.graph.now.bodies c.args.number ≡ Some c.in-Some-get.field-0.now = grind (arith, common_steps) in (
      c.in_ok-tell.ensures.run ∙ runs,
      body_walks strict c.args.graph.now ticks run c.args.tasks.now c.args.event c.args.number (map datum_of c.args.args) (state_of before c.args.world.now) h c.in-Some.left n c.in-Some-get.field-0.now some
          (record (state_of before c.tell.new.self) { activations = _ })
          (ap (λ a. record (state_of before c.tell.new.self) { activations = a }) c.in_ok-enter.ensures
          ∙ ap (with_activation (record { body = c.args.number; cells = arguments_from 1 (map datum_of c.args.args) })) (c.in_ok-tell.ensures.told before)),
    )
