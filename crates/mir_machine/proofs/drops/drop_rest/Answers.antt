use Rattle.std.proofs.Common.{ap, sym, ◌∙◌}
use Rattle.mir_machine.proofs.DropsBegin.{rest_drops, rest_nothing, rest_nowhere}
use Rattle.machine_store.specs.Standing.{reached_of}
use Rattle.mir_machine.proofs.drops.drop_rest.Goals as goal

pub returns-in-Reaches : goal.returns-in-Reaches
returns-in-Reaches c = λ raw graph tasks.
    rest_drops graph tasks c.args.world.now c.args.post c.args.place.now c.in-Reaches.s c.drop_of.result (sym c.in_ok-s.ensures ∙ ap reached_of c.in-Reaches.is) c.drop_of.ensures raw

pub returns-in-CutOff : goal.returns-in-CutOff
returns-in-CutOff c = λ raw graph tasks.
    rest_nothing graph tasks c.args.world.now c.args.post c.args.place.now (sym c.in_ok-s.ensures ∙ ap reached_of c.in-CutOff.is) raw

pub returns-in-Nowhere : goal.returns-in-Nowhere
returns-in-Nowhere c = λ raw graph tasks.
    rest_nowhere graph tasks c.args.world.now c.args.post c.args.place.now c.stuck.result (sym c.in_ok-s.ensures ∙ ap reached_of c.in-Nowhere.is) c.stuck.ensures raw
