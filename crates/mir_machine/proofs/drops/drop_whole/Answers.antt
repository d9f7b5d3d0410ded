use Rattle.std.proofs.Common.{ap, sym, ◌∙◌}
use Rattle.std.specs.Prelude.{option_map}
use Rattle.mir_machine.proofs.DropsBegin.{whole_drops, whole_missing}
use Rattle.machine_store.specs.Standing.{located_of}
use Rattle.mir_machine.proofs.drops.drop_whole.Goals as goal

pub returns-in-Some : goal.returns-in-Some
returns-in-Some c = λ strictly graph tasks.
    whole_drops graph tasks c.args.world.now c.args.post c.args.place.now c.in-Some.s c.drop_of.result (sym c.in_ok-s.ensures ∙ ap (option_map located_of) c.in-Some.is) c.drop_of.ensures strictly

pub returns-in-None : goal.returns-in-None
returns-in-None c = λ strictly graph tasks.
    whole_missing graph tasks c.args.world.now c.args.post c.args.place.now c.stuck.result (sym c.in_ok-s.ensures ∙ ap (option_map located_of) c.in-None.is) c.stuck.ensures strictly
