use Rattle.std.proofs.Common.{◌≡◌, List, map, take, subst}
use Rattle.std.proofs.lemmas.List.{take_all}
use Rattle.machine_steps.specs.declared.told.ToldEvents.{ToldEvents}
use Rattle.machine_steps.specs.Worlds.{event_of}
use Rattle.mir_machine.specs.Runs.{Counting}
use Rattle.mir_machine.proofs.RunsCounted.{counting_more, counting_none}
use Rattle.mir_machine.proofs.counted.count_all.Goals as goal

pub loop-one-init : goal.loop-one-init
loop-one-init c = counting_none c.args.counts.now

pub loop-one-preserved : goal.loop-one-preserved
loop-one-preserved c =
    counting_more c.args.counts.now c.loop-one.counts c.count_one.new.counts c.args.told.now c.loop-one.one-index _
    c.loop-one-test.true c.loop-one.invariant c.in_ok-count_one.ensures

pub returns : goal.returns
returns c =
    subst (λ (told : List ToldEvents). Counting c.args.counts.now c.loop-one.counts (map event_of told))
    (take_all c.loop-one.one-index c.args.told.now c.loop-one-test.false) c.loop-one.invariant
