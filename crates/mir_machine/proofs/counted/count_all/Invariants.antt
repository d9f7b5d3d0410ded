use Rattle.std.proofs.Common.{map, take}
use Rattle.machine_steps.specs.Worlds.{event_of}
use Rattle.mir_machine.specs.Runs.{Counting}
use Rattle.mir_machine.proofs.counted.count_all.Given as goal

abbrev pub invariant-loop-one : goal.invariant-loop-one
invariant-loop-one l = Counting l.initial.counts l.counts (map event_of (take l.one-index l.told))
