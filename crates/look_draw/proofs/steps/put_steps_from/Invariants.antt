use Rattle.std.proofs.Common.{◌≡◌, ◌++◌, drop}
use Rattle.look_draw.specs.Steps.{steps_from}
use Rattle.look_draw.proofs.steps.put_steps_from.Given as goal

abbrev pub invariant-loop-to : goal.invariant-loop-to
invariant-loop-to l =
    l.out.items ++ steps_from l.graph l.sites l.body l.from (drop l.to-index l.path)
    ≡ l.fn.out.items ++ steps_from l.graph l.sites l.body l.first l.path
