use Rattle.std.proofs.Common.{◌≡◌, drop, map}
use Rattle.init_flow.specs.Switches.{all_switched, taken}
use Rattle.init_flow.proofs.switches.Switches.all.Given as goal

abbrev pub invariant-loop-switch : goal.invariant-loop-switch
invariant-loop-switch l =
    all_switched l.self.below (map (taken l.gone) (drop l.switch-index l.switches)) l.row
    ≡ all_switched l.self.below (map (taken l.gone) l.switches) l.initial.row
