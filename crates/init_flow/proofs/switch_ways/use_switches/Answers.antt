use Rattle.std.proofs.Common.{List, subst, true}
use Rattle.move_paths.specs.Uses.{listed}
use Rattle.init_flow.specs.declared.switches.Switch.{Switch}
use Rattle.init_flow.specs.Fits.{AreSwitched}
use Rattle.init_flow.proofs.Fitting.{switched-all}
use Rattle.init_flow.proofs.switch_ways.use_switches.Goals as goal

pub returns : goal.returns
returns c =
    let paths = c.args.forest.now.paths in
    switched-all paths true c.add_uses.new.switches (listed c.args.uses.now)
    (subst (λ (z : List Switch). AreSwitched paths true z c.add_uses.new.switches (listed c.args.uses.now)) c.new-switches.ensures c.in_ok-add_uses.ensures)
