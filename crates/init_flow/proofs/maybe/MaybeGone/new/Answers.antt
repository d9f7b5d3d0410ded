use Rattle.std.proofs.Common.{true}
use Rattle.init_flow.specs.declared.switches.Switches.{Switches}
use Rattle.init_flow.proofs.Carrying.{says-all}
use Rattle.init_flow.proofs.Inside.{inside}
use Rattle.init_flow.proofs.maybe.MaybeGone.new.Goals as goal

pub returns-clause-is_for : goal.returns-clause-is_for
returns-clause-is_for c found at = (c.in_ok-switches_in.ensures found at).ways.long

pub returns-clause-says : goal.returns-clause-says
returns-clause-says c found at =
    let items = c.args.graph.now.items in
    let forest = c.args.forest.now in
    let is = c.requires.forest found at in
    let switches : Switches = c.in_ok-switches_in.field-0 in
    let are = c.in_ok-switches_in.ensures found at in
    says-all items found forest is (λ n way block small here. inside items found forest is n way block here) true switches are switches.first are.first
