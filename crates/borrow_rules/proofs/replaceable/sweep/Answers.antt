use Rattle.std.proofs.Common.{map}
use Rattle.borrow_rules.specs.View.{fact_in, params_in}
use Rattle.borrow_rules.proofs.Noting.{begins}
use Rattle.borrow_rules.proofs.replaceable.sweep.Goals as goal

pub loop-turn-init : goal.loop-turn-init
loop-turn-init c = begins c.args.items.now (map fact_in c.args.facts.now) (params_in c.args.found.now.keys) c.args.is_back c.requires.sound
