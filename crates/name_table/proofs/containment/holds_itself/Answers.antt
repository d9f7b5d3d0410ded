use Rattle.std.proofs.Common.{sym}
use Rattle.name_table.proofs.HeldTypes.{none_held}
use Rattle.name_table.proofs.containment.holds_itself.Goals as goal

pub returns-then-is_behind-clause-holds : goal.returns-then-is_behind-clause-holds
returns-then-is_behind-clause-holds c = sym (none_held c.args.items.now c.args.order.now c.requires c.args.id c.if-is_behind.ensures)
