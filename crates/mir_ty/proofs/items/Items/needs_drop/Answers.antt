use Rattle.std.proofs.Common.{◌≡◌, rules}
use Rattle.mir_ty.specs.Facts.{needs_drop}
use Rattle.mir_ty.proofs.LeastRelations.{needs_drop-rules}
use Rattle.mir_ty.proofs.items.Items.needs_drop.Goals as goal

pub returns-clause-rules : goal.returns-clause-rules
returns-clause-rules c =
    let is : c.is_known.result ≡ needs_drop c.args.self.now c.args.id = search rules in
    rw is (needs_drop-rules c.args.self.now c.args.id)
