use Rattle.std.proofs.Common.{◌≡◌, rules}
use Rattle.mir_ty.specs.Facts.{is_copy}
use Rattle.mir_ty.proofs.LeastRelations.{is_copy-rules}
use Rattle.mir_ty.proofs.items.Items.is_copy.Goals as goal

pub returns-clause-rules : goal.returns-clause-rules
returns-clause-rules c =
    let is : c.is_known.result ≡ is_copy c.args.self.now c.args.id = search rules in
    rw is (is_copy-rules c.args.self.now c.args.id)
