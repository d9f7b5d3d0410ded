use Rattle.std.proofs.Common.{subst, sym}
use Rattle.typeck_checker.specs.Tables.{AreTablesOf}
use Rattle.type_check.proofs.Starting.{ready}
use Rattle.type_check.proofs.start.tables.Goals as goal

pub returns-clause-ready : goal.returns-clause-ready
returns-clause-ready c =
    subst (AreTablesOf c.args.items.now) (sym c.put_together.ensures)
    (ready c.args.items.now _ _ _ c.in_ok-of_items.ensures c.in_ok-impls.ensures)
