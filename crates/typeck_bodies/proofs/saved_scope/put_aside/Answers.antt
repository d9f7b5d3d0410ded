use Rattle.typeck_bodies.proofs.ParamPlaces.{alone_is, aside_is}
use Rattle.typeck_bodies.proofs.saved_scope.put_aside.Goals as goal

pub returns-clause-alone : goal.returns-clause-alone
returns-clause-alone c =
    alone_is c.args.checker.now.tables c.args.checker.now.around c.put_variables_aside.new.around c.put_variables_aside.ensures.alone

pub returns-clause-aside : goal.returns-clause-aside
returns-clause-aside c =
    aside_is c.args.checker.now.tables c.args.checker.now.around c.put_variables_aside.result c.put_variables_aside.ensures.aside
