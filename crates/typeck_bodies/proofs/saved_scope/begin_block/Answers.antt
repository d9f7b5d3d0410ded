use Rattle.typeck_bodies.proofs.ParamPlaces.{block_is, loops_are}
use Rattle.typeck_bodies.proofs.saved_scope.begin_block.Goals as goal

pub returns-clause-block : goal.returns-clause-block
returns-clause-block c =
    block_is c.args.checker.now.tables c.args.answer c.args.checker.now.around c.put_loops_aside-loops.new.around c.put_loops_aside-loops.ensures.block

pub returns-clause-aside : goal.returns-clause-aside
returns-clause-aside c =
    loops_are c.args.checker.now.tables c.args.aside c.with_own_loops.result c.args.checker.now.around c.put_loops_aside-loops.result
    c.with_own_loops.ensures.others c.with_own_loops.ensures.loops c.put_loops_aside-loops.ensures.loops
