use Rattle.init_flow.specs.WorkList.{Problem, Law, problem}
use Rattle.init_flow.proofs.Turn.{both_turned, on_ok}
use Rattle.init_flow.proofs.solver.turn_block.Goals as goal

pub turn-requires-2-clause-good : goal.turn-requires-2-clause-good
turn-requires-2-clause-good g c = c.in_ok-turn.ensures.turns.good

pub turn-requires-2-clause-reached : goal.turn-requires-2-clause-reached
turn-requires-2-clause-reached g c = c.in_ok-turn.ensures.turns.reached c.args.block c.requires.reached

pub returns-clause-turns : goal.returns-clause-turns
returns-clause-turns g c =
    let f : Problem = problem (g.A.Analysis.width c.args.analysis.now) (g.A.Analysis.first c.args.analysis.now) (g.A.Analysis.passed c.args.analysis.now) c.args.items.now c.args.body.now in
    let law : Law f = record {
      begins = g.met.A.Analysis.first_width c.args.analysis.now;
      keeps = λ n k row l. g.met.A.Analysis.keeps c.args.analysis.now c.args.body.now n k row l;
      distributes = λ n k a b l m. g.met.A.Analysis.distributes c.args.analysis.now c.args.body.now n k a b l m;
    } in
    on_ok (both_turned f law c.args.flow.now c.turn.new.flow c.turn-2.new.flow c.args.block c.in_ok-turn.ensures.turns) c.turn-2.result c.turn-2.ensures.turns
