use Rattle.std.proofs.Common.{rules}
use Rattle.init_flow.specs.WorkList.{Problem, Law, problem}
use Rattle.init_flow.proofs.Turn.{begins, nonempty, on_ok}
use Rattle.init_flow.proofs.solver.begin.Goals as goal

pub returns-clause-good : goal.returns-clause-good
returns-clause-good g c =
    let f : Problem = problem (g.A.Analysis.width c.args.analysis.now) (g.A.Analysis.first c.args.analysis.now) (g.A.Analysis.passed c.args.analysis.now) c.args.items.now c.args.body.now in
    let law : Law f = record {
      begins = g.met.A.Analysis.first_width c.args.analysis.now;
      keeps = λ n k row l. g.met.A.Analysis.keeps c.args.analysis.now c.args.body.now n k row l;
      distributes = λ n k a b l m. g.met.A.Analysis.distributes c.args.analysis.now c.args.body.now n k a b l m;
    } in
    on_ok (λ arrived. (begins f law c.args.flow.now c.arrive.new.self c.start.new.row c.requires.state c.requires.heap (nonempty c.args.body.now.blocks (λ e. let is = c.is_empty.ensures.1 e in let no = c.if-is_empty.false in search rules)) c.start.ensures arrived).0) c.arrive.result c.arrive.ensures

pub returns-clause-started : goal.returns-clause-started
returns-clause-started g c =
    let f : Problem = problem (g.A.Analysis.width c.args.analysis.now) (g.A.Analysis.first c.args.analysis.now) (g.A.Analysis.passed c.args.analysis.now) c.args.items.now c.args.body.now in
    let law : Law f = record {
      begins = g.met.A.Analysis.first_width c.args.analysis.now;
      keeps = λ n k row l. g.met.A.Analysis.keeps c.args.analysis.now c.args.body.now n k row l;
      distributes = λ n k a b l m. g.met.A.Analysis.distributes c.args.analysis.now c.args.body.now n k a b l m;
    } in
    on_ok (λ arrived. (begins f law c.args.flow.now c.arrive.new.self c.start.new.row c.requires.state c.requires.heap (nonempty c.args.body.now.blocks (λ e. let is = c.is_empty.ensures.1 e in let no = c.if-is_empty.false in search rules)) c.start.ensures arrived).1) c.arrive.result c.arrive.ensures
