use Rattle.std.proofs.Common.{ℕ, List, [], sym, subst, length, arith}
use Rattle.init_flow.specs.WorkList.{Problem, SolverState, Law, Good, problem, state_of}
use Rattle.init_flow.proofs.Turn.{took}
use Rattle.init_flow.specs.Carried.{AreCarried}
use Rattle.init_flow.specs.Ways.{target}
use Rattle.init_flow.proofs.Answer.{are_carried}
use Rattle.init_flow.proofs.WayLemmas.{has_block}
use Rattle.init_flow.proofs.solver.solve.Goals as goal

pub take-requires : goal.take-requires
take-requires g c =
    λ n h. let below = (c.loop-block.invariant.0.known n h).0 in let count = c.loop-block.invariant.0.waiting_are in omega (below, count, arith)

pub turn_block-requires-clause-good : goal.turn_block-requires-clause-good
turn_block-requires-clause-good g c =
    let f : Problem = problem (g.A.Analysis.width c.args.analysis.now) (g.A.Analysis.first c.args.analysis.now) (g.A.Analysis.passed c.args.analysis.now) c.args.items.now c.args.body.now in
    let law : Law f = record {
      begins = g.met.A.Analysis.first_width c.args.analysis.now;
      keeps = λ n k row l. g.met.A.Analysis.keeps c.args.analysis.now c.args.body.now n k row l;
      distributes = λ n k a b l m. g.met.A.Analysis.distributes c.args.analysis.now c.args.body.now n k a b l m;
    } in
    (took f law c.loop-block.flow c.take.new.self c.in-Some.block c.loop-block.invariant.0 c.in-Some.ensures.some).0

pub turn_block-requires-clause-block : goal.turn_block-requires-clause-block
turn_block-requires-clause-block g c =
    let f : Problem = problem (g.A.Analysis.width c.args.analysis.now) (g.A.Analysis.first c.args.analysis.now) (g.A.Analysis.passed c.args.analysis.now) c.args.items.now c.args.body.now in
    let law : Law f = record {
      begins = g.met.A.Analysis.first_width c.args.analysis.now;
      keeps = λ n k row l. g.met.A.Analysis.keeps c.args.analysis.now c.args.body.now n k row l;
      distributes = λ n k a b l m. g.met.A.Analysis.distributes c.args.analysis.now c.args.body.now n k a b l m;
    } in
    (took f law c.loop-block.flow c.take.new.self c.in-Some.block c.loop-block.invariant.0 c.in-Some.ensures.some).1

pub turn_block-requires-clause-reached : goal.turn_block-requires-clause-reached
turn_block-requires-clause-reached g c =
    let f : Problem = problem (g.A.Analysis.width c.args.analysis.now) (g.A.Analysis.first c.args.analysis.now) (g.A.Analysis.passed c.args.analysis.now) c.args.items.now c.args.body.now in
    let law : Law f = record {
      begins = g.met.A.Analysis.first_width c.args.analysis.now;
      keeps = λ n k row l. g.met.A.Analysis.keeps c.args.analysis.now c.args.body.now n k row l;
      distributes = λ n k a b l m. g.met.A.Analysis.distributes c.args.analysis.now c.args.body.now n k a b l m;
    } in
    (took f law c.loop-block.flow c.take.new.self c.in-Some.block c.loop-block.invariant.0 c.in-Some.ensures.some).2

pub returns-clause-carried : goal.returns-clause-carried
returns-clause-carried g c =
    let f : Problem = problem (g.A.Analysis.width c.args.analysis.now) (g.A.Analysis.first c.args.analysis.now) (g.A.Analysis.passed c.args.analysis.now) c.args.items.now c.args.body.now in
    let law : Law f = record {
      begins = g.met.A.Analysis.first_width c.args.analysis.now;
      keeps = λ n k row l. g.met.A.Analysis.keeps c.args.analysis.now c.args.body.now n k row l;
      distributes = λ n k a b l m. g.met.A.Analysis.distributes c.args.analysis.now c.args.body.now n k a b l m;
    } in
    let state = c.in_default.ensures.same in
    let done : Good f (state_of c.loop-block.flow) [] 0 2 =
    subst (λ (h : List ℕ). Good f (state_of c.loop-block.flow) h 0 2) c.in_default.ensures.none c.loop-block.invariant.0 in
    subst (λ (s : SolverState). AreCarried (length c.args.body.now.blocks) (target c.args.items.now c.args.body.now) (g.A.Analysis.passed c.args.analysis.now c.args.body.now) (g.A.Analysis.first c.args.analysis.now) s.rows) (sym state)
    (are_carried f law (state_of c.loop-block.flow) done c.loop-block.invariant.1 (has_block c.args.items.now c.args.body.now))
