use Rattle.std.proofs.Common.{◌≡◌, ℕ, ap, sym, ◌∙◌, arith}
use Rattle.init_flow.specs.Ways.{target}
use Rattle.init_flow.specs.WorkList.{Problem, Law, problem, bit}
use Rattle.init_flow.proofs.HeapLemmas.{byte-bit}
use Rattle.init_flow.proofs.Turn.{nowhere, turned, on_ok, no_some, some_one}
use Rattle.init_flow.proofs.solver.turn.Goals as goal

pub returns-in_default-clause-turns : goal.returns-in_default-clause-turns
returns-in_default-clause-turns g c =
    let f : Problem = problem (g.A.Analysis.width c.args.analysis.now) (g.A.Analysis.first c.args.analysis.now) (g.A.Analysis.passed c.args.analysis.now) c.args.items.now c.args.body.now in
    let law : Law f = record {
      begins = g.met.A.Analysis.first_width c.args.analysis.now;
      keeps = λ n k row l. g.met.A.Analysis.keeps c.args.analysis.now c.args.body.now n k row l;
      distributes = λ n k a b l m. g.met.A.Analysis.distributes c.args.analysis.now c.args.body.now n k a b l m;
    } in
    let to : target c.args.items.now c.args.body.now c.args.block (bit c.args.way) ≡ c.target.result =
    ap (target c.args.items.now c.args.body.now c.args.block) (sym (byte-bit c.args.way)) ∙ sym c.target.ensures.to in
    nowhere f law c.args.flow.now c.args.block c.args.way c.requires.good (λ x e l. no_some x (target c.args.items.now c.args.body.now c.args.block (bit c.args.way)) (to ∙ c.in_default.is) e)

pub returns-then-to-len-clause-turns : goal.returns-then-to-len-clause-turns
returns-then-to-len-clause-turns g c =
    let f : Problem = problem (g.A.Analysis.width c.args.analysis.now) (g.A.Analysis.first c.args.analysis.now) (g.A.Analysis.passed c.args.analysis.now) c.args.items.now c.args.body.now in
    let law : Law f = record {
      begins = g.met.A.Analysis.first_width c.args.analysis.now;
      keeps = λ n k row l. g.met.A.Analysis.keeps c.args.analysis.now c.args.body.now n k row l;
      distributes = λ n k a b l m. g.met.A.Analysis.distributes c.args.analysis.now c.args.body.now n k a b l m;
    } in
    let to : target c.args.items.now c.args.body.now c.args.block (bit c.args.way) ≡ c.target.result =
    ap (target c.args.items.now c.args.body.now c.args.block) (sym (byte-bit c.args.way)) ∙ sym c.target.ensures.to in
    nowhere f law c.args.flow.now c.args.block c.args.way c.requires.good
    (λ x e l. let same : x ≡ c.in-Some.to = some_one x c.in-Some.to (sym e ∙ to ∙ c.in-Some.is) in let past = c.if-to-len.true in let count = c.len.ensures in let rows = c.requires.good.rows_are in absurd (omega (same, past, count, rows, l, arith)))

pub returns-clause-turns : goal.returns-clause-turns
returns-clause-turns g c =
    let f : Problem = problem (g.A.Analysis.width c.args.analysis.now) (g.A.Analysis.first c.args.analysis.now) (g.A.Analysis.passed c.args.analysis.now) c.args.items.now c.args.body.now in
    let law : Law f = record {
      begins = g.met.A.Analysis.first_width c.args.analysis.now;
      keeps = λ n k row l. g.met.A.Analysis.keeps c.args.analysis.now c.args.body.now n k row l;
      distributes = λ n k a b l m. g.met.A.Analysis.distributes c.args.analysis.now c.args.body.now n k a b l m;
    } in
    let to : target c.args.items.now c.args.body.now c.args.block (bit c.args.way) ≡ c.target.result =
    ap (target c.args.items.now c.args.body.now c.args.block) (sym (byte-bit c.args.way)) ∙ sym c.target.ensures.to in
    on_ok (turned f law c.args.flow.now c.arrive.new.self c.args.block c.in-Some.to c.args.way c.pass.new.row c.requires.good c.requires.block c.requires.reached (to ∙ c.in-Some.is)
    (let within = c.if-to-len.false in let count = c.len.ensures in let rows = c.requires.good.rows_are in omega (within, count, rows, arith))
    (c.pass.ensures ∙ ap (λ (n : ℕ). g.A.Analysis.passed c.args.analysis.now c.args.body.now c.args.block n c.copy_into.new.into) (byte-bit c.args.way) ∙ ap (g.A.Analysis.passed c.args.analysis.now c.args.body.now c.args.block (bit c.args.way)) (c.copy_into.ensures ∙ c.row_of.ensures))) c.arrive.result c.arrive.ensures
