use Rattle.std.proofs.Common.{◌≡◌, ◌∙◌, ◌≤◌, ◌∷◌, [], ◌++◌, ◌+◌, ℕ, List, drop, length, refl, sym, ap, subst, arith}
use Rattle.std.proofs.lemmas.Grind.{common_steps}
use Rattle.std.proofs.lemmas.Iterator.Adapters.{YieldsList-from_vec}
use Rattle.std.proofs.lemmas.Iterator.Consumers.{YieldsList-turn, YieldsList-end}
use Rattle.std.proofs.lemmas.List.{length_push}
use Rattle.cfg_graph.specs.declared.statement.Stmt.{Stmt}
use Rattle.cfg_graph.specs.Uses.{stmt_uses}
use Rattle.drop_elaborate.specs.Elaborated.{flags_of_uses, with_flags}
use Rattle.drop_flags.specs.Flags.{paths_of}
use Rattle.drop_flags.proofs.Asking.{stmt-is}
use Rattle.drop_flags.proofs.Following.{one_more, none_left}
use Rattle.drop_flags.proofs.flags.Flags.add_stmts.Goals as goal

pub loop-stmt-init : goal.loop-stmt-init
loop-stmt-init c = λ items body are. refl

pub loop-stmt-preserved : goal.loop-stmt-preserved
loop-stmt-preserved c = λ items body are.
    let lines : List Stmt = c.args.lines in
    let gives = YieldsList-from_vec lines (grind (arith, common_steps)) (grind (arith, common_steps)) in
    let t = YieldsList-turn gives c.loop-stmt.yielded _ c.loop-stmt.yielded_by _ c.next.new.self c.in-Some.stmt c.in-Some.is c.next.ensures.steps in
    let stmt : Stmt = c.in-Some.stmt in
    let i = length c.loop-stmt.yielded in
    let next : length (c.loop-stmt.yielded ++ stmt ∷ []) ≡ i + 1 = length_push c.loop-stmt.yielded stmt in
    let flagged = paths_of c.args.self.now in
    subst (λ (n : ℕ). c.add_stmt.new.stmts ++ with_flags items body flagged (drop n lines)
    ≡ c.args.stmts.now ++ with_flags items body flagged lines) (sym next)
    (one_more (with_flags items body flagged) (λ (s : Stmt). s ∷ flags_of_uses items body flagged (stmt_uses s)) lines i stmt
    c.loop-stmt.stmts c.add_stmt.new.stmts _ (λ x rest. refl) t.0 t.1
    (c.in_ok-add_stmt.ensures ∙ ap (λ (l : List Stmt). c.loop-stmt.stmts ++ (stmt ∷ l)) (stmt-is items body c.args.self.now are stmt))
    (c.loop-stmt.invariant items body are))

pub returns : goal.returns
returns c = λ items body are.
    let lines : List Stmt = c.args.lines in
    let gives = YieldsList-from_vec lines (grind (arith, common_steps)) (grind (arith, common_steps)) in
    let e = YieldsList-end gives c.loop-stmt.yielded _ c.loop-stmt.yielded_by _ c.next.new.self c.in-None.is c.next.ensures.steps in
    let all : length c.loop-stmt.yielded ≡ length lines = e.1 in
    let far : length lines ≤ length c.loop-stmt.yielded = omega (all, arith) in
    none_left (with_flags items body (paths_of c.args.self.now)) lines (length c.loop-stmt.yielded) _ _ refl far
    (c.loop-stmt.invariant items body are)
