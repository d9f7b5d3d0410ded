use Rattle.std.proofs.Common.{◌∙◌, ◌++◌, List, append-nil, sym, ap}
use Rattle.std.proofs.lemmas.Result.{on_ok_weaker}
use Rattle.cfg_graph.specs.declared.statement.Stmt.{Stmt}
use Rattle.drop_elaborate.specs.Elaborated.{at_start}
use Rattle.drop_flags.specs.Flags.{paths_of}
use Rattle.drop_flags.proofs.Told.{start-other, starts-is}
use Rattle.drop_flags.proofs.flags.Flags.add_start.Goals as goal

pub returns-then-number-eq0 : goal.returns-then-number-eq0
returns-then-number-eq0 c =
    on_ok_weaker c.add_first.result
    (λ added items body are. added ∙ ap (λ (l : List Stmt). c.args.stmts.now ++ l)
    (starts-is items body c.args.self.now are
    ∙ ap (at_start items body (paths_of c.args.self.now)) (sym c.if-number-eq0.true)))
    c.add_first.ensures

pub returns-else-number-eq0 : goal.returns-else-number-eq0
returns-else-number-eq0 c = λ items body are.
    sym (append-nil c.args.stmts.now) ∙ ap (λ (l : List Stmt). c.args.stmts.now ++ l)
    (sym (start-other items body (paths_of c.args.self.now) c.args.number c.if-number-eq0.false))
