use Rattle.std.proofs.Common.{◌≡◌, ◌∙◌, ◌++◌, List, Some, None, append-nil, sym, ap}
use Rattle.std.proofs.lemmas.Result.{on_ok_weaker}
use Rattle.cfg_graph.specs.declared.statement.Stmt.{Stmt}
use Rattle.cfg_graph.specs.Moves.Gone.{leaves_gone}
use Rattle.move_paths.specs.Uses.{use_of}
use Rattle.drop_flags.proofs.Told.{use-is, use-nothing}
use Rattle.drop_flags.proofs.flags.Flags.add_use.Goals as goal

pub returns-in-Some : goal.returns-in-Some
returns-in-Some c =
    let leaves : leaves_gone (use_of c.args.how) ≡ Some c.in-Some.takes = sym c.leaves.ensures ∙ c.in-Some.is in
    on_ok_weaker c.add_below.result
    (λ added items body are. added ∙ ap (λ (l : List Stmt). c.args.stmts.now ++ l)
    (use-is items body c.args.self.now are (use_of c.args.how) c.args.place.now c.in-Some.takes leaves))
    c.add_below.ensures

pub returns-in-None : goal.returns-in-None
returns-in-None c = λ items body are.
    let leaves : leaves_gone (use_of c.args.how) ≡ None = sym c.leaves.ensures ∙ c.in-None.is in
    sym (append-nil c.args.stmts.now) ∙ ap (λ (l : List Stmt). c.args.stmts.now ++ l)
    (sym (use-nothing items body c.args.self.now are (use_of c.args.how) c.args.place.now leaves))
