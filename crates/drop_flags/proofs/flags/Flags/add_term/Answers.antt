use Rattle.std.proofs.Common.{◌≡◌, ◌∙◌, [], ◌++◌, List, append-nil, map, sym, ap}
use Rattle.std.proofs.lemmas.Result.{on_ok_weaker}
use Rattle.cfg_graph.specs.declared.place.Place.{Place}
use Rattle.cfg_graph.specs.declared.statement.Stmt.{Stmt}
use Rattle.cfg_graph.specs.Places.{named}
use Rattle.cfg_graph.specs.Uses.{term_uses}
use Rattle.drop_flags.specs.Flags.{paths_of}
use Rattle.drop_flags.proofs.Asking.{term-is}
use Rattle.drop_flags.proofs.Told.{uses-none}
use Rattle.drop_flags.proofs.flags.Flags.add_term.Goals as goal

pub returns-then-is_empty : goal.returns-then-is_empty
returns-then-is_empty c = λ items body are.
    let none : paths_of c.args.self.now ≡ [] =
    ap (λ (l : List Place). map named l) (c.is_empty.ensures.0 c.if-is_empty.true) in
    sym (append-nil c.args.stmts.now)
    ∙ ap (λ (l : List Stmt). c.args.stmts.now ++ l)
    (sym (uses-none items body (paths_of c.args.self.now) none (term_uses c.args.term.now)))

pub returns : goal.returns
returns c =
    on_ok_weaker c.add_term_stores.result
    (λ added items body are. added ∙ ap (λ (l : List Stmt). c.args.stmts.now ++ l)
    (term-is items body c.args.self.now are c.args.term.now))
    c.add_term_stores.ensures
