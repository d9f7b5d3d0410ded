use Rattle.std.proofs.Common.{◌∙◌, ◌++◌, List, append-nil, sym, ap}
use Rattle.cfg_graph.specs.declared.statement.Stmt.{Stmt}
use Rattle.move_paths.specs.Uses.{use_of}
use Rattle.drop_elaborate.specs.Elaborated.{flags_of_use}
use Rattle.drop_flags.specs.Flags.{paths_of}
use Rattle.drop_flags.proofs.flags.Flags.stores_of.Goals as goal

pub returns : goal.returns
returns c = λ items body are.
    let told : List Stmt = flags_of_use items body (paths_of c.args.self.now) (use_of c.args.how, c.args.place.now) in
    c.in_ok-add_use.ensures items body are
    ∙ ap (λ (l : List Stmt). l ++ told) c.new-stmts.ensures
    ∙ sym (append-nil told)
