use Rattle.std.proofs.Common.{◌≡◌, ◌∙◌, [], ◌++◌, List, map, sym, ap}
use Rattle.cfg_graph.specs.declared.place.Place.{Place}
use Rattle.cfg_graph.specs.declared.statement.Stmt.{Stmt}
use Rattle.cfg_graph.specs.Places.{named}
use Rattle.drop_elaborate.specs.Elaborated.{at_start, with_flags}
use Rattle.drop_flags.specs.Flags.{paths_of}
use Rattle.drop_flags.proofs.Told.{start-none, with-none}
use Rattle.drop_flags.proofs.flags.Flags.stmts_of.Goals as goal

pub returns-then-is_empty : goal.returns-then-is_empty
returns-then-is_empty c = λ items body are.
    let flagged = paths_of c.args.self.now in
    let none : flagged ≡ [] = ap (λ (l : List Place). map named l) (c.is_empty.ensures.0 c.if-is_empty.true) in
    sym (ap (λ (l : List Stmt). l ++ with_flags items body flagged c.args.lines) (start-none items body flagged none c.args.number)
    ∙ with-none items body flagged none c.args.lines)

pub returns : goal.returns
returns c = λ items body are.
    let flagged = paths_of c.args.self.now in
    c.in_ok-add_stmts.ensures items body are
    ∙ ap (λ (l : List Stmt). l ++ with_flags items body flagged c.args.lines)
    (c.in_ok-add_start.ensures items body are
    ∙ ap (λ (l : List Stmt). l ++ at_start items body flagged c.args.number)
    (c.from_vec-stmts.ensures ∙ c.in_ok-with_capacity.ensures.items))
