use Rattle.drop_elaborate.specs.Elaborated.{result_flags, next_of, onward_to}
use Rattle.drop_flags.specs.Flags.{paths_of}
use Rattle.drop_blocks.specs.Ladders.{made_of}
use Rattle.drop_ends.proofs.Making.{edge-is, so-made}
use Rattle.std.proofs.Common.{◌≡◌, ◌∙◌, ℕ, List, ap}
use Rattle.cfg_graph.specs.declared.statement.Stmt.{Stmt}
use Rattle.cfg_graph.specs.declared.terminator.Term.{Term}
use Rattle.drop_blocks.specs.Ladders.{begun_of}
use Rattle.drop_ends.specs.Edges.{edge_to}
use Rattle.drop_elaborate.specs.Build.{Begun}
use Rattle.drop_ends.specs.Ends.{made_end}
use Rattle.drop_ends.proofs.ends.term_end.Goals as goal

pub returns-clause-stands : goal.returns-clause-stands
returns-clause-stands c =
    let flagged = paths_of c.args.flags.now in (
      c.in_ok-from.from,
      λ items body are.
          so-made (made_of c.args.blocks.now) (made_of c.edge.new.blocks) _ _
          (λ after edge. (
            c.onward_to.ensures items body after flagged,
            edge-is items body flagged after c.args.kind c.in_ok-stmts.stmts (result_flags items body flagged after c.args.term)
                c.in_ok-from.from c.next_of.result (next_of items body flagged after c.args.term)
                (c.in_ok-stmts.ensures items body are) (c.next_of.ensures items body after flagged) edge,
          ))
          (c.in_ok-from.ensures.stands items body flagged),
    )

pub returns-clause-built : goal.returns-clause-built
returns-clause-built c items body are =
    let flagged = paths_of c.args.flags.now in
    let term : Term = c.args.term in
    let kind = c.args.kind in
    let first = made_of c.args.blocks.now in
    let second = made_of c.edge.new.blocks in
    let edge : begun_of c.in_ok-from.from c.edge.new.blocks
    ≡ edge_to kind (result_flags items body flagged body term) (next_of items body flagged body term) first =
    c.in_ok-from.ensures.built
    ∙ ap (λ (l : List Stmt). edge_to kind l c.next_of.result first) (c.in_ok-stmts.ensures items body are)
    ∙ ap (λ (n : ℕ). edge_to kind (result_flags items body flagged body term) n first)
    (c.next_of.ensures items body body flagged) in
    ap (λ (t : Term). made_end t second) (c.onward_to.ensures items body body flagged)
    ∙ ap (λ (b : Begun). made_end (onward_to items body flagged body b.at term) b.made) edge
