use Rattle.std.proofs.Common.{◌∙◌, ◌++◌, List, ap, append_assoc, refl, subst}
use Rattle.cfg_graph.specs.declared.graph.Kind.{Kind}
use Rattle.cfg_graph.specs.declared.statement.Stmt.{Stmt}
use Rattle.drop_elaborate.specs.Elaborated.{at_start, with_flags}
use Rattle.drop_flags.specs.Flags.{paths_of}
use Rattle.drop_blocks.specs.Ladders.{made_of}
use Rattle.drop_ends.specs.Decisions.{EndsBy}
use Rattle.drop_ends.proofs.Making.{so-made}
use Rattle.cfg_graph.specs.Edges.{is_turn_kind}
use Rattle.drop_ends.specs.Ends.{end_by}
use Rattle.drop_ends.proofs.LeadingEnds.{kind-flat}
use Rattle.drop_ends.proofs.decided.block_of.Goals as goal

pub returns-clause-stands : goal.returns-clause-stands
returns-clause-stands c items body are =
    let flagged = paths_of c.args.flags.now in
    let block = c.args.block in
    let flat = ap is_turn_kind (c.kind_after-kind.ensures items body body flagged) ∙ kind-flat items body flagged body block.kind in
    let it = c.in_ok-term.ensures.stands items body are flat in
    so-made (made_of c.args.blocks.now) (made_of c.end_of.new.blocks) _ _
    (λ after ends. record {
      ending = it.0;
      ends = subst (λ (k : Kind). EndsBy items body flagged after c.args.decided.now k block.term it.0 c.in_ok-term.term)
          (c.kind_after-kind.ensures items body after flagged) ends;
      kind_is = refl;
      stmts_are =
          it.1 ∙ ap (λ (z : List Stmt). z ++ it.0) (c.in_ok-stmts.ensures items body are)
          ∙ append_assoc (at_start items body flagged c.args.number) (with_flags items body flagged block.stmts) it.0;
    })
    it.2

pub returns-clause-built : goal.returns-clause-built
returns-clause-built c items body are =
    let flagged = paths_of c.args.flags.now in
    c.in_ok-term.ensures.built items body are
    ∙ ap (λ (k : Kind). end_by items body flagged c.args.decided.now k c.args.block.term (made_of c.args.blocks.now))
    (c.kind_after-kind.ensures items body body flagged)
