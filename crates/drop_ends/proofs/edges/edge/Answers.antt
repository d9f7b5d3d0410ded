use Rattle.std.proofs.Common.{◌≡◌, ◌∙◌, List, false, length, ap, sym}
use Rattle.std.specs.Prelude.{◌==◌}
use Rattle.std.proofs.lemmas.Result.{IfOk-weaker}
use Rattle.cfg_graph.specs.declared.statement.Stmt.{Stmt}
use Rattle.drop_blocks.specs.Ladders.{made_of, begun_of}
use Rattle.drop_ends.proofs.Making.{edge-so, edge-longer}
use Rattle.drop_ends.proofs.edges.edge.Goals as goal

pub returns-clause-stands : goal.returns-clause-stands
returns-clause-stands c =
    let old = made_of c.args.blocks.now in
    let some : (length c.args.stmts == 0) ≡ false =
    ap (λ (z : List Stmt). length z == 0) (sym c.as_slice.ensures) ∙ sym c.is_empty.ensures ∙ c.if-is_empty.false in
    IfOk-weaker c.add.result _ _
    (λ from h items body flagged.
    edge-so items body flagged c.args.kind c.args.stmts c.args.to old (begun_of from c.add.new.self)
    (h ∙ sym (edge-longer c.args.kind c.args.stmts c.args.to old some)))
    c.add.ensures
