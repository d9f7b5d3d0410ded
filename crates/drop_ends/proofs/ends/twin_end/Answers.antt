use Rattle.std.proofs.Common.{◌≡◌, ◌∙◌, List, Some, ap, refl, sym, subst}
use Rattle.cfg_graph.specs.declared.graph.Kind.{Kind}
use Rattle.cfg_graph.specs.declared.statement.Stmt.{Stmt}
use Rattle.cfg_graph.specs.declared.terminator.Term.{Term}
use Rattle.cfg_graph.specs.declared.terminator.Unwind.{Unwind}
use Rattle.drop_elaborate.specs.Elaborated.{BlockIs, cleared}
use Rattle.drop_flags.specs.Flags.{paths_of}
use Rattle.drop_blocks.specs.Ladders.{made_of, begun_of, with_one}
use Rattle.drop_ends.specs.Edges.{TwinTo, edge_to}
use Rattle.drop_ends.proofs.Making.{block-so, edge-is, so-made}
use Rattle.drop_elaborate.specs.Build.{Begun}
use Rattle.drop_ends.specs.Ends.{made_twin, twin_of}
use Rattle.drop_ends.proofs.ends.twin_end.Goals as goal

pub returns-in_ok-twin-in-Block-clause-stands : goal.returns-in_ok-twin-in-Block-clause-stands
returns-in_ok-twin-in-Block-clause-stands c items body are =
    let flagged = paths_of c.args.flags.now in
    let twin = c.in_ok-twin-in-Block.twin in
    so-made (made_of c.args.blocks.now) (made_of c.edge.new.blocks) _ _
    (λ after edge.
    subst (λ (u : Unwind). TwinTo items body flagged after c.args.place.now (Some twin) u) (sym c.in-Block.is)
    (edge-is items body flagged after Kind.Cleanup c.in_ok-stmts-in-Block.stmts (cleared items body flagged after c.args.place.now)
    twin c.in-Block.block c.in-Block.block (c.in_ok-stmts-in-Block.ensures items body are) refl edge))
    (c.in_ok-twin-in-Block.ensures.stands items body flagged)

pub returns-in_ok-twin-in-Resume-clause-stands : goal.returns-in_ok-twin-in-Resume-clause-stands
returns-in_ok-twin-in-Resume-clause-stands c items body are =
    let flagged = paths_of c.args.flags.now in
    let twin = c.in_ok-twin-in-Resume.twin in
    so-made (made_of c.args.blocks.now) (made_of c.add.new.self) _ _
    (λ after at.
    subst (λ (u : Unwind). TwinTo items body flagged after c.args.place.now (Some twin) u) (sym c.in-Resume.is)
    (subst (λ (z : List Stmt). BlockIs items body flagged after twin Kind.Cleanup z Term.Resume) c.new.ensures at))
    (block-so items body flagged Kind.Cleanup c.new.result Term.Resume (made_of c.args.blocks.now) (begun_of twin c.add.new.self)
    c.in_ok-twin-in-Resume.ensures)

pub returns-in_ok-twin-in-Block-clause-built : goal.returns-in_ok-twin-in-Block-clause-built
returns-in_ok-twin-in-Block-clause-built c items body are =
    let flagged = paths_of c.args.flags.now in
    let place = c.args.place.now in
    let old = made_of c.args.blocks.now in
    let block = c.in-Block.block in
    let edge : begun_of c.in_ok-twin-in-Block.twin c.edge.new.blocks
    ≡ edge_to Kind.Cleanup (cleared items body flagged body place) block old =
    c.in_ok-twin-in-Block.ensures.built
    ∙ ap (λ (l : List Stmt). edge_to Kind.Cleanup l block old) (c.in_ok-stmts-in-Block.ensures items body are) in
    ap (λ (b : Begun). made_twin (Some b.at) b.made) edge
    ∙ ap (λ (u : Unwind). twin_of items body flagged place u old) (sym c.in-Block.is)

pub returns-in_ok-twin-in-Resume-clause-built : goal.returns-in_ok-twin-in-Resume-clause-built
returns-in_ok-twin-in-Resume-clause-built c items body are =
    let old = made_of c.args.blocks.now in
    ap (λ (b : Begun). made_twin (Some b.at) b.made)
    (c.in_ok-twin-in-Resume.ensures ∙ ap (λ (l : List Stmt). with_one Kind.Cleanup l Term.Resume old) c.new.ensures)
    ∙ ap (λ (u : Unwind). twin_of items body (paths_of c.args.flags.now) c.args.place.now u old) (sym c.in-Resume.is)

pub returns-in-Abort-clause-built : goal.returns-in-Abort-clause-built
returns-in-Abort-clause-built c items body are =
    ap (λ (u : Unwind). twin_of items body (paths_of c.args.flags.now) c.args.place.now u (made_of c.args.blocks.now))
    (sym c.in-Abort.is)
