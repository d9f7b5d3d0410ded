use Rattle.std.proofs.Common.{◌≡◌, ◌∙◌, List, ap, refl}
use Rattle.cfg_graph.specs.declared.statement.Stmt.{Stmt}
use Rattle.drop_elaborate.specs.Build.{Begun}
use Rattle.drop_elaborate.specs.Elaborated.{EdgeTo, cleared}
use Rattle.drop_flags.specs.Flags.{paths_of}
use Rattle.drop_blocks.specs.Ladders.{made_of, begun_of, built_of, ladder_of}
use Rattle.drop_blocks.specs.View.{plan_in}
use Rattle.drop_blocks.specs.declared.rungs.Chains.{Chains}
use Rattle.drop_ends.specs.Edges.{TwinTo, edge_to}
use Rattle.drop_ends.proofs.Ending.{ladder-made, ladder-to}
use Rattle.drop_ends.proofs.Making.{edge-is, then-made}
use Rattle.drop_ends.specs.Ends.{TwinMade, begins, twin_of}
use Rattle.drop_ends.proofs.ends.ladder_end.Goals as goal

pub returns-clause-stands : goal.returns-clause-stands
returns-clause-stands c items body are flat =
    let flagged = paths_of c.args.flags.now in
    let plan = plan_in c.args.plan.now in
    let place = c.args.place.now in
    let calm = c.in_ok-calm.calm in
    let twin = c.in_ok-twin.twin in
    let first = made_of c.args.blocks.now in
    let second = made_of c.edge.new.blocks in
    let third = made_of c.twin_end.new.blocks in
    let last = made_of c.ladder.new.blocks in
    let rest : Chains = record { calm = calm; twin = twin } in
    then-made first third last _ _ _
    (λ after ends at. ladder-to items body flagged after plan c.args.kind place c.in_ok-begun.begun.calm calm c.args.next twin c.args.unwind ends.0 ends.1 at)
    (then-made first second third _ _
    (λ after. EdgeTo items body flagged after c.args.kind (cleared items body flagged after place) calm c.args.next × TwinTo items body flagged after place twin c.args.unwind)
    (λ after edge to. (
      edge-is items body flagged after c.args.kind c.in_ok-stmts.stmts (cleared items body flagged after place) calm c.args.next c.args.next
          (c.in_ok-stmts.ensures items body are) refl edge,
      to,
    ))
    (c.in_ok-calm.ensures.stands items body flagged) (c.in_ok-twin.ensures.stands items body are))
    (ladder-made plan place third (built_of c.in_ok-begun.begun c.ladder.new.blocks) rest (c.in_ok-begun.ensures.stands flat))

pub returns-clause-built : goal.returns-clause-built
returns-clause-built c items body are =
    let flagged = paths_of c.args.flags.now in
    let plan = plan_in c.args.plan.now in
    let kind = c.args.kind in
    let place = c.args.place.now in
    let first = made_of c.args.blocks.now in
    let calm : begun_of c.in_ok-calm.calm c.edge.new.blocks
    ≡ edge_to kind (cleared items body flagged body place) c.args.next first =
    c.in_ok-calm.ensures.built
    ∙ ap (λ (l : List Stmt). edge_to kind l c.args.next first) (c.in_ok-stmts.ensures items body are) in
    ap begins c.in_ok-begun.ensures.built
    ∙ ap (λ (t : TwinMade). begins (ladder_of kind plan place (record { calm = c.in_ok-calm.calm; twin = t.twin }) t.made))
    (c.in_ok-twin.ensures.built items body are)
    ∙ ap (λ (b : Begun). begins (ladder_of kind plan place (record {
      calm = b.at;
      twin =
          (twin_of items body flagged place c.args.unwind b.made).twin;
    }) (twin_of items body flagged place c.args.unwind b.made).made)) calm
