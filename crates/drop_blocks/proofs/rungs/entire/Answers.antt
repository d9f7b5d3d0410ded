use Rattle.cfg_graph.specs.declared.graph.Kind.{Kind}
use Rattle.drop_blocks.specs.Ladders.{drop_rung, ending_of, made_of}
use Rattle.drop_blocks.proofs.Begins.{one-chain, two-chains}
use Rattle.drop_blocks.proofs.rungs.entire.Goals as goal

pub returns-in_ok-twin-in-Some : goal.returns-in_ok-twin-in-Some
returns-in_ok-twin-in-Some c =
    let place = c.args.place.now in
    let rest = c.args.rest in
    two-chains (drop_rung place Kind.Cleanup) rest.twin (drop_rung place c.args.kind rest.calm (ending_of rest.twin) (made_of c.args.blocks.now)) _
    c.in-Some.to _ _ _ c.in-Some.is c.in_ok-calm.ensures c.in_ok-twin-in-Some.ensures

pub returns-in-None : goal.returns-in-None
returns-in-None c =
    let place = c.args.place.now in
    let rest = c.args.rest in
    one-chain (drop_rung place Kind.Cleanup) rest.twin (drop_rung place c.args.kind rest.calm (ending_of rest.twin) (made_of c.args.blocks.now)) _ _
    c.in-None.is c.in_ok-calm.ensures
