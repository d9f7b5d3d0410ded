use Rattle.look_marked.proofs.MarkedMore.{bodies_go_on}
use Rattle.look_marked.proofs.marked.add_bodies.Goals as goal

pub loop-body-preserved : goal.loop-body-preserved
loop-body-preserved c =
    bodies_go_on c.args.out.now c.loop-body.out c.add_body.new.out c.args.n.now c.loop-body.n c.add_body.new.n c.loop-body.yielded
    c.in-Some.body c.loop-body.invariant c.in_ok-add_body.ensures
