use Rattle.look_marked.proofs.MarkedMore.{lines_go_on}
use Rattle.look_marked.proofs.marked.add_lines.Goals as goal

pub loop-stmt-preserved : goal.loop-stmt-preserved
loop-stmt-preserved c =
    lines_go_on c.args.out.now c.loop-stmt.out c.add_line.new.out c.args.n.now c.loop-stmt.n c.add_line.new.n c.loop-stmt.yielded
    c.in-Some.stmt c.loop-stmt.invariant c.in_ok-add_line.ensures
