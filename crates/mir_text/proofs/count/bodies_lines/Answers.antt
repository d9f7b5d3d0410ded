-- One body more.
use Rattle.std.proofs.Common.{rules, ◌≡◌, ◌+◌, arith}
use Rattle.mir_text.specs.Answers.{body_lines}
use Rattle.mir_text.proofs.Counting.{one_body}
use Rattle.mir_text.proofs.count.bodies_lines.Goals as goal

pub loop-body-preserved : goal.loop-body-preserved
loop-body-preserved c =
    let one = one_body c.args.bodies.now c.loop-body.body-index c.body-item.result c.loop-body-test.true c.body-item.is in
    let own : c.in_ok-body_lines.field-0 ≡ body_lines c.body-item.result = search rules in
    let all : c.in_ok-lines.lines ≡ c.loop-body.lines + c.in_ok-body_lines.field-0 = search rules in
    let before = c.loop-body.invariant in
    omega (arith, one, own, all, before)
