-- A graph whose lines are counted is counted.
use Rattle.std.proofs.Common.{rules, ◌≡◌, ◌<◌, ◌-◌, ◌^◌, arith}
use Rattle.mir_text.specs.Answers.{lines_count}
use Rattle.mir_text.proofs.Counting.{counted}
use Rattle.mir_text.proofs.reader.answer.Goals as goal

pub check_graph-requires : goal.check_graph-requires
check_graph-requires c =
    let count : c.in-Some.lines ≡ lines_count c.args.graph = search rules in
    let few : c.in-Some.lines < 2 ^ 32 - 1 = search rules in
    counted c.args.graph (omega (arith, count, few))
