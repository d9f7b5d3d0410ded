-- There is one first wrong line.
use Rattle.std.proofs.Common.{arith}
use Rattle.mir_text.specs.Laws.{OneFirstWrong}

pub one_first_wrong : OneFirstWrong
one_first_wrong text a b left right =
    let up = left.longest right.before right.begins in
    let down = right.longest left.before left.begins in
    omega (arith, left.next, right.next)
