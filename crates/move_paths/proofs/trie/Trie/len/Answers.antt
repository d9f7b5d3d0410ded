use Rattle.std.proofs.Common.{arith}
use Rattle.move_paths.proofs.Growth.{length-all, once-all}
use Rattle.move_paths.proofs.trie.Trie.len.Goals as goal

pub returns-clause-len : goal.returns-clause-len
returns-clause-len c =
    rw (← c.self.view_is) (let all = length-all c.self.inside.locals c.self.inside.parts c.self.invariant in let count = c.len.ensures in omega (all, count, arith))

pub returns-clause-once : goal.returns-clause-once
returns-clause-once c = rw (← c.self.view_is) (once-all c.self.inside.locals c.self.inside.parts c.self.invariant)
