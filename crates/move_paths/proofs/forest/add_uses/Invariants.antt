use Rattle.std.proofs.Common.{take}
use Rattle.move_paths.specs.Forest.{Names}
use Rattle.move_paths.specs.Uses.{listed}
use Rattle.move_paths.proofs.forest.add_uses.Given as goal

abbrev pub invariant-loop-used : goal.invariant-loop-used
invariant-loop-used l = Names l.items l.body l.initial.trie l.trie (listed (take l.used-index l.uses))
