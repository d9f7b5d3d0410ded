use Rattle.move_paths.proofs.Children.{Listed}
use Rattle.move_paths.proofs.forest.children_in.Given as goal

abbrev pub invariant-loop-path : goal.invariant-loop-path
invariant-loop-path l = Listed l.trie l.lists l.path
