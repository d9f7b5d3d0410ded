use Rattle.move_paths.proofs.trie.Trie.+place.Given as goal

abbrev pub decreases-place : goal.decreases-place
decreases-place l = l.path
