-- What is known of the nodes of a body before places are put into words.
use Rattle.std.specs.Prelude.{ℕ, suc, ◌≡◌, nat_le, Bool, true, ◌&&◌, List, [], ◌∷◌}
use Rattle.typed_tree.specs.Nodes.{number_of}
use Rattle.typed_tree.specs.Tree.{Node}
use Rattle.typed_tree.specs.Listed.{trees}
use Rattle.cfg_build.specs.declared.names.PlaceNames.{PlaceNames}

-- the numbers of nodes rise, from one that is at least so much
abbrev pub rise_from : ℕ → List Node → Bool
rise_from least [] = true
rise_from least (n ∷ nodes) = nat_le least (number_of n) && rise_from (suc (number_of n)) nodes

-- what is told of the nodes is so
abbrev pub AreTold : PlaceNames → Type 0
AreTold names = names.rise ≡ rise_from 0 (trees names.nodes.now)
