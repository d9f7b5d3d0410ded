use Rattle.std.proofs.Common.{◌≡◌}
use Rattle.src_ast.specs.Seen.{nodes_of}
use Rattle.src_ast.specs.View.{idents}
use Rattle.typing_rules.specs.Collected.{derives_known, starting_with}
use Rattle.typeck_heads.specs.Sizes.{sizes}
use Rattle.typeck_heads.proofs.adts.derives_known.Given as goal

abbrev pub invariant-loop-split : goal.invariant-loop-split
invariant-loop-split l =
    derives_known (idents (nodes_of l.initial.rest)) (starting_with l.items) ≡ derives_known (idents (nodes_of l.rest)) (starting_with l.items)

abbrev pub decreases-loop-split : goal.decreases-loop-split
decreases-loop-split l = sizes (nodes_of l.rest)
