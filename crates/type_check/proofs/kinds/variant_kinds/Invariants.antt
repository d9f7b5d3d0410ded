use Rattle.std.proofs.Common.{◌≡◌, ◌++◌, map}
use Rattle.src_ast.specs.ItemForms.{kind_seen}
use Rattle.src_ast.specs.Seen.{nodes_of}
use Rattle.typeck_heads.specs.Sizes.{sizes}
use Rattle.type_check.specs.Kinds.{kinds_in}
use Rattle.type_check.proofs.kinds.variant_kinds.Given as goal

abbrev pub invariant-loop-split : goal.invariant-loop-split
invariant-loop-split l =
    kinds_in (nodes_of l.initial.rest) ≡ map kind_seen l.kinds ++ kinds_in (nodes_of l.rest)

abbrev pub decreases-loop-split : goal.decreases-loop-split
decreases-loop-split l = sizes (nodes_of l.rest)
