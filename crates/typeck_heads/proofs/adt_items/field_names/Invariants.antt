use Rattle.std.proofs.Common.{◌≡◌, ◌++◌, length}
use Rattle.src_ast.specs.Seen.{nodes_of}
use Rattle.src_ast.specs.Syntax.{list_of}
use Rattle.typing_rules.specs.Collected.{names_from}
use Rattle.typeck_heads.specs.Sizes.{sizes}
use Rattle.typeck_heads.proofs.adt_items.field_names.Given as goal

abbrev pub invariant-loop-split : goal.invariant-loop-split
invariant-loop-split l =
    names_from 0 (list_of (nodes_of l.initial.rest)) ≡ l.names ++ names_from (length l.names) (list_of (nodes_of l.rest))

abbrev pub decreases-loop-split : goal.decreases-loop-split
decreases-loop-split l = sizes (nodes_of l.rest)
