use Rattle.std.proofs.Common.{◌≡◌, ◌++◌}
use Rattle.std.specs.List.{flat_map}
use Rattle.src_ast.specs.Seen.{nodes_of}
use Rattle.src_ast.specs.Syntax.{list_of}
use Rattle.typing_rules.specs.Items.{self_method}
use Rattle.typing_rules.specs.Patterns as sizes
use Rattle.type_check.proofs.self_methods.with_functions.Given as goal

abbrev pub invariant-loop-split : goal.invariant-loop-split
invariant-loop-split l =
    l.initial.names ++ flat_map (self_method l.owner) (list_of (nodes_of l.initial.rest))
    ≡ l.names ++ flat_map (self_method l.owner) (list_of (nodes_of l.rest))

abbrev pub decreases-loop-split : goal.decreases-loop-split
decreases-loop-split l = sizes.count_of (nodes_of l.rest)
