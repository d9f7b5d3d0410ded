use Rattle.std.proofs.Common.{◌≡◌, ◌++◌, map}
use Rattle.std.specs.Option.{option_map}
use Rattle.src_ast.specs.Seen.{nodes_of}
use Rattle.typeck_patterns.specs.Members.{part_of, parts_named, variant_of}
use Rattle.typing_rules.specs.Patterns.{count_of}
use Rattle.typeck_patterns.proofs.members.field_parts.Given as goal

abbrev pub invariant-loop-split : goal.invariant-loop-split
invariant-loop-split l =
    parts_named (variant_of l.checker.walk.items l.target) (nodes_of l.fields)
    ≡ map (option_map part_of) l.parts ++ parts_named (variant_of l.checker.walk.items l.target) (nodes_of l.rest)

abbrev pub decreases-loop-split : goal.decreases-loop-split
decreases-loop-split l = count_of (nodes_of l.rest)
