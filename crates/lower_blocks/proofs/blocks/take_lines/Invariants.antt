use Rattle.std.proofs.Common.{◌≡◌, ◌++◌, map, reverse, length}
use Rattle.lower_blocks.specs.Building.{line_of}
use Rattle.lower_blocks.proofs.blocks.take_lines.Given as goal

abbrev pub invariant-loop-line : goal.invariant-loop-line
invariant-loop-line l =
    (l.stmts ++ map (λ o. o.stmt) (reverse (map line_of l.lines))
    ≡ l.initial.stmts ++ map (λ o. o.stmt) (reverse (map line_of l.initial.lines)))
    × (map (λ n. n.0) l.nodes ++ map (λ o. o.node) (reverse (map line_of l.lines))
    ≡ map (λ n. n.0) l.initial.nodes ++ map (λ o. o.node) (reverse (map line_of l.initial.lines)))

abbrev pub decreases-loop-line : goal.decreases-loop-line
decreases-loop-line l = length l.lines
