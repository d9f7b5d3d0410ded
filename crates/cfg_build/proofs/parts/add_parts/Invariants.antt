use Rattle.std.proofs.Common.{◌≡◌, ◌++◌, All, map}
use Rattle.cfg_build.specs.Lowered.{HasFewLines, block_of, line_nodes}
use Rattle.lower_rules.specs.Listed.{ids_of}
use Rattle.cfg_build.proofs.parts.add_parts.Given as goal

abbrev pub invariant-loop-one : goal.invariant-loop-one
invariant-loop-one l =
    (l.blocks ≡ l.fn.blocks ++ map block_of l.yielded) × (map ids_of l.nodes ≡ map ids_of l.fn.nodes ++ map line_nodes l.yielded)
    × (All HasFewLines l.fn.blocks → All HasFewLines l.blocks)
