use Rattle.std.proofs.Common.{◌≡◌, ◌≤◌, ◌+◌, ◌*◌}
use Rattle.src_ast.specs.Seen.{nodes_of, syn_of}
use Rattle.typeck_heads.specs.Forms.{around_of}
use Rattle.typeck_heads.specs.Sizes.{size, sizes}
use Rattle.typeck_heads.specs.Standing as standing
use Rattle.typeck_heads.proofs.closure_types.+standing.Given as goal

abbrev pub invariant-all_stand-loop-split : goal.invariant-all_stand-loop-split
invariant-all_stand-loop-split l =
    record {
      answers : standing.all_stand (around_of l.scope) (nodes_of l.initial.rest) ≡ standing.all_stand (around_of l.scope) (nodes_of l.rest);
      smaller : sizes (nodes_of l.rest) ≤ sizes (nodes_of l.initial.rest);
    }

abbrev pub decreases-all_stand-loop-split : goal.decreases-all_stand-loop-split
decreases-all_stand-loop-split l = sizes (nodes_of l.rest)

abbrev pub decreases-stands : goal.decreases-stands
decreases-stands l = 4 * size (syn_of l.node.now)

abbrev pub decreases-generic_stands : goal.decreases-generic_stands
decreases-generic_stands l = 4 * size (syn_of l.content.now) + 1

abbrev pub decreases-all_stand : goal.decreases-all_stand
decreases-all_stand l = 4 * sizes (nodes_of l.parts) + 1
