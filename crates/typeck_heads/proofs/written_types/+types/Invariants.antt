use Rattle.std.proofs.Common.{◌≡◌, ◌≤◌, ◌+◌, ◌*◌, length}
use Rattle.mir_ty.specs.AreItems.{AreTypes}
use Rattle.src_ast.specs.Seen.{nodes_of, syn_of}
use Rattle.typing_rules.specs.Collected.{starting_with}
use Rattle.typing_rules.specs.Written as types
use Rattle.typeck_heads.specs.Answers.{behind}
use Rattle.typeck_heads.specs.Forms.{around_of}
use Rattle.typeck_heads.specs.Sizes.{size, sizes}
use Rattle.typeck_heads.proofs.written_types.+types.Given as goal

abbrev pub invariant-all_written-loop-split : goal.invariant-all_written-loop-split
invariant-all_written-loop-split l =
    record {
      answers : types.all_written (around_of l.scope) (nodes_of l.initial.rest) (starting_with l.initial.items)
          ≡ behind l.ids (types.all_written (around_of l.scope) (nodes_of l.rest) (starting_with l.items));
      grows : length l.initial.items.types ≤ length l.items.types;
      known : AreTypes l.items.types l.ids;
      smaller : sizes (nodes_of l.rest) ≤ sizes (nodes_of l.initial.rest);
    }

abbrev pub decreases-all_written-loop-split : goal.decreases-all_written-loop-split
decreases-all_written-loop-split l = sizes (nodes_of l.rest)

abbrev pub decreases-resolve_type : goal.decreases-resolve_type
decreases-resolve_type l = 4 * size (syn_of l.node.now)

abbrev pub decreases-generic : goal.decreases-generic
decreases-generic l = 4 * size (syn_of l.content.now) + 1

abbrev pub decreases-array : goal.decreases-array
decreases-array l = 4 * size (syn_of l.element.now) + 1

abbrev pub decreases-reference : goal.decreases-reference
decreases-reference l = 4 * size (syn_of l.to.now) + 1

abbrev pub decreases-all_written : goal.decreases-all_written
decreases-all_written l = 4 * sizes (nodes_of l.parts) + 1

abbrev pub decreases-tuple : goal.decreases-tuple
decreases-tuple l = 4 * sizes (nodes_of l.parts) + 2
