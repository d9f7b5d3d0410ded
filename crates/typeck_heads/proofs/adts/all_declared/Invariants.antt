use Rattle.std.proofs.Common.{◌≡◌, ◌≤◌, length, All}
use Rattle.mir_ty.specs.AreItems.{IsVariant}
use Rattle.src_ast.specs.Seen.{nodes_of}
use Rattle.src_ast.specs.Syntax.{list_of}
use Rattle.typing_rules.specs.Check.{each_checked}
use Rattle.typing_rules.specs.Collected.{starting_with, declared_variant}
use Rattle.typeck_heads.specs.Answers.{behind}
use Rattle.typeck_heads.specs.Forms.{around_of}
use Rattle.typeck_heads.specs.Sizes.{sizes}
use Rattle.typeck_heads.proofs.adts.all_declared.Given as goal

abbrev pub invariant-loop-split : goal.invariant-loop-split
invariant-loop-split l =
    record {
      answers : each_checked (declared_variant (around_of l.scope)) (list_of (nodes_of l.initial.rest)) (starting_with l.initial.items)
          ≡ behind l.declared_ones (each_checked (declared_variant (around_of l.scope)) (list_of (nodes_of l.rest)) (starting_with l.items));
      grows : length l.initial.items.types ≤ length l.items.types;
      known : All (IsVariant l.items.types) l.declared_ones;
    }

abbrev pub decreases-loop-split : goal.decreases-loop-split
decreases-loop-split l = sizes (nodes_of l.rest)
