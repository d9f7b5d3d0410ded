use Rattle.std.proofs.Common.{◌≡◌, ◌≤◌, length}
use Rattle.mir_ty.specs.AreItems.{AreTypes}
use Rattle.src_ast.specs.Seen.{nodes_of}
use Rattle.src_ast.specs.Syntax.{list_of}
use Rattle.typing_rules.specs.Check.{each_checked}
use Rattle.typing_rules.specs.Collected.{starting_with, closure_param}
use Rattle.typeck_heads.specs.Answers.{behind}
use Rattle.typeck_heads.specs.Forms.{around_of}
use Rattle.typeck_heads.specs.Sizes.{sizes}
use Rattle.typeck_heads.proofs.bodies.closure_params.Given as goal

abbrev pub invariant-loop-split : goal.invariant-loop-split
invariant-loop-split l =
    record {
      answers : each_checked (closure_param (around_of l.scope)) (list_of (nodes_of l.initial.rest)) (starting_with l.initial.items)
          ≡ behind l.ids (each_checked (closure_param (around_of l.scope)) (list_of (nodes_of l.rest)) (starting_with l.items));
      grows : length l.initial.items.types ≤ length l.items.types;
      known : AreTypes l.items.types l.ids;
    }

abbrev pub decreases-loop-split : goal.decreases-loop-split
decreases-loop-split l = sizes (nodes_of l.rest)
