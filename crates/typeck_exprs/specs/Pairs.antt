-- The last two nodes as operands: the right one was checked first where they are swapped.
use Rattle.std.specs.Prelude.{◌≡◌, ⊤, Bool, List, Result, Ok, Err, if◌then◌else◌}
use Rattle.mir_base.specs.declared.rule.RuleError.{RuleError}
use Rattle.typed_tree.specs.Tree.{Node}
use Rattle.typeck_checker.specs.Stand.{Stays, below, stack, top}
use Rattle.typeck_checker.specs.declared.checker.Checker.{Checker}

abbrev pub left_of : Bool → List Node → Node
left_of swapped ns = if swapped then top ns else top (below ns)

abbrev pub right_of : Bool → List Node → Node
right_of swapped ns = if swapped then top (below ns) else top ns

-- these nodes stand below the last two, and the expression stands where it stood
abbrev pub KeepsTwo : {B : Type 0} → List Node → Checker → Result B RuleError → Checker → Type 0
KeepsTwo others before (Ok b) after = (below (below (stack after)) ≡ others) × Stays before after
KeepsTwo others before (Err e) after = ⊤
