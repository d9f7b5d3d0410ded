-- What the end of a `let` is given and leaves, in nodes.
use Rattle.std.specs.Prelude.{◌≡◌, ⊤, Bool, List, if◌then◌else◌, Result, Ok, Err}
use Rattle.mir_base.specs.declared.rule.RuleError.{RuleError}
use Rattle.typeck_checker.specs.Stand.{below, stack, top}
use Rattle.typeck_checker.specs.declared.checker.Checker.{Checker}
use Rattle.typed_tree.specs.Tree.{Node, MaybeNode, absent, present}

-- the last node, where it is the initialiser, and what stands below it
abbrev pub value_if : Bool → List Node → MaybeNode
value_if has_value ns = if has_value then present (top ns) else absent

abbrev pub below_value : Bool → List Node → List Node
below_value has_value ns = if has_value then below ns else ns

-- these nodes stand below the last one; what is in scope may be more
abbrev pub KeepsTables : {B : Type 0} → List Node → Checker → Result B RuleError → Checker → Type 0
KeepsTables others before (Ok b) after = (below (stack after) ≡ others) × (after.tables ≡ before.tables)
KeepsTables others before (Err e) after = ⊤
