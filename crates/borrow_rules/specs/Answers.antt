-- What `borrow_check` answers.
use Rattle.std.specs.Prelude.{◌≡◌, List, ◌++◌, Option, Some, None, Result, Ok, Err, ⊤}
use Rattle.std.specs.List.{flat_map}
use Rattle.mir_base.specs.declared.rule.RuleError.{RuleError}
use Rattle.mir_ty.specs.ItemTable.{ItemTable}
use Rattle.typed_tree.specs.Tree.{BodyTree}
use Rattle.typing_rules.specs.Borrows.{overlaps, replaced_self}
use Rattle.typing_rules.specs.Check.{Broken}
use Rattle.typing_rules.specs.Replaced.{BodyParameter}
use Rattle.borrow_rules.specs.declared.first_broken.BrokenRule.{BrokenRule}

abbrev pub fault_in : BrokenRule → Broken
fault_in f = record { rule = f.rule; at = f.at }

-- nothing is broken, or this is the first; want of memory says nothing
abbrev pub Answers : Option Broken → Result (Unit {0}) RuleError → Type 0
Answers outcome (Ok u) = outcome ≡ None
Answers outcome (Err (RuleError.Broken rule at)) = outcome ≡ Some (record { rule = rule; at = at })
Answers outcome (Err RuleError.Memory) = ⊤

-- all that is broken in bodies, by the parameters that may be replaced
abbrev pub faults_of : ItemTable → List BodyParameter → List BodyTree → List Broken
faults_of items params bodies = flat_map (λ body. overlaps body ++ replaced_self items params body) bodies
