-- Where a checker stands, as the rules of typing see it, and what a call answers beside a check of theirs.
use Rattle.std.specs.Prelude.{◌≡◌, ⊤, List, [], ◌∷◌, map, reverse, Option, Some, None, Result, Ok, Err}
use Rattle.std.specs.Borrow.{Bor}
use Rattle.mir_base.specs.declared.rule.RuleError.{RuleError}
use Rattle.typeck_heads.specs.Answers.{Refuses}
use Rattle.typeck_env.specs.Scope.{around_of}
use Rattle.typeck_env.specs.Walked.{state_of}
use Rattle.typed_tree.specs.Tree as tree
use Rattle.typed_tree.specs.Tree.{node}
use Rattle.typed_tree.specs.View.{tree_of}
use Rattle.typed_tree.specs.declared.node.Node.{Node}
use Rattle.typing_rules.specs.Check.{TypingState, Broken}
use Rattle.typing_rules.specs.Scope.{Env}
use Rattle.typeck_checker.specs.Tables.{all_kinds_of}
use Rattle.typeck_checker.specs.declared.checker.Checker.{Checker}
use Rattle.typeck_checker.specs.declared.body_scope.BodyScope.{BodyScope}
use Rattle.typeck_checker.specs.declared.tables.Tables.{Tables}

-- ---- nodes that were made, the last one first

unfoldable pub stack_of : List Node → List tree.Node
stack_of made = reverse (map tree_of made)

-- what stands where no node was made
abbrev pub nothing_made : tree.Node
nothing_made = node 0 (record { line = 0; col = 0 }) (record { 0 = 0 }) None tree.UnitValue

abbrev pub top : List tree.Node → tree.Node
top [] = nothing_made
top (n ∷ ns) = n

abbrev pub below : List tree.Node → List tree.Node
below [] = []
below (n ∷ ns) = ns

-- a node that was found, or what stands where there is none
abbrev pub node_if_any : Option (Bor Node) → tree.Node
node_if_any None = nothing_made
node_if_any (Some n) = tree_of n.now

-- ---- where an expression stands

unfoldable pub env_in : Tables → BodyScope → Env
env_in t s =
    record {
      adts = t.adts;
      traits = t.traits;
      kinds = all_kinds_of t.kinds;
      methods = t.self_methods;
      self_adt = s.self_adt;
      variables = s.variables;
      loops = reverse (map around_of s.loops);
      answer = s.answer;
    }

abbrev pub env : Checker → Env
env c = env_in c.tables c.around

abbrev pub stack : Checker → List tree.Node
stack c = stack_of c.walk.made

abbrev pub state : Checker → TypingState
state c = state_of c.walk

-- ---- what a call answers

-- the last node is what a check gives, and the walk has come as far; want of memory says nothing
abbrev pub Gives : Result (tree.Node × TypingState) Broken → Result (Unit {0}) RuleError → Checker → Type 0
Gives outcome (Ok u) after = outcome ≡ Ok (top (stack after), state after)
Gives outcome (Err e) after = Refuses outcome e

-- the expression stands where it stood
abbrev pub Stays : Checker → Checker → Type 0
Stays before after = (env after ≡ env before) × (after.tables ≡ before.tables)

-- these nodes stand below the last one, and the expression stands where it stood
abbrev pub KeepsStack : {B : Type 0} → List tree.Node → Checker → Result B RuleError → Checker → Type 0
KeepsStack others before (Ok b) after = (below (stack after) ≡ others) × Stays before after
KeepsStack others before (Err e) after = ⊤

-- no node is made, and the expression stands where it stood
abbrev pub ChangesNothing : Checker → Checker → Type 0
ChangesNothing before after = (stack after ≡ stack before) × Stays before after

-- a step that makes no node
abbrev pub GivesValue : {A B : Type 0} → (B → A) → Result (A × TypingState) Broken → Result B RuleError → Checker →
    Type 0
GivesValue view outcome (Ok b) after = outcome ≡ Ok (view b, state after)
GivesValue view outcome (Err e) after = Refuses outcome e
