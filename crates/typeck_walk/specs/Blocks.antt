-- What the check of a statement and of statements answers: a statement may have no node, and may bring variables.
use Rattle.std.specs.Prelude.{◌≡◌, ⊤, ℕ, ◌+◌, Bool, true, false, ◌||◌, List, Option, Some, None, Result, Ok, Err, if◌then◌else◌}
use Rattle.mir_base.specs.declared.place_in_text.Pos.{Pos}
use Rattle.mir_base.specs.declared.rule.RuleError.{RuleError}
use Rattle.mir_ty.specs.declared.ty.TyId.{TyId}
use Rattle.typed_tree.specs.Tree as tree
use Rattle.typed_tree.specs.Tree.{Node, Nodes, MaybeNode}
use Rattle.typing_rules.specs.Check.{Check, TypingState, Broken, ◌>>=◌, ◌<$>◌}
use Rattle.typing_rules.specs.Places.{a_node_of}
use Rattle.typing_rules.specs.Rows.{Typer, block_ty, evaluate, settled}
use Rattle.typing_rules.specs.Scope.{Env, NamedEntry, with_variables}
use Rattle.typing_rules.specs.Typed.{a_statement, for_parts, other_statement, typed}
use Rattle.src_ast.specs.Syntax.{Syn, Statement}
use Rattle.typeck_heads.specs.Answers.{Refuses}
use Rattle.typeck_patterns.specs.LetAnswers.{below_value}
use Rattle.typeck_checker.specs.Lists.{below_all, last_nodes, nodes_on}
use Rattle.typeck_checker.specs.Stand.{Stays, below, env, stack, state, top}
use Rattle.typeck_checker.specs.declared.checker.Checker.{Checker}
use Rattle.typeck_walk.specs.declared.blocks.StatementNode.{StatementNode}
use Rattle.typeck_walk.specs.declared.blocks.Statements.{Statements}

-- the last node, where one was made
abbrev pub last_if : Bool → List Node → Option Node
last_if true ns = Some (top ns)
last_if false ns = None

abbrev pub below_if : Bool → List Node → List Node
below_if true ns = below ns
below_if false ns = ns

abbrev pub more_if : Bool → ℕ → ℕ
more_if true count = count + 1
more_if false count = count

-- an expression stands where it stood, but for variables that came into scope
abbrev pub Grows : Checker → Checker → Type 0
Grows before after =
    ((xs : List NamedEntry) × (env after ≡ with_variables xs (env before))) × (after.tables ≡ before.tables)

abbrev pub GivesStatement : Result ((Option Node × Bool × Env) × TypingState) Broken → Result StatementNode RuleError →
    Checker →
    Type 0
GivesStatement outcome (Ok s) after = outcome ≡ Ok ((last_if s.is_made (stack after), s.ends, env after), state after)
GivesStatement outcome (Err e) after = Refuses outcome e

abbrev pub KeepsStatement : List Node → Checker → Result StatementNode RuleError → Checker → Type 0
KeepsStatement others before (Ok s) after = (below_if s.is_made (stack after) ≡ others) × Grows before after
KeepsStatement others before (Err e) after = ⊤

abbrev pub GivesStatements : Result ((Nodes × Bool × Env) × TypingState) Broken → Result Statements RuleError →
    Checker → Type 0
GivesStatements outcome (Ok s) after = outcome ≡ Ok ((last_nodes s.count (stack after), s.ends, env after), state after)
GivesStatements outcome (Err e) after = Refuses outcome e

abbrev pub KeepsStatements : List Node → Checker → Result Statements RuleError → Checker → Type 0
KeepsStatements others before (Ok s) after = (below_all s.count (stack after) ≡ others) × Grows before after
KeepsStatements others before (Err e) after = ⊤

-- these nodes stand below the last one, and variables may have come into scope
abbrev pub KeepsGrown : {B : Type 0} → List Node → Checker → Result B RuleError → Checker → Type 0
KeepsGrown others before (Ok b) after = (below (stack after) ≡ others) × Grows before after
KeepsGrown others before (Err e) after = ⊤

-- what is given of the rest, behind the last nodes that were made
abbrev pub behind_statements : ℕ → Bool → List Node → Result ((Nodes × Bool × Env) × TypingState) Broken →
    Result ((Nodes × Bool × Env) × TypingState) Broken
behind_statements k ends ns (Ok a) = Ok ((nodes_on k ns a.0.0, ends || a.0.1, a.0.2), a.1)
behind_statements k ends ns (Err e) = Err e

-- an expression as a statement
abbrev pub evaluated : Pos → Env → Bool → Typer → Check (Option Node × Bool × Env)
evaluated at env has_semicolon e = a_statement <$> evaluate at env has_semicolon e

-- a statement by its form: `None` is an expression
abbrev pub statement_as : Env → Syn → Pos → Option Statement → Check (Option Node × Bool × Env)
statement_as env x at None = evaluated at env false (typed env x)
statement_as env x at (Some s) = other_statement env at s

-- a block, once its statements are checked
abbrev pub block_rest : ℕ → Pos → Nodes → Bool → (Option TyId → Check MaybeNode) → Option TyId → Check Node
block_rest id at statements ends tail expected = do
  last ← tail expected
  settled expected (a_node_of id at (block_ty last ends) (tree.Block statements last))

-- the initialiser of a `let`
abbrev pub initialiser_of : Env → Bool → Bool → Option TyId → Syn → Check Node
initialiser_of env is_one_name any expected e = if is_one_name then typed env e expected else for_parts env any expected e

abbrev pub KeepsValue : List Node → Checker → Result Bool RuleError → Checker → Type 0
KeepsValue others before (Ok has_value) after = (below_value has_value (stack after) ≡ others) × Stays before after
KeepsValue others before (Err e) after = ⊤
