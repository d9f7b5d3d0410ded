-- What a check of a list answers: the nodes that it gives are the last ones that were made.
use Rattle.std.specs.Prelude.{◌≡◌, ⊤, ℕ, List, ◌++◌, length, Option, Some, None, Result, Ok, Err}
use Rattle.mir_base.specs.declared.rule.RuleError.{RuleError}
use Rattle.mir_ty.specs.declared.ty.TyId.{TyId}
use Rattle.typed_tree.specs.Tree.{Node, Nodes}
use Rattle.typing_rules.specs.Check.{Check, TypingState, Broken}
use Rattle.typing_rules.specs.Rows.{argument}
use Rattle.typing_rules.specs.Scope.{Env}
use Rattle.typing_rules.specs.Typed.{by_reference, typed}
use Rattle.src_ast.specs.Syntax.{Syn}
use Rattle.typeck_heads.specs.Answers.{Refuses}
use Rattle.typeck_checker.specs.Lists.{below_all, last_nodes, last_types, nodes_on, types_on}
use Rattle.typeck_checker.specs.Stand.{Stays, stack, state}
use Rattle.typeck_checker.specs.declared.checker.Checker.{Checker}

-- ---- arguments

-- an argument for a parameter, or one too many
abbrev pub argument_at : Env → Option TyId → Syn → Check Node
argument_at env None x = typed env x None
argument_at env (Some param) x = argument param (typed env x) (by_reference env x)

-- ---- nodes

-- the last nodes, so many, are what a check gives
abbrev pub GivesNodes : Result (Nodes × TypingState) Broken → Result ℕ RuleError → Checker → Type 0
GivesNodes outcome (Ok count) after = outcome ≡ Ok (last_nodes count (stack after), state after)
GivesNodes outcome (Err e) after = Refuses outcome e

-- these nodes stand below them, and the expression stands where it stood
abbrev pub KeepsBelow : List Node → Checker → Result ℕ RuleError → Checker → Type 0
KeepsBelow others before (Ok count) after = (below_all count (stack after) ≡ others) × Stays before after
KeepsBelow others before (Err e) after = ⊤

-- what is given of the rest, behind the last ones that were made
abbrev pub behind_nodes : ℕ → List Node → Result (Nodes × TypingState) Broken → Result (Nodes × TypingState) Broken
behind_nodes k ns (Ok a) = Ok (nodes_on k ns a.0, a.1)
behind_nodes k ns (Err e) = Err e

-- ---- nodes and their types

abbrev pub GivesTyped : Result ((Nodes × List TyId) × TypingState) Broken → Result ℕ RuleError → Checker → Type 0
GivesTyped outcome (Ok count) after =
    outcome ≡ Ok ((last_nodes count (stack after), last_types count (stack after)), state after)
GivesTyped outcome (Err e) after = Refuses outcome e

abbrev pub behind_typed : ℕ → List Node → Result ((Nodes × List TyId) × TypingState) Broken →
    Result ((Nodes × List TyId) × TypingState)
    Broken
behind_typed k ns (Ok a) = Ok ((nodes_on k ns a.0.0, types_on k ns a.0.1), a.1)
behind_typed k ns (Err e) = Err e

-- ---- parts, with types of their own

abbrev pub GivesParts : Result ((Nodes × List TyId) × TypingState) Broken → Result (List TyId) RuleError → Checker →
    Type 0
GivesParts outcome (Ok types) after = outcome ≡ Ok ((last_nodes (length types) (stack after), types), state after)
GivesParts outcome (Err e) after = Refuses outcome e

abbrev pub KeepsBelowParts : List Node → Checker → Result (List TyId) RuleError → Checker → Type 0
KeepsBelowParts others before (Ok types) after =
    (below_all (length types) (stack after) ≡ others) × Stays before after
KeepsBelowParts others before (Err e) after = ⊤

abbrev pub behind_parts : List TyId → List Node → Result ((Nodes × List TyId) × TypingState) Broken →
    Result ((Nodes × List TyId) × TypingState) Broken
behind_parts types ns (Ok a) = Ok ((nodes_on (length types) ns a.0.0, types ++ a.0.1), a.1)
behind_parts types ns (Err e) = Err e
