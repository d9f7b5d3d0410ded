-- What calls over parameters answer, beside a check of the rules of typing: their patterns are the nodes made last.
use Rattle.std.specs.Prelude.{◌≡◌, ⊤, List, length, reverse, Result, Ok, Err}
use Rattle.mir_base.specs.declared.place_in_text.NodeId.{NodeId}
use Rattle.mir_base.specs.declared.rule.RuleError.{RuleError}
use Rattle.mir_ty.specs.declared.ty.TyId.{TyId}
use Rattle.src_ast.specs.Syntax.{Word}
use Rattle.typeck_heads.specs.Answers.{Refuses}
use Rattle.typeck_checker.specs.Lists.{below_all, last_nodes}
use Rattle.typeck_checker.specs.Stand.{Stays, stack, state, top}
use Rattle.typeck_checker.specs.declared.checker.Checker.{Checker}
use Rattle.typed_tree.specs.Tree.{Node, ParamTree}
use Rattle.typing_rules.specs.Bodies.{name_entry}
use Rattle.typing_rules.specs.Check.{TypingState, Broken}
use Rattle.typing_rules.specs.Scope.{NamedEntry}
use Rattle.typeck_bodies.specs.Whole.{params_from}

-- the parameter of a type whose pattern is the last node
abbrev pub last_param : TyId → List Node → ParamTree
last_param ty nodes = record { pattern = top nodes; ty = ty }

-- the parameters of these types, whose patterns are the last nodes
abbrev pub last_params : List TyId → List Node → List ParamTree
last_params tys nodes = params_from (last_nodes (length tys) nodes) tys

-- the last node is a parameter that is one name, whose entry has the number of the node
abbrev pub GivesNamed : Result ((ParamTree × NamedEntry) × TypingState) Broken → Word → TyId → Result NodeId RuleError →
    Checker → Type 0
GivesNamed outcome name ty (Ok id) after = outcome ≡
    Ok ((last_param ty (stack after), name_entry name ty id.0), state after)
GivesNamed outcome name ty (Err e) after = Refuses outcome e

-- the last parameter, and the bindings so far, of which the youngest is the first here and the last there
abbrev pub GivesParam : Result ((ParamTree × List NamedEntry) × TypingState) Broken → Result TyId RuleError →
    List NamedEntry → Checker → Type 0
GivesParam outcome (Ok ty) bound after = outcome ≡ Ok ((last_param ty (stack after), reverse bound), state after)
GivesParam outcome (Err e) bound after = Refuses outcome e

abbrev pub GivesParams : Result ((List ParamTree × List NamedEntry) × TypingState) Broken →
    Result (List TyId) RuleError → List NamedEntry →
    Checker → Type 0
GivesParams outcome (Ok tys) bound after = outcome ≡ Ok ((last_params tys (stack after), reverse bound), state after)
GivesParams outcome (Err e) bound after = Refuses outcome e

-- these nodes stand below the patterns, and the expression stands where it stood
abbrev pub KeepsBelow : List Node → Checker → Result (List TyId) RuleError → Checker → Type 0
KeepsBelow others before (Ok tys) after = (below_all (length tys) (stack after) ≡ others) × Stays before after
KeepsBelow others before (Err e) after = ⊤
