-- A body of the nodes that were made last: the patterns of its parameters, and its block.
use Rattle.std.specs.Prelude.{◌≡◌, ℕ, List, [], ◌∷◌, length, Option, Some, None, Result, Ok, Err}
use Rattle.mir_base.specs.declared.place_in_text.Pos.{Pos}
use Rattle.mir_ty.specs.declared.ty.TyId.{TyId}
use Rattle.typed_tree.specs.Tree.{Node, Nodes, no_node, a_node, ParamTree, BodyTree}
use Rattle.typing_rules.specs.Bodies as rules
use Rattle.typing_rules.specs.Check.{Check, TypingState}
use Rattle.mir_base.specs.declared.rule.Rule.{Rule}
use Rattle.mir_base.specs.declared.rule.RuleError.{RuleError}
use Rattle.typeck_heads.specs.Answers.{Refuses}
use Rattle.typed_tree.specs.View.{body_of}
use Rattle.typed_tree.specs.declared.body.TBody.{TBody}
use Rattle.typeck_checker.specs.Lists.{last_nodes}
use Rattle.typeck_checker.specs.Stand.{top, below}

-- patterns, each with the type of its parameter
abbrev pub params_from : Nodes → List TyId → List ParamTree
params_from (a_node pattern patterns) (ty ∷ tys) = record { pattern = pattern; ty = ty } ∷ params_from patterns tys
params_from _ _ = []

-- a pattern with its type as a parameter, where it has one
abbrev pub one_param : Node → Option TyId → List ParamTree
one_param pattern None = []
one_param pattern (Some ty) = record { pattern = pattern; ty = ty } ∷ []

-- the same before its nodes are numbered in text order
abbrev pub plain_body_on : ℕ → List TyId → TyId → List Node → BodyTree
plain_body_on number tys answer nodes =
    record {
      number = number;
      params = params_from (last_nodes (length tys) (below nodes)) tys;
      answer = answer;
      block = top nodes;
    }

-- a body is within the limit of nodes, or refused
abbrev pub IsWithin : Rule → Pos → BodyTree → TypingState → Result TBody RuleError → Type 0
IsWithin too_many at body s (Ok b) = (rules.within_limit too_many at body s ≡ Ok (body, s)) × (body_of b ≡ body)
IsWithin too_many at body s (Err e) = Refuses (rules.within_limit too_many at body s) e

-- the body whose block is the last node, behind the patterns of parameters of these types
abbrev pub body_on : Rule → Pos → ℕ → List TyId → TyId → List Node → Check BodyTree
body_on too_many at number tys answer nodes =
    rules.within_limit too_many at (rules.body_of number (params_from (last_nodes (length tys) (below nodes)) tys) answer
    (top nodes))
