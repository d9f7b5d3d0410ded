-- Callees by the forms that are borrowed from their nodes: what a definition says of a node is what it says of its form.
use Rattle.std.proofs.Common.{◌≡◌, ℕ, suc, ◌<◌, Option, Some, None, refl, ap, ◌∙◌, arith}
use Rattle.mir_base.specs.declared.place_in_text.Pos.{Pos}
use Rattle.mir_ty.specs.ItemTable.{ItemTable}
use Rattle.mir_ty.specs.declared.def.Sig.{Sig}
use Rattle.src_tree.specs.declared.node.SyntaxNode.{SyntaxNode}
use Rattle.src_ast.specs.Seen.{syn_of}
use Rattle.src_ast.specs.Sorts.{expression_part}
use Rattle.src_ast.specs.Syntax.{Syn, syn, at_of, shape_of, AnExpression, Literal}
use Rattle.src_ast.proofs.Named.{seen_as}
use Rattle.typing_rules.specs.Named.{callee_of, function_by, or_no_callee, place_inside}
use Rattle.typing_rules.specs.Scope.{Env}
use Rattle.typing_rules.specs.Typed.{call_place}
use Rattle.typeck_calls.specs.Callees.{callee_seen_by, parens, parens_seen, place_seen_by}

-- a function is one behind a variable too
pub function_stays : (items : ItemTable) (body : ℕ) (head : Option Sig) → or_no_callee (function_by items body head) ≡ function_by items body head
function_stays items body None = refl
function_stays items body (Some head) = refl

by_form : (items : ItemTable) (env : Env) (x : Syn) → callee_of items env x ≡ callee_seen_by items env (expression_part (shape_of x))
by_form items env (syn at (AnExpression (Literal a b))) = refl
by_form items env (syn at _) = refl

pub callee_as : (items : ItemTable) (env : Env) (n : SyntaxNode) → callee_of items env (syn_of n) ≡ callee_seen_by items env (expression_part (shape_of (syn_of n)))
callee_as items env n = by_form items env (syn_of n)

-- a function's call is refused where it stands
pub function_place : (at name : Pos) (items : ItemTable) (body : ℕ) (head : Option Sig) → call_place at name (function_by items body head) ≡ at
function_place at name items body None = refl
function_place at name items body (Some head) = refl

place_by_form : (x : Syn) → place_inside x ≡ place_seen_by (at_of x) (expression_part (shape_of x))
place_by_form (syn at (AnExpression e)) = refl
place_by_form (syn at _) = refl

pub place_as : (n : SyntaxNode) → place_inside (syn_of n) ≡ place_seen_by n.at (expression_part (shape_of (syn_of n)))
place_as n =
    place_by_form (syn_of n)
    ∙ ap (λ (x : Syn). place_seen_by (at_of x) (expression_part (shape_of (syn_of n)))) (seen_as n)

-- what stands in parentheses has fewer of them around it
syn_parens : (x : Syn) → parens_seen (expression_part (shape_of x)) < suc (parens x)
syn_parens (syn at (AnExpression e)) = omega arith
syn_parens _ = omega arith

pub fewer_parens : (n : SyntaxNode) → parens_seen (expression_part (shape_of (syn_of n))) < suc (parens (syn_of n))
fewer_parens n = syn_parens (syn_of n)
