-- Goals that many functions of the recursion have: the form of a value, the measure at it, and lists before their first part.
use Rattle.std.proofs.Common.{◌≡◌, ℕ, ◌+◌, ◌*◌, ◌<◌, List, Option, Result, Ok, Err, refl, ap, sym, subst, arith}
use Rattle.mir_base.specs.declared.place_in_text.Pos.{Pos}
use Rattle.mir_base.specs.declared.rule.RuleError.{RuleError}
use Rattle.mir_ty.specs.declared.ty.TyId.{TyId}
use Rattle.src_ast.specs.Expressions.{expression_of}
use Rattle.src_ast.specs.Seen.{syn_of}
use Rattle.src_ast.specs.Sorts.{expression_part}
use Rattle.src_ast.specs.Syntax.{shape_of}
use Rattle.src_ast.specs.declared.expression.ExpressionForm.{ExpressionForm}
use Rattle.src_tree.specs.declared.node.SyntaxNode.{SyntaxNode}
use Rattle.typeck_checker.specs.Stand.{Gives, env, state}
use Rattle.typeck_checker.specs.declared.checker.Checker.{Checker}
use Rattle.typed_tree.specs.Tree.{Node, Nodes}
use Rattle.typing_rules.specs.Check.{TypingState, Broken}
use Rattle.typeck_exprs.specs.Forms.{value_as}
use Rattle.typeck_exprs.specs.Lists.{behind_nodes}
use Rattle.typeck_exprs.specs.Sizes.{seen_size, size}
use Rattle.typeck_exprs.proofs.Shapes.{node_size}

-- what is given for the form that a value has is given for the value
pub of_form : (before : Checker) (at : Pos) (expected : Option TyId) (form seen : ExpressionForm) (result : Result Unit RuleError) (after : Checker) → form ≡ seen →
    Gives (value_as (env before) at (expression_of seen) expected (state before)) result after →
    Gives (value_as (env before) at (expression_of form) expected (state before)) result after
of_form before at expected form seen result after is =
    subst (λ (f : ExpressionForm). Gives (value_as (env before) at (expression_of f) expected (state before)) result after) (sym is)

pub value_falls : (n : SyntaxNode) (g : ExpressionForm) (t : ℕ) → 16 * size (syn_of n) ≡ t → expression_of g ≡ expression_part (shape_of (syn_of n)) →
    16 * seen_size (expression_of g) + 15 < t
value_falls n g t is h = omega (arith, node_size n, ap seen_size h)

pub no_nodes_yet : (ns : List Node) (o : Result (Nodes × TypingState) Broken) → o ≡ behind_nodes 0 ns o
no_nodes_yet ns (Ok a) = refl
no_nodes_yet ns (Err e) = refl
