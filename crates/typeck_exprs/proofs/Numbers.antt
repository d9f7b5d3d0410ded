-- Numbers by the forms that are borrowed from them.
use Rattle.std.proofs.Common.{◌≡◌, ℕ, false, Option, Some, None, refl}
use Rattle.std.specs.Borrow.{Bor}
use Rattle.mir_base.specs.declared.int_kind.IntKind.{IntKind}
use Rattle.src_tree.specs.declared.node.SyntaxNode.{SyntaxNode}
use Rattle.src_ast.specs.declared.expression.ExpressionForm.{ExpressionForm}
use Rattle.src_ast.specs.Expressions.{expression_of}
use Rattle.src_ast.specs.Syntax.{Syn, syn, AnExpression, Literal, Minus}
use Rattle.typing_rules.specs.Typed.{is_plain_form, literal_in}
use Rattle.typeck_exprs.specs.Forms.{is_plain_as, is_plain_literal, literal_as}

pub no_literal : (f : ExpressionForm) →
    ((a : ℕ) (b : Option IntKind) → f ≡ ExpressionForm.Number a b → ⊥) →
    literal_as (expression_of f) ≡ None
no_literal (ExpressionForm.Number a b) hNumber = absurd (hNumber a b refl)
no_literal _ hNumber = refl

pub not_plain : (f : ExpressionForm) →
    ((a : Bor SyntaxNode) → f ≡ ExpressionForm.Parens a → ⊥)
    → ((a : Bor SyntaxNode) → f ≡ ExpressionForm.Negate a → ⊥)
    → ((a : ℕ) (b : Option IntKind) → f ≡ ExpressionForm.Number a b → ⊥) →
    is_plain_as (expression_of f) ≡ false
not_plain (ExpressionForm.Number a b) hParens hNegate hNumber = absurd (hNumber a b refl)
not_plain (ExpressionForm.Negate a) hParens hNegate hNumber = absurd (hNegate a refl)
not_plain (ExpressionForm.Parens a) hParens hNegate hNumber = absurd (hParens a refl)
not_plain _ hParens hNegate hNumber = refl

-- behind a `-` a number without a suffix is plain
pub minus_plain : (x : Syn) → is_plain_literal (literal_in x) ≡ is_plain_form (Minus x)
minus_plain (syn at (AnExpression (Literal value None))) = refl
minus_plain (syn at (AnExpression (Literal value (Some kind)))) = refl
minus_plain (syn at _) = refl
