-- Places by the forms that are borrowed from them.
use Rattle.std.proofs.Common.{◌≡◌, ℕ, false, if◌then◌else◌, Option, Some, None, refl, ap, sym, subst, ◌∙◌, arith}
use Rattle.std.specs.Borrow.{Bor}
use Rattle.std.specs.Prelude.{option_map, is_some}
use Rattle.mir_base.specs.declared.place_in_text.Pos.{Pos}
use Rattle.src_tree.specs.declared.node.SyntaxNode.{SyntaxNode}
use Rattle.src_ast.specs.declared.expression.ExpressionForm.{ExpressionForm}
use Rattle.src_ast.specs.declared.path.PathForm.{PathForm}
use Rattle.src_ast.specs.Expressions.{expression_of}
use Rattle.src_ast.specs.Seen.{syn_of}
use Rattle.src_ast.specs.Sorts.{expression_part}
use Rattle.src_ast.specs.Syntax.{Word, shape_of, Expression, Path}
use Rattle.typing_rules.specs.Scope.{Env}
use Rattle.typing_rules.specs.Typed.{value, variable_base, variable_of}
use Rattle.typeck_exprs.specs.Forms.{IsPlaceAs, IsPlaceOf, base_as, entry_named, is_place_as}
use Rattle.typeck_exprs.specs.Sizes.{seen_size}
use Rattle.typeck_exprs.proofs.Shapes.{base_seen, node_size, place_seen}
use Rattle.typeck_exprs.specs.declared.place_forms.NamedVariable.{NamedVariable}
use Rattle.typeck_exprs.specs.declared.place_forms.PlaceForm.{PlaceForm}

pub by_variable : (e : Env) (at : Pos) (f s : Option Word) (v : Option NamedVariable) →
    option_map entry_named v ≡ variable_of e f s → IsPlaceAs e at (Some (Path f s)) (option_map (PlaceForm.Variable at) v)
by_variable e at f s None h = ap is_some (sym h)
by_variable e at f s (Some n) h =
    (ap is_some (sym h), ap (λ o. if is_some o then variable_base e at f s o else value e at (Path f s) None) (sym h), omega arith)

pub no_place : (e : Env) (f : ExpressionForm) →
    ((a : PathForm) → f ≡ ExpressionForm.Path a → ⊥)
    → (f ≡ ExpressionForm.SelfValue → ⊥)
    → ((a : Bor SyntaxNode) (b : Bor Word) → f ≡ ExpressionForm.Field a b → ⊥)
    → ((a : Bor SyntaxNode) (b : ℕ) → f ≡ ExpressionForm.Part a b → ⊥)
    → ((a : Bor SyntaxNode) (b : Bor SyntaxNode) → f ≡ ExpressionForm.Index a b → ⊥)
    → ((a : Bor SyntaxNode) → f ≡ ExpressionForm.Deref a → ⊥)
    → ((a : Bor SyntaxNode) → f ≡ ExpressionForm.Parens a → ⊥) →
    is_place_as e (expression_of f) ≡ false
no_place e (ExpressionForm.Path a) hPath hSelfValue hField hPart hIndex hDeref hParens = absurd (hPath a refl)
no_place e ExpressionForm.SelfValue hPath hSelfValue hField hPart hIndex hDeref hParens = absurd (hSelfValue refl)
no_place e (ExpressionForm.Deref a) hPath hSelfValue hField hPart hIndex hDeref hParens = absurd (hDeref a refl)
no_place e (ExpressionForm.Field a b) hPath hSelfValue hField hPart hIndex hDeref hParens = absurd (hField a b refl)
no_place e (ExpressionForm.Part a b) hPath hSelfValue hField hPart hIndex hDeref hParens = absurd (hPart a b refl)
no_place e (ExpressionForm.Index a b) hPath hSelfValue hField hPart hIndex hDeref hParens = absurd (hIndex a b refl)
no_place e (ExpressionForm.Parens a) hPath hSelfValue hField hPart hIndex hDeref hParens = absurd (hParens a refl)
no_place e _ hPath hSelfValue hField hPart hIndex hDeref hParens = refl

pub by_index : (e : Env) (at : Pos) (form : ExpressionForm) (base index : Bor SyntaxNode) → form ≡ ExpressionForm.Index base index →
    IsPlaceAs e at (expression_of form) (Some (PlaceForm.Element at base index))
by_index e at form base index h =
    subst (λ (f : ExpressionForm). IsPlaceAs e at (expression_of f) (Some (PlaceForm.Element at base index))) (sym h) (refl, refl, omega arith)

-- the form of a node is that of its expression
pub of_node : (e : Env) (n : SyntaxNode) (o : Option Expression) (r : Option PlaceForm) → o ≡ expression_part (shape_of (syn_of n)) → IsPlaceAs e n.at o r →
    IsPlaceOf e (syn_of n) r
of_node e n o None h is = place_seen e n ∙ ap (is_place_as e) (sym h) ∙ is
of_node e n o (Some p) h (is, same, small) = (
  place_seen e n ∙ ap (is_place_as e) (sym h) ∙ is,
  base_seen e n ∙ ap (base_as e n.at) (sym h) ∙ same,
  omega (arith, node_size n, ap seen_size h, small),
)
