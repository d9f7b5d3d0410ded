-- Nodes by the forms that are borrowed from them: what a definition says of a node is what it says of its form.
use Rattle.std.proofs.Common.{◌≡◌, ◌<◌, Bool, true, false, if◌then◌else◌, Option, Some, None, refl, ap, ◌∙◌, arith}
use Rattle.mir_ty.specs.declared.ty.TyId.{TyId}
use Rattle.src_tree.specs.declared.node.SyntaxNode.{SyntaxNode}
use Rattle.src_ast.specs.Seen.{syn_of}
use Rattle.src_ast.specs.Sorts.{expression_part}
use Rattle.src_ast.specs.Syntax.{Syn, syn, at_of, shape_of, AnExpression, Expression, Literal}
use Rattle.src_ast.proofs.Named.{seen_as}
use Rattle.typing_rules.specs.Check.{◌>>=◌}
use Rattle.typing_rules.specs.Rows.{taken}
use Rattle.typing_rules.specs.Scope.{Env}
use Rattle.typing_rules.specs.Typed.{base_of, is_place, is_place_syn, is_plain, literal_in, place, typed, value}
use Rattle.typeck_exprs.specs.Forms.{base_as, is_place_as, is_plain_as, literal_as, value_as}
use Rattle.typeck_exprs.specs.Sizes.{size, expression_size, seen_size}

pub place_seen : (e : Env) (n : SyntaxNode) → is_place_syn e (syn_of n) ≡ is_place_as e (expression_part (shape_of (syn_of n)))
place_seen e n = of_syn (syn_of n)
  where
    of_syn : (x : Syn) → is_place_syn e x ≡ is_place_as e (expression_part (shape_of x))
    of_syn (syn at (AnExpression form)) = refl
    of_syn _ = refl

pub plain_seen : (n : SyntaxNode) → is_plain (syn_of n) ≡ is_plain_as (expression_part (shape_of (syn_of n)))
plain_seen n = of_syn (syn_of n)
  where
    of_syn : (x : Syn) → is_plain x ≡ is_plain_as (expression_part (shape_of x))
    of_syn (syn at (AnExpression form)) = refl
    of_syn _ = refl

-- ---- places and values

-- a node that is an expression, by its form
pub is_expression : (n : SyntaxNode) (g : Expression) → expression_part (shape_of (syn_of n)) ≡ Some g → syn_of n ≡ syn n.at (AnExpression g)
is_expression n g h =
    whole (syn_of n) ∙ ap (λ f. syn (at_of (syn_of n)) f) (of_syn (syn_of n) h) ∙ ap (λ (x : Syn). syn (at_of x) (AnExpression g)) (seen_as n)
  where
    whole : (x : Syn) → x ≡ syn (at_of x) (shape_of x)
    whole (syn at form) = refl

    of_syn : (x : Syn) → expression_part (shape_of x) ≡ Some g → shape_of x ≡ AnExpression g
    of_syn (syn at (AnExpression form)) h = cc
    of_syn _ h = absurd (cc)

pub typed_place : (e : Env) (x : Syn) (expected : Option TyId) → is_place_syn e x ≡ true → typed e x expected ≡ (base_of e x >>= taken e expected)
typed_place e (syn at (AnExpression form)) expected is = by (is_place e form) is
  where
    by : (b : Bool) → b ≡ true →
        (if b then place e at form >>= taken e expected else value e at form expected) ≡ ((if b then place e at form else value e at form None) >>= taken e expected)
    by true h = refl
    by false h = cc
typed_place e _ expected is = absurd (cc)

syn_value : (e : Env) (x : Syn) (expected : Option TyId) → is_place_syn e x ≡ false →
    typed e x expected ≡ value_as e (at_of x) (expression_part (shape_of x)) expected
syn_value e (syn at (AnExpression form)) expected is = by (is_place e form) is
  where
    by : (b : Bool) → b ≡ false →
        (if b then place e at form >>= taken e expected else value e at form expected) ≡ value e at form expected
    by true h = cc
    by false h = refl
syn_value e _ expected is = refl

syn_base : (e : Env) (x : Syn) → is_place_syn e x ≡ false →
    base_of e x ≡ value_as e (at_of x) (expression_part (shape_of x)) None
syn_base e (syn at (AnExpression form)) is = by (is_place e form) is
  where
    by : (b : Bool) → b ≡ false →
        (if b then place e at form else value e at form None) ≡ value e at form None
    by true h = cc
    by false h = refl
syn_base e _ is = refl

pub base_seen : (e : Env) (n : SyntaxNode) → base_of e (syn_of n) ≡ base_as e n.at (expression_part (shape_of (syn_of n)))
base_seen e n =
    of_syn (syn_of n) ∙ ap (λ (x : Syn). base_as e (at_of x) (expression_part (shape_of (syn_of n)))) (seen_as n)
  where
    of_syn : (x : Syn) → base_of e x ≡ base_as e (at_of x) (expression_part (shape_of x))
    of_syn (syn at (AnExpression form)) = refl
    of_syn _ = refl

at_node : (e : Env) (n : SyntaxNode) (expected : Option TyId) →
    value_as e (at_of (syn_of n)) (expression_part (shape_of (syn_of n))) expected ≡ value_as e n.at (expression_part (shape_of (syn_of n))) expected
at_node e n expected = ap (λ (x : Syn). value_as e (at_of x) (expression_part (shape_of (syn_of n))) expected) (seen_as n)

pub typed_value : (e : Env) (n : SyntaxNode) (expected : Option TyId) → is_place_syn e (syn_of n) ≡ false →
    typed e (syn_of n) expected ≡ value_as e n.at (expression_part (shape_of (syn_of n))) expected
typed_value e n expected is = syn_value e (syn_of n) expected is ∙ at_node e n expected

pub base_value : (e : Env) (n : SyntaxNode) → is_place_syn e (syn_of n) ≡ false →
    base_of e (syn_of n) ≡ value_as e n.at (expression_part (shape_of (syn_of n))) None
base_value e n is = syn_base e (syn_of n) is ∙ at_node e n None

-- ---- sizes

syn_size : (x : Syn) → seen_size (expression_part (shape_of x)) < size x
syn_size (syn at (AnExpression form)) = omega arith
syn_size _ = omega arith

pub node_size : (n : SyntaxNode) → seen_size (expression_part (shape_of (syn_of n))) < size (syn_of n)
node_size n = syn_size (syn_of n)

pub part_size : (n : SyntaxNode) (g : Expression) → expression_part (shape_of (syn_of n)) ≡ Some g → expression_size g < size (syn_of n)
part_size n g h = omega (arith, node_size n, ap seen_size h)

-- ---- literals

pub literal_seen : (n : SyntaxNode) → literal_in (syn_of n) ≡ literal_as (expression_part (shape_of (syn_of n)))
literal_seen n = of_syn (syn_of n)
  where
    of_syn : (x : Syn) → literal_in x ≡ literal_as (expression_part (shape_of x))
    of_syn (syn at (AnExpression (Literal value suffix))) = refl
    of_syn _ = refl
