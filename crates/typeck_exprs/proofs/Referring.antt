-- Arguments for references by the forms that are borrowed from them.
use Rattle.std.proofs.Common.{◌≡◌, Bool, true, false, if◌then◌else◌, Option, Some, None, refl, ap, sym, ◌∙◌, ◌≤◌, arith}
use Rattle.std.specs.Borrow.{Bor}
use Rattle.std.specs.Prelude.{option_map, is_some}
use Rattle.mir_base.specs.declared.place_in_text.Pos.{Pos}
use Rattle.mir_ty.specs.declared.ty.TyId.{TyId}
use Rattle.src_tree.specs.declared.node.SyntaxNode.{SyntaxNode}
use Rattle.src_ast.specs.declared.expression.ExpressionForm.{ExpressionForm}
use Rattle.src_ast.specs.declared.path.PathForm.{PathForm}
use Rattle.src_ast.specs.Expressions.{expression_of}
use Rattle.src_ast.specs.Seen.{syn_of}
use Rattle.src_ast.specs.Sorts.{expression_part}
use Rattle.src_ast.specs.Syntax.{Word, Syn, syn, shape_of, AnExpression, Path, Ampersand, Parens}
use Rattle.typed_tree.specs.Tree as tree
use Rattle.well_typed.specs.Types.{is_reference}
use Rattle.typing_rules.specs.Check.{Check, TypingState, ◌>>=◌}
use Rattle.typing_rules.specs.Rows.{passed_on, taken}
use Rattle.typing_rules.specs.Scope.{Env, NamedEntry}
use Rattle.typing_rules.specs.Typed.{by_reference, may_refer, passed, path, path_alone, path_by, reference_form, typed, variable_base, variable_of}
use Rattle.typeck_exprs.specs.Forms.{IsArgumentOf, argument_size, entry_named, may_refer_as, reference_among, referred_by}
use Rattle.typeck_exprs.specs.Sizes.{size}
use Rattle.typeck_exprs.proofs.Shapes.{is_expression, part_size}
use Rattle.typeck_exprs.specs.declared.argument_forms.ArgumentForm.{ArgumentForm}
use Rattle.typeck_exprs.specs.declared.place_forms.NamedVariable.{NamedVariable}

-- ---- paths

path_typed : (e : Env) (at : Pos) (f s : Option Word) (expected : Option TyId) → path e at f s expected ≡ typed e (syn at (AnExpression (Path f s))) expected
path_typed e at f s expected = by (variable_of e f s)
  where
    by : (o : Option NamedEntry) →
        path_by e at f s o expected ≡ (if is_some o then variable_base e at f s o >>= taken e expected else path_alone e at f s expected)
    by None = refl
    by (Some x) = refl

abbrev argument_of : Pos → Bor SyntaxNode → Option NamedVariable → ArgumentForm
argument_of at node None = ArgumentForm.Value node
argument_of at node (Some v) = ArgumentForm.Passed at v

module _ (e : Env) (at : Pos) (f s : Option Word) (node : Bor SyntaxNode) (is : syn_of node.now ≡ syn at (AnExpression (Path f s))) (st : TypingState) where
  as_value : (expected : TyId) → path e at f s (Some expected) st ≡ typed e (syn_of node.now) (Some expected) st
  as_value expected = ap (λ (c : Check tree.Node). c st) (path_typed e at f s (Some expected)) ∙ ap (λ (x : Syn). typed e x (Some expected) st) (sym is)

  by_entry : (v : NamedVariable) (b : Bool) (expected : TyId) (unique : Bool) (to : TyId) →
      (if b then passed_on at (entry_named v) expected unique to else path e at f s (Some expected)) st
      ≡ referred_by e (argument_of at node (if b then Some v else None)) expected unique to st
  by_entry v true expected unique to = refl
  by_entry v false expected unique to = as_value expected

  by_found : (v : Option NamedVariable) (expected : TyId) (unique : Bool) (to : TyId) →
      passed at (path e at f s) (option_map entry_named v) expected unique to st
      ≡ referred_by e (argument_of at node (reference_among st.items v)) expected unique to st
  by_found None expected unique to = as_value expected
  by_found (Some v) expected unique to = by_entry v (is_reference st.items v.found.ty) expected unique to

  small : (o : Option NamedVariable) → argument_size (argument_of at node o) ≤ size (syn_of node.now)
  small None = omega arith
  small (Some v) = omega arith

  pub by_path : (v : Option NamedVariable) → option_map entry_named v ≡ variable_of e f s →
      IsArgumentOf e (syn_of node.now) st (argument_of at node (reference_among st.items v))
  by_path v h = (
    λ expected unique to. ap (λ (x : Syn). by_reference e x expected unique to st) is
        ∙ ap (λ o. passed at (path e at f s) o expected unique to st) (sym h) ∙ by_found v expected unique to,
    small (reference_among st.items v),
  )

-- ---- values

pub refers_to_none : (f : ExpressionForm) →
    ((a : Bool) (b : Bor SyntaxNode) → f ≡ ExpressionForm.Borrow a b → ⊥)
    → ((a : PathForm) → f ≡ ExpressionForm.Path a → ⊥)
    → (f ≡ ExpressionForm.SelfValue → ⊥)
    → ((a : Bor SyntaxNode) → f ≡ ExpressionForm.Parens a → ⊥) →
    may_refer_as (expression_of f) ≡ false
refers_to_none (ExpressionForm.Path a) hBorrow hPath hSelfValue hParens = absurd (hPath a refl)
refers_to_none ExpressionForm.SelfValue hBorrow hPath hSelfValue hParens = absurd (hSelfValue refl)
refers_to_none (ExpressionForm.Borrow a b) hBorrow hPath hSelfValue hParens = absurd (hBorrow a b refl)
refers_to_none (ExpressionForm.Parens a) hBorrow hPath hSelfValue hParens = absurd (hParens a refl)
refers_to_none _ hBorrow hPath hSelfValue hParens = refl

-- what may not refer is a value
pub by_value : (e : Env) (x : Syn) (expected : TyId) (unique : Bool) (to : TyId) → may_refer_as (expression_part (shape_of x)) ≡ false →
    by_reference e x expected unique to ≡ typed e x (Some expected)
by_value e (syn at (AnExpression form)) expected unique to h = by (may_refer form) h
  where
    by : (b : Bool) → b ≡ false →
        (if b then reference_form e at form expected unique to else typed e (syn at (AnExpression form)) (Some expected)) ≡ typed e (syn at (AnExpression form)) (Some expected)
    by true k = cc
    by false k = refl
by_value e _ expected unique to h = refl

-- ---- a node by its form

module _ (e : Env) (n : SyntaxNode) (st : TypingState) where
  pub as_borrow : (unique : Bool) (base : Bor SyntaxNode) → Some (Ampersand unique (syn_of base.now)) ≡ expression_part (shape_of (syn_of n)) →
      IsArgumentOf e (syn_of n) st (ArgumentForm.Borrow n.at unique base)
  as_borrow unique base h = (
    λ expected is_unique to. ap (λ (x : Syn). by_reference e x expected is_unique to st) (is_expression n (Ampersand unique (syn_of base.now)) (sym h)),
    omega (arith, part_size n (Ampersand unique (syn_of base.now)) (sym h)),
  )

  pub as_inside : (inside : Bor SyntaxNode) (form : ArgumentForm) → Some (Parens (syn_of inside.now)) ≡ expression_part (shape_of (syn_of n)) →
      IsArgumentOf e (syn_of inside.now) st form → IsArgumentOf e (syn_of n) st form
  as_inside inside form h (is, small) = (
    λ expected is_unique to. ap (λ (x : Syn). by_reference e x expected is_unique to st) (is_expression n (Parens (syn_of inside.now)) (sym h)) ∙ is expected is_unique to,
    omega (arith, part_size n (Parens (syn_of inside.now)) (sym h), small),
  )

  pub as_other : (node : Bor SyntaxNode) (f : ExpressionForm) → node.now ≡ n → expression_of f ≡ expression_part (shape_of (syn_of n)) → may_refer_as (expression_of f) ≡ false →
      IsArgumentOf e (syn_of n) st (ArgumentForm.Value node)
  as_other node f at h none = (
    λ expected is_unique to. ap (λ (c : Check tree.Node). c st) (by_value e (syn_of n) expected is_unique to (ap may_refer_as (sym h) ∙ none))
        ∙ ap (λ (m : SyntaxNode). typed e (syn_of m) (Some expected) st) (sym at),
    omega (arith, ap (λ (m : SyntaxNode). size (syn_of m)) at),
  )
