-- One name as a pattern, by the form of its node; initialisers that are no use of a place.
use Rattle.std.proofs.Common.{◌≡◌, ℕ, Bool, true, false, ◌&&◌, List, Option, Some, None, refl, ap, sym, ◌∙◌}
use Rattle.std.specs.Prelude.{is_none}
use Rattle.mir_base.specs.declared.place_in_text.Pos.{Pos}
use Rattle.mir_ty.specs.ItemTable.{ItemTable}
use Rattle.mir_ty.specs.declared.ty.TyId.{TyId}
use Rattle.src_tree.specs.declared.node.SyntaxNode.{SyntaxNode}
use Rattle.std.specs.Borrow.{Bor}
use Rattle.src_ast.specs.Patterns.{pattern_of}
use Rattle.src_ast.specs.Seen.{syn_of}
use Rattle.src_ast.specs.declared.pattern.PatternForm.{PatternForm}
use Rattle.src_ast.specs.Sorts.{pattern_part}
use Rattle.src_ast.specs.Syntax.{Word, Syn, syn, shape_of, APattern, AnyPattern}
use Rattle.typeck_checker.proofs.Nodes.{shape}
use Rattle.typed_tree.specs.Tree.{absent}
use Rattle.typed_tree.specs.View as view
use Rattle.typed_tree.specs.declared.node.Node as made
use Rattle.typing_rules.specs.Check.{TypingState}
use Rattle.typing_rules.specs.Rows.{Matcher, is_unused_place, let_end, let_of_type}
use Rattle.typing_rules.specs.Scope.{Env, NamedEntry}
use Rattle.typing_rules.specs.Typed.{is_one_name, takes_any}
use Rattle.well_typed.specs.Places.{is_place}
use Rattle.typeck_patterns.specs.BindingForms.{any_as, one_name_as}

as_form : (items : ItemTable) (x : Syn) → is_one_name items x ≡ one_name_as items (pattern_part (shape_of x))
as_form items (syn at (APattern AnyPattern)) = refl
as_form items (syn at _) = refl

pub name_seen : (items : ItemTable) (n : SyntaxNode) → is_one_name items (syn_of n) ≡ one_name_as items (pattern_part (shape_of (syn_of n)))
name_seen items n = as_form items (syn_of n)

-- what is told of a form is told of its node
pub told_of : (items : ItemTable) (n : SyntaxNode) (b : Bool) (seen form : PatternForm) → seen ≡ form →
    pattern_of seen ≡ pattern_part (shape_of (syn_of n)) → b ≡ one_name_as items (pattern_of form) → b ≡ is_one_name items (syn_of n)
told_of items n b seen form is is_seen told =
    told ∙ ap (λ f. one_name_as items (pattern_of f)) (sym is) ∙ ap (one_name_as items) is_seen ∙ sym (name_seen items n)

-- other forms than a name and parentheses are none
pub no_name : (items : ItemTable) (n : SyntaxNode) (seen : PatternForm) → pattern_of seen ≡ pattern_part (shape_of (syn_of n)) →
    ((name : Bor Word) → seen ≡ PatternForm.Bind name → ⊥) → ((inside : Bor SyntaxNode) → seen ≡ PatternForm.Parens inside → ⊥) →
    false ≡ is_one_name items (syn_of n)
no_name items n seen is_seen no_bind no_parens =
    other seen no_bind no_parens ∙ ap (one_name_as items) is_seen ∙ sym (name_seen items n)
  where
    other : (f : PatternForm) → ((name : Bor Word) → f ≡ PatternForm.Bind name → ⊥) → ((inside : Bor SyntaxNode) → f ≡ PatternForm.Parens inside → ⊥) →
        false ≡ one_name_as items (pattern_of f)
    other PatternForm.Wild h k = refl
    other (PatternForm.Bind name) h k = absurd (h name refl)
    other (PatternForm.Literal a b c) h k = refl
    other (PatternForm.Truth a) h k = refl
    other (PatternForm.Path a) h k = refl
    other (PatternForm.Parts a b c) h k = refl
    other (PatternForm.Fields a b c) h k = refl
    other (PatternForm.Parens inside) h k = absurd (k inside refl)
    other (PatternForm.Tuple a b) h k = refl
    other (PatternForm.Array a b) h k = refl
    other (PatternForm.Or a) h k = refl
    other PatternForm.Other h k = refl

-- ---- `_`

any_form : (x : Syn) → takes_any x ≡ any_as (pattern_part (shape_of x))
any_form (syn at (APattern AnyPattern)) = refl
any_form (syn at _) = refl

pub any_seen : (n : SyntaxNode) → takes_any (syn_of n) ≡ any_as (pattern_part (shape_of (syn_of n)))
any_seen n = any_form (syn_of n)

pub any_told_of : (n : SyntaxNode) (b : Bool) (seen form : PatternForm) → seen ≡ form →
    pattern_of seen ≡ pattern_part (shape_of (syn_of n)) → b ≡ any_as (pattern_of form) → b ≡ takes_any (syn_of n)
any_told_of n b seen form is is_seen told =
    told ∙ ap (λ f. any_as (pattern_of f)) (sym is) ∙ ap any_as is_seen ∙ sym (any_seen n)

pub not_any : (n : SyntaxNode) (seen : PatternForm) → pattern_of seen ≡ pattern_part (shape_of (syn_of n)) →
    (seen ≡ PatternForm.Wild → ⊥) → ((inside : Bor SyntaxNode) → seen ≡ PatternForm.Parens inside → ⊥) →
    false ≡ takes_any (syn_of n)
not_any n seen is_seen no_wild no_parens =
    other seen no_wild no_parens ∙ ap any_as is_seen ∙ sym (any_seen n)
  where
    other : (f : PatternForm) → (f ≡ PatternForm.Wild → ⊥) → ((inside : Bor SyntaxNode) → f ≡ PatternForm.Parens inside → ⊥) →
        false ≡ any_as (pattern_of f)
    other PatternForm.Wild h k = absurd (h refl)
    other (PatternForm.Bind name) h k = refl
    other (PatternForm.Literal a b c) h k = refl
    other (PatternForm.Truth a) h k = refl
    other (PatternForm.Path a) h k = refl
    other (PatternForm.Parts a b c) h k = refl
    other (PatternForm.Fields a b c) h k = refl
    other (PatternForm.Parens inside) h k = absurd (k inside refl)
    other (PatternForm.Tuple a b) h k = refl
    other (PatternForm.Array a b) h k = refl
    other (PatternForm.Or a) h k = refl
    other PatternForm.Other h k = refl

-- ---- initialisers

pub unused_same : (n : made.Node) → is_unused_place (view.tree_of n) ≡ (is_place (view.form_of n.form) && is_none n.by)
unused_same n = ap is_unused_place (shape n)

-- without a value the place has the type that is written
pub untyped_same : (env : Env) (id : ℕ) (at : Pos) (one : Bool) (ty : TyId) (pattern : Matcher) (behind : List NamedEntry → Env) (s : TypingState) →
    let_end id at env one (Some ty) absent pattern behind s ≡ let_of_type id at (record { is_fixed = false; takes_all = true }) ty absent pattern behind s
untyped_same env id at true ty pattern behind s = refl
untyped_same env id at false ty pattern behind s = refl
