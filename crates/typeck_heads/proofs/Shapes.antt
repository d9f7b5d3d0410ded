-- Nodes by the forms that are borrowed from them: what a definition says of a node is what it says of its form.
use Rattle.std.proofs.Common.{◌≡◌, ℕ, suc, ◌+◌, ◌*◌, ◌<◌, ◌≤◌, Bool, true, false, refl, ap, sym, ◌∙◌, arith}
use Rattle.std.specs.Prelude.{◌==◌}
use Rattle.mir_base.specs.declared.place_in_text.Pos.{Pos}
use Rattle.src_tree.specs.declared.node.SyntaxNode.{SyntaxNode}
use Rattle.src_ast.specs.Seen.{syn_of}
use Rattle.src_ast.specs.Sorts.{type_part, param_part}
use Rattle.src_ast.specs.Syntax.{Syn, syn, at_of, shape_of, AType, AParam, NamedType, ParamOf}
use Rattle.src_ast.specs.Types.{type_of}
use Rattle.src_ast.specs.declared.ty.TypeForm.{TypeForm}
use Rattle.src_ast.proofs.Named.{seen_as}
use Rattle.typing_rules.specs.Check.{Check, TypingState}
use Rattle.mir_ty.specs.declared.ty.TyId.{TyId}
use Rattle.typing_rules.specs.Collected.{param_ty}
use Rattle.typing_rules.specs.Written.{WrittenScope, written, written_form, written_param, written_param_form}
use Rattle.typeck_heads.specs.Forms.{written_as, param_as, head_param}
use Rattle.typeck_heads.specs.Sizes.{size, seen_size}

-- ---- types

type_as : (a : WrittenScope) (x : Syn) (s : TypingState) → written a x s ≡ written_as a (at_of x) (type_part (shape_of x)) s
type_as w (syn at (AType (NamedType a))) s = refl
type_as w (syn at _) s = refl

pub type_seen : (a : WrittenScope) (n : SyntaxNode) (s : TypingState) →
    written a (syn_of n) s ≡ written_as a n.at (type_part (shape_of (syn_of n))) s
type_seen a n s =
    type_as a (syn_of n) s ∙ ap (λ (x : Syn). written_as a (at_of x) (type_part (shape_of (syn_of n))) s) (seen_as n)

syn_size : (x : Syn) → seen_size (type_part (shape_of x)) < size x
syn_size (syn at (AType t)) = omega arith
syn_size _ = omega arith

pub type_size : (n : SyntaxNode) → seen_size (type_part (shape_of (syn_of n))) < size (syn_of n)
type_size n = syn_size (syn_of n)

-- the measure falls at a part of a type
pub part_falls : (n : SyntaxNode) (seen form : TypeForm) (t k : ℕ) → 4 * size (syn_of n) ≡ t → seen ≡ form →
    type_of seen ≡ type_part (shape_of (syn_of n)) → k ≤ 4 * seen_size (type_of form) + 3 → k < t
part_falls n seen form t k is_t is is_seen within =
    let same : seen_size (type_of form) ≡ seen_size (type_part (shape_of (syn_of n))) =
    ap (λ f. seen_size (type_of f)) (sym is) ∙ ap seen_size is_seen in
    let less = type_size n in
    omega arith

param_plain : (a : WrittenScope) (x : Syn) (s : TypingState) → written_param a x s ≡ param_as a (at_of x) (type_part (shape_of x)) s
param_plain w (syn at (AType (NamedType a))) s = refl
param_plain w (syn at _) s = refl

pub param_seen : (a : WrittenScope) (n : SyntaxNode) (s : TypingState) →
    written_param a (syn_of n) s ≡ param_as a n.at (type_part (shape_of (syn_of n))) s
param_seen a n s =
    param_plain a (syn_of n) s ∙ ap (λ (x : Syn). param_as a (at_of x) (type_part (shape_of (syn_of n))) s) (seen_as n)

-- ---- parameters

head_param_as : (w : WrittenScope) (self : Check TyId) (x : Syn) (s : TypingState) →
    param_ty w self x s ≡ head_param w self (at_of x) (param_part (shape_of x)) s
head_param_as w self (syn at (AParam (ParamOf a b))) s = refl
head_param_as w self (syn at _) s = refl

pub head_param_seen : (w : WrittenScope) (self : Check TyId) (n : SyntaxNode) (s : TypingState) →
    param_ty w self (syn_of n) s ≡ head_param w self n.at (param_part (shape_of (syn_of n))) s
head_param_seen w self n s =
    head_param_as w self (syn_of n) s
    ∙ ap (λ (x : Syn). head_param w self (at_of x) (param_part (shape_of (syn_of n))) s) (seen_as n)
