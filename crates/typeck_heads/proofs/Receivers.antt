-- Receivers and the heads of a trait's methods, by the forms that are borrowed from their nodes.
use Rattle.std.proofs.Common.{◌≡◌, ◌≤◌, if◌then◌else◌, List, [], ◌∷◌, ◌++◌, length, All, Result, refl, ap, sym, subst, ◌∙◌, arith}
use Rattle.std.proofs.lemmas.List.Elements.{All-push}
use Rattle.mir_base.specs.declared.place_in_text.Pos.{Pos}
use Rattle.mir_base.specs.declared.rule.RuleError.{RuleError}
use Rattle.mir_ty.specs.ItemTable.{ItemTable}
use Rattle.mir_ty.specs.declared.def.Sig.{Sig}
use Rattle.mir_ty.specs.declared.ty.Ty.{Ty}
use Rattle.mir_ty.specs.declared.ty.TyId.{TyId}
use Rattle.mir_ty.specs.AreItems.{IsSig}
use Rattle.src_tree.specs.declared.node.SyntaxNode.{SyntaxNode}
use Rattle.src_ast.specs.ItemForms.{item_of}
use Rattle.src_ast.specs.Seen.{syn_of}
use Rattle.src_ast.specs.declared.item.ItemForm.{ItemForm}
use Rattle.src_ast.specs.Sorts.{param_part, item_part}
use Rattle.src_ast.specs.Syntax.{ByValue, ByShared, ByUnique, Syn, syn, at_of, shape_of, AnItem, AParam, StructItem, ParamOf, SelfParam, Syns, a_syn}
use Rattle.src_ast.proofs.Named.{seen_as}
use Rattle.typing_rules.specs.Check.{TypingState}
use Rattle.typing_rules.specs.Collected.{is_by_reference, behind_self, trait_head}
use Rattle.typing_rules.specs.Written.{WrittenScope}
use Rattle.typeck_heads.specs.Answers.{Answers}
use Rattle.typeck_heads.specs.Forms.{is_self_by, reference_by, trait_head_by}
use Rattle.typeck_heads.proofs.Types.{ids_later}

reference_as : (x : Syn) → is_by_reference x ≡ reference_by (param_part (shape_of x))
reference_as (syn at (AParam (SelfParam ByValue))) = refl
reference_as (syn at (AParam (SelfParam ByShared))) = refl
reference_as (syn at (AParam (SelfParam ByUnique))) = refl
reference_as (syn at _) = refl

pub reference_seen : (n : SyntaxNode) → is_by_reference (syn_of n) ≡ reference_by (param_part (shape_of (syn_of n)))
reference_seen n = reference_as (syn_of n)

behind_as : (x : Syn) (rest : Syns) → behind_self (a_syn x rest)
    ≡ if is_self_by (param_part (shape_of x)) then rest else a_syn x rest
behind_as (syn at (AParam (ParamOf a b))) rest = refl
behind_as (syn at _) rest = refl

pub behind_seen : (n : SyntaxNode) (rest : Syns) → behind_self (a_syn (syn_of n) rest)
    ≡ if is_self_by (param_part (shape_of (syn_of n))) then rest else a_syn (syn_of n) rest
behind_seen n rest = behind_as (syn_of n) rest

trait_as : (w : WrittenScope) (own : TyId) (x : Syn) (s : TypingState) →
    trait_head w own x s ≡ trait_head_by w own (at_of x) (item_part (shape_of x)) s
trait_as w own (syn at (AnItem (StructItem a b c d))) s = refl
trait_as w own (syn at _) s = refl

pub trait_head_seen : (w : WrittenScope) (own : TyId) (n : SyntaxNode) (s : TypingState) →
    trait_head w own (syn_of n) s ≡ trait_head_by w own n.at (item_part (shape_of (syn_of n))) s
trait_head_seen w own n s =
    trait_as w own (syn_of n) s
    ∙ ap (λ (x : Syn). trait_head_by w own (at_of x) (item_part (shape_of (syn_of n))) s) (seen_as n)

-- what is answered of a form is answered of its node
pub trait_head_answers : (w : WrittenScope) (own : TyId) (n : SyntaxNode) (s : TypingState) (r : Result Sig RuleError) (after : ItemTable) (seen form : ItemForm) →
    seen ≡ form → item_of seen ≡ item_part (shape_of (syn_of n)) → Answers (trait_head_by w own n.at (item_of form) s) r after →
    Answers (trait_head w own (syn_of n) s) r after
trait_head_answers w own n s r after seen form is is_seen h =
    let equal : trait_head_by w own n.at (item_of form) s ≡ trait_head w own (syn_of n) s =
    ap (λ f. trait_head_by w own n.at (item_of f) s) (sym is) ∙ ap (λ f. trait_head_by w own n.at f s) is_seen ∙ sym (trait_head_seen w own n s) in
    subst (λ o. Answers o r after) equal h

sig_later : (types later : List Ty) (sig : Sig) → length types ≤ length later → IsSig types sig → IsSig later sig
sig_later types later sig grows h =
    let answer = h.answer in
    record { params = ids_later types later sig.params h.params grows; answer = omega (arith, answer) }

pub sigs_behind : (types later : List Ty) (sigs more : List Sig) (sig : Sig) → All (IsSig types) sigs →
    length types ≤ length later → IsSig later sig → more ≡ sigs ++ sig ∷ [] → All (IsSig later) more
sigs_behind types later sigs more sig h grows here pushed =
    subst (All (IsSig later)) (sym pushed)
    (All-push (IsSig later) sigs sig (λ k d below. sig_later types later _ grows (h k d below)) here)
