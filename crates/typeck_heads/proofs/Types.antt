-- Types as they are written, one behind another.
use Rattle.std.proofs.Common.{◌≡◌, ℕ, Bool, true, not, ◌||◌, nat_le, ◌<◌, ◌≤◌, List, [], ◌∷◌, ◌++◌, length, Option, Result, Ok, Err, refl, ap, sym, subst, ◌∙◌, arith}
use Rattle.mir_base.specs.declared.place_in_text.Pos.{Pos}
use Rattle.mir_base.specs.declared.rule.Rule.{Rule}
use Rattle.mir_base.specs.declared.rule.RuleError.{RuleError}
use Rattle.mir_ty.specs.ItemTable.{ItemTable}
use Rattle.mir_ty.specs.declared.ty.Ty.{Ty}
use Rattle.mir_ty.specs.declared.ty.TyId.{TyId}
use Rattle.mir_ty.specs.AreItems.{AreTypes}
use Rattle.src_ast.specs.Syntax.{Syn, shape_of, WrittenType, Syns, a_syn}
use Rattle.std.specs.Borrow.{Bor}
use Rattle.src_ast.specs.declared.ty.TypeForm.{TypeForm}
use Rattle.src_ast.specs.Types.{type_of}
use Rattle.src_ast.specs.Seen.{syn_of}
use Rattle.src_ast.specs.Sorts.{type_part}
use Rattle.src_tree.specs.declared.node.SyntaxNode.{SyntaxNode}
use Rattle.typing_rules.specs.Check.{TypingState, Broken, interned, and_then, pure, obeys}
use Rattle.typing_rules.specs.Written.{WrittenScope, written, written_param, all_written, tuple_by, length_shown}
use Rattle.std.proofs.lemmas.List.Elements.{All-push}
use Rattle.typeck_heads.specs.Answers.{Answers, behind}
use Rattle.typeck_heads.specs.Forms.{array_short, written_as, param_as}
use Rattle.typeck_heads.proofs.Shapes.{type_seen, param_seen}
use Rattle.typeck_heads.proofs.Sequences.{one_more}

pub of_many : (ids : List TyId) (s : TypingState) → 0 < length ids → tuple_by ids s ≡ interned (Ty.Tuple ids) s
of_many [] s h = absurd (omega (arith, h))
of_many (id ∷ ids) s h = refl

pub all_behind : (w : WrittenScope) (whole : Result (List TyId × TypingState) Broken) (ids more : List TyId) (ss : Syns)
    (first : Syn) (rest : Syns) (s t : TypingState) (id : TyId) → whole ≡ behind ids (all_written w ss s) →
    a_syn first rest ≡ ss → written w first s ≡ Ok (id, t) → more ≡ ids ++ id ∷ [] →
    whole ≡ behind more (all_written w rest t)
all_behind w whole ids more ss first rest s t id h split here pushed =
    h ∙ ap (λ z. behind ids (all_written w z s)) (sym split)
    ∙ ap (λ o. behind ids (and_then o (λ a. λ u. and_then (all_written w rest u) (λ as_. pure (a ∷ as_))))) here
    ∙ one_more ids id (all_written w rest t) ∙ ap (λ z. behind z (all_written w rest t)) (sym pushed)

pub ids_later : (types later : List Ty) (ids : List TyId) → AreTypes types ids → length types ≤ length later →
    AreTypes later ids
ids_later types later ids h grows = λ k d below. let one = h k d below in omega (arith, one)

pub ids_behind : (types later : List Ty) (ids more : List TyId) (id : TyId) → AreTypes types ids →
    length types ≤ length later → id.0 < length later → more ≡ ids ++ id ∷ [] → AreTypes later more
ids_behind types later ids more id h grows here pushed =
    subst (AreTypes later) (sym pushed) (All-push (λ id. id.0 < length later) ids id (ids_later types later ids h grows) here)

pub array_answers : (w : WrittenScope) (at : Pos) (count : ℕ) (ty : TyId) (s : TypingState) (b : Bool) (n : ℕ)
    (r : Result TyId RuleError) (after : ItemTable) → b ≡ true → b ≡ (not w.has_limits || nat_le count 32) →
    n ≡ length_shown count → Answers (interned (Ty.Array ty n) s) r after → Answers (array_short w at count ty s) r after
array_answers w at count ty s b n r after holds is short h =
    let holds_ : (not w.has_limits || nat_le count 32) ≡ true = sym is ∙ holds in
    subst (λ z. Answers (and_then (obeys Rule.T19 at z s) (λ _. interned (Ty.Array ty (length_shown count)))) r after) (sym holds_)
    (subst (λ z. Answers (interned (Ty.Array ty z) s) r after) short h)

-- what is written is what its form says
pub written_answers : (w : WrittenScope) (n : SyntaxNode) (s : TypingState) (r : Result TyId RuleError) (after : ItemTable) (seen form : TypeForm) →
    seen ≡ form → type_of seen ≡ type_part (shape_of (syn_of n)) → Answers (written_as w n.at (type_of form) s) r after →
    Answers (written w (syn_of n) s) r after
written_answers w n s r after seen form is is_seen h =
    let equal : written_as w n.at (type_of form) s ≡ written w (syn_of n) s =
    ap (λ f. written_as w n.at (type_of f) s) (sym is) ∙ ap (λ f. written_as w n.at f s) is_seen ∙ sym (type_seen w n s) in
    subst (λ o. Answers o r after) equal h

pub refused_answers : (w : WrittenScope) (n : SyntaxNode) (s : TypingState) (e : RuleError) (after : ItemTable) (seen : TypeForm) →
    seen ≡ TypeForm.Other → type_of seen ≡ type_part (shape_of (syn_of n)) → e ≡ RuleError.Broken Rule.T20 n.at →
    Answers (written w (syn_of n) s) (Err e) after
refused_answers w n s e after seen is is_seen is_e =
    written_answers w n s (Err e) after seen TypeForm.Other is is_seen (rw is_e refl)

pub param_answers : (w : WrittenScope) (n : SyntaxNode) (s : TypingState) (r : Result TyId RuleError) (after : ItemTable) (seen form : TypeForm) →
    seen ≡ form → type_of seen ≡ type_part (shape_of (syn_of n)) → Answers (param_as w n.at (type_of form) s) r after →
    Answers (written_param w (syn_of n) s) r after
param_answers w n s r after seen form is is_seen h =
    let equal : param_as w n.at (type_of form) s ≡ written_param w (syn_of n) s =
    ap (λ f. param_as w n.at (type_of f) s) (sym is) ∙ ap (λ f. param_as w n.at f s) is_seen ∙ sym (param_seen w n s) in
    subst (λ o. Answers o r after) equal h

pub plain_answers : (w : WrittenScope) (n : SyntaxNode) (s : TypingState) (r : Result TyId RuleError) (after : ItemTable) (form : Option WrittenType) →
    form ≡ type_part (shape_of (syn_of n)) → param_as w n.at form s ≡ written_as w n.at form s →
    Answers (written w (syn_of n) s) r after → Answers (written_param w (syn_of n) s) r after
plain_answers w n s r after form is same h =
    let equal : written w (syn_of n) s ≡ written_param w (syn_of n) s =
    type_seen w n s ∙ ap (λ f. written_as w n.at f s) (sym is) ∙ sym same ∙ ap (λ f. param_as w n.at f s) is ∙ sym (param_seen w n s) in
    subst (λ o. Answers o r after) equal h

pub plain_form : (w : WrittenScope) (at : Pos) (s : TypingState) (f : TypeForm) → ((x : Bor SyntaxNode) → f ≡ TypeForm.Parens x → ⊥) →
    ((u : Bool) (x : Bor SyntaxNode) → f ≡ TypeForm.Reference u x → ⊥) → param_as w at (type_of f) s ≡ written_as w at (type_of f) s
plain_form w at s (TypeForm.Name a) h i = refl
plain_form w at s (TypeForm.Generic a b) h i = refl
plain_form w at s (TypeForm.Dyn a b c) h i = refl
plain_form w at s TypeForm.SelfType h i = refl
plain_form w at s (TypeForm.Parens a) h i = absurd (h a refl)
plain_form w at s (TypeForm.Tuple a) h i = refl
plain_form w at s (TypeForm.Array a b c) h i = refl
plain_form w at s TypeForm.Never h i = refl
plain_form w at s (TypeForm.Reference u a) h i = absurd (i u a refl)
plain_form w at s TypeForm.Other h i = refl
