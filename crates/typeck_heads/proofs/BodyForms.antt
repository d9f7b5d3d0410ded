-- Bodies by the forms that are borrowed from their nodes.
use Rattle.std.proofs.Common.{◌≡◌, Option, None, Result, refl, ap, sym, subst, ◌∙◌}
use Rattle.std.specs.Borrow.{Bor}
use Rattle.mir_base.specs.declared.place_in_text.Pos.{Pos}
use Rattle.mir_base.specs.declared.rule.Rule.{Rule}
use Rattle.mir_base.specs.declared.rule.RuleError.{RuleError}
use Rattle.mir_ty.specs.ItemTable.{ItemTable}
use Rattle.src_tree.specs.declared.node.SyntaxNode.{SyntaxNode}
use Rattle.src_ast.specs.declared.expression.ExpressionForm.{ExpressionForm}
use Rattle.src_ast.specs.declared.item.ItemForm.{ItemForm}
use Rattle.src_ast.specs.declared.nodes.Nodes.{Nodes}
use Rattle.src_ast.specs.ItemForms.{item_of}
use Rattle.src_ast.specs.Expressions.{expression_of}
use Rattle.src_ast.specs.Seen.{syn_of}
use Rattle.src_ast.specs.Sorts.{item_part, expression_part}
use Rattle.src_ast.specs.Syntax.{Word, Syn, syn, at_of, shape_of, AnExpression, AnItem, Literal, Item, StructItem}
use Rattle.src_ast.proofs.Named.{seen_as}
use Rattle.typing_rules.specs.Check.{Broken, TypingState, breaks}
use Rattle.typing_rules.specs.Collected as walk
use Rattle.typing_rules.specs.Collected.{body_sig}
use Rattle.typeck_heads.specs.Answers.{Answers}
use Rattle.typeck_heads.specs.Forms.{body_by}

body_as : (w : walk.Known) (o : Option Word) (k : walk.Count) (x : Syn) (s : TypingState) →
    body_sig w o k x s ≡ body_by w o k (at_of x) (item_part (shape_of x)) (expression_part (shape_of x)) s
body_as w o k (syn at (AnExpression (Literal a b))) s = refl
body_as w o k (syn at (AnItem (StructItem a b c d))) s = refl
body_as w o k (syn at _) s = refl

pub body_seen : (w : walk.Known) (o : Option Word) (k : walk.Count) (n : SyntaxNode) (s : TypingState) →
    body_sig w o k (syn_of n) s
    ≡ body_by w o k n.at (item_part (shape_of (syn_of n))) (expression_part (shape_of (syn_of n))) s
body_seen w o k n s =
    body_as w o k (syn_of n) s
    ∙ ap (λ (x : Syn). body_by w o k (at_of x) (item_part (shape_of (syn_of n))) (expression_part (shape_of (syn_of n))) s) (seen_as n)

-- what is answered of a form is answered of its node
pub body_answers : (w : walk.Known) (o : Option Word) (k : walk.Count) (n : SyntaxNode) (s : TypingState) (r : Result walk.Count RuleError) (after : ItemTable) (seen form : ItemForm) →
    seen ≡ form → item_of seen ≡ item_part (shape_of (syn_of n)) →
    Answers (body_by w o k n.at (item_of form) (expression_part (shape_of (syn_of n))) s) r after →
    Answers (body_sig w o k (syn_of n) s) r after
body_answers w o k n s r after seen form is is_seen h =
    let by : Option Item → Result (walk.Count × TypingState) Broken = λ f. body_by w o k n.at f (expression_part (shape_of (syn_of n))) s in
    let equal : by (item_of form) ≡ body_sig w o k (syn_of n) s =
    ap (λ f. by (item_of f)) (sym is) ∙ ap by is_seen ∙ sym (body_seen w o k n s) in
    subst (λ z. Answers z r after) equal h

pub not_closure : (w : walk.Known) (o : Option Word) (k : walk.Count) (at : Pos) (f : ExpressionForm) (s : TypingState) →
    ((a : Nodes) (b : Nodes) (c : Option (Bor SyntaxNode)) (d : Bor SyntaxNode) → f ≡ ExpressionForm.Closure a b c d → ⊥) →
    body_by w o k at None (expression_of f) s ≡ breaks Rule.T20 at s
not_closure w o k at (ExpressionForm.Closure a b c d) s h = absurd (h a b c d refl)
not_closure w o k at _ s h = refl
