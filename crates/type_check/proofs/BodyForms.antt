-- The bodies of items by their forms.
use Rattle.std.proofs.Common.{◌≡◌, refl, ap, ◌∙◌}
use Rattle.src_tree.specs.declared.node.SyntaxNode.{SyntaxNode}
use Rattle.src_ast.specs.Seen.{syn_of}
use Rattle.src_ast.specs.Sorts.{item_part}
use Rattle.src_ast.specs.Syntax.{Syn, syn, at_of, shape_of, AnItem, StructItem}
use Rattle.src_ast.proofs.Named.{seen_as}
use Rattle.typing_rules.specs.Check.{TypingState}
use Rattle.typing_rules.specs.Program.{bodies_of, fn_rules}
use Rattle.typing_rules.specs.Scope.{Env}
use Rattle.type_check.specs.Forms.{bodies_by, fn_by}

as_fn : (w : Env) (x : Syn) (s : TypingState) → fn_rules w x s ≡ fn_by w (at_of x) (item_part (shape_of x)) s
as_fn w (syn at (AnItem (StructItem a b c d))) s = refl
as_fn w (syn at _) s = refl

-- a method is known by its form
pub fn_seen : (w : Env) (n : SyntaxNode) (s : TypingState) → fn_rules w (syn_of n) s ≡ fn_by w n.at (item_part (shape_of (syn_of n))) s
fn_seen w n s = as_fn w (syn_of n) s ∙ ap (λ (x : Syn). fn_by w (at_of x) (item_part (shape_of (syn_of n))) s) (seen_as n)

as_bodies : (w : Env) (x : Syn) (s : TypingState) → bodies_of w x s ≡ bodies_by w (at_of x) (item_part (shape_of x)) s
as_bodies w (syn at (AnItem (StructItem a b c d))) s = refl
as_bodies w (syn at _) s = refl

-- an item is known by its form
pub bodies_seen : (w : Env) (n : SyntaxNode) (s : TypingState) → bodies_of w (syn_of n) s ≡ bodies_by w n.at (item_part (shape_of (syn_of n))) s
bodies_seen w n s =
    as_bodies w (syn_of n) s ∙ ap (λ (x : Syn). bodies_by w (at_of x) (item_part (shape_of (syn_of n))) s) (seen_as n)
