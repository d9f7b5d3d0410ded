-- Fields by their forms.
use Rattle.std.proofs.Common.{◌≡◌, List, refl, ap, sym, ◌∙◌}
use Rattle.src_tree.specs.declared.node.SyntaxNode.{SyntaxNode}
use Rattle.src_ast.specs.Seen.{syn_of}
use Rattle.src_ast.specs.Sorts.{field_part}
use Rattle.src_ast.specs.Syntax.{Word, Syn, syn, at_of, shape_of, AField}
use Rattle.src_ast.proofs.Named.{seen_as}
use Rattle.typing_rules.specs.Check.{TypingState}
use Rattle.typing_rules.specs.Program.{field}
use Rattle.typing_rules.specs.Scope.{Env}
use Rattle.typeck_items.specs.Forms.{field_by}

as_field : (w : Env) (earlier : List Word) (x : Syn) (s : TypingState) →
    field w earlier x s ≡ field_by w earlier (at_of x) x (field_part (shape_of x)) s
as_field w earlier (syn at (AField a b)) s = refl
as_field w earlier (syn at _) s = refl

-- a field is known by its form
pub field_seen : (w : Env) (earlier : List Word) (n : SyntaxNode) (s : TypingState) →
    field w earlier (syn_of n) s ≡ field_by w earlier n.at (syn_of n) (field_part (shape_of (syn_of n))) s
field_seen w earlier n s =
    as_field w earlier (syn_of n) s
    ∙ ap (λ (x : Syn). field_by w earlier (at_of x) (syn_of n) (field_part (shape_of (syn_of n))) s) (seen_as n)
