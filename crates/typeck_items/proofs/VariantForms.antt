-- Variants by their forms, one behind another.
use Rattle.std.proofs.Common.{◌≡◌, not, nat_le, List, [], ◌∷◌, refl, ap, ◌∙◌}
use Rattle.mir_base.specs.declared.place_in_text.Pos.{Pos}
use Rattle.mir_base.specs.declared.rule.Rule.{Rule}
use Rattle.well_typed.specs.Names.{is_among}
use Rattle.src_tree.specs.declared.node.SyntaxNode.{SyntaxNode}
use Rattle.src_ast.specs.Seen.{syn_of}
use Rattle.src_ast.specs.Sorts.{variant_part}
use Rattle.src_ast.specs.Syntax.{Word, Syn, syn, at_of, shape_of, Shape, AVariant, list_of}
use Rattle.src_ast.proofs.Named.{seen_as}
use Rattle.typing_rules.specs.Check.{TypingState, and_then}
use Rattle.typing_rules.specs.Program.{count_of, fields, variants}
use Rattle.typing_rules.specs.Scope.{Env}
use Rattle.typeck_items.specs.Forms.{variant_by}
use Rattle.typeck_items.proofs.Steps.{two_rules}

form_variant : (w : Env) (earlier : List Word) (at : Pos) (form : Shape) (vs : List Syn) (s : TypingState) →
    variants w earlier (syn at form ∷ vs) s ≡ and_then (variant_by w earlier at (variant_part form) s) (λ more. variants w more vs)
form_variant w earlier at (AVariant a b c) vs s = two_rules (fields w [] (list_of c) s) Rule.T02 at (not (is_among a earlier)) Rule.T19 at (nat_le (count_of c) 32) (a ∷ earlier) (λ more. variants w more vs)
form_variant w earlier at _ vs s = refl

as_variant : (w : Env) (earlier : List Word) (x : Syn) (vs : List Syn) (s : TypingState) →
    variants w earlier (x ∷ vs) s ≡ and_then (variant_by w earlier (at_of x) (variant_part (shape_of x)) s) (λ more. variants w more vs)
as_variant w earlier (syn at form) vs s = form_variant w earlier at form vs s

-- a variant is known by its form
pub variant_seen : (w : Env) (earlier : List Word) (n : SyntaxNode) (vs : List Syn) (s : TypingState) →
    variants w earlier (syn_of n ∷ vs) s ≡ and_then (variant_by w earlier n.at (variant_part (shape_of (syn_of n))) s) (λ more. variants w more vs)
variant_seen w earlier n vs s =
    as_variant w earlier (syn_of n) vs s
    ∙ ap (λ (x : Syn). and_then (variant_by w earlier (at_of x) (variant_part (shape_of (syn_of n))) s) (λ more. variants w more vs)) (seen_as n)
