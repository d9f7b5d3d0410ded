-- Variants, and what is derived.
use Rattle.std.proofs.Common.{◌≡◌, ◌≤◌, List, [], ◌∷◌, ◌++◌, length, All, refl, ap, sym, subst, ◌∙◌}
use Rattle.std.proofs.lemmas.List.Elements.{All-push}
use Rattle.mir_base.specs.declared.place_in_text.Pos.{Pos}
use Rattle.mir_ty.specs.declared.adt.Variant.{Variant}
use Rattle.mir_ty.specs.declared.ty.Ty.{Ty}
use Rattle.mir_ty.specs.AreItems.{IsVariant}
use Rattle.src_tree.specs.declared.node.SyntaxNode.{SyntaxNode}
use Rattle.src_ast.specs.Seen.{syn_of}
use Rattle.src_ast.specs.Sorts.{variant_part}
use Rattle.src_ast.specs.Syntax.{Syn, syn, at_of, shape_of, AVariant}
use Rattle.src_ast.proofs.Named.{seen_as}
use Rattle.typing_rules.specs.Check.{TypingState}
use Rattle.typing_rules.specs.Collected.{declared_variant}
use Rattle.typing_rules.specs.Written.{WrittenScope}
use Rattle.typeck_heads.specs.Forms.{variant_by}
use Rattle.typeck_heads.proofs.Types.{ids_later}

variant_as : (w : WrittenScope) (x : Syn) (s : TypingState) → declared_variant w x s ≡ variant_by w (at_of x) (variant_part (shape_of x)) s
variant_as w (syn at (AVariant a b c)) s = refl
variant_as w (syn at _) s = refl

pub variant_seen : (w : WrittenScope) (n : SyntaxNode) (s : TypingState) →
    declared_variant w (syn_of n) s ≡ variant_by w n.at (variant_part (shape_of (syn_of n))) s
variant_seen w n s =
    variant_as w (syn_of n) s ∙ ap (λ (x : Syn). variant_by w (at_of x) (variant_part (shape_of (syn_of n))) s) (seen_as n)

variant_later : (types later : List Ty) (v : Variant) → length types ≤ length later → IsVariant types v → IsVariant later v
variant_later types later v grows h = record { fields = ids_later types later v.fields h.fields grows; names = h.names }

pub variants_behind : (types later : List Ty) (vs more : List Variant) (v : Variant) → All (IsVariant types) vs →
    length types ≤ length later → IsVariant later v → more ≡ vs ++ v ∷ [] → All (IsVariant later) more
variants_behind types later vs more v h grows here pushed =
    subst (All (IsVariant later)) (sym pushed)
    (All-push (IsVariant later) vs v (λ k d below. variant_later types later _ grows (h k d below)) here)
