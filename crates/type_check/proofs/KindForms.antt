-- How the parts of variants and items are written: what is asked of a node is asked of its form alone.
use Rattle.std.proofs.Common.{◌≡◌, [], ◌∷◌, refl}
use Rattle.src_tree.specs.declared.node.SyntaxNode.{SyntaxNode}
use Rattle.src_ast.specs.Seen.{syn_of}
use Rattle.src_ast.specs.Sorts.{item_part, variant_part}
use Rattle.src_ast.specs.Syntax.{Syn, syn, shape_of, AnItem, AVariant, StructItem}
use Rattle.typing_rules.specs.Items.{all_kinds}
use Rattle.type_check.specs.Kinds.{kind_in, kind_by, kinds_by}

item_as : (x : Syn) → all_kinds (x ∷ []) ≡ kinds_by (item_part (shape_of x))
item_as (syn at (AnItem (StructItem a b c d))) = refl
item_as (syn at _) = refl

variant_as : (x : Syn) → kind_in x ≡ kind_by (variant_part (shape_of x))
variant_as (syn at (AVariant a b c)) = refl
variant_as (syn at _) = refl

pub item_seen : (n : SyntaxNode) → all_kinds (syn_of n ∷ []) ≡ kinds_by (item_part (shape_of (syn_of n)))
item_seen n = item_as (syn_of n)

pub variant_seen : (n : SyntaxNode) → kind_in (syn_of n) ≡ kind_by (variant_part (shape_of (syn_of n)))
variant_seen n = variant_as (syn_of n)
