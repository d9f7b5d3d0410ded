-- A node that is no name has an empty one.
use Rattle.std.proofs.Common.{◌≡◌, false, [], None, refl, ap, sym, ◌∙◌}
use Rattle.std.specs.Option.{is_some}
use Rattle.src_tree.specs.declared.node.SyntaxNode.{SyntaxNode}
use Rattle.src_tree.specs.View.{parts_in}
use Rattle.src_tree.proofs.Pieces.{node_laid}
use Rattle.src_ast.specs.Seen.{syn_of}
use Rattle.src_ast.specs.Syntax.{Syn, syn, at_of, shape_of, Shape, AName, ALabel, AnExpression, AStatement, APattern, AType, AnItem, AParam, AField, AVariant, AnInit, AFieldPattern, AnArm}
use Rattle.src_ast.specs.Sorts.{statement_part, type_part, item_part, param_part, field_part, variant_part, init_part, field_pattern_part, arm_part, pattern_part, expression_part}
use Rattle.src_ast.specs.View.{ident_in, or_empty, is_ident, is_label, is_statement, label_name, named, made, tokens_in, view, views}
use Rattle.src_ast.proofs.Rows.{OfArm, OfExpression, OfField, OfFieldPattern, OfInit, OfItem, OfLabel, OfName, OfParam, OfPattern, OfStatement, OfType, OfVariant, sort_of, sort_of_row, is_same, other_sort}

-- a form of another sort is none of this one
no_word : (s : Shape) → is_same (sort_of s) OfName ≡ false → ident_in s ≡ None
no_word (AName a) h = cc
no_word _ h = refl

unlabelled : (s : Shape) → is_same (sort_of s) OfLabel ≡ false → label_name s ≡ None
unlabelled (ALabel a) h = cc
unlabelled _ h = refl

no_type : (s : Shape) → is_same (sort_of s) OfType ≡ false → type_part s ≡ None
no_type (AType a) h = cc
no_type _ h = refl

no_item : (s : Shape) → is_same (sort_of s) OfItem ≡ false → item_part s ≡ None
no_item (AnItem a) h = cc
no_item _ h = refl

no_param : (s : Shape) → is_same (sort_of s) OfParam ≡ false → param_part s ≡ None
no_param (AParam a) h = cc
no_param _ h = refl

no_field : (s : Shape) → is_same (sort_of s) OfField ≡ false → field_part s ≡ None
no_field (AField a b) h = cc
no_field _ h = refl

no_variant : (s : Shape) → is_same (sort_of s) OfVariant ≡ false → variant_part s ≡ None
no_variant (AVariant a b c) h = cc
no_variant _ h = refl

no_pattern : (s : Shape) → is_same (sort_of s) OfPattern ≡ false → pattern_part s ≡ None
no_pattern (APattern a) h = cc
no_pattern _ h = refl

no_field_pattern : (s : Shape) → is_same (sort_of s) OfFieldPattern ≡ false → field_pattern_part s ≡ None
no_field_pattern (AFieldPattern a b) h = cc
no_field_pattern _ h = refl

no_statement : (s : Shape) → is_same (sort_of s) OfStatement ≡ false → statement_part s ≡ None
no_statement (AStatement a) h = cc
no_statement _ h = refl

no_expression : (s : Shape) → is_same (sort_of s) OfExpression ≡ false → expression_part s ≡ None
no_expression (AnExpression a) h = cc
no_expression _ h = refl

no_init : (s : Shape) → is_same (sort_of s) OfInit ≡ false → init_part s ≡ None
no_init (AnInit a b) h = cc
no_init _ h = refl

no_arm : (s : Shape) → is_same (sort_of s) OfArm ≡ false → arm_part s ≡ None
no_arm (AnArm a b c) h = cc
no_arm _ h = refl

-- a node by its row
pub seen_as : (n : SyntaxNode) → syn_of n ≡ syn n.at (made n.row (tokens_in (parts_in n.parts)) (views (parts_in n.parts)))
seen_as n = ap view (node_laid n)

pub no_type_seen : (n : SyntaxNode) → is_same (sort_of_row n.row) OfType ≡ false → type_part (shape_of (syn_of n)) ≡ None
no_type_seen n h =
    let ts = tokens_in (parts_in n.parts) in
    let ss = views (parts_in n.parts) in
    ap (λ z. type_part (shape_of z)) (seen_as n) ∙ no_type (made n.row ts ss) (other_sort OfType n.row ts ss refl h)

pub no_item_seen : (n : SyntaxNode) → is_same (sort_of_row n.row) OfItem ≡ false → item_part (shape_of (syn_of n)) ≡ None
no_item_seen n h =
    let ts = tokens_in (parts_in n.parts) in
    let ss = views (parts_in n.parts) in
    ap (λ z. item_part (shape_of z)) (seen_as n) ∙ no_item (made n.row ts ss) (other_sort OfItem n.row ts ss refl h)

pub no_param_seen : (n : SyntaxNode) → is_same (sort_of_row n.row) OfParam ≡ false → param_part (shape_of (syn_of n)) ≡ None
no_param_seen n h =
    let ts = tokens_in (parts_in n.parts) in
    let ss = views (parts_in n.parts) in
    ap (λ z. param_part (shape_of z)) (seen_as n) ∙ no_param (made n.row ts ss) (other_sort OfParam n.row ts ss refl h)

pub no_field_seen : (n : SyntaxNode) → is_same (sort_of_row n.row) OfField ≡ false → field_part (shape_of (syn_of n)) ≡ None
no_field_seen n h =
    let ts = tokens_in (parts_in n.parts) in
    let ss = views (parts_in n.parts) in
    ap (λ z. field_part (shape_of z)) (seen_as n) ∙ no_field (made n.row ts ss) (other_sort OfField n.row ts ss refl h)

pub no_variant_seen : (n : SyntaxNode) → is_same (sort_of_row n.row) OfVariant ≡ false → variant_part (shape_of (syn_of n)) ≡ None
no_variant_seen n h =
    let ts = tokens_in (parts_in n.parts) in
    let ss = views (parts_in n.parts) in
    ap (λ z. variant_part (shape_of z)) (seen_as n) ∙ no_variant (made n.row ts ss) (other_sort OfVariant n.row ts ss refl h)

pub no_pattern_seen : (n : SyntaxNode) → is_same (sort_of_row n.row) OfPattern ≡ false → pattern_part (shape_of (syn_of n)) ≡ None
no_pattern_seen n h =
    let ts = tokens_in (parts_in n.parts) in
    let ss = views (parts_in n.parts) in
    ap (λ z. pattern_part (shape_of z)) (seen_as n) ∙ no_pattern (made n.row ts ss) (other_sort OfPattern n.row ts ss refl h)

pub no_field_pattern_seen : (n : SyntaxNode) → is_same (sort_of_row n.row) OfFieldPattern ≡ false → field_pattern_part (shape_of (syn_of n)) ≡ None
no_field_pattern_seen n h =
    let ts = tokens_in (parts_in n.parts) in
    let ss = views (parts_in n.parts) in
    ap (λ z. field_pattern_part (shape_of z)) (seen_as n) ∙ no_field_pattern (made n.row ts ss) (other_sort OfFieldPattern n.row ts ss refl h)

pub no_statement_seen : (n : SyntaxNode) → is_same (sort_of_row n.row) OfStatement ≡ false → statement_part (shape_of (syn_of n)) ≡ None
no_statement_seen n h =
    let ts = tokens_in (parts_in n.parts) in
    let ss = views (parts_in n.parts) in
    ap (λ z. statement_part (shape_of z)) (seen_as n) ∙ no_statement (made n.row ts ss) (other_sort OfStatement n.row ts ss refl h)

pub no_expression_seen : (n : SyntaxNode) → is_same (sort_of_row n.row) OfExpression ≡ false → expression_part (shape_of (syn_of n)) ≡ None
no_expression_seen n h =
    let ts = tokens_in (parts_in n.parts) in
    let ss = views (parts_in n.parts) in
    ap (λ z. expression_part (shape_of z)) (seen_as n) ∙ no_expression (made n.row ts ss) (other_sort OfExpression n.row ts ss refl h)

pub no_init_seen : (n : SyntaxNode) → is_same (sort_of_row n.row) OfInit ≡ false → init_part (shape_of (syn_of n)) ≡ None
no_init_seen n h =
    let ts = tokens_in (parts_in n.parts) in
    let ss = views (parts_in n.parts) in
    ap (λ z. init_part (shape_of z)) (seen_as n) ∙ no_init (made n.row ts ss) (other_sort OfInit n.row ts ss refl h)

pub no_arm_seen : (n : SyntaxNode) → is_same (sort_of_row n.row) OfArm ≡ false → arm_part (shape_of (syn_of n)) ≡ None
no_arm_seen n h =
    let ts = tokens_in (parts_in n.parts) in
    let ss = views (parts_in n.parts) in
    ap (λ z. arm_part (shape_of z)) (seen_as n) ∙ no_arm (made n.row ts ss) (other_sort OfArm n.row ts ss refl h)

pub no_word_seen : (n : SyntaxNode) → is_same (sort_of_row n.row) OfName ≡ false → None ≡ ident_in (shape_of (syn_of n))
no_word_seen n h =
    let ts = tokens_in (parts_in n.parts) in
    let ss = views (parts_in n.parts) in
    sym (ap (λ z. ident_in (shape_of z)) (seen_as n) ∙ no_word (made n.row ts ss) (other_sort OfName n.row ts ss refl h))

pub no_label_seen : (n : SyntaxNode) → is_same (sort_of_row n.row) OfLabel ≡ false → None ≡ label_name (shape_of (syn_of n))
no_label_seen n h =
    let ts = tokens_in (parts_in n.parts) in
    let ss = views (parts_in n.parts) in
    sym (ap (λ z. label_name (shape_of z)) (seen_as n) ∙ unlabelled (made n.row ts ss) (other_sort OfLabel n.row ts ss refl h))

pub unnamed_seen : (n : SyntaxNode) → is_same (sort_of_row n.row) OfName ≡ false → (n.at, []) ≡ named (syn_of n)
unnamed_seen n h =
    let ts = tokens_in (parts_in n.parts) in
    let ss = views (parts_in n.parts) in
    sym (ap named (seen_as n) ∙ ap (λ z. (n.at, or_empty z)) (no_word (made n.row ts ss) (other_sort OfName n.row ts ss refl h)))

shaped : (s : Syn) → s ≡ syn (at_of s) (shape_of s)
shaped (syn at s) = refl

pub no_ident_seen : (n : SyntaxNode) → is_same (sort_of_row n.row) OfName ≡ false → false ≡ is_ident (syn_of n)
no_ident_seen n h = sym (ap is_ident (shaped (syn_of n)) ∙ ap is_some (sym (no_word_seen n h)))

pub label_seen : (n : SyntaxNode) → is_label (syn_of n) ≡ is_some (label_name (shape_of (syn_of n)))
label_seen n = ap is_label (shaped (syn_of n))

pub statement_seen : (n : SyntaxNode) → is_statement (syn_of n) ≡ is_some (statement_part (shape_of (syn_of n)))
statement_seen n = ap is_statement (shaped (syn_of n))
