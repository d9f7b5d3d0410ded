-- Nodes by the forms that are borrowed from them: what a definition says of a node is what it says of its form.
use Rattle.std.proofs.Common.{◌≡◌, ℕ, ◌+◌, ◌*◌, ◌<◌, ◌≤◌, List, Option, Some, None, Err, refl, ap, sym, ◌∙◌, arith}
use Rattle.std.specs.Option.{option_map}
use Rattle.mir_base.specs.declared.place_in_text.Pos.{Pos}
use Rattle.mir_base.specs.declared.rule.Rule.{Rule}
use Rattle.mir_ty.specs.declared.adt.Variant.{Variant}
use Rattle.mir_ty.specs.declared.ty.TyId.{TyId}
use Rattle.src_tree.specs.declared.node.SyntaxNode.{SyntaxNode}
use Rattle.src_ast.specs.Patterns.{field_pattern_of, pattern_of}
use Rattle.src_ast.specs.Seen.{maybe_of, syn_of}
use Rattle.src_ast.specs.declared.pattern.FieldPatternForm.{FieldPatternForm}
use Rattle.src_ast.specs.declared.pattern.PatternForm.{PatternForm}
use Rattle.src_ast.specs.Sorts.{pattern_part, field_pattern_part}
use Rattle.src_ast.specs.Syntax.{Word, Syn, syn, at_of, shape_of, APattern, AFieldPattern, AnyPattern, MaybeSyn, nothing, just}
use Rattle.src_ast.proofs.Named.{seen_as}
use Rattle.typing_rules.specs.Check.{TypingState}
use Rattle.typing_rules.specs.Patterns.{field_at, field_pattern, pattern}
use Rattle.typing_rules.specs.Rows.{PatternContext}
use Rattle.typing_rules.specs.Scope.{Env, NamedEntry}
use Rattle.typeck_patterns.specs.Members.{part_by, part_named}
use Rattle.typeck_patterns.specs.Forms.{pattern_as, field_as, inside_as}
use Rattle.typeck_patterns.specs.Sizes.{size, seen_size, seen_field_size}

-- ---- patterns

as_form : (w : Env) (e : PatternContext) (ty : TyId) (x : Syn) (xs : List NamedEntry) (s : TypingState) →
    pattern w e ty x xs s ≡ pattern_as w e ty (at_of x) (pattern_part (shape_of x)) xs s
as_form w e ty (syn at (APattern AnyPattern)) xs s = refl
as_form w e ty (syn at _) xs s = refl

pub pattern_seen : (w : Env) (e : PatternContext) (ty : TyId) (n : SyntaxNode) (xs : List NamedEntry) (s : TypingState) →
    pattern w e ty (syn_of n) xs s ≡ pattern_as w e ty n.at (pattern_part (shape_of (syn_of n))) xs s
pattern_seen w e ty n xs s =
    as_form w e ty (syn_of n) xs s
    ∙ ap (λ (x : Syn). pattern_as w e ty (at_of x) (pattern_part (shape_of (syn_of n))) xs s) (seen_as n)

syn_size : (x : Syn) → seen_size (pattern_part (shape_of x)) < size x
syn_size (syn at (APattern p)) = omega arith
syn_size _ = omega arith

pub pattern_size : (n : SyntaxNode) → seen_size (pattern_part (shape_of (syn_of n))) < size (syn_of n)
pattern_size n = syn_size (syn_of n)

-- the measure falls at a part of a pattern
pub pattern_falls : (n : SyntaxNode) (seen form : PatternForm) (t k : ℕ) → 8 * size (syn_of n) ≡ t → seen ≡ form →
    pattern_of seen ≡ pattern_part (shape_of (syn_of n)) → k ≤ 8 * seen_size (pattern_of form) + 7 → k < t
pattern_falls n seen form t k is_t is is_seen within =
    let same : seen_size (pattern_of form) ≡ seen_size (pattern_part (shape_of (syn_of n))) =
    ap (λ f. seen_size (pattern_of f)) (sym is) ∙ ap seen_size is_seen in
    let less = pattern_size n in
    omega arith

-- ---- patterns of fields

as_field : (w : Env) (e : PatternContext) (v : Variant) (x : Syn) (xs : List NamedEntry) (s : TypingState) →
    field_pattern w e v x xs s ≡ field_as w e v (at_of x) (field_pattern_part (shape_of x)) xs s
as_field w e v (syn at (AFieldPattern name nothing)) xs s = refl
as_field w e v (syn at (AFieldPattern name (just inside))) xs s = refl
as_field w e v (syn at _) xs s = refl

pub field_seen : (w : Env) (e : PatternContext) (v : Variant) (n : SyntaxNode) (xs : List NamedEntry) (s : TypingState) →
    field_pattern w e v (syn_of n) xs s ≡ field_as w e v n.at (field_pattern_part (shape_of (syn_of n))) xs s
field_seen w e v n xs s =
    as_field w e v (syn_of n) xs s
    ∙ ap (λ (x : Syn). field_as w e v (at_of x) (field_pattern_part (shape_of (syn_of n))) xs s) (seen_as n)

field_size_of : (x : Syn) → seen_field_size (field_pattern_part (shape_of x)) < size x
field_size_of (syn at (AFieldPattern name inside)) = omega arith
field_size_of _ = omega arith

pub field_size : (n : SyntaxNode) → seen_field_size (field_pattern_part (shape_of (syn_of n))) < size (syn_of n)
field_size n = field_size_of (syn_of n)

-- ---- nodes by their forms

pub seen_by : (w : Env) (e : PatternContext) (ty : TyId) (n : SyntaxNode) (xs : List NamedEntry) (s : TypingState) (f g : PatternForm) →
    pattern_of f ≡ pattern_part (shape_of (syn_of n)) → f ≡ g → pattern w e ty (syn_of n) xs s ≡ pattern_as w e ty n.at (pattern_of g) xs s
seen_by w e ty n xs s f g h is =
    pattern_seen w e ty n xs s ∙ ap (λ o. pattern_as w e ty n.at o xs s) (sym h) ∙ ap (λ (z : PatternForm). pattern_as w e ty n.at (pattern_of z) xs s) is

inside_seen : (w : Env) (e : PatternContext) (v : Variant) (at : Pos) (name : Word) (m : MaybeSyn) (xs : List NamedEntry) (s : TypingState) →
    field_pattern w e v (syn at (AFieldPattern name m)) xs s ≡ field_at xs (part_by v name) (λ ty. inside_as w at e ty name m xs) s
inside_seen w e v at name nothing xs s = refl
inside_seen w e v at name (just x) xs s = refl

pub field_some : (w : Env) (e : PatternContext) (v : Variant) (n : SyntaxNode) (xs : List NamedEntry) (s : TypingState) (o : Option FieldPatternForm) (form : FieldPatternForm) (p : Option (ℕ × TyId)) →
    option_map field_pattern_of o ≡ field_pattern_part (shape_of (syn_of n)) → o ≡ Some form → p ≡ part_named v (field_pattern_part (shape_of (syn_of n))) →
    field_pattern w e v (syn_of n) xs s ≡ field_at xs p (λ ty. inside_as w n.at e ty form.name.now (maybe_of form.pattern) xs) s
field_some w e v n xs s o form p h is part =
    let seen : field_pattern_part (shape_of (syn_of n)) ≡ Some (field_pattern_of form) = sym h ∙ ap (option_map field_pattern_of) is in
    field_seen w e v n xs s ∙ ap (λ z. field_as w e v n.at z xs s) seen ∙ inside_seen w e v n.at form.name.now (maybe_of form.pattern) xs s
    ∙ ap (λ (z : Option (ℕ × TyId)). field_at xs z (λ ty. inside_as w n.at e ty form.name.now (maybe_of form.pattern) xs) s) (sym (part ∙ ap (part_named v) seen))

pub field_none : (w : Env) (e : PatternContext) (v : Variant) (n : SyntaxNode) (xs : List NamedEntry) (s : TypingState) (o : Option FieldPatternForm) →
    option_map field_pattern_of o ≡ field_pattern_part (shape_of (syn_of n)) → o ≡ None →
    field_pattern w e v (syn_of n) xs s ≡ Err (record { rule = Rule.T20; at = n.at })
field_none w e v n xs s o h is =
    field_seen w e v n xs s ∙ ap (λ z. field_as w e v n.at z xs s) (sym h ∙ ap (option_map field_pattern_of) is)
