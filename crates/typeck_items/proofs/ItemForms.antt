-- Items and methods by their forms.
use Rattle.std.proofs.Common.{◌≡◌, ◌&&◌, not, nat_le, List, [], ◌∷◌, Option, option_and_then, slice_get, codes, refl, ap, ◌∙◌}
use Rattle.std.specs.Str.{bytes_eq}
use Rattle.mir_base.specs.declared.rule.Rule.{Rule}
use Rattle.well_typed.specs.Names.{is_among}
use Rattle.mir_base.specs.declared.place_in_text.Pos.{Pos}
use Rattle.src_tree.specs.declared.node.SyntaxNode.{SyntaxNode}
use Rattle.src_ast.specs.Seen.{syn_of}
use Rattle.src_ast.specs.Sorts.{item_part}
use Rattle.src_ast.specs.Syntax.{Word, Named, Syn, syn, at_of, shape_of, Shape, AnItem, StructItem, EnumItem, FnItem, list_of}
use Rattle.src_ast.proofs.Named.{seen_as}
use Rattle.typing_rules.specs.Check.{TypingState, and_then, the_items, ◌>>=◌}
use Rattle.typing_rules.specs.Program as rules
use Rattle.typing_rules.specs.Program.{Before, Seen, head_rules, item_rules, method_heads, method_name, trait_heads}
use Rattle.typing_rules.specs.Scope.{Env, adt_named, body_named}
use Rattle.typeck_items.specs.Forms.{item_by, method_by, method_name_by, trait_head_by}
use Rattle.typeck_items.proofs.Steps.{asked_rules, left_alone, then_rule, two_rules}

-- ---- names

as_name : (x : Syn) → method_name x ≡ method_name_by (item_part (shape_of x))
as_name (syn at (AnItem (StructItem a b c d))) = refl
as_name (syn at _) = refl

pub name_seen_of : (n : SyntaxNode) → method_name (syn_of n) ≡ method_name_by (item_part (shape_of (syn_of n)))
name_seen_of n = as_name (syn_of n)

-- ---- the heads of a trait

form_head : (w : Env) (earlier : List Word) (at : Pos) (form : Shape) (hs : List Syn) (s : TypingState) →
    trait_heads w earlier (syn at form ∷ hs) s ≡ and_then (trait_head_by w earlier at (item_part form) s) (λ more. trait_heads w more hs)
form_head w earlier at (AnItem (FnItem a b c d)) hs s = two_rules (head_rules w (rules.behind_self b) c s) Rule.T02 a.0 (not (is_among a.1 earlier)) Rule.T11 at (rules.takes_reference b && not (bytes_eq a.1 (codes "drop"))) (a.1 ∷ earlier) (λ more. trait_heads w more hs)
form_head w earlier at _ hs s = refl

as_head : (w : Env) (earlier : List Word) (x : Syn) (hs : List Syn) (s : TypingState) →
    trait_heads w earlier (x ∷ hs) s ≡ and_then (trait_head_by w earlier (at_of x) (item_part (shape_of x)) s) (λ more. trait_heads w more hs)
as_head w earlier (syn at form) hs s = form_head w earlier at form hs s

pub head_seen : (w : Env) (earlier : List Word) (n : SyntaxNode) (hs : List Syn) (s : TypingState) →
    trait_heads w earlier (syn_of n ∷ hs) s ≡ and_then (trait_head_by w earlier n.at (item_part (shape_of (syn_of n))) s) (λ more. trait_heads w more hs)
head_seen w earlier n hs s =
    as_head w earlier (syn_of n) hs s
    ∙ ap (λ (x : Syn). and_then (trait_head_by w earlier (at_of x) (item_part (shape_of (syn_of n))) s) (λ more. trait_heads w more hs)) (seen_as n)

-- ---- the methods of an impl

form_method : (w : Env) (trait_ : Option Named) (owner : Word) (seen : Seen) (at : Pos) (form : Shape) (ms : List Syn) (s : TypingState) →
    method_heads w trait_ owner seen (syn at form ∷ ms) s
    ≡ and_then (method_by w trait_ owner seen at (item_part form) s) (λ more. method_heads w trait_ owner more ms)
form_method w trait_ owner seen at (AnItem (FnItem a b c d)) ms s = asked_rules (head_rules w b c s) Rule.T02 a.0 (not (rules.is_seen owner a.1 seen)) Rule.T11 at (λ items. rules.has_head items trait_ owner a.1 b) ((owner, a.1) ∷ seen) (λ more. method_heads w trait_ owner more ms)
form_method w trait_ owner seen at _ ms s = refl

as_method : (w : Env) (trait_ : Option Named) (owner : Word) (seen : Seen) (x : Syn) (ms : List Syn) (s : TypingState) →
    method_heads w trait_ owner seen (x ∷ ms) s
    ≡ and_then (method_by w trait_ owner seen (at_of x) (item_part (shape_of x)) s) (λ more. method_heads w trait_ owner more ms)
as_method w trait_ owner seen (syn at form) ms s = form_method w trait_ owner seen at form ms s

pub method_seen : (w : Env) (trait_ : Option Named) (owner : Word) (seen : Seen) (n : SyntaxNode) (ms : List Syn) (s : TypingState) →
    method_heads w trait_ owner seen (syn_of n ∷ ms) s
    ≡ and_then (method_by w trait_ owner seen n.at (item_part (shape_of (syn_of n))) s) (λ more. method_heads w trait_ owner more ms)
method_seen w trait_ owner seen n ms s =
    as_method w trait_ owner seen (syn_of n) ms s
    ∙ ap (λ (x : Syn). and_then (method_by w trait_ owner seen (at_of x) (item_part (shape_of (syn_of n))) s) (λ more. method_heads w trait_ owner more ms)) (seen_as n)

-- ---- items

form_item : (w : Env) (before : Before) (at : Pos) (form : Shape) (s : TypingState) →
    item_rules w before (syn at form) s ≡ item_by w before at (item_part form) s
form_item w before at (AnItem (StructItem a b c d)) s = then_rule (rules.fields (rules.in_impl w (adt_named s.items b.1)) [] (list_of d) s) Rule.T19 at (nat_le (rules.count_of d) 32) before
form_item w before at (AnItem (EnumItem a b c)) s = then_rule (rules.variants (rules.in_impl w (adt_named s.items b.1)) [] (list_of c) s) Rule.T19 at (nat_le (rules.count_of c) 64) before
form_item w before at (AnItem (FnItem a b c d)) s = left_alone (head_rules w b c s) (λ _. the_items >>= (λ items. rules.main_rule at a.1 b items (option_and_then (slice_get items.bodies) (body_named items a.1)))) before
form_item w before at _ s = refl

as_item : (w : Env) (before : Before) (x : Syn) (s : TypingState) → item_rules w before x s ≡ item_by w before (at_of x) (item_part (shape_of x)) s
as_item w before (syn at form) s = form_item w before at form s

pub item_seen : (w : Env) (before : Before) (n : SyntaxNode) (s : TypingState) →
    item_rules w before (syn_of n) s ≡ item_by w before n.at (item_part (shape_of (syn_of n))) s
item_seen w before n s =
    as_item w before (syn_of n) s ∙ ap (λ (x : Syn). item_by w before (at_of x) (item_part (shape_of (syn_of n))) s) (seen_as n)
