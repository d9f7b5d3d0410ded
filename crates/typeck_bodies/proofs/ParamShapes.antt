-- Nodes by the forms that are borrowed from them: what a definition says of a node is what it says of its form.
use Rattle.std.proofs.Common.{◌≡◌, Bool, List, refl, ap, sym, ◌∙◌}
use Rattle.src_tree.specs.declared.node.SyntaxNode.{SyntaxNode}
use Rattle.src_ast.specs.PartForms.{param_of}
use Rattle.src_ast.specs.Seen.{syn_of}
use Rattle.src_ast.specs.Sorts.{param_part, pattern_part}
use Rattle.src_ast.specs.declared.part.ParamForm.{ParamForm}
use Rattle.src_ast.specs.Syntax.{Syn, syn, at_of, shape_of, APattern, AParam, AnyPattern, ParamOf}
use Rattle.src_ast.proofs.Named.{seen_as}
use Rattle.typing_rules.specs.Bodies.{is_name_or_wildcard, param}
use Rattle.typing_rules.specs.Check.{TypingState}
use Rattle.typing_rules.specs.Scope.{Env, NamedEntry}
use Rattle.typeck_bodies.specs.ParamForms.{param_as, plain_as}
use Rattle.typeck_bodies.specs.ParamForms.{type_by}

as_plain : (x : Syn) → is_name_or_wildcard x ≡ plain_as (pattern_part (shape_of x))
as_plain (syn at (APattern AnyPattern)) = refl
as_plain (syn at _) = refl

pub plain_seen : (n : SyntaxNode) → is_name_or_wildcard (syn_of n) ≡ plain_as (pattern_part (shape_of (syn_of n)))
plain_seen n = as_plain (syn_of n)

as_param : (w : Env) (b : Bool) (x : Syn) (xs : List NamedEntry) (s : TypingState) →
    param w (type_by w b) x xs s ≡ param_as w b (at_of x) (param_part (shape_of x)) xs s
as_param w b (syn at (AParam (ParamOf p ty))) xs s = refl
as_param w b (syn at _) xs s = refl

pub param_seen : (w : Env) (b : Bool) (n : SyntaxNode) (xs : List NamedEntry) (s : TypingState) →
    param w (type_by w b) (syn_of n) xs s ≡ param_as w b n.at (param_part (shape_of (syn_of n))) xs s
param_seen w b n xs s =
    as_param w b (syn_of n) xs s ∙ ap (λ (x : Syn). param_as w b (at_of x) (param_part (shape_of (syn_of n))) xs s) (seen_as n)

pub seen_by : (w : Env) (b : Bool) (n : SyntaxNode) (xs : List NamedEntry) (s : TypingState) (f g : ParamForm) →
    param_of f ≡ param_part (shape_of (syn_of n)) → f ≡ g → param w (type_by w b) (syn_of n) xs s ≡ param_as w b n.at (param_of g) xs s
seen_by w b n xs s f g h is =
    param_seen w b n xs s ∙ ap (λ o. param_as w b n.at o xs s) (sym h) ∙ ap (λ (z : ParamForm). param_as w b n.at (param_of z) xs s) is
