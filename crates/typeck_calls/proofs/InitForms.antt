-- Initialisers by the forms that are borrowed from their nodes.
use Rattle.std.proofs.Common.{◌≡◌, refl, ap, ◌∙◌}
use Rattle.mir_ty.specs.declared.adt.Variant.{Variant}
use Rattle.src_tree.specs.declared.node.SyntaxNode.{SyntaxNode}
use Rattle.src_ast.specs.Seen.{syn_of}
use Rattle.src_ast.specs.Sorts.{init_part}
use Rattle.src_ast.specs.Syntax.{Syn, syn, at_of, shape_of, AnInit}
use Rattle.src_ast.proofs.Named.{seen_as}
use Rattle.typing_rules.specs.Check.{TypingState}
use Rattle.typing_rules.specs.Scope.{Env}
use Rattle.typeck_calls.specs.Inits.{init_by, one_init}

by_form : (env : Env) (v : Variant) (x : Syn) (s : TypingState) → one_init env v x s ≡ init_by env v (at_of x) (init_part (shape_of x)) s
by_form env v (syn at (AnInit a b)) s = refl
by_form env v (syn at _) s = refl

pub init_seen : (env : Env) (v : Variant) (n : SyntaxNode) (s : TypingState) → one_init env v (syn_of n) s ≡ init_by env v n.at (init_part (shape_of (syn_of n))) s
init_seen env v n s =
    by_form env v (syn_of n) s ∙ ap (λ (x : Syn). init_by env v (at_of x) (init_part (shape_of (syn_of n))) s) (seen_as n)
