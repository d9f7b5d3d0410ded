-- The heads of closures, by the forms that are borrowed from their nodes.
use Rattle.std.proofs.Common.{◌≡◌, refl}
use Rattle.mir_base.specs.declared.place_in_text.Pos.{Pos}
use Rattle.src_tree.specs.declared.node.SyntaxNode.{SyntaxNode}
use Rattle.src_ast.specs.Seen.{syn_of}
use Rattle.src_ast.specs.Sorts.{param_part}
use Rattle.src_ast.specs.Syntax.{Syn, syn, shape_of, AParam, ParamOf}
use Rattle.typing_rules.specs.Check.{TypingState}
use Rattle.typing_rules.specs.Collected.{closure_param}
use Rattle.typing_rules.specs.Written.{WrittenScope}
use Rattle.typeck_heads.specs.Forms.{closure_param_by}

closure_param_as : (w : WrittenScope) (x : Syn) (s : TypingState) → closure_param w x s ≡ closure_param_by w (param_part (shape_of x)) s
closure_param_as w (syn at (AParam (ParamOf a b))) s = refl
closure_param_as w (syn at _) s = refl

pub closure_param_seen : (w : WrittenScope) (n : SyntaxNode) (s : TypingState) →
    closure_param w (syn_of n) s ≡ closure_param_by w (param_part (shape_of (syn_of n))) s
closure_param_seen w n s = closure_param_as w (syn_of n) s
