use Rattle.std.proofs.Common.{arith}
use Rattle.typing_rules.specs.Collected.{param_ty}
use Rattle.typeck_heads.specs.Forms.{around_of, own_by}
use Rattle.typeck_heads.proofs.Sequences.{each_behind}
use Rattle.typeck_heads.proofs.Types.{ids_behind}
use Rattle.typeck_heads.proofs.heads.param_types.Goals as goal

pub loop-split-preserved : goal.loop-split-preserved
loop-split-preserved c =
    record {
      answers = each_behind (param_ty (around_of c.args.scope.now) (own_by (around_of c.args.scope.now) c.args.own)) _ _ _ _ _ _ _ _ _ c.loop-split.invariant.answers c.in-Some.ensures c.in_ok-id.ensures.answers c.in_ok-push_to.ensures.pushed;
      grows = omega arith;
      known = ids_behind _ _ _ _ _ c.loop-split.invariant.known c.param.ensures.grows c.in_ok-id.ensures.known c.in_ok-push_to.ensures.pushed;
    }
