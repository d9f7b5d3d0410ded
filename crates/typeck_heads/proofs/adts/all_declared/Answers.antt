use Rattle.std.proofs.Common.{arith}
use Rattle.typing_rules.specs.Collected.{declared_variant}
use Rattle.typeck_heads.specs.Forms.{around_of}
use Rattle.typeck_heads.proofs.Sequences.{each_behind}
use Rattle.typeck_heads.proofs.Variants.{variants_behind}
use Rattle.typeck_heads.proofs.adts.all_declared.Goals as goal

pub loop-split-preserved : goal.loop-split-preserved
loop-split-preserved c =
    record {
      answers = each_behind (declared_variant (around_of c.args.scope.now)) _ _ _ _ _ _ _ _ _ c.loop-split.invariant.answers c.in-Some.ensures c.in_ok-one.ensures.answers c.in_ok-push_to.ensures.pushed;
      grows = omega arith;
      known = variants_behind _ _ _ _ _ c.loop-split.invariant.known c.declare_variant.ensures.grows c.in_ok-one.ensures.known c.in_ok-push_to.ensures.pushed;
    }
