use Rattle.std.proofs.Common.{arith}
use Rattle.typing_rules.specs.Collected.{trait_head}
use Rattle.typeck_heads.specs.Forms.{around_of}
use Rattle.typeck_heads.proofs.Sequences.{each_behind}
use Rattle.typeck_heads.proofs.Receivers.{sigs_behind}
use Rattle.typeck_heads.proofs.traits.trait_heads.Goals as goal

pub loop-split-preserved : goal.loop-split-preserved
loop-split-preserved c =
    record {
      answers = each_behind (trait_head (around_of c.args.scope.now) c.args.own) _ _ _ _ _ _ _ _ _ c.loop-split.invariant.answers c.in-Some.ensures c.in_ok-sig.ensures.answers c.in_ok-push_to.ensures.pushed;
      grows = omega arith;
      known = sigs_behind _ _ _ _ _ c.loop-split.invariant.known c.trait_head.ensures.grows c.in_ok-sig.ensures.known c.in_ok-push_to.ensures.pushed;
    }
