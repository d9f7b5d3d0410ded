use Rattle.std.proofs.Common.{◌∙◌, arith, bit_or}
use Rattle.bit_rows.proofs.Passes.{lanes, one_word}
use Rattle.bit_rows.proofs.words.or_words.Goals as goal

pub loop-n-preserved : goal.loop-n-preserved
loop-n-preserved c =
    lanes bit_or c.loop-n.n _ c.args.from.now c.args.into.now c.loop-n.into c.or_lanes-changed.new.into c.loop-n.changed c.or_lanes-changed.result (omega arith)
    c.loop-n.invariant c.requires c.loop-n.auto.into c.loop-n-test.true c.or_lanes-changed.ensures.words c.or_lanes-changed.ensures.change

pub loop-at-preserved : goal.loop-at-preserved
loop-at-preserved c =
    one_word bit_or c.loop-at.at c.or_word-changed.new.into c.args.from.now c.args.into.now c.loop-at.into c.loop-at.changed c.or_word-changed.result
    c.loop-at.invariant c.requires (c.loop-at.auto.into ∙ c.loop-n.auto.into) (omega (c.loop-at-test.true, c.loop-n.auto.into, arith)) c.or_word-changed.ensures.word c.or_word-changed.ensures.change
