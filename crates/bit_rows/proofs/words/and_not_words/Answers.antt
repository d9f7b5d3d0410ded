use Rattle.std.proofs.Common.{◌∙◌, arith}
use Rattle.bit_rows.specs.Words.{without}
use Rattle.bit_rows.proofs.Passes.{lanes, one_word}
use Rattle.bit_rows.proofs.words.and_not_words.Goals as goal

pub loop-n-preserved : goal.loop-n-preserved
loop-n-preserved c =
    lanes without c.loop-n.n _ c.args.from.now c.args.into.now c.loop-n.into c.and_not_lanes-changed.new.into c.loop-n.changed c.and_not_lanes-changed.result (omega arith)
    c.loop-n.invariant c.requires c.loop-n.auto.into c.loop-n-test.true c.and_not_lanes-changed.ensures.words c.and_not_lanes-changed.ensures.change

pub loop-at-preserved : goal.loop-at-preserved
loop-at-preserved c =
    one_word without c.loop-at.at c.and_not_word-changed.new.into c.args.from.now c.args.into.now c.loop-at.into c.loop-at.changed c.and_not_word-changed.result
    c.loop-at.invariant c.requires (c.loop-at.auto.into ∙ c.loop-n.auto.into) (omega (c.loop-at-test.true, c.loop-n.auto.into, arith)) c.and_not_word-changed.ensures.word c.and_not_word-changed.ensures.change
