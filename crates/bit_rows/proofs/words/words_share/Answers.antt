use Rattle.std.proofs.Common.{sym, ◌∙◌, refl, arith}
use Rattle.bit_rows.proofs.Sharing.{share-here, share-past, share-end}
use Rattle.bit_rows.proofs.words.words_share.Goals as goal

pub loop-at-init : goal.loop-at-init
loop-at-init c = refl

pub returns-then-one-at-ne0 : goal.returns-then-one-at-ne0
returns-then-one-at-ne0 c =
    sym (share-here c.args.one.now c.args.other.now c.loop-at.at c.requires c.loop-at-test.true c.if-one-at-ne0.true) ∙ c.loop-at.invariant

pub loop-at-preserved : goal.loop-at-preserved
loop-at-preserved c =
    share-past c.args.one.now c.args.other.now c.loop-at.at c.requires c.loop-at-test.true c.if-one-at-ne0.false ∙ c.loop-at.invariant

pub returns : goal.returns
returns c =
    sym (share-end c.args.one.now c.args.other.now c.loop-at.at (let far = c.loop-at-test.false in omega (far, arith))) ∙ c.loop-at.invariant
