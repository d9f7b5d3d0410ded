use Rattle.typeck_calls.proofs.GivenOnes.{noted_more}
use Rattle.typeck_calls.proofs.given_fields.note_given.Goals as goal

pub loop-number-preserved : goal.loop-number-preserved
loop-number-preserved c =
    λ n. noted_more n c.loop-number.seen.keys c.note_if.new.seen.keys c.args.given.now c.loop-number.number-index c.loop-number-test.true (c.loop-number.invariant n) (c.in_ok-note_if.ensures.noted n)
