-- A value that grows too large, and one that is whole.
use Rattle.std.proofs.Common.{◌∙◌, ap, sym}
use Rattle.std.proofs.lemmas.List.{get_or_read, drop_all}
use Rattle.src_token.specs.Numbers.{limited}
use Rattle.src_token.proofs.Values.{value_from, too_large, from_none, under}
use Rattle.src_token.proofs.numbers.value.Goals as goal

pub returns-in-None : goal.returns-in-None
returns-in-None c =
    sym (ap limited c.loop-c.invariant.left
    ∙ too_large c.args.digits.now c.loop-c.c-index c.loop-c.value c.c-item.result c.loop-c-test.true
    (get_or_read c.args.digits.now c.loop-c.c-index _ c.loop-c-test.true c.c-item.is 0)
    (sym c.if-is_ascii_digit.ensures.value) (from_none _ c.in-None.ensures.value))

pub returns : goal.returns
returns c =
    sym (ap limited (c.loop-c.invariant.left ∙ ap (value_from c.loop-c.value) (drop_all c.loop-c.c-index c.args.digits.now c.loop-c-test.false)) ∙ under c.loop-c.value c.loop-c.invariant.fits)
