use Rattle.std.proofs.Common.{arith, ◌≡◌, ◌==◌, ◌∙◌, ◌-◌, sym, ap, map, drop}
use Rattle.std.specs.List.{position_from}
use Rattle.lower_locals.specs.View.{key_of}
use Rattle.lower_locals.proofs.Positions.{one_earlier, position_is}
use Rattle.lower_locals.proofs.table.first_places.Goals as goal

pub loop-number-preserved : goal.loop-number-preserved
loop-number-preserved c = λ key.
    let updated = c.in_ok-put.ensures key in
    updated ∙ one_earlier c.args.locals.now c.loop-number.number (c.loop-number.number - 1) _ key _ (omega arith) (omega arith) (c.loop-number.invariant key)

pub returns : goal.returns
returns c = λ key.
    let zero : c.loop-number.number ≡ 0 = omega arith in
    c.loop-number.invariant key
    ∙ ap (λ n. position_from (λ k. k == key) n (map key_of (drop n c.args.locals.now))) zero
    ∙ sym (position_is (λ k. k == key) (map key_of c.args.locals.now))
