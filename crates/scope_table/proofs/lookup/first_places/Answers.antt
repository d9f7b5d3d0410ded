use Rattle.std.proofs.Common.{arith, ◌≡◌, ◌==◌, ◌∙◌, ◌-◌, sym, ap, map, drop}
use Rattle.std.specs.List.{position_from}
use Rattle.scope_table.specs.Lookup.{node_of}
use Rattle.scope_table.proofs.Positions.{one_earlier, position_is}
use Rattle.scope_table.proofs.lookup.first_places.Goals as goal

pub loop-number-preserved : goal.loop-number-preserved
loop-number-preserved c = λ id.
    let updated = c.in_ok-insert.ensures.updates.0 id in
    updated ∙ one_earlier c.args.rows.now c.loop-number.number (c.loop-number.number - 1) _ id _ (omega arith) (omega arith) (c.loop-number.invariant id)

pub returns : goal.returns
returns c = λ id.
    let zero : c.loop-number.number ≡ 0 = omega arith in
    c.loop-number.invariant id
    ∙ ap (λ n. position_from (λ k. k == id) n (map node_of (drop n c.args.rows.now))) zero
    ∙ sym (position_is (λ k. k == id) (map node_of c.args.rows.now))
