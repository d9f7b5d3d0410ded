-- One number more, and no more numbers.
use Rattle.std.proofs.Common.{rules, ◌≡◌, ◌-◌, ◌+◌, ℕ, List, length, Some, ap, sym, ◌∙◌, arith}
use Rattle.listing_lines.specs.LineReading.{blank_number}
use Rattle.listing_parts.proofs.Rows.{one_more, no_more, so_far}
use Rattle.listing_lines.proofs.items.blank_numbers.Goals as goal

pub returns-in-None : goal.returns-in-None
returns-in-None c =
    sym (c.loop.invariant
    ∙ no_more blank_number (length c.args.text.now - c.loop.counter) c.loop.numbers c.loop.rest.now (sym c.in-None.ensures))

pub loop-preserved : goal.loop-preserved
loop-preserved c =
    let text = c.args.text.now in
    let fuel = length text - (c.loop.counter + 1) in
    let found : blank_number c.loop.rest.now ≡ Some (c.in-Some.n, c.in-Some.behind.now) = search rules in
    c.loop.invariant
    ∙ one_more blank_number (length text - c.loop.counter) fuel c.loop.numbers c.in-Some.n c.loop.rest.now c.in-Some.behind.now (omega arith) found
    ∙ ap (λ (xs : List ℕ). so_far blank_number fuel xs c.in-Some.behind.now) (sym c.in_ok-push-in-Some.ensures.pushed)
