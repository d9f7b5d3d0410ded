-- One operand more, and no more operands.
use Rattle.std.proofs.Common.{rules, ◌≡◌, ◌-◌, ◌+◌, List, ℕ, length, Some, None, ap, sym, ◌∙◌, arith}
use Rattle.cfg_graph.specs.declared.place.Operand.{Operand}
use Rattle.listing_write.specs.Reading.Parts.{operand_read}
use Rattle.listing_write.specs.Reading.Rows.{comma}
use Rattle.listing_parts.proofs.Rows.{one_more, no_more, so_far}
use Rattle.listing_parts.proofs.operands.more_operands.Goals as goal

pub returns-in-Err-Unreadable : goal.returns-in-Err-Unreadable
returns-in-Err-Unreadable c =
    let none : comma operand_read c.loop.rest.now ≡ None = search rules in
    let whole = c.loop.invariant
    ∙ no_more (comma operand_read) (length c.args.text.now - c.loop.counter) c.loop.parts c.loop.rest.now none in
    (sym (ap (λ (q : List Operand × List ℕ). q.0) whole), sym (ap (λ (q : List Operand × List ℕ). q.1) whole))

pub loop-preserved : goal.loop-preserved
loop-preserved c =
    let text = c.args.text.now in
    let fuel = length text - (c.loop.counter + 1) in
    let found : comma operand_read c.loop.rest.now ≡ Some (c.in-Ok.operand, c.in-Ok.behind.now) = search rules in
    c.loop.invariant
    ∙ one_more (comma operand_read) (length text - c.loop.counter) fuel c.loop.parts c.in-Ok.operand c.loop.rest.now c.in-Ok.behind.now (omega arith) found
    ∙ ap (λ (xs : List Operand). so_far (comma operand_read) fuel xs c.in-Ok.behind.now) (sym c.in_ok-push-in-Ok.ensures.pushed)
