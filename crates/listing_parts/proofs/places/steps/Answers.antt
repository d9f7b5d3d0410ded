-- One step more, and no more steps.
use Rattle.std.proofs.Common.{rules, ◌≡◌, ◌-◌, ◌+◌, List, length, Some, ap, sym, ◌∙◌, arith}
use Rattle.cfg_graph.specs.declared.place.Step.{Step}
use Rattle.listing_write.specs.Reading.Parts.{step_read}
use Rattle.listing_parts.proofs.Rows.{one_more, no_more, so_far}
use Rattle.listing_parts.proofs.places.steps.Goals as goal

pub returns-in-None : goal.returns-in-None
returns-in-None c =
    sym (c.loop.invariant
    ∙ no_more step_read (length c.args.text.now - c.loop.counter) c.loop.steps c.loop.rest.now (sym c.in-None.ensures))

pub loop-preserved : goal.loop-preserved
loop-preserved c =
    let text = c.args.text.now in
    let fuel = length text - (c.loop.counter + 1) in
    let found : step_read c.loop.rest.now ≡ Some (c.in-Some.step, c.in-Some.behind.now) = search rules in
    c.loop.invariant
    ∙ one_more step_read (length text - c.loop.counter) fuel c.loop.steps c.in-Some.step c.loop.rest.now c.in-Some.behind.now (omega arith) found
    ∙ ap (λ (xs : List Step). so_far step_read fuel xs c.in-Some.behind.now) (sym c.in_ok-push-in-Some.ensures.pushed)
