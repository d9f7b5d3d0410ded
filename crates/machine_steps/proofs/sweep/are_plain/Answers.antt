use Rattle.std.proofs.Common.{sym, ◌∙◌}
use Rattle.machine_steps.proofs.SweepsOver.{plain_more}
use Rattle.machine_store.specs.Standing.{dynamic_of}
use Rattle.machine_steps.proofs.sweep.are_plain.Goals as goal

pub loop-part-preserved : goal.loop-part-preserved
loop-part-preserved c = λ later.
    c.loop-part.invariant (plain_more c.args.items.now c.args.parts.now c.loop-part.part-index c.loop-part.next c.in-Some-checked_add.other c.args.variant c.part-item.result (dynamic_of c.args.dynamic) c.in-Some._id
    c.loop-part-test.true c.part-item.is (sym c.holds_parts.ensures ∙ c.if-holds_parts.false) (sym c.field_ty.ensures ∙ c.in-Some.is) c.in-Some-checked_add.ensures.1 later)
