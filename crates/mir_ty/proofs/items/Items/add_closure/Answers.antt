use Rattle.std.proofs.Common.{arith}
use Rattle.mir_ty.proofs.TableLemmas.{copies_behind_closure, drops_behind_closure, tables_closure}
use Rattle.mir_ty.proofs.items.Items.add_closure.Goals as goal

pub bring_up_to_date-requires-clause-copies : goal.bring_up_to_date-requires-clause-copies
bring_up_to_date-requires-clause-copies c =
    rw (c.in_ok-push.ensures.pushed, c.in_ok-number.ensures.number, c.len.ensures) (copies_behind_closure c.self.inside c.self.invariant c.args.def)

pub bring_up_to_date-requires-clause-drops : goal.bring_up_to_date-requires-clause-drops
bring_up_to_date-requires-clause-drops c =
    rw (c.in_ok-push.ensures.pushed, c.in_ok-number.ensures.number, c.len.ensures) (drops_behind_closure c.self.inside c.self.invariant c.args.def)

pub invariant_of-self-2 : goal.invariant_of-self-2
invariant_of-self-2 c =
    let pushed = c.in_ok-push.ensures.pushed in
    let up = c.bring_up_to_date.ensures in
    rw pushed (tables_closure c.self.inside c.self.invariant c.args.def (rw (← c.self.view_is) at c.requires) (omega (arith, c.in_ok-check_len.ensures, c.len-2.ensures)) (rw (← c.self.view_is) at c.in_ok-number.ensures.short)
    c.bring_up_to_date.new.copies c.bring_up_to_date.new.drops up.copies_length up.drops_length (rw pushed at up.copies) (rw pushed at up.drops))

pub invariant_of-self : goal.invariant_of-self
invariant_of-self c = rw c.in_err-push.ensures.refused c.self.invariant
