use Rattle.std.proofs.Common.{arith}
use Rattle.mir_ty.proofs.TableLemmas.{tables_impl}
use Rattle.mir_ty.proofs.items.Items.add_impl.Goals as goal

pub invariant_of-self-2 : goal.invariant_of-self-2
invariant_of-self-2 c =
    rw c.in_ok-push.ensures.pushed (tables_impl c.self.inside c.self.invariant c.args.def (omega (arith, c.in_ok-check_len.ensures, c.len-2.ensures)) (rw (← c.self.view_is) at c.in_ok-number.ensures.short))

pub invariant_of-self : goal.invariant_of-self
invariant_of-self c = rw c.in_err-push.ensures.refused c.self.invariant
