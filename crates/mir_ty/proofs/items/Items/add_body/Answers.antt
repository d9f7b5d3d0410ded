use Rattle.std.proofs.Common.{arith}
use Rattle.mir_ty.proofs.TableLemmas.{tables_body}
use Rattle.mir_ty.proofs.items.Items.add_body.Goals as goal

pub invariant_of-self-2 : goal.invariant_of-self-2
invariant_of-self-2 c =
    rw c.in_ok-push.ensures.pushed (tables_body c.self.inside c.self.invariant c.args.sig (rw (← c.self.view_is) at c.requires) c.in_ok-check_sig.ensures (omega arith))

pub invariant_of-self : goal.invariant_of-self
invariant_of-self c = rw c.in_err-push.ensures.refused c.self.invariant
