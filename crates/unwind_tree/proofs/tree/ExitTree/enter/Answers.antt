use Rattle.std.proofs.Common.{sym, subst}
use Rattle.unwind_tree.specs.Rooms.{IsRoomy}
use Rattle.unwind_tree.proofs.Rooms.{entered_roomy}
use Rattle.unwind_tree.proofs.tree.ExitTree.enter.Goals as goal

pub invariant_of-self : goal.invariant_of-self
invariant_of-self c = subst IsRoomy (sym c.in_err-push.ensures.refused) c.self.invariant

pub invariant_of-self-2 : goal.invariant_of-self-2
invariant_of-self-2 c =
    subst IsRoomy (sym c.in_ok-push.ensures.pushed) (entered_roomy c.self.inside.scopes c.new_scope.result c.new_scope.ensures.pending c.self.invariant)
