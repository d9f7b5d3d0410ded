use Rattle.std.proofs.Common.{refl, subst}
use Rattle.unwind_tree.specs.Rooms.{IsFoundAt}
use Rattle.unwind_tree.proofs.Finding.{taken_from}
use Rattle.unwind_tree.proofs.pending.take_pending.Goals as goal

pub returns-in-Some : goal.returns-in-Some
returns-in-Some c =
    taken_from c.args.key c.args.scopes.now c.in-Some.number c.in-Some.at c.element_mut.result.now
    (record { entries = c.element_mut.result.now.entries; pending = c.remove.new.self }) c.remove.result
    (subst (IsFoundAt c.args.key c.in-Some.number c.in-Some.at) c.as_slice.ensures c.in-Some.ensures) c.element_mut.ensures.value c.remove.ensures.value refl c.remove.ensures.by_index.2
