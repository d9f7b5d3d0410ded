use Rattle.std.proofs.Common.{refl}
use Rattle.std.proofs.lemmas.Result.{on_ok_weaker, on_err_weaker}
use Rattle.unwind_tree.proofs.changes.make_room.Goals as goal

pub returns-clause-made : goal.returns-clause-made
returns-clause-made c =
    on_ok_weaker c.make_room.result
    (λ e. record { scope = c.element_mut.result.now; left = record { entries = c.make_room.new.self; pending = c.element_mut.result.now.pending }; there = c.element_mut.ensures.value; how = (e, refl); is = refl })
    c.make_room.ensures.made

pub returns-clause-refused : goal.returns-clause-refused
returns-clause-refused c =
    on_err_weaker c.make_room.result
    (λ e. record { scope = c.element_mut.result.now; left = record { entries = c.make_room.new.self; pending = c.element_mut.result.now.pending }; there = c.element_mut.ensures.value; how = (e, refl); is = refl })
    c.make_room.ensures.refused
