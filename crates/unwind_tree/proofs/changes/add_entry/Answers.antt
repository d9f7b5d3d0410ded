use Rattle.std.proofs.Common.{refl}
use Rattle.std.proofs.lemmas.Result.{on_ok_weaker, on_err_weaker}
use Rattle.unwind_tree.proofs.changes.add_entry.Goals as goal

pub returns-clause-added : goal.returns-clause-added
returns-clause-added c =
    on_ok_weaker c.add.result
    (λ e. record { scope = c.element_mut.result.now; left = record { entries = c.add.new.self; pending = c.element_mut.result.now.pending }; there = c.element_mut.ensures.value; how = (e, refl); is = refl })
    c.add.ensures.added

pub returns-clause-refused : goal.returns-clause-refused
returns-clause-refused c =
    on_err_weaker c.add.result
    (λ e. record { scope = c.element_mut.result.now; left = record { entries = c.add.new.self; pending = c.element_mut.result.now.pending }; there = c.element_mut.ensures.value; how = (e, refl); is = refl })
    c.add.ensures.refused
