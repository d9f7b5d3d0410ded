use Rattle.std.proofs.Common.{refl}
use Rattle.unwind_tree.proofs.Wrap.{always}
use Rattle.unwind_tree.proofs.changes.add_pending.Goals as goal

pub returns-in_err-push-clause-refused : goal.returns-in_err-push-clause-refused
returns-in_err-push-clause-refused c = always c.from_residual.result (record {
  scope = c.element_mut.result.now;
  left = record { entries = c.element_mut.result.now.entries; pending = c.push.new.self };
  there = c.element_mut.ensures.value;
  how = (refl, c.in_err-push.ensures.items);
  is = refl;
})

pub returns-clause-added : goal.returns-clause-added
returns-clause-added c = record {
  scope = c.element_mut.result.now;
  left = record { entries = c.element_mut.result.now.entries; pending = c.push.new.self };
  there = c.element_mut.ensures.value;
  how = (refl, c.in_ok-push.ensures.items);
  is = refl;
}
