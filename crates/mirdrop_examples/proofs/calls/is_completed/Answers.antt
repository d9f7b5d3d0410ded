use Rattle.mirdrop_examples.proofs.PendingKeys.{one-scope, none-pending, one-pending}
use Rattle.mirdrop_examples.proofs.calls.is_completed.Goals as goal

pub pending-requires-clause-new : goal.pending-requires-clause-new
pending-requires-clause-new c =
    none-pending _ c.enter.new.self (one-scope c.args.tree.now c.enter.new.self c.requires c.in_ok-enter.ensures.entered)

pub complete-requires : goal.complete-requires
complete-requires c =
    one-pending (record { into = 0; scheduled = record { key = record { 0 = 1 }; place = c.local.result } }) c.enter.new.self
    c.pending.new.self (one-scope c.args.tree.now c.enter.new.self c.requires c.in_ok-enter.ensures.entered)
    c.in_ok-pending.ensures.pending
