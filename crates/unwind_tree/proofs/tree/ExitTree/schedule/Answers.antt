use Rattle.std.proofs.Common.{rules, ◌≡◌, ◌∙◌, sym, ap}
use Rattle.unwind_tree.specs.Rooms.{seen_all}
use Rattle.unwind_tree.specs.Trees.{changed_at, with_entry}
use Rattle.unwind_tree.proofs.Changed.{before_roomy, before_seen, entry_roomy, entry_seen}
use Rattle.unwind_tree.proofs.Wrap.{always}
use Rattle.unwind_tree.proofs.tree.ExitTree.schedule.Goals as goal

pub invariant_of-self : goal.invariant_of-self
invariant_of-self c = before_roomy _ c.self.inside.scopes _ c.in_err-add_entry.ensures.refused c.self.invariant

pub returns-in_err-add_entry-clause-refused : goal.returns-in_err-add_entry-clause-refused
returns-in_err-add_entry-clause-refused c =
    let seen_old : c.args.self.now ≡ seen_all c.self.inside.scopes = search rules in
    always c.from_residual.result (before_seen _ c.self.inside.scopes _ c.in_err-add_entry.ensures.refused ∙ sym seen_old)

pub invariant_of-self-2 : goal.invariant_of-self-2
invariant_of-self-2 c = entry_roomy _ c.self.inside.scopes _ _ c.in_ok-add_entry.ensures.added c.self.invariant

pub returns-clause-scheduled : goal.returns-clause-scheduled
returns-clause-scheduled c =
    let seen_old : c.args.self.now ≡ seen_all c.self.inside.scopes = search rules in
    entry_seen _ c.self.inside.scopes _ _ c.in_ok-add_entry.ensures.added
    ∙ ap (changed_at c.args.depth (with_entry (record { key = c.args.key; place = c.args.place }))) (sym seen_old)
