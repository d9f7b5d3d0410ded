use Rattle.std.proofs.Common.{rules, ◌≡◌, ◌∙◌, sym, ap}
use Rattle.unwind_tree.specs.Rooms.{seen_all}
use Rattle.unwind_tree.specs.Trees.{changed_at, with_pending}
use Rattle.unwind_tree.specs.declared.scope.Pending.{Pending}
use Rattle.unwind_tree.proofs.Changed.{before_roomy, before_seen, room_roomy, room_seen, room_spare, pending_roomy, pending_seen}
use Rattle.unwind_tree.proofs.Wrap.{always}
use Rattle.unwind_tree.proofs.tree.ExitTree.pending.Goals as goal

pub invariant_of-self : goal.invariant_of-self
invariant_of-self c = before_roomy _ c.self.inside.scopes _ c.in_err-make_room.ensures.refused c.self.invariant

pub returns-in_err-make_room-clause-refused : goal.returns-in_err-make_room-clause-refused
returns-in_err-make_room-clause-refused c =
    let seen_old : c.args.self.now ≡ seen_all c.self.inside.scopes = search rules in
    always c.from_residual.result (before_seen _ c.self.inside.scopes _ c.in_err-make_room.ensures.refused ∙ sym seen_old)

pub invariant_of-self-in_err-add_pending : goal.invariant_of-self-in_err-add_pending
invariant_of-self-in_err-add_pending c =
    before_roomy _ c.make_room.new.scopes _ c.in_err-add_pending.ensures.refused
    (room_roomy _ c.self.inside.scopes _ c.in_ok-make_room.ensures.made c.self.invariant)

pub returns-in_err-add_pending-clause-refused : goal.returns-in_err-add_pending-clause-refused
returns-in_err-add_pending-clause-refused c =
    let seen_old : c.args.self.now ≡ seen_all c.self.inside.scopes = search rules in
    always c.from_residual-in_err-add_pending.result (before_seen _ c.make_room.new.scopes _ c.in_err-add_pending.ensures.refused
    ∙ room_seen _ c.self.inside.scopes _ c.in_ok-make_room.ensures.made ∙ sym seen_old)

pub invariant_of-self-2 : goal.invariant_of-self-2
invariant_of-self-2 c =
    let p : Pending = record { into = c.args.into; scheduled = record { key = c.args.key; place = c.args.place } } in
    pending_roomy _ c.make_room.new.scopes _ p c.in_ok-add_pending.ensures.added c.requires.within
    (room_roomy _ c.self.inside.scopes _ c.in_ok-make_room.ensures.made c.self.invariant)
    (room_spare p c.self.inside.scopes _ c.in_ok-make_room.ensures.made c.self.invariant)

pub returns-clause-pending : goal.returns-clause-pending
returns-clause-pending c =
    let p : Pending = record { into = c.args.into; scheduled = record { key = c.args.key; place = c.args.place } } in
    let seen_old : c.args.self.now ≡ seen_all c.self.inside.scopes = search rules in
    pending_seen _ c.make_room.new.scopes _ p c.in_ok-add_pending.ensures.added
    ∙ ap (changed_at c.args.depth (with_pending p)) (room_seen _ c.self.inside.scopes _ c.in_ok-make_room.ensures.made ∙ sym seen_old)
