use Rattle.std.proofs.Common.{rules, ◌≡◌, sym, subst}
use Rattle.unwind_tree.specs.Rooms.{seen_all}
use Rattle.unwind_tree.specs.Trees.{IsPending, IsCompleted}
use Rattle.unwind_tree.proofs.Changed.{taken_out_roomy, taken_out_spare, completed_seen, filled_roomy}
use Rattle.unwind_tree.proofs.Finding.{is_not_absent}
use Rattle.unwind_tree.proofs.Rooms.{has_room_there}
use Rattle.unwind_tree.proofs.tree.ExitTree.complete.Goals as goal

pub fill-requires : goal.fill-requires
fill-requires c =
    has_room_there c.in-Some.destination c.take_pending.new.scopes
    (taken_out_spare c.args.key c.in-Some.destination c.self.inside.scopes c.take_pending.new.scopes c.in-Some.ensures c.self.invariant)

pub invariant_of-self : goal.invariant_of-self
invariant_of-self c =
    let spare = taken_out_spare c.args.key c.in-Some.destination c.self.inside.scopes c.take_pending.new.scopes c.in-Some.ensures c.self.invariant in
    filled_roomy c.in-Some.destination c.take_pending.new.scopes c.fill.new.scopes c.fill.ensures
    (has_room_there c.in-Some.destination c.take_pending.new.scopes spare)
    (taken_out_roomy c.args.key c.in-Some.destination c.self.inside.scopes c.take_pending.new.scopes c.in-Some.ensures c.self.invariant) spare

pub invariant_of-self-in_default : goal.invariant_of-self-in_default
invariant_of-self-in_default c =
    let seen_old : c.args.self.now ≡ seen_all c.self.inside.scopes = search rules in
    absurd (is_not_absent c.args.key c.self.inside.scopes (subst (λ (tree : _). IsPending c.args.key tree) seen_old c.requires) c.in_default.ensures)

pub returns-in-Some : goal.returns-in-Some
returns-in-Some c =
    let seen_old : c.args.self.now ≡ seen_all c.self.inside.scopes = search rules in
    subst (λ (tree : _). IsCompleted c.args.key tree (seen_all c.fill.new.scopes)) (sym seen_old)
    (completed_seen c.args.key c.in-Some.destination c.self.inside.scopes c.take_pending.new.scopes c.in-Some.ensures c.fill.new.scopes c.fill.ensures)

pub returns-in_default : goal.returns-in_default
returns-in_default c =
    let seen_old : c.args.self.now ≡ seen_all c.self.inside.scopes = search rules in
    absurd (is_not_absent c.args.key c.self.inside.scopes (subst (λ (tree : _). IsPending c.args.key tree) seen_old c.requires) c.in_default.ensures)
