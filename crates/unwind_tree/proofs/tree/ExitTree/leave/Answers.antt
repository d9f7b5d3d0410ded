use Rattle.std.proofs.Common.{rules, ◌≡◌, ◌∙◌, ◌-◌, take, length, sym, ap, subst}
use Rattle.std.specs.List.{take-map}
use Rattle.unwind_tree.specs.Rooms.{seen, seen_all, IsRoomy}
use Rattle.unwind_tree.proofs.Rooms.{taken_roomy, length_seen}
use Rattle.unwind_tree.proofs.tree.ExitTree.leave.Goals as goal

pub invariant_of-self : goal.invariant_of-self
invariant_of-self c = subst IsRoomy (sym c.truncate.ensures) (taken_roomy _ c.self.inside.scopes c.self.invariant)

pub returns : goal.returns
returns c =
    let seen_old : c.args.self.now ≡ seen_all c.self.inside.scopes = search rules in
    ap seen_all c.truncate.ensures ∙ sym (take-map seen _ c.self.inside.scopes)
    ∙ ap (λ n. take (n - 1) (seen_all c.self.inside.scopes)) (c.len.ensures ∙ sym (length_seen c.self.inside.scopes))
    ∙ ap (λ (tree : _). take (length tree - 1) tree) (sym seen_old)
