use Rattle.std.proofs.Common.{◌≡◌, ◌≤◌, ◌-◌, ℕ, ◌==◌, length, take}
use Rattle.std.specs.List.{list_any}
use Rattle.mir_ty.specs.DropBodies.{is_its_drop_body}
use Rattle.mir_ty.proofs.items.Items.drop_bodies.Given as goal

abbrev pub invariant-loop-adt : goal.invariant-loop-adt
invariant-loop-adt l =
    record {
      within : l.n ≤ length l.self.adts;
      bodies : (body : ℕ) → list_any (λ k. k == body) l.bodies.keys ≡ list_any (is_its_drop_body body) (take l.n l.self.adts);
    }

abbrev pub decreases-loop-adt : goal.decreases-loop-adt
decreases-loop-adt l = length l.self.adts - l.n
