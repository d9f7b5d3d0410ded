use Rattle.std.proofs.Common.{◌≡◌, ◌==◌, false, Some, ap, sym, subst, ◌∙◌, arith}
use Rattle.machine_steps.specs.declared.drops.Turn.{Turn}
use Rattle.machine_steps.specs.Continuation.{found_of, type_of_number}
use Rattle.machine_steps.specs.Turns.{GoesOnPart, expected_by}
use Rattle.machine_steps.proofs.TurnsLeft.{part_past, part_untyped, part_entered}
use Rattle.machine_store.specs.declared.types.Dynamic.{Dynamic}
use Rattle.machine_store.specs.Standing.{dynamic_of}
use Rattle.machine_steps.proofs.drops.Drops.go_part.Goals as goal

pub returns-then-part-total : goal.returns-then-part-total
returns-then-part-total c = part_past c.args.items.now c.args.now c.args.dynamic c.args.variant c.args.part c.args.total c.args.ticks c.args.self.now (omega arith)

pub returns-in_default : goal.returns-in_default
returns-in_default c =
    part_untyped c.args.items.now c.args.now c.args.dynamic c.args.variant c.args.part c.args.total c.args.ticks c.args.self.now (omega arith)
    (ap found_of (sym c.field_ty.ensures ∙ c.in_default.is))

pub returns : goal.returns
returns c =
    let typed : type_of_number c.args.items.now (dynamic_of c.args.dynamic) c.args.variant c.args.part ≡ Some (dynamic_of (Dynamic.OfType c.in-Some.child)) =
    ap found_of (sym c.field_ty.ensures ∙ c.in-Some.is)
    in
    subst (λ expected. GoesOnPart c.args.items.now c.args.now c.args.dynamic c.args.variant c.args.part c.args.total c.args.ticks c.args.self.now c.enter_part.new.self (Turn.Visits false expected))
    (sym c.expected_since.ensures)
    (subst (λ new. GoesOnPart c.args.items.now c.args.now c.args.dynamic c.args.variant c.args.part c.args.total c.args.ticks c.args.self.now new (Turn.Visits false (expected_by (c.args.now == c.args.ticks) (Dynamic.OfType c.in-Some.child))))
    (sym c.in_ok-enter_part.ensures)
    (part_entered c.args.items.now c.args.now c.args.dynamic c.args.variant c.args.part c.args.total c.args.ticks c.args.self.now (Dynamic.OfType c.in-Some.child) (omega arith) typed))
