use Rattle.std.proofs.Common.{Bool, Option, Some, None, ◌≡◌, subst}
use Rattle.mir_ty.specs.declared.ty.TyId.{TyId}
use Rattle.typeck_calls.specs.Methods.{GivesReceiver}
use Rattle.typeck_checker.specs.Stand.{env, stack, state, top}
use Rattle.typing_rules.specs.Rows.{received_by}
use Rattle.well_typed.specs.Types.{reference_of}
use Rattle.typeck_calls.proofs.receivers.check_receiver.Goals as goal

pub returns-in-Some-clause-gives : goal.returns-in-Some-clause-gives
returns-in-Some-clause-gives c =
    let before = c.args.checker.now in
    let is : Some (c.in-Some.unique, c.in-Some.field-0-1) ≡ reference_of before.walk.items c.args.self_ty = c.in-Some.ensures in
    subst (λ (r : Option (Bool × TyId)). GivesReceiver (received_by (env before) c.args.at (top (stack before)) r (state before)) (top (stack before)) c.by_reference.result c.by_reference.new.checker)
    is (c.by_reference.ensures.gives c.in-Some.field-0-1)

pub returns-in-None-clause-gives : goal.returns-in-None-clause-gives
returns-in-None-clause-gives c =
    let before = c.args.checker.now in
    let is : None ≡ reference_of before.walk.items c.args.self_ty = c.in-None.ensures in
    subst (λ (r : Option (Bool × TyId)). GivesReceiver (received_by (env before) c.args.at (top (stack before)) r (state before)) (top (stack before)) c.by_value.result c.by_value.new.checker)
    is (c.by_value.ensures.gives c.args.at)
