use Rattle.std.proofs.Common.{subst}
use Rattle.mir_ty.specs.declared.ty.TyId.{TyId}
use Rattle.typeck_checker.specs.Stand.{Gives, stack, state, top}
use Rattle.typeck_exprs.proofs.aggregates.box_end.Goals as goal
use Rattle.typing_rules.specs.Rows.{box_of_end}

pub returns-clause-gives : goal.returns-clause-gives
returns-clause-gives c =
    let before = c.args.checker.now in
    subst (λ (ty : TyId). Gives (box_of_end c.args.id.0 c.args.at c.args.count c.args.expected ty (top (stack before)) (state before)) c.box_of.result c.box_of.new.checker)
    c.part_ty-inside.ensures c.box_of.ensures.gives
