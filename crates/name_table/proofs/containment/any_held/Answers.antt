use Rattle.std.proofs.Common.{refl}
use Rattle.name_table.specs.Holding.{meets}
use Rattle.name_table.proofs.HeldTypes.{held_by_adt}
use Rattle.name_table.proofs.containment.any_held.Goals as goal

pub returns-in-Some : goal.returns-in-Some
returns-in-Some c =
    held_by_adt c.args.items.now (meets c.args.question.now)
    c.in-Adt.n c.args.ty.now c.in-Some.adt.now c.in-Some.adt.now.variants c.any_field_meets.result c.in-Adt.is c.in-Some.ensures.value refl c.any_field_meets.ensures
