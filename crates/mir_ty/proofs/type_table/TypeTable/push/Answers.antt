use Rattle.std.proofs.Common.{Contains, ◌∙◌, sym, subst}
use Rattle.mir_ty.specs.AreItems.{AreDistinct}
use Rattle.mir_ty.specs.contracts.ty.TyPartialEq.TheImpl as ty
use Rattle.mir_ty.proofs.Numbers.{insert_key-new}
use Rattle.mir_ty.proofs.TyEq.{ty_eq_Decides}
use Rattle.mir_ty.proofs.TypeLists.{AreDistinct-push}
use Rattle.mir_ty.proofs.type_table.TypeTable.push.Goals as goal

pub invariant_of-self-2 : goal.invariant_of-self-2
invariant_of-self-2 c =
    let types = c.self.inside.types.keys in
    let absent : ¬ Contains types c.args.ty = rw c.self.view_is c.requires in
    let pushed = c.in_ok-insert.ensures.keys ∙ insert_key-new ty.ghosts.eq ty_eq_Decides types c.args.ty absent in
    subst AreDistinct (sym pushed) (AreDistinct-push types c.args.ty c.self.invariant absent)

pub returns-clause-pushed : goal.returns-clause-pushed
returns-clause-pushed c =
    let types = c.self.inside.types.keys in
    let absent : ¬ Contains types c.args.ty = rw c.self.view_is c.requires in
    rw (← c.self.view_is) (c.in_ok-insert.ensures.keys ∙ insert_key-new ty.ghosts.eq ty_eq_Decides types c.args.ty absent)
