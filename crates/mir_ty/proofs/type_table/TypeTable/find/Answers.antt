use Rattle.mir_ty.specs.contracts.ty.TyPartialEq.TheImpl as ty
use Rattle.mir_ty.proofs.Numbers.{found}
use Rattle.mir_ty.proofs.TyEq.{ty_eq_Decides}
use Rattle.mir_ty.proofs.type_table.TypeTable.find.Goals as goal

pub returns : goal.returns
returns c = rw (← c.self.view_is) (found ty.ghosts.eq ty_eq_Decides c.self.inside.types.keys c.args.ty.now c.get_index_of.result c.get_index_of.ensures.index)
