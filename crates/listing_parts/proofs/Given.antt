-- A type that was given a number.
use Rattle.std.proofs.Common.{◌≡◌, length, sym, subst, arith}
use Rattle.std.specs.Prelude.{Result, Ok, Err}
use Rattle.std.specs.Result.{IsErr}
use Rattle.std.proofs.lemmas.Bool.{false≢true}
use Rattle.mir_ty.specs.declared.ty.Ty.{Ty}
use Rattle.mir_ty.specs.declared.ty.TyId.{TyId}
use Rattle.mir_ty.specs.AreItems.{AreItems}
use Rattle.mir_ty.specs.ItemTable.{ItemTable, Interns}
use Rattle.mir_base.specs.declared.memory.NoMemory.{NoMemory}
use Rattle.listing_parts.specs.Table.{AreRead, Grow, MayStand}
use Rattle.listing_parts.specs.TypesRead.{GivesType}
use Rattle.listing_parts.proofs.Texts.{interned_grow, interned_within, interned_text, same_types}

pub unchanged : (heads old new : ItemTable) → AreRead heads old.types → new ≡ old → Grow heads old new
unchanged heads old new read same = subst (Grow heads old) (sym same) (record { types = read; others = same_types old })

pub not_given : (heads old new : ItemTable) (ty : Ty) (result : Result TyId NoMemory) → IsErr result → AreRead heads old.types → new ≡ old → GivesType heads old new result ty
not_given heads old new ty (Ok id) is read same = absurd (false≢true is)
not_given heads old new ty (Err error) is read same = record { there = tt; is = tt; within = tt; grow = unchanged heads old new read same }

pub given : (heads old new : ItemTable) (ty : Ty) (id : TyId) → AreRead heads old.types → MayStand heads (length old.types) ty → Interns old ty new id → AreItems new
    → GivesType heads old new (Ok id) ty
given heads old new ty id read may interns sound = record {
  there = interned_text heads old new ty id read may interns (omega (arith, sound.short.types));
  is = interns.0;
  within = interned_within heads old new ty id read may interns;
  grow = interned_grow heads old new ty id read may interns;
}
