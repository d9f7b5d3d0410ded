-- What a reader of types answers, as definitions see it.
use Rattle.std.specs.Prelude.{◌≡◌, ℕ, ◌<◌, List, Some, None, ◌++◌, Result, Err, IfOk, map, length}
use Rattle.std.specs.Borrow.{Bor}
use Rattle.mir_ty.specs.declared.ty.TyId.{TyId}
use Rattle.mir_base.specs.declared.memory.NoMemory.{NoMemory}
use Rattle.mir_ty.specs.AreItems.{AreTypes}
use Rattle.mir_ty.specs.declared.ty.Ty.{Ty}
use Rattle.mir_ty.specs.ItemTable.{ItemTable, type_at}
use Rattle.listing_write.specs.Reading.Words.{FoundInText}
use Rattle.listing_write.specs.Types.{form_text}
use Rattle.listing_parts.specs.declared.error.ReadError.{ReadError}
use Rattle.listing_parts.specs.Table.{Grow, text_under, under}

-- the type that was found stands in the new items, where it is written so
pub record FindsType (heads old new : ItemTable) (result : Result (TyId × Bor (List ℕ)) ReadError)
    (found : FoundInText (List ℕ)) : Type 0 where
  pub there : IfOk result (λ f. found ≡ Some (text_under heads new f.0, f.1.now))
  pub within : IfOk result (λ f. f.0.0 < length new.types)
  pub missing : result ≡ Err ReadError.Unreadable → found ≡ None
  pub grow : Grow heads old new

-- a type that was given a number stands there in the new items, where it is written as before
pub record GivesType (heads old new : ItemTable) (result : Result TyId NoMemory) (ty : Ty) : Type 0 where
  pub there : IfOk result (λ id. text_under heads new id ≡ form_text (under heads old) (text_under heads old) ty)
  pub is : IfOk result (λ id. type_at new id ≡ Some ty)
  pub within : IfOk result (λ id. id.0 < length new.types)
  pub grow : Grow heads old new

-- the types that were found in a row stand behind those before it
pub record FindsRow (heads old new : ItemTable) (before after : List TyId) (result : Result (Bor (List ℕ)) NoMemory)
    (found : List (List ℕ) × List ℕ) : Type 0 where
  pub there : IfOk result (λ rest.
      (map (text_under heads new) after ≡ map (text_under heads old) before ++ found.0) × (rest.now ≡ found.1))
  pub within : AreTypes new.types after
  pub grow : Grow heads old new

-- the types that were found in parentheses stand in the new items, where they are written so
pub record FindsTypes (heads old new : ItemTable) (result : Result (List TyId × Bor (List ℕ)) ReadError)
    (found : FoundInText (List (List ℕ))) : Type 0 where
  pub there : IfOk result (λ f. found ≡ Some (map (text_under heads new) f.0, f.1.now))
  pub within : IfOk result (λ f. AreTypes new.types f.0)
  pub missing : result ≡ Err ReadError.Unreadable → found ≡ None
  pub grow : Grow heads old new
