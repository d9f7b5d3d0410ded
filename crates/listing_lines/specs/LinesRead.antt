-- What the readers of lines answer, as definitions see it.
use Rattle.std.specs.Prelude.{◌≡◌, ℕ, List, Option, Some, None, option_map, map, Result, Err, IfOk}
use Rattle.std.specs.Borrow.{Bor}
use Rattle.mir_ty.specs.declared.def.ClosureDef.{ClosureDef}
use Rattle.mir_ty.specs.AreItems.{AreTypes}
use Rattle.mir_ty.specs.ItemTable.{ItemTable}
use Rattle.listing_write.specs.Reading.Words.{FoundInText}
use Rattle.listing_parts.specs.declared.error.ReadError.{ReadError}
use Rattle.listing_parts.specs.Table.{Grow, text_under}

-- a name and a number, and the text behind them
abbrev pub seen_named : Option ((Bor (List ℕ) × ℕ) × Bor (List ℕ)) → FoundInText (List ℕ × ℕ)
seen_named found = option_map (λ f. ((f.0.0.now, f.0.1), f.1.now)) found

-- the closure that was found, with captures that stand in the new items and are written so
pub record FindsClosure (heads old new : ItemTable) (result : Result (ClosureDef × Bor (List ℕ)) ReadError)
    (found : FoundInText (List (List ℕ) × ℕ)) : Type 0 where
  pub there : IfOk result (λ f. found ≡ Some ((map (text_under heads new) f.0.captures, f.0.body), f.1.now))
  pub within : IfOk result (λ f. AreTypes new.types f.0.captures)
  pub missing : result ≡ Err ReadError.Unreadable → found ≡ None
  pub grow : Grow heads old new
