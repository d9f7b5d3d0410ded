-- What the readers of sections answer, as definitions see it.
use Rattle.std.specs.Prelude.{◌≡◌, ℕ, List, map, Some, None, All, Result, Err, IfOk}
use Rattle.std.specs.Borrow.{Bor}
use Rattle.mir_base.specs.declared.memory.NoMemory.{NoMemory}
use Rattle.mir_ty.specs.AreItems.{AreTypes, IsAdt, IsSig}
use Rattle.mir_ty.specs.ItemTable.{ItemTable}
use Rattle.listing_write.specs.Compared.{adt_seen, trait_seen, closure_seen}
use Rattle.listing_write.specs.Reading.Words.{FoundInText}
use Rattle.listing_parts.specs.declared.error.ReadError.{ReadError}
use Rattle.listing_parts.specs.Table.{AreRead, under}
use Rattle.mir_text.specs.SectionReading.{ItemsSeen}

-- items as they are seen under heads
abbrev pub items_seen : ItemTable → ItemTable → ItemsSeen
items_seen heads items = record {
  adts = map (adt_seen (under heads items)) items.adts;
  traits = map (trait_seen (under heads items)) items.traits;
  impls = items.impls;
  closures = map (closure_seen (under heads items)) items.closures;
}

-- items that were read under heads: their types have numbers in the table
pub record Drafted (heads items : ItemTable) : Type 0 where
  pub types : AreRead heads items.types
  pub adts : All (IsAdt items.types) items.adts
  pub traits : All (λ def. All (IsSig items.types) def.methods) items.traits
  pub closures : All (λ def. AreTypes items.types def.captures) items.closures

-- one item more that was found, or no such item
pub record FindsItem (heads old new : ItemTable) (result : Result (Bor (List ℕ)) ReadError)
    (found : FoundInText ItemsSeen) : Type 0 where
  pub there : IfOk result (λ rest. found ≡ Some (items_seen heads new, rest.now))
  pub missing : result ≡ Err ReadError.Unreadable → (found ≡ None) × (items_seen heads new ≡ items_seen heads old)
  pub drafted : Drafted heads new
  pub bodies : new.bodies ≡ old.bodies

-- all that were found, and the text behind them
pub record FindsSection (heads old new : ItemTable) (result : Result (Bor (List ℕ)) NoMemory)
    (found : ItemsSeen × List ℕ) : Type 0 where
  pub there : IfOk result (λ rest. (items_seen heads new ≡ found.0) × (rest.now ≡ found.1))
  pub drafted : Drafted heads new
  pub bodies : new.bodies ≡ old.bodies
