-- What the readers of methods and traits answer, as definitions see it.
use Rattle.std.specs.Prelude.{◌≡◌, ℕ, ◌<◌, Bool, List, ◌++◌, Some, None, map, length, Result, Err, IfOk, All, option_and_then, slice_get}
use Rattle.std.specs.Borrow.{Bor}
use Rattle.mir_base.specs.declared.memory.NoMemory.{NoMemory}
use Rattle.mir_ty.specs.declared.def.Sig.{Sig}
use Rattle.mir_ty.specs.declared.def.TraitDef.{TraitDef}
use Rattle.mir_ty.specs.declared.ty.TyId.{TyId}
use Rattle.mir_ty.specs.AreItems.{AreTypes, IsMethod, IsSelfTy}
use Rattle.mir_ty.specs.ItemTable.{ItemTable}
use Rattle.listing_write.specs.Compared.{SigSeen, sig_seen, trait_seen}
use Rattle.listing_write.specs.Reading.Words.{FoundInText}
use Rattle.listing_write.specs.Types.{trait_name}
use Rattle.listing_parts.specs.declared.error.ReadError.{ReadError}
use Rattle.listing_parts.specs.Table.{Grow, text_under, under}
use Rattle.listing_lines.specs.TraitReading.{self_text}

-- the type of `self` stands in the new items
pub record GivesSelf (heads old new : ItemTable) (n : ℕ) (unique : Bool) (result : Result TyId NoMemory) : Type 0 where
  pub there : IfOk result (λ id. text_under heads new id ≡ self_text unique (trait_name heads n))
  pub within : IfOk result (λ id. id.0 < length new.types)
  pub own : IfOk result (λ id. IsSelfTy new.types n (slice_get new.types id.0))
  pub grow : Grow heads old new

-- parameters of which the first is that of `self`
abbrev pub BeginWithSelf : ItemTable → ℕ → List TyId → Type 0
BeginWithSelf items n params =
    IsSelfTy items.types n (option_and_then (λ id. slice_get items.types id.0) (slice_get params 0))

pub record FindsParams (heads old new : ItemTable) (n : ℕ) (result : Result (List TyId × Bor (List ℕ)) ReadError)
    (found : FoundInText (List (List ℕ))) : Type 0 where
  pub there : IfOk result (λ f. found ≡ Some (map (text_under heads new) f.0, f.1.now))
  pub within : IfOk result (λ f. AreTypes new.types f.0)
  pub own : IfOk result (λ f. BeginWithSelf new n f.0)
  pub missing : result ≡ Err ReadError.Unreadable → found ≡ None
  pub grow : Grow heads old new

pub record FindsMethod (heads old new : ItemTable) (n : ℕ) (result : Result (Sig × Bor (List ℕ)) ReadError)
    (found : FoundInText SigSeen) : Type 0 where
  pub there : IfOk result (λ f. found ≡ Some (sig_seen (under heads new) f.0, f.1.now))
  pub within : IfOk result (λ f. IsMethod new.types n f.0)
  pub missing : result ≡ Err ReadError.Unreadable → found ≡ None
  pub grow : Grow heads old new

-- methods that were found stand behind those before them
pub record FindsMore (heads old new : ItemTable) (n : ℕ) (before after : List Sig)
    (result : Result (Bor (List ℕ)) NoMemory) (found : List SigSeen × List ℕ) : Type 0 where
  pub there : IfOk result (λ rest.
      (map (sig_seen (under heads new)) after ≡ map (sig_seen (under heads old)) before ++ found.0)
      × (rest.now ≡ found.1))
  pub within : All (IsMethod new.types n) after
  pub grow : Grow heads old new

pub record FindsMethods (heads old new : ItemTable) (n : ℕ) (result : Result (List Sig × Bor (List ℕ)) ReadError)
    (found : FoundInText (List SigSeen)) : Type 0 where
  pub there : IfOk result (λ f. found ≡ Some (map (sig_seen (under heads new)) f.0, f.1.now))
  pub within : IfOk result (λ f. All (IsMethod new.types n) f.0)
  pub missing : result ≡ Err ReadError.Unreadable → found ≡ None
  pub grow : Grow heads old new

pub record FindsTrait (heads old new : ItemTable) (n : ℕ) (result : Result (TraitDef × Bor (List ℕ)) ReadError)
    (found : FoundInText (List ℕ × List SigSeen)) : Type 0 where
  pub there : IfOk result (λ f. found ≡ Some (trait_seen (under heads new) f.0, f.1.now))
  pub within : IfOk result (λ f. All (IsMethod new.types n) f.0.methods)
  pub missing : result ≡ Err ReadError.Unreadable → found ≡ None
  pub grow : Grow heads old new
