-- What a reader answers, as definitions see it.
use Rattle.std.specs.Prelude.{◌≡◌, List, ℕ, Option, None, Some, option_map, Result, Err, IfOk}
use Rattle.std.specs.Borrow.{Bor}
use Rattle.listing_write.specs.Reading.Words.{FoundInText}
use Rattle.listing_parts.specs.declared.error.ReadError.{ReadError}

-- what was found, and the text behind it
abbrev pub seen : {X : Type 0} → Option (X × Bor (List ℕ)) → FoundInText X
seen found = option_map (λ f. (f.0, f.1.now)) found

-- where memory may be wanted: what was found, or that it is not there
pub record Finds {X : Type 0} (result : Result (X × Bor (List ℕ)) ReadError) (found : FoundInText X) : Type 0 where
  pub there : IfOk result (λ f. found ≡ Some (f.0, f.1.now))
  pub missing : result ≡ Err ReadError.Unreadable → found ≡ None
