-- What the readers of code answer, as definitions see it.
use Rattle.std.specs.Prelude.{◌≡◌, ℕ, List, Option, Some, None, Result, Err, IfOk}
use Rattle.std.specs.Borrow.{Bor}
use Rattle.listing_parts.specs.declared.error.ReadError.{ReadError}

-- the text behind what was found, or that it is not there
pub record FindsRest (result : Result (Bor (List ℕ)) ReadError) (found : Option (List ℕ)) : Type 0 where
  pub there : IfOk result (λ rest. found ≡ Some rest.now)
  pub missing : result ≡ Err ReadError.Unreadable → found ≡ None
