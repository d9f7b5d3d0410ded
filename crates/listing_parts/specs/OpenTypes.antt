-- Types that are still read: each stands around the next, the innermost first. What is found of the innermost goes on
-- into the others.
use Rattle.std.specs.Prelude.{◌≡◌, ℕ, ◌<◌, ◌≤◌, ⊤, List, [], ◌∷◌, ◌++◌, length, map, Some, None, Result, IfOk, Err}
use Rattle.mir_ty.specs.AreItems.{AreTypes}
use Rattle.mir_ty.specs.declared.ty.Ty.{Ty}
use Rattle.mir_ty.specs.ItemTable.{ItemTable}
use Rattle.listing_write.specs.Reading.Rows.{comma, many}
use Rattle.listing_write.specs.Reading.Words.{FoundInText, as_, bind}
use Rattle.listing_parts.specs.Table.{Grow, text_under}
use Rattle.listing_parts.specs.TypeReading.{around_end, around_text, tuple_from, type_read}
use Rattle.listing_parts.specs.declared.error.ReadError.{ReadError}
use Rattle.listing_parts.specs.declared.types.Ended.{Ended}
use Rattle.listing_parts.specs.declared.types.Open.{Open}
use Rattle.listing_parts.specs.declared.types.Step.{Step}

module _ (heads : ItemTable) where
  -- a row of types, of which these were read, behind them
  abbrev pub row_of : List (List ℕ) → List ℕ → FoundInText (List ℕ)
  row_of words t =
      tuple_from (type_read heads)
      (words ++ (many (comma (type_read heads)) t).0, (many (comma (type_read heads)) t).1)

  -- what is found of the type that stands in an open one makes what is found of that
  abbrev pub end_of_open : ItemTable → Open → List ℕ × List ℕ → FoundInText (List ℕ)
  end_of_open items (Open.Around around) f = as_ (around_text around f.0) (around_end around f.1)
  end_of_open items (Open.Row parts) f = row_of (map (text_under heads items) parts ++ f.0 ∷ []) f.1

  -- the last is the innermost
  abbrev pub goes_on : ItemTable → List Open → FoundInText (List ℕ) → FoundInText (List ℕ)
  goes_on items [] found = found
  goes_on items (outer ∷ more) found = bind (goes_on items more found) (end_of_open items outer)

  -- what comes of all open types, from where a reader has come to
  abbrev pub comes_of : ItemTable → List Open → Step → FoundInText (List ℕ)
  comes_of items opens (Step.Whole id rest) = goes_on items opens (Some (text_under heads items id, rest.now))
  comes_of items opens (Step.Next rest) = goes_on items opens (type_read heads rest.now)

-- the types of open rows are those of a table
abbrev pub IsOpen : List Ty → Open → Type 0
IsOpen types (Open.Around around) = ⊤
IsOpen types (Open.Row parts) = AreTypes types parts

abbrev pub AreOpen : List Ty → List Open → Type 0
AreOpen types [] = ⊤
AreOpen types (outer ∷ more) = IsOpen types outer × AreOpen types more

abbrev pub IsThere : List Ty → Step → Type 0
IsThere types (Step.Whole id rest) = id.0 < length types
IsThere types (Step.Next rest) = ⊤

-- where no type begins, none is open
abbrev pub ClosesAll : List Open → Step → Type 0
ClosesAll opens (Step.Whole id rest) = opens ≡ []
ClosesAll opens (Step.Next rest) = ⊤

-- a type begins at this text
abbrev pub BeginsAt : List ℕ → Step → Type 0
BeginsAt t (Step.Whole id rest) = ⊥
BeginsAt t (Step.Next rest) = rest.now ≡ t

abbrev pub text_of : Step → List ℕ
text_of (Step.Whole id rest) = rest.now
text_of (Step.Next rest) = rest.now

-- a step of a reader: what is found in the end is found from where it has come to
pub record Steps (heads old new : ItemTable) (opens : List Open) (result : Result Step ReadError)
    (found : FoundInText (List ℕ)) (limit : ℕ) : Type 0 where
  pub there : IfOk result (λ step. found ≡ comes_of heads new opens step)
  pub within : IfOk result (λ step. IsThere new.types step)
  pub shorter : IfOk result (λ step. length (text_of step) ≤ limit)
  pub missing : result ≡ Err ReadError.Unreadable → found ≡ None
  pub all_open : AreOpen new.types opens
  pub grow : Grow heads old new

-- what the end of a type leads to in an open one
abbrev pub ends_in : (heads items : ItemTable) → Ended → FoundInText (List ℕ)
ends_in heads items (Ended.Whole id rest) = Some (text_under heads items id, rest.now)
ends_in heads items (Ended.More outer rest) = bind (type_read heads rest.now) (end_of_open heads items outer)

abbrev pub IsEnded : List Ty → Ended → Type 0
IsEnded types (Ended.Whole id rest) = id.0 < length types
IsEnded types (Ended.More outer rest) = IsOpen types outer

abbrev pub ended_text : Ended → List ℕ
ended_text (Ended.Whole id rest) = rest.now
ended_text (Ended.More outer rest) = rest.now

pub record Ends (heads old new : ItemTable) (result : Result Ended ReadError) (found : FoundInText (List ℕ))
    (limit : ℕ) : Type 0 where
  pub there : IfOk result (λ ended. found ≡ ends_in heads new ended)
  pub within : IfOk result (λ ended. IsEnded new.types ended)
  pub shorter : IfOk result (λ ended. length (ended_text ended) ≤ limit)
  pub missing : result ≡ Err ReadError.Unreadable → found ≡ None
  pub grow : Grow heads old new
