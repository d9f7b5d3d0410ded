-- The places in a value, and the value with another one in a place.
use Rattle.std.specs.Prelude.{◌≡◌, ◌≢◌, ℕ, zero, suc, List, [], ◌∷◌, ◌++◌, Option, Some, None}
use Rattle.std.specs.Option.{option_and_then, option_map_or}
use Rattle.store_model.specs.declared.address.At.{At}
use Rattle.store_model.specs.declared.address.At.TheVariants.{Part, Inside}
use Rattle.store_model.specs.Values.Datum.{Datum, Data, Aggregate, Box, no_part, a_part}

-- the part with this number, from 0
abbrev pub part_at : ℕ → Data → Option Datum
part_at number no_part = None
part_at zero (a_part first rest) = Some first
part_at (suc number) (a_part first rest) = part_at number rest

-- the parts with another one under this number, if there is one
abbrev pub with_part_at : ℕ → Datum → Data → Data
with_part_at number new no_part = no_part
with_part_at zero new (a_part first rest) = a_part new rest
with_part_at (suc number) new (a_part first rest) = a_part first (with_part_at number new rest)

-- the part to which a step leads: only aggregates and boxes have any
abbrev pub part : At → Datum → Option Datum
part (Part number) (Aggregate variant serial parts) = part_at number parts
part Inside (Box serial impl_no inside) = Some inside
part step datum = None

-- the value with another part where the step leads, if it leads to one
abbrev pub with_part : At → Datum → Datum → Datum
with_part (Part number) new (Aggregate variant serial parts) = Aggregate variant serial (with_part_at number new parts)
with_part Inside new (Box serial impl_no inside) = Box serial impl_no new
with_part step new datum = datum

-- what stands at the end of a path, if there is such a place; the path without steps ends at the root
abbrev pub value_at : List At → Datum → Option Datum
value_at [] root = Some root
value_at (step ∷ path) root = option_and_then (value_at path) (part step root)

-- the root with another value at the end of a path, if there is such a place
abbrev pub replaced : List At → Datum → Datum → Datum
replaced [] new root = new
replaced (step ∷ path) new root =
    option_map_or (λ inner. with_part step (replaced path new inner) root) (part step root) root

-- some container on the path has no part where the next step leads; one that is gone has no parts
pub record IsCutOff (path : List At) (root : Datum) : Type 0 where
  pub above : List At
  pub step : At
  pub below : List At
  pub container : Datum
  pub path_is : path ≡ above ++ step ∷ below
  pub container_is : value_at above root ≡ Some container
  pub lacks : part step container ≡ None

-- two paths take different steps from some common container
pub record AreApart (one other : List At) : Type 0 where
  pub above : List At
  pub one_step : At
  pub one_below : List At
  pub other_step : At
  pub other_below : List At
  pub one_is : one ≡ above ++ one_step ∷ one_below
  pub other_is : other ≡ above ++ other_step ∷ other_below
  pub differ : one_step ≢ other_step
