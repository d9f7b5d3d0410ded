-- A value as plain data, without the places in memory where it lies.
use Rattle.std.specs.Prelude.{ℕ, ℤ, Bool, List, [], ◌∷◌, Option}
use Rattle.store_model.specs.declared.address.Addr.{Addr}
use Rattle.store_model.specs.declared.value.Value.{Value, Value-F, fold-Value}

-- a value, and the parts of one in their order
mutual
  pub data Datum : Type 0 where
    Gone : Datum
    Number : (number : ℤ) → Datum
    Truth : (truth : Bool) → Datum
    UnitValue : Datum
    Aggregate : (variant : ℕ) (serial : Option ℕ) (parts : Data) → Datum
    Box : (serial : ℕ) (impl_no : Option ℕ) (inside : Datum) → Datum
    Address : (address : Addr) → Datum

  pub data Data : Type 0 where
    no_part : Data
    a_part : (first : Datum) (rest : Data) → Data

-- the parts of a list
abbrev pub data_from : List Datum → Data
data_from [] = no_part
data_from (first ∷ rest) = a_part first (data_from rest)

-- one layer of a value, whose parts are plain data already
abbrev pub datum_of_layer : Value-F Datum → Datum
datum_of_layer Value-F.Gone = Gone
datum_of_layer (Value-F.Int number) = Number number
datum_of_layer (Value-F.Bool truth) = Truth truth
datum_of_layer Value-F.Unit = UnitValue
datum_of_layer (Value-F.Parts variant serial parts) = Aggregate variant serial (data_from parts)
datum_of_layer (Value-F.Boxed serial impl_no inside) = Box serial impl_no inside.value
datum_of_layer (Value-F.Address address) = Address address

-- the plain data of a value
abbrev pub datum_of : Value → Datum
datum_of = fold-Value Datum datum_of_layer
