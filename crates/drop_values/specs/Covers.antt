-- What an elaborated graph may hold where the raw graph holds a value: the same, but that in place of what is gone
-- there may still be a value in which nothing is numbered, since a ladder leaves the shell of what it takes apart.
use Rattle.std.specs.Prelude.{◌≡◌, []}
use Rattle.store_model.specs.Values.Datum.{Datum, Data, Gone, Number, Truth, UnitValue, Aggregate, Box, Address, no_part, a_part}
use Rattle.store_model.specs.Values.Wholeness.{serials}

-- the same, but that in place of what is gone there may be such a value
module _ (Spare : Datum → Type 0) where
  abbrev mutual
    pub CoversBy : Datum → Datum → Type 0
    CoversBy Gone other = Spare other
    CoversBy (Number number) other = other ≡ Number number
    CoversBy (Truth truth) other = other ≡ Truth truth
    CoversBy UnitValue other = other ≡ UnitValue
    CoversBy (Aggregate variant serial parts) other =
        (parts' : Data) × (other ≡ Aggregate variant serial parts') × AllCoveredBy parts parts'
    CoversBy (Box serial impl_no inside) other =
        (inside' : Datum) × (other ≡ Box serial impl_no inside') × CoversBy inside inside'
    CoversBy (Address address) other = other ≡ Address address

    pub AllCoveredBy : Data → Data → Type 0
    AllCoveredBy no_part others = others ≡ no_part
    AllCoveredBy (a_part first rest) others = (first' : Datum) × (rest' : Data) × (others ≡ a_part first' rest')
        × CoversBy first first' × AllCoveredBy rest rest'

abbrev pub Unnumbered : Datum → Type 0
Unnumbered other = serials other ≡ []

abbrev pub Covers : Datum → Datum → Type 0
Covers d other = CoversBy Unnumbered d other

abbrev pub CoversAll : Data → Data → Type 0
CoversAll parts others = AllCoveredBy Unnumbered parts others
