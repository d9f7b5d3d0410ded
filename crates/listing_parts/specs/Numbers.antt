-- The numbers that names of structs, enums and traits have.
use Rattle.std.specs.Prelude.{ℕ, List, map, Option}
use Rattle.std.specs.HashMap.{HashMap, get_by}
use Rattle.std.specs.Option.{option_map_or}
use Rattle.std.specs.declared.vec.Vec.{Vec}
use Rattle.cfg_graph.specs.WellFormed.NameFaults.{same_name}
use Rattle.mir_ty.specs.ItemTable.{ItemTable}
use Rattle.listing_write.specs.Reading.Words.{place_in}

-- of the first struct or enum of this name, and how many there are where there is none
abbrev pub adt_no : ItemTable → List ℕ → ℕ
adt_no items name = place_in (map (λ adt. adt.name) items.adts) name

-- of the first trait of this name, and how many there are where there is none
abbrev pub trait_no : ItemTable → List ℕ → ℕ
trait_no items name = place_in (map (λ def. def.name) items.traits) name

-- the number that a table has for a name
abbrev pub noted : {Y S : Type 0} → HashMap (Vec ℕ Y) ℕ S → List ℕ → Option ℕ
noted numbers name = get_by (λ key. same_name name key.items) numbers

-- the same, and how many there are where it has none
abbrev pub number_in : {Y S : Type 0} → HashMap (Vec ℕ Y) ℕ S → ℕ → List ℕ → ℕ
number_in numbers count name = option_map_or (λ n. n) (noted numbers name) count
