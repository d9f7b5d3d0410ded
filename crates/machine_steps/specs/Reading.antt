-- What stands at an address, as far as a drop asks.
use Rattle.std.specs.Prelude.{◌≡◌, ℕ, Option, Some, None, option_map}
use Rattle.machine_steps.specs.declared.found.FoundValue.{FoundValue}
use Rattle.machine_steps.specs.declared.found.DropKind.{DropKind}
use Rattle.machine_steps.specs.declared.found.OwnDrop.{OwnDrop}
use Rattle.machine_steps.specs.Continuation.{IsPlain}
use Rattle.machine_store.specs.Standing.{dynamic_of}
use Rattle.mir_ty.specs.ItemTable.{ItemTable}
use Rattle.store_model.specs.declared.address.At.TheVariants.{Inside}
use Rattle.store_model.specs.Concrete.Location.{DynamicType, Located, type_of_part}
use Rattle.store_model.specs.Values.Datum.{Datum, Data, Gone, Aggregate, Box}
use Rattle.store_model.specs.Values.Parts.{count}

pub record ShowsParts (value : Datum) (variant : ℕ) (serial : Option ℕ) (total : ℕ) : Type 0 where
  pub parts : Data
  pub is : value ≡ Aggregate variant serial parts
  pub counted : count parts ≡ total

pub record ShowsBox (items : ItemTable) (value : Datum) (dynamic : DynamicType) (serial : ℕ)
    (content : Option DynamicType) : Type 0 where
  pub impl_no : Option ℕ
  pub inside : Datum
  pub is : value ≡ Box serial impl_no inside
  pub typed : type_of_part items Inside value dynamic ≡ content

-- a value, found so, is of this kind
abbrev pub ShowsValue : ItemTable → Datum → DynamicType → DropKind → Type 0
ShowsValue items value dynamic DropKind.Nothing = value ≡ Gone
ShowsValue items value dynamic DropKind.Plain = IsPlain value
ShowsValue items value dynamic (DropKind.Parts variant serial total) = ShowsParts value variant serial total
ShowsValue items value dynamic (DropKind.Boxed serial content) =
    ShowsBox items value dynamic serial (option_map dynamic_of content)

-- a struct or an enum with its `Drop` body
abbrev pub pair_of : OwnDrop → ℕ × ℕ
pair_of of = (of.adt, of.body)

-- what stands at an address was found so, if there is such an address
pub record FindsIt (items : ItemTable) (there : Option Located) (found : FoundValue) : Type 0 where
  pub s : Located
  pub is : there ≡ Some s
  pub dynamic_is : s.dynamic ≡ dynamic_of found.dynamic
  pub shows : ShowsValue items s.value s.dynamic found.kind

abbrev pub IsFound : ItemTable → Option Located → Option FoundValue → Type 0
IsFound items there None = there ≡ None
IsFound items there (Some found) = FindsIt items there found
