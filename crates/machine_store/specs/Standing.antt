-- As what values are found, and where they stand, as the machine holds it.
use Rattle.std.specs.Prelude.{ℕ, ◌==◌, ℤ, pos, Bool, true, false, List, [], ◌∷◌, Option, Some, None, option_map}
use Rattle.std.specs.Prelude.{option_and_then}
use Rattle.std.specs.Borrow.{Bor}
use Rattle.machine_store.specs.declared.location.Located.{Located}
use Rattle.machine_store.specs.declared.location.Reached.{Reached}
use Rattle.store_model.specs.declared.value.Value.{Value}
use Rattle.store_model.specs.Concrete.State.{State, Activation, Cells, cell}
use Rattle.store_model.specs.Values.Datum.{Datum, Gone, Number, Aggregate, Box, Address, datum_of}
use Rattle.machine_store.specs.declared.types.Dynamic.{Dynamic}
use Rattle.mir_ty.specs.declared.ty.TyId.{TyId}
use Rattle.mir_ty.specs.ItemTable.{ItemTable, type_at}
use Rattle.store_model.specs.Concrete.Location as location
use Rattle.store_model.specs.Concrete.Location.{Setting, DynamicType, concrete_ty, is_of_type, into, located_at}
use Rattle.store_model.specs.Concrete.Location.{on_reached}
use Rattle.store_model.specs.declared.address.At.{At}
use Rattle.store_model.specs.declared.address.At.TheVariants.{Part, Inside}
use Rattle.store_model.specs.Places.Place.{Step, ToPart, ToField, ToContent, ToElement}
use Rattle.mir_ty.specs.declared.ty.Ty.{Ty}
use Rattle.store_model.specs.Places.TypeForms.{box_content}
use Rattle.store_model.specs.Values.Parts.{count}

abbrev pub dynamic_of : Dynamic → DynamicType
dynamic_of (Dynamic.OfType id) = location.OfType id
dynamic_of (Dynamic.OfObject id impl_no) = location.OfObject id impl_no

abbrev as_content : Option ℕ → TyId → DynamicType
as_content None id = location.OfType id
as_content (Some impl_no) id = location.OfObject id impl_no

-- as what the content of a box is found; a trait object is no box
abbrev pub content_found : ItemTable → DynamicType → Option ℕ → Option DynamicType
content_found items (location.OfType id) impl_no = option_map (as_content impl_no) (box_content (type_at items id))
content_found items (location.OfObject id number) impl_no = None

-- what stands where a value may be gone
abbrev pub standing : Option (Bor Value) → Datum
standing None = Gone
standing (Some value) = datum_of value.now

abbrev pub located_of : Located → location.Located
located_of s = record { address = s.address; dynamic = dynamic_of s.dynamic; value = standing s.value }

abbrev pub reached_of : Reached → location.Reached
reached_of (Reached.Reaches s) = location.Reaches (located_of s)
reached_of Reached.CutOff = location.CutOff
reached_of Reached.Nowhere = location.Nowhere

-- where a place is depends on the activations alone
abbrev pub with_activations : List Activation → State
with_activations activations = record { asked = []; ticks = 0; serial = 0; activations = activations; trace = [] }

-- One step of the way to a place, by the parts of which it is made.

abbrev pub reach_of_found : Option location.Located → location.Reached
reach_of_found (Some s) = location.Reaches s
reach_of_found None = location.Nowhere

abbrev pub located_root_found : ℕ → ℕ → Cells → Option TyId → Option location.Located
located_root_found depth key cells None = None
located_root_found depth key cells (Some id) =
    Some (record {
      address = record { depth = depth; key = (record { 0 = key }); path = [] };
      dynamic = location.OfType id;
      value = cell key cells;
    })

abbrev pub named_by_found : Option Ty → Option TyId
named_by_found (Some (Ty.Shared to)) = Some to
named_by_found (Some (Ty.Unique to)) = Some to
named_by_found _ = None

abbrev pub reach_if_found : Bool → Option location.Located → location.Reached
reach_if_found true s = reach_of_found s
reach_if_found false s = location.Nowhere

abbrev pub by_reference_found : ItemTable → Option TyId → Option location.Located → location.Reached
by_reference_found items (Some id) (Some s) = reach_if_found (is_of_type items id s.dynamic) (Some s)
by_reference_found items (Some id) None = location.Nowhere
by_reference_found items None s = location.Nowhere

abbrev pub into_field_found : ItemTable → ℕ → ℕ → Datum → location.Located → location.Reached
into_field_found items variant n (Aggregate active serial parts) s =
    reach_if_found (variant == active) (into items (Part n) s)
into_field_found items variant n value s = location.Nowhere

abbrev pub into_element_found : ItemTable → Datum → location.Located → location.Reached
into_element_found items (Number (pos n)) s = reach_of_found (into items (Part n) s)
into_element_found items index s = location.Nowhere

abbrev pub count_of_parts : Datum → ℕ
count_of_parts (Aggregate variant serial parts) = count parts
count_of_parts value = 0

abbrev pub into_all_found : ItemTable → List At → location.Located → Option location.Located
into_all_found items [] s = Some s
into_all_found items (step ∷ path) s = option_and_then (into_all_found items path) (into items step s)

module _ (setting : Setting) (w : State) (cells : Cells) where
  abbrev pub through_found : Datum → location.Located → location.Reached
  through_found (Address address) s =
      by_reference_found setting.items (named_by_found (concrete_ty setting.items s.dynamic))
      (located_at setting w address)
  through_found (Box serial impl_no inside) s = reach_of_found (into setting.items Inside s)
  through_found value s = location.Nowhere

  abbrev pub follow_found : Step → location.Located → location.Reached
  follow_found (ToPart n) s = reach_of_found (into setting.items (Part n) s)
  follow_found (ToField variant n) s = into_field_found setting.items variant n s.value s
  follow_found ToContent s = through_found s.value s
  follow_found (ToElement index) s = into_element_found setting.items (cell index cells) s

  abbrev pub follow_from_found : Step → Datum → location.Located → location.Reached
  follow_from_found step Gone s = location.CutOff
  follow_from_found step value s = follow_found step s

  abbrev pub along_found : List Step → location.Located → location.Reached
  along_found [] s = location.Reaches s
  along_found (step ∷ steps) s =
      on_reached (follow_from_found step s.value s) (along_found steps) location.CutOff location.Nowhere

abbrev pub is_nothing : Datum → Bool
is_nothing Gone = true
is_nothing value = false

abbrev pub number_of : Datum → Option ℤ
number_of (Number number) = Some number
number_of value = None
