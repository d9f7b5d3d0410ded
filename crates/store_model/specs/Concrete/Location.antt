-- Where a place of a running body is, what stands there, and as what type it is found (The Rust Reference, "Place
-- Expressions and Value Expressions", "Pointer types", "Trait objects"). A reference may have lost its place; then
-- nothing stands there.
use Rattle.std.specs.Prelude.{ℕ, ◌==◌, pos, Bool, true, false, ◌||◌, List, [], ◌∷◌, ◌++◌, Option, Some, None, length, slice_get, option_and_then}
use Rattle.std.specs.Option.{option_map_or}
use Rattle.mir_ty.specs.declared.ty.Ty.{Ty}
use Rattle.mir_ty.specs.declared.ty.TyId.{TyId}
use Rattle.mir_ty.specs.ItemTable.{ItemTable, type_at}
use Rattle.mir_ty.specs.Parts.{parts_of}
use Rattle.store_model.specs.declared.address.Addr.{Addr}
use Rattle.store_model.specs.declared.address.At.{At}
use Rattle.store_model.specs.declared.address.At.TheVariants.{Part, Inside}
use Rattle.store_model.specs.Values.Datum.{Datum, Gone, Number, Aggregate, Box, Address}
use Rattle.store_model.specs.Values.Access.{part, replaced}
use Rattle.store_model.specs.Places.Place.{Step, ToPart, ToField, ToContent, ToElement, Place}
use Rattle.store_model.specs.Places.TypeForms.{is_adt}
use Rattle.store_model.specs.Concrete.State.{State, Activation, Cells, cell, at_depth, with_cell_at}

-- the items of a program, the types of the locals of its bodies, and whether a value must be whole to be dropped
pub record Setting : Type 0 where
  pub items : ItemTable
  pub local_ty : (body local : ℕ) → Option TyId
  pub strict : Bool

-- a value is found as its type; the content of a boxed trait object is found as the trait and as the type of its impl
pub data DynamicType : Type 0 where
  OfType : (ty : TyId) → DynamicType
  OfObject : (ty : TyId) (impl_no : ℕ) → DynamicType

abbrev pub adt_of_impl : ItemTable → ℕ → Option ℕ
adt_of_impl items n = option_map_or (λ impl. Some impl.adt) (slice_get items.impls n) None

abbrev pub adt_ty : Option ℕ → Option Ty
adt_ty None = None
adt_ty (Some n) = Some (Ty.Adt n)

-- the type by whose parts and `Drop` impl a value goes
abbrev pub concrete_ty : ItemTable → DynamicType → Option Ty
concrete_ty items (OfType id) = type_at items id
concrete_ty items (OfObject id impl_no) = adt_ty (adt_of_impl items impl_no)

-- whether a value is found as the type that a reference names
abbrev pub is_of_type : ItemTable → TyId → DynamicType → Bool
is_of_type items id (OfType dynamic) = id.0 == dynamic.0
is_of_type items id (OfObject dynamic impl_no) =
    id.0 == dynamic.0 || option_map_or (λ n. is_adt n (type_at items id)) (adt_of_impl items impl_no) false

abbrev pub content_type : TyId → Option ℕ → DynamicType
content_type id None = OfType id
content_type id (Some impl_no) = OfObject id impl_no

abbrev pub type_in_box : Option ℕ → Option Ty → Option DynamicType
type_in_box impl_no (Some (Ty.Boxed inside)) = Some (content_type inside impl_no)
type_in_box impl_no _ = None

abbrev pub type_of_field : ItemTable → ℕ → ℕ → Option Ty → Option DynamicType
type_of_field items variant n None = None
type_of_field items variant n (Some ty) =
    option_map_or (λ id. Some (OfType id)) (slice_get (parts_of items ty variant) n) None

-- as what a part of a value is found
abbrev pub type_of_part : ItemTable → At → Datum → DynamicType → Option DynamicType
type_of_part items (Part n) (Aggregate variant serial parts) dynamic =
    type_of_field items variant n (concrete_ty items dynamic)
type_of_part items Inside (Box serial impl_no inside) dynamic = type_in_box impl_no (concrete_ty items dynamic)
type_of_part items step value dynamic = None

-- a value, where it stands, and as what it is found
pub record Located : Type 0 where
  pub address : Addr
  pub dynamic : DynamicType
  pub value : Datum

abbrev pub below : Addr → At → Addr
below address step = record address { path = address.path ++ step ∷ [] }

abbrev pub located_part : Located → At → Option Datum → Option DynamicType → Option Located
located_part s step (Some value) (Some dynamic) =
    Some (record { address = below s.address step; dynamic = dynamic; value = value })
located_part s step (Some value) None = None
located_part s step None dynamic = None

-- the part of a value that stands somewhere
abbrev pub into : ItemTable → At → Located → Option Located
into items step s = located_part s step (part step s.value) (type_of_part items step s.value s.dynamic)

abbrev pub into_all : ItemTable → List At → Located → Option Located
into_all items [] s = Some s
into_all items (step ∷ path) s = option_and_then (into_all items path) (into items step s)

abbrev pub root_address : ℕ → ℕ → Addr
root_address depth key = record { depth = depth; key = (record { 0 = key }); path = [] }

abbrev pub located_root : ℕ → ℕ → Cells → Option TyId → Option Located
located_root depth key cells None = None
located_root depth key cells (Some id) =
    Some (record { address = root_address depth key; dynamic = OfType id; value = cell key cells })

module _ (setting : Setting) (w : State) where
  -- what a local of the activation of a depth holds
  abbrev pub located_in : ℕ → ℕ → Option Activation → Option Located
  located_in depth key None = None
  located_in depth key (Some a) = located_root depth key a.cells (setting.local_ty a.body key)

  -- what stands at an address, if it has not lost its place
  abbrev pub located_at : Addr → Option Located
  located_at address =
      option_and_then (into_all setting.items address.path)
      (located_in address.depth address.key.0 (at_depth address.depth w.activations))

-- a place is reached; or a container of it is gone; or there is no such place
pub data Reached : Type 0 where
  Reaches : (standing : Located) → Reached
  CutOff : Reached
  Nowhere : Reached

abbrev pub reach_of : Option Located → Reached
reach_of (Some s) = Reaches s
reach_of None = Nowhere

abbrev pub reach_if : Bool → Option Located → Reached
reach_if true s = reach_of s
reach_if false s = Nowhere

abbrev pub on_reached : {A : Type 0} → Reached → (Located → A) → A → A → A
on_reached (Reaches s) reaches cut_off nowhere = reaches s
on_reached CutOff reaches cut_off nowhere = cut_off
on_reached Nowhere reaches cut_off nowhere = nowhere

-- the type that a reference names
abbrev pub named_by : Option Ty → Option TyId
named_by (Some (Ty.Shared to)) = Some to
named_by (Some (Ty.Unique to)) = Some to
named_by _ = None

abbrev pub by_reference : ItemTable → Option TyId → Option Located → Reached
by_reference items (Some id) (Some s) = reach_if (is_of_type items id s.dynamic) (Some s)
by_reference items (Some id) None = Nowhere
by_reference items None s = Nowhere

module _ (setting : Setting) (w : State) (cells : Cells) where
  -- the element under the number that a local holds
  abbrev pub into_element : Datum → Located → Reached
  into_element (Number (pos n)) s = reach_of (into setting.items (Part n) s)
  into_element index s = Nowhere

  abbrev pub through : Datum → Located → Reached
  through (Address address) s =
      by_reference setting.items (named_by (concrete_ty setting.items s.dynamic)) (located_at setting w address)
  through (Box serial impl_no inside) s = reach_of (into setting.items Inside s)
  through value s = Nowhere

  abbrev pub into_field : ℕ → ℕ → Datum → Located → Reached
  into_field variant n (Aggregate active serial parts) s =
      reach_if (variant == active) (into setting.items (Part n) s)
  into_field variant n value s = Nowhere

  abbrev pub follow : Step → Located → Reached
  follow (ToPart n) s = reach_of (into setting.items (Part n) s)
  follow (ToField variant n) s = into_field variant n s.value s
  follow ToContent s = through s.value s
  follow (ToElement index) s = into_element (cell index cells) s

  -- nothing is below what is gone
  abbrev pub follow_from : Step → Datum → Located → Reached
  follow_from step Gone s = CutOff
  follow_from step value s = follow step s

  abbrev pub along : List Step → Located → Reached
  along [] s = Reaches s
  along (step ∷ steps) s = on_reached (follow_from step s.value s) (along steps) CutOff Nowhere

abbrev pub in_youngest : Setting → State → Place → List Activation → Reached
in_youngest setting w place [] = Nowhere
in_youngest setting w place (a ∷ older) =
    on_reached (reach_of (located_root (length older) place.local a.cells (setting.local_ty a.body place.local)))
    (along setting w a.cells place.steps) CutOff Nowhere

-- where a place of the youngest activation is
abbrev pub reach : Setting → State → Place → Reached
reach setting w place = in_youngest setting w place w.activations

abbrev pub root_of : Addr → State → Datum
root_of address w = option_map_or (λ a. cell address.key.0 a.cells) (at_depth address.depth w.activations) Gone

-- another value stands at an address
abbrev pub stored_at : Addr → Datum → State → State
stored_at address value w =
    record w {
      activations = with_cell_at address.depth address.key.0
          (replaced address.path value (root_of address w)) w.activations;
    }
