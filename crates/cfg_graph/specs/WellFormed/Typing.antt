-- G3 of statements and terminators: what they store and take has the types that they give and want.
use Rattle.std.specs.Prelude.{ℕ, ◌==◌, Bool, true, false, not, ◌&&◌, List, Option, Some, is_some, length, slice_get, option_and_then}
use Rattle.std.specs.List.{list_all}
use Rattle.std.specs.Option.{option_map_or}
use Rattle.std.specs.Cmp.Lexicographic.{pointwise}
use Rattle.mir_base.specs.declared.int_kind.IntKind.{IntKind}
use Rattle.mir_base.specs.declared.trace.Why.{Why}
use Rattle.mir_ty.specs.declared.ty.Ty.{Ty}
use Rattle.mir_ty.specs.declared.ty.TyId.{TyId}
use Rattle.mir_ty.specs.declared.adt.Variant.{Variant}
use Rattle.mir_ty.specs.declared.def.Sig.{Sig}
use Rattle.mir_ty.specs.ItemTable.{ItemTable, type_at}
use Rattle.mir_ty.specs.Parts.{captures_of}
use Rattle.store_model.specs.Concrete.Effects.{fits}
use Rattle.cfg_graph.specs.declared.place.Place.{Place}
use Rattle.cfg_graph.specs.declared.place.Operand.{Operand}
use Rattle.cfg_graph.specs.declared.statement.Stmt.{Stmt}
use Rattle.cfg_graph.specs.declared.terminator.Term.{Term}
use Rattle.cfg_graph.specs.Places.{index_locals, place_id, ty_of_place, ty_of_operand}
use Rattle.cfg_graph.specs.WellFormed.TypeFaults.{is_drop_body}
use Rattle.store_model.specs.Places.TypeForms.{same_id, is_int, is_bool, is_unit, is_dyn, is_dyn_of, is_adt, is_closure, same_int, are_compared, is_signed, adt_of, tuple_parts, box_content, referent}
use Rattle.cfg_graph.specs.Uses.{places_of_stmt, places_of_term, operands_of_stmt, operands_of_term, stored_by_stmt, stored_by_term}

-- the numbers that a constant may be
abbrev pub constant_fits : Operand → Bool
constant_fits (Operand.Number value kind) = fits kind value
constant_fits _ = true

-- a panic that a graph may start by itself: `panic!`, and a match that no arm takes
abbrev pub is_started : Why → Bool
is_started Why.Explicit = true
is_started Why.Match = true
is_started _ = false

-- the method of a trait; none where the trait or the method does not exist
abbrev pub method_at : ItemTable → ℕ → ℕ → Option Sig
method_at items trait_no method =
    option_and_then (λ def. slice_get def.methods method) (slice_get items.traits trait_no)

-- the variant of a struct or an enum
abbrev pub variant_at : ItemTable → ℕ → ℕ → Option Variant
variant_at items adt variant = option_and_then (λ def. slice_get def.variants variant) (slice_get items.adts adt)

-- a variant of an enum
abbrev pub enum_variant : ItemTable → ℕ → ℕ → Bool
enum_variant items adt variant =
    option_map_or (λ def. def.is_enum) (slice_get items.adts adt) false && is_some (variant_at items adt variant)

-- the items of a graph and the locals of a body
module _ (items : ItemTable) (locals : List TyId) where
  -- the type of a place, and of an operand
  abbrev pub ty : Place → Option Ty
  ty place = ty_of_place items locals place

  abbrev pub operand_ty : Operand → Option Ty
  operand_ty operand = ty_of_operand items locals operand

  -- each step of a place leads somewhere, and its indices are of type `usize`
  abbrev pub is_typed_place : Place → Bool
  is_typed_place place =
      is_some (ty place)
      && list_all (λ local. is_int IntKind.Usize (option_and_then (type_at items) (slice_get locals local)))
      (index_locals place.steps)

  -- a value of the type with this number
  abbrev pub operand_is : TyId → Operand → Bool
  operand_is id (Operand.Copied place) = option_map_or (same_id id) (place_id items locals place) false
  operand_is id (Operand.Moved place) = option_map_or (same_id id) (place_id items locals place) false
  operand_is id (Operand.Number value kind) = is_int kind (type_at items id)
  operand_is id (Operand.Truth value) = is_bool (type_at items id)
  operand_is id Operand.Unit = is_unit (type_at items id)

  -- as many values as types, each of its type
  abbrev pub operands_are : List TyId → List Operand → Bool
  operands_are = pointwise operand_is

  -- the elements are as many as the array's type says, and each is of its element's type
  abbrev pub are_elements : List Operand → Option Ty → Bool
  are_elements operands (Some (Ty.Array element count)) =
      (length operands == count) && list_all (operand_is element) operands
  are_elements operands _ = false

  -- the arguments and the result are those of a signature
  abbrev pub calls : Place → List Operand → Sig → Bool
  calls to args sig =
      operands_are sig.params args && option_map_or (same_id sig.result) (place_id items locals to) false

  -- what a statement stores is of the type of its place
  abbrev pub stmt_has_types : Stmt → Bool
  stmt_has_types (Stmt.Put to from) = option_map_or (λ id. operand_is id from) (place_id items locals to) false
  stmt_has_types (Stmt.Compare to op left right) = is_bool (ty to) && are_compared (operand_ty left) (operand_ty right)
  stmt_has_types (Stmt.Not to operand) = is_bool (ty to) && is_bool (operand_ty operand)
  stmt_has_types (Stmt.Tuple to parts) = option_map_or (λ types. operands_are types parts) (tuple_parts (ty to)) false
  stmt_has_types (Stmt.Array to parts) = are_elements parts (ty to)
  stmt_has_types (Stmt.Make to adt variant parts) =
      is_adt adt (ty to) && option_map_or (λ made. operands_are made.fields parts) (variant_at items adt variant) false
  stmt_has_types (Stmt.Close to closure parts) =
      is_closure closure (ty to) && operands_are (captures_of (slice_get items.closures closure)) parts
  stmt_has_types (Stmt.NewBox to operand) = option_map_or (λ id. operand_is id operand) (box_content (ty to)) false
  stmt_has_types (Stmt.Unsize to trait_no from) =
      is_dyn_of trait_no (option_and_then (type_at items) (box_content (ty to)))
      && is_some (box_content (operand_ty from))
  stmt_has_types (Stmt.Borrow to unique of) =
      option_map_or (λ id. option_map_or (same_id id) (referent unique (ty to)) false) (place_id items locals of) false
  stmt_has_types (Stmt.Touch place) = true
  stmt_has_types (Stmt.Print operand) = is_int IntKind.I32 (operand_ty operand)
  stmt_has_types (Stmt.Forget operand) = true
  stmt_has_types (Stmt.Free place) = is_some (box_content (ty place))

  -- what a terminator takes and stores is of the types that it wants; no `Drop` body is called
  abbrev pub term_has_types : Term → Bool
  term_has_types (Term.Goto block) = true
  term_has_types (Term.If on if_true if_false) = is_bool (operand_ty on)
  term_has_types (Term.Case on variant if_true if_false) =
      option_map_or (λ adt. enum_variant items adt variant) (adt_of (ty on)) false
  term_has_types (Term.Math to op left right next unwind) =
      same_int (operand_ty left) (operand_ty right) && same_int (operand_ty left) (ty to)
  term_has_types (Term.Negate to of next unwind) = is_signed (operand_ty of) && same_int (operand_ty of) (ty to)
  term_has_types (Term.Bounds index count next unwind) = is_int IntKind.Usize (operand_ty index)
  term_has_types (Term.Call to body args next unwind) =
      option_map_or (calls to args) (slice_get items.bodies body) false && not (is_drop_body items body)
  term_has_types (Term.Virtual to trait_no method args next unwind) =
      option_map_or (calls to args) (method_at items trait_no method) false
  term_has_types (Term.Ask to next unwind) = is_int IntKind.I32 (ty to)
  term_has_types (Term.DropAt place next unwind) = true
  term_has_types (Term.Panic why unwind) = is_started why
  term_has_types Term.Return = true
  term_has_types Term.Resume = true

  -- what is stored into, and what is an operand, is not of a `dyn` type
  abbrev pub is_sized : Place → Bool
  is_sized place = not (is_dyn (ty place))

  -- an operand is of no `dyn` type, and a constant is inside its type
  abbrev pub operand_stands : Operand → Bool
  operand_stands operand = not (is_dyn (operand_ty operand)) && constant_fits operand

  -- the places and operands of a statement or a terminator, whatever it is
  abbrev pub places_have_types : List Place → List Operand → List Place → Bool
  places_have_types stored operands places =
      list_all is_typed_place places && list_all is_sized stored && list_all operand_stands operands

  -- each place of a statement exists with its types, and the statement has its types
  abbrev pub stmt_is_typed : Stmt → Bool
  stmt_is_typed stmt =
      places_have_types (stored_by_stmt stmt) (operands_of_stmt stmt) (places_of_stmt stmt) && stmt_has_types stmt

  abbrev pub term_is_typed : Term → Bool
  term_is_typed term =
      places_have_types (stored_by_term term) (operands_of_term term) (places_of_term term) && term_has_types term
