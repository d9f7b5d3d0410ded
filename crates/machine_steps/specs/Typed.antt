-- The types of places and operands in the body that runs.
use Rattle.std.specs.Prelude.{ℕ, List, Option, Some, None, slice_get}
use Rattle.std.specs.Option.{option_map_or}
use Rattle.cfg_graph.specs.declared.place.Operand.{Operand}
use Rattle.cfg_meaning.specs.Actions.{site_of}
use Rattle.mir_base.specs.declared.int_kind.IntKind.{IntKind}
use Rattle.mir_ty.specs.declared.ty.Ty.{Ty}
use Rattle.mir_ty.specs.ItemTable.{type_at}
use Rattle.store_model.specs.Concrete.Effects.{ty_of_place}
use Rattle.store_model.specs.Concrete.Location.{Setting}
use Rattle.store_model.specs.Concrete.State.{Activation, State}
use Rattle.store_model.specs.Places.TypeForms.{adt_of, box_content, int_kind}
use Rattle.std.specs.Prelude.{option_and_then}

-- the number of the body that runs
abbrev pub running : List Activation → Option ℕ
running activations = option_map_or (λ a. Some a.body) (slice_get activations 0) None

-- the type of an operand
abbrev pub type_of : Setting → State → Operand → Option Ty
type_of setting w (Operand.Copied place) = ty_of_place setting w (site_of 0 place)
type_of setting w (Operand.Moved place) = ty_of_place setting w (site_of 0 place)
type_of setting w (Operand.Number value kind) = Some (Ty.Int kind)
type_of setting w (Operand.Truth value) = Some Ty.Bool
type_of setting w Operand.Unit = Some Ty.Unit

-- the integer type of an operand
abbrev pub kind_of : Setting → State → Operand → Option IntKind
kind_of setting w operand = int_kind (type_of setting w operand)

-- the struct or enum that is in the box that an operand is
abbrev pub adt_in_box : Setting → State → Operand → Option ℕ
adt_in_box setting w operand =
    adt_of (option_and_then (type_at setting.items) (box_content (type_of setting w operand)))
