-- The names of items, by which the lines of a trace are written.
use Rattle.std.specs.Prelude.{ℕ, ◌<◌, List, [], Option, Some, None, length, slice_get, ⊤}
use Rattle.mir_base.specs.declared.trace.Event.{Event}
use Rattle.mir_base.specs.declared.trace.End.{End}
use Rattle.mir_base.specs.Lines as lines
use Rattle.mir_base.specs.Trace.{Trace}
use Rattle.mir_ty.specs.declared.adt.Adt.{Adt}
use Rattle.mir_ty.specs.declared.def.Sig.{Sig}
use Rattle.mir_ty.specs.ItemTable.{ItemTable}

-- the name of a body, of a struct or of an enum; without letters where it is not in the table
abbrev pub sig_name : Option Sig → List ℕ
sig_name None = []
sig_name (Some sig) = sig.name

abbrev pub name_of_adt : Option Adt → List ℕ
name_of_adt None = []
name_of_adt (Some adt) = adt.name

abbrev pub body_name : ItemTable → ℕ → List ℕ
body_name items n = sig_name (slice_get items.bodies n)

abbrev pub adt_name : ItemTable → ℕ → List ℕ
adt_name items n = name_of_adt (slice_get items.adts n)

-- the line of an event, with the names of these items
abbrev pub line_of : ItemTable → Event → List ℕ
line_of items event = lines.event_line (body_name items) (adt_name items) event

-- the bodies, structs and enums of an event are in the items
abbrev pub IsEventOf : ItemTable → Event → Type 0
IsEventOf items (Event.Call body) = body < length items.bodies
IsEventOf items (Event.Return body) = body < length items.bodies
IsEventOf items (Event.Unwind body) = body < length items.bodies
IsEventOf items (Event.Make adt serial) = adt < length items.adts
IsEventOf items (Event.Dropped adt serial) = adt < length items.adts
IsEventOf items (Event.ForgotMade adt serial) = adt < length items.adts
IsEventOf items _ = ⊤

-- the text of a trace and its end, with the names of these items
abbrev pub text_of : ItemTable → Trace → End → List ℕ
text_of items trace end = lines.text_of (body_name items) (adt_name items) trace end
