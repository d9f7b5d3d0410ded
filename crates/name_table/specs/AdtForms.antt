-- Structs and enums as they are written.
use Rattle.std.specs.Prelude.{Option, Some, None}
use Rattle.name_table.specs.declared.derives.AdtForm.{AdtForm}
use Rattle.name_table.specs.Forms.{Adt_}
use Rattle.src_ast.specs.Seen.{nodes_of}
use Rattle.src_ast.specs.View.{idents}

abbrev pub adt_seen : Option AdtForm → Option Adt_
adt_seen None = None
adt_seen (Some adt) = Some (adt.at, idents (nodes_of adt.derives))
