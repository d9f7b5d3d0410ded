-- What holds of well typed programs.
use Rattle.std.specs.Prelude.{◌↔◌, IsTrue, Contains}
use Rattle.mir_ty.specs.AreItems.{AreDistinct}
use Rattle.mir_ty.specs.Parts.{NoneHoldsItself}
use Rattle.typed_tree.specs.Tree.{ProgramTree, BodyTree, IsProgram}
use Rattle.typed_tree.specs.Nodes.{HasDistinctNumbers}
use Rattle.well_typed.specs.Program.{WellTyped, is_well_typed}

-- the test tells exactly which programs are well typed
abbrev pub TestTells : Type 0
TestTells = (p : ProgramTree) → WellTyped p ↔ IsTrue (is_well_typed p)

-- no two nodes of a body have one number
abbrev pub NumbersDiffer : Type 0
NumbersDiffer = (p : ProgramTree) (body : BodyTree) → WellTyped p → Contains p.bodies body → HasDistinctNumbers body

-- no type of a well typed program holds itself but through a box, equal types have one number, and `bool` and `()` are
-- among the types
abbrev pub AreFinite : Type 0
AreFinite = (p : ProgramTree) → WellTyped p → NoneHoldsItself p.items

abbrev pub TypesDiffer : Type 0
TypesDiffer = (p : ProgramTree) → WellTyped p → AreDistinct p.items.types

abbrev pub ArePrograms : Type 0
ArePrograms = (p : ProgramTree) → WellTyped p → IsProgram p
