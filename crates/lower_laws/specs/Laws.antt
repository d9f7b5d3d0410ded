-- What is proved of the graphs of lowered programs.
use Rattle.std.specs.Prelude.{◌≡◌, ◌↔◌, ◌<◌, All, ℕ, IsTrue, List, [], ◌∷◌, ◌++◌, Some, length, slice_get}
use Rattle.mir_ty.specs.declared.ty.Ty.{Ty}
use Rattle.mir_ty.specs.AreItems.{types_in}
use Rattle.cfg_graph.specs.WellFormed.Faults.{item_faults, own_faults, end_faults, ArePartsFirst, IsWellFormed}
use Rattle.typed_tree.specs.Tree.{BodyTree, ProgramTree}
use Rattle.well_typed.specs.Program.{WellTyped}
use Rattle.lower_rules.specs.Lower.{body_of, graph_of}
use Rattle.lower_laws.specs.Lines.{LocalsHaveNoFault, LinesHaveNoFault}
use Rattle.lower_laws.specs.Lowerable.{are_parts_first, IsLowerable, is_lowerable}

-- the test tells exactly which programs are lowerable
abbrev pub TestTells : Type 0
TestTells = (p : ProgramTree) → IsLowerable p ↔ IsTrue (is_lowerable p)

-- the test of the order of types tells exactly where the types in each type have lower numbers, and a table to whose
-- end a type of types in it is added keeps it
abbrev pub OrderIsTested : Type 0
OrderIsTested = (types : List Ty) → IsTrue (are_parts_first 0 types) ↔ ArePartsFirst types

abbrev pub InternedStandsLast : Type 0
InternedStandsLast =
    (types : List Ty) (ty : Ty) → IsTrue (are_parts_first 0 types) → All (λ id. id.0 < length types) (types_in ty) →
    IsTrue (are_parts_first 0 (types ++ ty ∷ []))

-- Of a program that is well typed and lowerable: no line of an item has a fault,
abbrev pub ItemsHaveNoFault : Type 0
ItemsHaveNoFault = (p : ProgramTree) → WellTyped p → IsLowerable p → item_faults (graph_of p) ≡ []

-- nor the own line of a body, with its head, its name and its locals,
abbrev pub HeadsHaveNoFault : Type 0
HeadsHaveNoFault =
    (p : ProgramTree) → WellTyped p → IsLowerable p → (n : ℕ) (tree : BodyTree) → slice_get p.bodies n ≡ Some tree →
    own_faults (graph_of p) n (body_of p.items tree) ≡ []

-- nor a local,
abbrev pub NoLocalHasAFault : Type 0
NoLocalHasAFault =
    (p : ProgramTree) → WellTyped p → IsLowerable p → (n : ℕ) (tree : BodyTree) → slice_get p.bodies n ≡ Some tree →
    LocalsHaveNoFault p.items (length p.bodies) (body_of p.items tree)

-- nor a statement or a terminator;
abbrev pub NoLineHasAFault : Type 0
NoLineHasAFault =
    (p : ProgramTree) → WellTyped p → IsLowerable p → (n : ℕ) (tree : BodyTree) → slice_get p.bodies n ≡ Some tree →
    LinesHaveNoFault p.items (length p.bodies) (body_of p.items tree)

-- there is a `main`;
abbrev pub MainIsThere : Type 0
MainIsThere = (p : ProgramTree) → WellTyped p → end_faults (graph_of p) ≡ []

-- and so its graph is well formed.
abbrev pub GraphsAreWellFormed : Type 0
GraphsAreWellFormed = (p : ProgramTree) → WellTyped p → IsLowerable p → IsWellFormed (graph_of p)
