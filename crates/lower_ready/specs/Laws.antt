-- What the law of prepared graphs says, fact by fact (`IsPrepared` of `cfg_graph`): of the raw graph of a program that is
-- well typed and lowerable; the last fact also asks that it breaks no rule of borrows.
use Rattle.std.specs.Prelude.{◌≡◌, ℕ, Bool, true, List, Some, None, slice_get, Contains}
use Rattle.cfg_graph.specs.declared.graph.Body.{Body}
use Rattle.cfg_graph.specs.Moves.Actions.{actions_on}
use Rattle.cfg_graph.specs.Moves.Paths.{IsPath}
use Rattle.cfg_graph.specs.NamedPlaces.{keeps_named}
use Rattle.cfg_graph.specs.Ready.{IsPrepared, begins_once, frees_nothing, moves_well, references_in_locals, references_stand_alone, refills_dropped}
use Rattle.mir_ty.specs.declared.ty.Ty.{Ty}
use Rattle.mir_ty.specs.ItemTable.{ItemTable}
use Rattle.typed_tree.specs.Tree.{BodyTree, ProgramTree}
use Rattle.typing_rules.specs.Borrows.{broken_borrow}
use Rattle.well_typed.specs.Program.{WellTyped}
use Rattle.lower_laws.specs.Lowerable.{IsLowerable}
use Rattle.lower_rules.specs.Lower.{body_of, graph_of}

-- something holds of each raw body of such a program, among its items
abbrev pub OfEachBody : (ItemTable → Body → Type 0) → Type 0
OfEachBody P =
    (p : ProgramTree) → WellTyped p → IsLowerable p → (n : ℕ) (tree : BodyTree) →
    slice_get p.bodies n ≡ Some tree → P p.items (body_of p.items tree)

-- the types have `bool`, of which drop flags are
abbrev pub TypesHaveBool : Type 0
TypesHaveBool = (p : ProgramTree) → WellTyped p → Contains (graph_of p).items.types Ty.Bool

-- no reference type stands in another type, in a field, a capture or a result
abbrev pub ReferencesStandAlone : Type 0
ReferencesStandAlone = (p : ProgramTree) → WellTyped p → references_stand_alone (graph_of p).items ≡ true

-- no statement frees a box
abbrev pub FreeNothing : Type 0
FreeNothing = OfEachBody (λ items body. frees_nothing body ≡ true)

-- no edge leads back to the block in which a body begins
abbrev pub BeginOnce : Type 0
BeginOnce = OfEachBody (λ items body. begins_once body ≡ true)

-- a value is moved out only where its place may be left gone
abbrev pub MovesAreWell : Type 0
MovesAreWell = OfEachBody (λ items body. moves_well items body ≡ true)

-- a place that may not be left gone gets a value again as soon as it is dropped
abbrev pub DropsAreRefilled : Type 0
DropsAreRefilled = OfEachBody (λ items body. refills_dropped items body ≡ true)

-- a local of a reference type is a parameter, which is not stored into, or one whose reference is made by one statement
-- and by nothing else, or one that no line names
abbrev pub ReferencesAreWell : Type 0
ReferencesAreWell = OfEachBody (λ items body. references_in_locals items body ≡ true)

-- on no path is what a reference in a local names taken between its making and a use of it
abbrev pub NamedStays : Type 0
NamedStays =
    (p : ProgramTree) → WellTyped p → IsLowerable p → broken_borrow p ≡ None → (n : ℕ) (tree : BodyTree) →
    slice_get p.bodies n ≡ Some tree → (path : List ℕ) (given : List Bool) (local : ℕ) →
    IsPath p.items (body_of p.items tree) path given →
    keeps_named (body_of p.items tree) (actions_on (body_of p.items tree) path) local ≡ true

-- so the graph of such a program is prepared
abbrev pub GraphsArePrepared : Type 0
GraphsArePrepared =
    (p : ProgramTree) → WellTyped p → IsLowerable p → broken_borrow p ≡ None → IsPrepared (graph_of p)
