-- `Drop` bodies that change what is being dropped, through a reference that their value holds: a box that was stored
-- meanwhile is freed under its own serial number, and a place is found again as its type though a trait object stands
-- there then.
use Rattle.std.proofs.Common.{◌≡◌, refl, [], ◌∷◌}
use Rattle.std.specs.Prelude.{List, Some, None, true, false, codes}
use Rattle.cfg_graph.specs.declared.graph.Body.{Body}
use Rattle.cfg_graph.specs.declared.graph.Graph.{Graph}
use Rattle.cfg_graph.specs.declared.graph.Kind.{Kind}
use Rattle.cfg_graph.specs.declared.place.Operand.{Operand}
use Rattle.cfg_graph.specs.declared.place.Place.{Place}
use Rattle.cfg_graph.specs.declared.place.Step.{Step}
use Rattle.cfg_graph.specs.declared.statement.Stmt.{Stmt}
use Rattle.cfg_graph.specs.declared.terminator.Term.{Term}
use Rattle.cfg_graph.specs.declared.terminator.Unwind.{Unwind}
use Rattle.cfg_graph.specs.WellFormed.Faults.{IsWellFormed}
use Rattle.cfg_meaning.proofs.Examples.Words.{unit, block, body, at, within, ty_no, variant, struct, head}
use Rattle.cfg_meaning.specs.Programs.{graph_run}
use Rattle.mir_base.specs.declared.int_kind.IntKind.{IntKind}
use Rattle.mir_base.specs.declared.trace.End.{End}
use Rattle.mir_base.specs.declared.trace.Event.TheVariants.{Call as call, Return as return, Make as make, Boxed as box, Dropped as drop, Freed as free}
use Rattle.mir_ty.specs.declared.ty.Ty.{Ty}
use Rattle.mir_ty.specs.declared.ty.TyId.{TyId}
use Rattle.mir_ty.specs.ItemTable.{ItemTable}

-- `S` holds a reference to a slot, and a slot is empty or has a box of `S` or of a trait object
abbrev s_ty : TyId
s_ty = ty_no 2

abbrev slot_ty : TyId
slot_ty = ty_no 3

abbrev unique_slot_ty : TyId
unique_slot_ty = ty_no 4

abbrev boxed_ty : TyId
boxed_ty = ty_no 5

abbrev dyn_ty : TyId
dyn_ty = ty_no 6

abbrev object_ty : TyId
object_ty = ty_no 7

abbrev unique_s_ty : TyId
unique_s_ty = ty_no 8

abbrev items : ItemTable
items = record {
  types = Ty.Int IntKind.I32 ∷ Ty.Unit ∷ Ty.Adt 0 ∷ Ty.Adt 1 ∷ Ty.Unique slot_ty ∷ Ty.Boxed s_ty ∷ Ty.Dyn 0
      ∷ Ty.Boxed dyn_ty ∷ Ty.Unique s_ty ∷ [];
  adts =
      struct (codes "S") (unique_slot_ty ∷ []) (Some 0)
      ∷ (record {
        name = codes "Slot";
        is_enum = true;
        variants = variant (codes "Empty") [] ∷ variant (codes "Boxed") (boxed_ty ∷ [])
            ∷ variant (codes "Object") (object_ty ∷ []) ∷ [];
        copy = false;
        drop_body = None;
      })
      ∷ [];
  traits = (record { name = codes "T"; methods = [] }) ∷ [];
  impls = (record { trait_no = 0; adt = 0; bodies = [] }) ∷ [];
  closures = [];
  bodies = head (codes "S::drop") (unique_s_ty ∷ []) unit ∷ head (codes "main") [] unit ∷ [];
}

-- the slot that a value in this place names
abbrev named_slot : Place
named_slot = within 1 (Step.Inside ∷ Step.Part 0 ∷ Step.Inside ∷ [])

-- the `Drop` body of `S` stores a box with another `S` in the slot
abbrev stores_box : Body
stores_box = body 1 (unit ∷ unique_s_ty ∷ s_ty ∷ boxed_ty ∷ [])
    (block Kind.Plain 0
    (Stmt.Make (at 2) 0 0 (Operand.Copied (within 1 (Step.Inside ∷ Step.Part 0 ∷ [])) ∷ [])
    ∷ Stmt.NewBox (at 3) (Operand.Moved (at 2))
    ∷ Stmt.Make named_slot 1 1 (Operand.Moved (at 3) ∷ [])
    ∷ Stmt.Put (at 0) Operand.Unit ∷ []) Term.Return ∷ [])

-- it stores the box as one of a trait object
abbrev stores_object : Body
stores_object = body 1 (unit ∷ unique_s_ty ∷ s_ty ∷ boxed_ty ∷ object_ty ∷ [])
    (block Kind.Plain 0
    (Stmt.Make (at 2) 0 0 (Operand.Copied (within 1 (Step.Inside ∷ Step.Part 0 ∷ [])) ∷ [])
    ∷ Stmt.NewBox (at 3) (Operand.Moved (at 2))
    ∷ Stmt.Unsize (at 4) 0 (Operand.Moved (at 3))
    ∷ Stmt.Make named_slot 1 2 (Operand.Moved (at 4) ∷ [])
    ∷ Stmt.Put (at 0) Operand.Unit ∷ []) Term.Return ∷ [])

-- a slot gets a box with an `S` that names the slot, and a place in it is dropped
abbrev main : List Step → Body
main steps = body 0 (unit ∷ slot_ty ∷ unique_slot_ty ∷ s_ty ∷ boxed_ty ∷ [])
    (block Kind.Plain 1
    (Stmt.Make (at 1) 1 0 []
    ∷ Stmt.Borrow (at 2) true (at 1)
    ∷ Stmt.Make (at 3) 0 0 (Operand.Copied (at 2) ∷ [])
    ∷ Stmt.NewBox (at 4) (Operand.Moved (at 3))
    ∷ Stmt.Make (at 1) 1 1 (Operand.Moved (at 4) ∷ []) ∷ []) (Term.DropAt (within 1 steps) 1 Unwind.Resume)
    ∷ block Kind.Plain 0 (Stmt.Put (at 0) Operand.Unit ∷ []) Term.Return ∷ [])

abbrev of : Body → List Step → Graph
of drop_body steps = record { items = items; bodies = drop_body ∷ main steps ∷ [] }

abbrev the_slot : List Step
the_slot = []

abbrev the_content : List Step
the_content = Step.Field 1 0 ∷ Step.Inside ∷ []

they_are_well_formed : IsWellFormed (of stores_box the_slot) × IsWellFormed (of stores_object the_content)
they_are_well_formed = (refl, refl)

the_box_that_stands_there_is_freed : graph_run (of stores_box the_slot) [] 100
    ≡ (call 1 ∷ make 0 1 ∷ box 2 ∷ drop 0 1 ∷ make 0 3 ∷ box 4 ∷ return 0 ∷ free 4 ∷ return 1 ∷ [], End.Returned)
the_box_that_stands_there_is_freed = refl

the_content_is_found_in_a_trait_object : graph_run (of stores_object the_content) [] 100
    ≡ (call 1 ∷ make 0 1 ∷ box 2 ∷ drop 0 1 ∷ make 0 3 ∷ box 4 ∷ return 0 ∷ return 1 ∷ [], End.Returned)
the_content_is_found_in_a_trait_object = refl

-- the box itself has lost its place: one of another type stands there
the_box_is_not_found : graph_run (of stores_object the_slot) [] 100
    ≡ (call 1 ∷ make 0 1 ∷ box 2 ∷ drop 0 1 ∷ make 0 3 ∷ box 4 ∷ return 0 ∷ [], End.Stuck 1 0)
the_box_is_not_found = refl
