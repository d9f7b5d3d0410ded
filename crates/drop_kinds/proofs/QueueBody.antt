-- The raw body of a step of a job queue, which takes a slot and gives one back, as the lowering gives it.
use Rattle.std.proofs.Common.{ℕ, true, false, List, [], ◌∷◌, Some, None}
use Rattle.std.specs.Prelude.{pos}
use Rattle.mir_base.specs.declared.int_kind.IntKind.{IntKind}
use Rattle.mir_base.specs.declared.operator.Cmp.{Cmp}
use Rattle.mir_base.specs.declared.trace.Why.{Why}
use Rattle.mir_ty.specs.declared.ty.Ty.{Ty}
use Rattle.mir_ty.specs.declared.ty.TyId.{TyId}
use Rattle.mir_ty.specs.ItemTable.{ItemTable}
use Rattle.cfg_graph.specs.declared.graph.Block.{Block}
use Rattle.cfg_graph.specs.declared.graph.Body.{Body}
use Rattle.cfg_graph.specs.declared.graph.Kind.{Kind}
use Rattle.cfg_graph.specs.declared.place.Operand.{Operand}
use Rattle.cfg_graph.specs.declared.place.Place as graph
use Rattle.cfg_graph.specs.declared.place.Step as graph_step
use Rattle.cfg_graph.specs.declared.statement.Stmt.{Stmt}
use Rattle.cfg_graph.specs.declared.terminator.Term.{Term}
use Rattle.cfg_graph.specs.declared.terminator.Unwind.{Unwind}

abbrev pub ty_no : ℕ → TyId
ty_no k = record { 0 = k }

-- enum Slot { Free, Ready (Box<dyn Job>), Done (i32) } and trait Job { cost, run }; i32 | () | bool | Slot | dyn Job
-- | Box<dyn Job> | &dyn Job | &mut dyn Job
abbrev pub items : ItemTable
items = record {
  types = Ty.Int IntKind.I32 ∷ Ty.Unit ∷ Ty.Bool ∷ Ty.Adt 0 ∷ Ty.Dyn 0 ∷ Ty.Boxed (ty_no 4) ∷ Ty.Shared (ty_no 4)
      ∷ Ty.Unique (ty_no 4) ∷ [];
  adts = (record {
    name = [];
    is_enum = true;
    copy = false;
    drop_body = None;
    variants = (record { name = []; fields = []; field_names = [] })
        ∷ (record { name = []; fields = ty_no 5 ∷ []; field_names = [] ∷ [] })
        ∷ (record { name = []; fields = ty_no 0 ∷ []; field_names = [] ∷ [] }) ∷ [];
  })
      ∷ [];
  traits = (record {
    name = [];
    methods = (record { name = []; params = ty_no 6 ∷ []; result = ty_no 0 })
        ∷ (record { name = []; params = ty_no 7 ∷ ty_no 0 ∷ []; result = ty_no 2 }) ∷ [];
  })
      ∷ [];
  impls = [];
  closures = [];
  bodies = [];
}

abbrev pub local : ℕ → graph.Place
local n = record { local = n; steps = [] }

abbrev part_of : ℕ → List graph_step.Step → graph.Place
part_of n steps = record { local = n; steps = steps }

abbrev plain : (rank : ℕ) → List Stmt → Term → Block
plain rank stmts term = record { kind = Kind.Plain; rank = rank; stmts = stmts; term = term }

abbrev unwinding : (rank : ℕ) → List Stmt → Term → Block
unwinding rank stmts term = record { kind = Kind.Cleanup; rank = rank; stmts = stmts; term = term }

-- fn step(slot: Slot, turn: i32) -> Slot {
--     match slot {
--         Slot::Ready(mut job) => {
--             if job.cost() > 3 { return Slot::Free; }
--             if job.run(turn) { return Slot::Done(turn); }
--             Slot::Ready(job)
--         }
--         other => other,
--     }
-- }
abbrev pub step : Body
step = record {
  params = 2;
  locals = ty_no 3 ∷ ty_no 3 ∷ ty_no 0 ∷ ty_no 5 ∷ ty_no 1 ∷ ty_no 2 ∷ ty_no 0 ∷ ty_no 6 ∷ ty_no 0 ∷ ty_no 1 ∷ ty_no 2
      ∷ ty_no 7 ∷ ty_no 0 ∷ ty_no 0 ∷ ty_no 5 ∷ ty_no 3 ∷ [];
  blocks = plain 27 (Stmt.Touch (local 1) ∷ []) (Term.Case (local 1) 1 26 10)
      ∷ plain 1 [] Term.Return
      ∷ plain 2 [] (Term.Goto 1)
      ∷ unwinding 3 [] Term.Resume
      ∷ unwinding 4 [] (Term.DropAt (local 0) 3 Unwind.Abort)
      ∷ plain 5 [] (Term.DropAt (local 1) 2 (Unwind.Block 4))
      ∷ unwinding 6 [] (Term.DropAt (local 1) 4 Unwind.Abort)
      ∷ plain 7 [] (Term.Panic Why.Match (Unwind.Block 6))
      ∷ plain 8 [] (Term.Goto 5)
      ∷ plain 9
      (Stmt.Put (local 15) (Operand.Moved (local 1))
      ∷ Stmt.Put (local 0) (Operand.Moved (local 15))
      ∷ [])
      (Term.DropAt (local 15) 8 (Unwind.Block 6))
      ∷ plain 10 [] (Term.Goto 9)
      ∷ plain 11 [] (Term.Goto 5)
      ∷ plain 12
      (Stmt.Put (local 14) (Operand.Moved (local 3))
      ∷ Stmt.Make (local 0) 0 1 (Operand.Moved (local 14) ∷ [])
      ∷ [])
      (Term.DropAt (local 3) 11 (Unwind.Block 6))
      ∷ plain 13 (Stmt.Put (local 9) Operand.Unit ∷ []) (Term.Goto 12)
      ∷ plain 14 [] (Term.Goto 1)
      ∷ plain 15 [] (Term.DropAt (local 1) 14 (Unwind.Block 4))
      ∷ plain 16
      (Stmt.Put (local 13) (Operand.Copied (local 2))
      ∷ Stmt.Make (local 0) 0 2 (Operand.Moved (local 13) ∷ [])
      ∷ [])
      (Term.DropAt (local 3) 15 (Unwind.Block 6))
      ∷ plain 17 [] (Term.If (Operand.Moved (local 10)) 16 13)
      ∷ unwinding 18 [] (Term.DropAt (local 3) 6 Unwind.Abort)
      ∷ plain 19
      (Stmt.Borrow (local 11) true (part_of 3 (graph_step.Step.Inside ∷ []))
      ∷ Stmt.Put (local 12) (Operand.Copied (local 2))
      ∷ [])
      (Term.Virtual (local 10) 0 1 (Operand.Moved (local 11) ∷ Operand.Moved (local 12) ∷ []) 17 (Unwind.Block 18))
      ∷ plain 20 (Stmt.Put (local 4) Operand.Unit ∷ []) (Term.Goto 19)
      ∷ plain 21 [] (Term.Goto 1)
      ∷ plain 22 [] (Term.DropAt (local 1) 21 (Unwind.Block 4))
      ∷ plain 23 (Stmt.Make (local 0) 0 0 [] ∷ []) (Term.DropAt (local 3) 22 (Unwind.Block 6))
      ∷ plain 24
      (Stmt.Put (local 8) (Operand.Number (pos 3) IntKind.I32)
      ∷ Stmt.Compare (local 5) Cmp.Gt (Operand.Moved (local 6)) (Operand.Moved (local 8))
      ∷ [])
      (Term.If (Operand.Moved (local 5)) 23 20)
      ∷ plain 25
      (Stmt.Put (local 3) (Operand.Moved (part_of 1 (graph_step.Step.Field 1 0 ∷ [])))
      ∷ Stmt.Borrow (local 7) false (part_of 3 (graph_step.Step.Inside ∷ []))
      ∷ [])
      (Term.Virtual (local 6) 0 0 (Operand.Moved (local 7) ∷ []) 24 (Unwind.Block 18))
      ∷ plain 26 [] (Term.Goto 25)
      ∷ [];
}
