-- Raw bodies of worked programs, as the lowering gives them: each shows one thing that drops have to look at.
use Rattle.std.proofs.Common.{ℕ, true, false, List, [], ◌∷◌, Some, None}
use Rattle.std.specs.Prelude.{pos}
use Rattle.mir_base.specs.declared.int_kind.IntKind.{IntKind}
use Rattle.mir_base.specs.declared.operator.Cmp.{Cmp}
use Rattle.mir_base.specs.declared.trace.Why.{Why}
use Rattle.mir_ty.specs.declared.ty.Ty.{Ty}
use Rattle.mir_ty.specs.declared.ty.TyId.{TyId}
use Rattle.mir_ty.specs.ItemTable.{ItemTable}
use Rattle.cfg_graph.specs.declared.graph.Block.{Block}
use Rattle.cfg_graph.specs.declared.graph.Body.{Body}
use Rattle.cfg_graph.specs.declared.graph.Kind.{Kind}
use Rattle.cfg_graph.specs.declared.place.Operand.{Operand}
use Rattle.cfg_graph.specs.declared.place.Place as graph
use Rattle.cfg_graph.specs.declared.place.Step as graph_step
use Rattle.cfg_graph.specs.declared.statement.Stmt.{Stmt}
use Rattle.cfg_graph.specs.declared.terminator.Term.{Term}
use Rattle.cfg_graph.specs.declared.terminator.Unwind.{Unwind}

abbrev pub ty_no : ℕ → TyId
ty_no k = record { 0 = k }

-- struct D (i32), with a `Drop` impl, and enum J { None, One (D, i32) }; i32 | () | D | &mut D | bool | (D, D)
-- | Box<(D, D)> | J | Box<D> | (D, Box<D>); the bodies D::drop and take
abbrev pub items : ItemTable
items = record {
  types = Ty.Int IntKind.I32 ∷ Ty.Unit ∷ Ty.Adt 0 ∷ Ty.Unique (ty_no 2) ∷ Ty.Bool ∷ Ty.Tuple (ty_no 2 ∷ ty_no 2 ∷ [])
      ∷ Ty.Boxed (ty_no 5) ∷ Ty.Adt 1 ∷ Ty.Boxed (ty_no 2) ∷ Ty.Tuple (ty_no 2 ∷ ty_no 8 ∷ []) ∷ [];
  adts = (record {
    name = [];
    is_enum = false;
    copy = false;
    drop_body = Some 0;
    variants = (record { name = []; fields = ty_no 0 ∷ []; field_names = [] ∷ [] }) ∷ [];
  })
      ∷ (record {
        name = [];
        is_enum = true;
        copy = false;
        drop_body = None;
        variants = (record { name = []; fields = []; field_names = [] })
            ∷ (record { name = []; fields = ty_no 2 ∷ ty_no 0 ∷ []; field_names = [] ∷ [] ∷ [] }) ∷ [];
      })
      ∷ [];
  traits = [];
  impls = [];
  closures = [];
  bodies = (record { name = []; params = ty_no 3 ∷ []; result = ty_no 1 })
      ∷ (record { name = []; params = ty_no 2 ∷ []; result = ty_no 1 }) ∷ [];
}

abbrev pub local : ℕ → graph.Place
local n = record { local = n; steps = [] }

abbrev part_of : ℕ → List graph_step.Step → graph.Place
part_of n steps = record { local = n; steps = steps }

abbrev plain : (rank : ℕ) → List Stmt → Term → Block
plain rank stmts term = record { kind = Kind.Plain; rank = rank; stmts = stmts; term = term }

abbrev unwinding : (rank : ℕ) → List Stmt → Term → Block
unwinding rank stmts term = record { kind = Kind.Cleanup; rank = rank; stmts = stmts; term = term }

-- fn p((x, _): (D, D), (_, y): (D, D)) {}
abbrev pub parts_of_parameters : Body
parts_of_parameters = record {
  params = 2;
  locals = ty_no 1 ∷ ty_no 5 ∷ ty_no 5 ∷ ty_no 2 ∷ ty_no 2 ∷ [];
  blocks = plain 10
      (Stmt.Put (local 3) (Operand.Moved (part_of 1 (graph_step.Step.Part 0 ∷ [])))
      ∷ Stmt.Put (local 4) (Operand.Moved (part_of 2 (graph_step.Step.Part 1 ∷ [])))
      ∷ Stmt.Put (local 0) Operand.Unit
      ∷ [])
      (Term.DropAt (local 4) 8 (Unwind.Block 9))
      ∷ plain 1 [] Term.Return
      ∷ plain 2 [] (Term.Goto 1)
      ∷ plain 3 [] (Term.DropAt (local 1) 2 Unwind.Resume)
      ∷ unwinding 4 [] Term.Resume
      ∷ unwinding 5 [] (Term.DropAt (local 1) 4 Unwind.Abort)
      ∷ plain 6 [] (Term.DropAt (local 3) 3 (Unwind.Block 5))
      ∷ unwinding 7 [] (Term.DropAt (local 3) 5 Unwind.Abort)
      ∷ plain 8 [] (Term.DropAt (local 2) 6 (Unwind.Block 7))
      ∷ unwinding 9 [] (Term.DropAt (local 2) 7 Unwind.Abort)
      ∷ [];
}

-- fn f() { let x = D(1); if ask() == 0 { take(x); } }
abbrev pub moved_on_one_way : Body
moved_on_one_way = record {
  params = 0;
  locals = ty_no 1 ∷ ty_no 2 ∷ ty_no 0 ∷ ty_no 4 ∷ ty_no 0 ∷ ty_no 0 ∷ ty_no 1 ∷ ty_no 2 ∷ [];
  blocks = plain 10
      (Stmt.Put (local 2) (Operand.Number (pos 1) IntKind.I32)
      ∷ Stmt.Make (local 1) 0 0 (Operand.Moved (local 2) ∷ [])
      ∷ [])
      (Term.Ask (local 4) 9 (Unwind.Block 7))
      ∷ plain 1 [] Term.Return
      ∷ plain 2 [] (Term.Goto 1)
      ∷ plain 3 [] (Term.DropAt (local 1) 2 Unwind.Resume)
      ∷ plain 4 (Stmt.Put (local 0) Operand.Unit ∷ []) (Term.Goto 3)
      ∷ plain 5 (Stmt.Put (local 0) Operand.Unit ∷ []) (Term.Goto 3)
      ∷ unwinding 6 [] Term.Resume
      ∷ unwinding 7 [] (Term.DropAt (local 1) 6 Unwind.Abort)
      ∷ plain 8
      (Stmt.Put (local 7) (Operand.Moved (local 1))
      ∷ [])
      (Term.Call (local 6) 1 (Operand.Moved (local 7) ∷ []) 5 (Unwind.Block 7))
      ∷ plain 9
      (Stmt.Put (local 5) (Operand.Number (pos 0) IntKind.I32)
      ∷ Stmt.Compare (local 3) Cmp.Eq (Operand.Moved (local 4)) (Operand.Moved (local 5))
      ∷ [])
      (Term.If (Operand.Moved (local 3)) 8 4)
      ∷ [];
}

-- fn f() { let b = Box::new((D(1), D(2))); take(b.0); }
abbrev pub part_of_a_box : Body
part_of_a_box = record {
  params = 0;
  locals = ty_no 1 ∷ ty_no 6 ∷ ty_no 5 ∷ ty_no 2 ∷ ty_no 0 ∷ ty_no 2 ∷ ty_no 0 ∷ ty_no 1 ∷ ty_no 2 ∷ [];
  blocks = plain 6
      (Stmt.Put (local 4) (Operand.Number (pos 1) IntKind.I32)
      ∷ Stmt.Make (local 3) 0 0 (Operand.Moved (local 4) ∷ [])
      ∷ Stmt.Put (local 6) (Operand.Number (pos 2) IntKind.I32)
      ∷ Stmt.Make (local 5) 0 0 (Operand.Moved (local 6) ∷ [])
      ∷ Stmt.Tuple (local 2) (Operand.Moved (local 3) ∷ Operand.Moved (local 5) ∷ [])
      ∷ Stmt.NewBox (local 1) (Operand.Moved (local 2))
      ∷ Stmt.Put (local 8) (Operand.Moved (part_of 1 (graph_step.Step.Inside ∷ graph_step.Step.Part 0 ∷ [])))
      ∷ [])
      (Term.Call (local 7) 1 (Operand.Moved (local 8) ∷ []) 3 (Unwind.Block 5))
      ∷ plain 1 [] Term.Return
      ∷ plain 2 [] (Term.Goto 1)
      ∷ plain 3 (Stmt.Put (local 0) Operand.Unit ∷ []) (Term.DropAt (local 1) 2 Unwind.Resume)
      ∷ unwinding 4 [] Term.Resume
      ∷ unwinding 5 [] (Term.DropAt (local 1) 4 Unwind.Abort)
      ∷ [];
}

-- fn f() { let j = J::One(D(1), 4); match j { J::One(d, n) if n == ask() => take(d), J::One(_, n) => print(n), ..
abbrev pub field_on_one_way : Body
field_on_one_way = record {
  params = 0;
  locals = ty_no 1 ∷ ty_no 7 ∷ ty_no 2 ∷ ty_no 0 ∷ ty_no 0 ∷ ty_no 2 ∷ ty_no 0 ∷ ty_no 4 ∷ ty_no 0 ∷ ty_no 0 ∷ ty_no 2
      ∷ ty_no 0 ∷ ty_no 0 ∷ [];
  blocks = plain 20
      (Stmt.Put (local 3) (Operand.Number (pos 1) IntKind.I32)
      ∷ Stmt.Make (local 2) 0 0 (Operand.Moved (local 3) ∷ [])
      ∷ Stmt.Put (local 4) (Operand.Number (pos 4) IntKind.I32)
      ∷ Stmt.Make (local 1) 1 1 (Operand.Moved (local 2) ∷ Operand.Moved (local 4) ∷ [])
      ∷ Stmt.Touch (local 1)
      ∷ [])
      (Term.Case (local 1) 1 19 12)
      ∷ plain 1 [] Term.Return
      ∷ plain 2 [] (Term.Goto 1)
      ∷ plain 3 [] (Term.DropAt (local 1) 2 Unwind.Resume)
      ∷ unwinding 4 [] Term.Resume
      ∷ unwinding 5 [] (Term.DropAt (local 1) 4 Unwind.Abort)
      ∷ plain 6 [] (Term.Panic Why.Match (Unwind.Block 5))
      ∷ plain 7 (Stmt.Put (local 0) Operand.Unit ∷ []) (Term.Goto 3)
      ∷ plain 8 [] (Term.Goto 7)
      ∷ plain 9 [] (Term.Case (local 1) 0 8 6)
      ∷ plain 10
      (Stmt.Put (local 11) (Operand.Copied (part_of 1 (graph_step.Step.Field 1 1 ∷ [])))
      ∷ Stmt.Put (local 12) (Operand.Copied (local 11))
      ∷ Stmt.Print (Operand.Moved (local 12))
      ∷ Stmt.Put (local 0) Operand.Unit
      ∷ [])
      (Term.Goto 3)
      ∷ plain 11 [] (Term.Goto 10)
      ∷ plain 12 [] (Term.Case (local 1) 1 11 9)
      ∷ plain 13 [] (Term.Goto 3)
      ∷ plain 14 [] (Term.DropAt (local 5) 13 (Unwind.Block 5))
      ∷ unwinding 15 [] (Term.DropAt (local 5) 5 Unwind.Abort)
      ∷ plain 16
      (Stmt.Put (local 5) (Operand.Moved (part_of 1 (graph_step.Step.Field 1 0 ∷ [])))
      ∷ Stmt.Put (local 6) (Operand.Copied (part_of 1 (graph_step.Step.Field 1 1 ∷ [])))
      ∷ Stmt.Put (local 10) (Operand.Moved (local 5))
      ∷ [])
      (Term.Call (local 0) 1 (Operand.Moved (local 10) ∷ []) 14 (Unwind.Block 15))
      ∷ plain 17
      (Stmt.Compare (local 7) Cmp.Eq (Operand.Moved (local 8)) (Operand.Moved (local 9))
      ∷ [])
      (Term.If (Operand.Moved (local 7)) 16 12)
      ∷ plain 18
      (Stmt.Put (local 8) (Operand.Copied (part_of 1 (graph_step.Step.Field 1 1 ∷ [])))
      ∷ [])
      (Term.Ask (local 9) 17 (Unwind.Block 5))
      ∷ plain 19 [] (Term.Goto 18)
      ∷ [];
}

-- fn f() { forget((D(1), Box::new(D(2)))); }
abbrev pub forgotten : Body
forgotten = record {
  params = 0;
  locals = ty_no 1 ∷ ty_no 1 ∷ ty_no 9 ∷ ty_no 2 ∷ ty_no 0 ∷ ty_no 8 ∷ ty_no 2 ∷ ty_no 0 ∷ [];
  blocks = plain 2
      (Stmt.Put (local 4) (Operand.Number (pos 1) IntKind.I32)
      ∷ Stmt.Make (local 3) 0 0 (Operand.Moved (local 4) ∷ [])
      ∷ Stmt.Put (local 7) (Operand.Number (pos 2) IntKind.I32)
      ∷ Stmt.Make (local 6) 0 0 (Operand.Moved (local 7) ∷ [])
      ∷ Stmt.NewBox (local 5) (Operand.Moved (local 6))
      ∷ Stmt.Tuple (local 2) (Operand.Moved (local 3) ∷ Operand.Moved (local 5) ∷ [])
      ∷ Stmt.Forget (Operand.Moved (local 2))
      ∷ Stmt.Put (local 1) Operand.Unit
      ∷ Stmt.Put (local 0) Operand.Unit
      ∷ [])
      (Term.Goto 1)
      ∷ plain 1 [] Term.Return
      ∷ [];
}
