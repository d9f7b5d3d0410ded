-- Graphs without a fault: the short listing, and the larger graph with each form of statement and terminator.
use Rattle.std.proofs.Common.{◌≡◌, refl, [], ◌∷◌, pos}
use Rattle.std.specs.Prelude.{true, false}
use Rattle.mir_base.specs.declared.int_kind.IntKind.{IntKind}
use Rattle.mir_base.specs.declared.operator.Cmp.{Cmp}
use Rattle.mir_base.specs.declared.operator.Math.{Math}
use Rattle.mir_base.specs.declared.trace.Why.{Why}
use Rattle.cfg_graph.specs.declared.place.Step.{Step}
use Rattle.cfg_graph.specs.declared.place.Operand.{Operand}
use Rattle.cfg_graph.specs.declared.statement.Stmt.{Stmt}
use Rattle.cfg_graph.specs.declared.terminator.Term.{Term}
use Rattle.cfg_graph.specs.declared.terminator.Unwind.{Unwind}
use Rattle.cfg_graph.specs.declared.graph.Kind.{Kind}
use Rattle.cfg_graph.specs.WellFormed.Faults.{faults}
use Rattle.cfg_graph.proofs.Examples.Graphs.{short, with_block, with_main, id, var, along, seven, make_d, plain, block}

short_has_no_fault : faults short ≡ []
short_has_no_fault = refl

-- locals: result, D, i32, bool, (D, D), [D; 2], E, closure, Box<D>, Box<dyn Show>, &D, usize
every_statement : faults (with_block
    (id 2 ∷ id 1 ∷ id 0 ∷ id 4 ∷ id 10 ∷ id 11 ∷ id 12 ∷ id 14 ∷ id 6 ∷ id 8 ∷ id 15 ∷ id 5 ∷ [])
    (make_d 1
    ∷ Stmt.Put (var 2) seven
    ∷ Stmt.Compare (var 3) Cmp.Lt (Operand.Copied (var 2)) seven
    ∷ Stmt.Compare (var 3) Cmp.Eq (Operand.Copied (var 3)) (Operand.Truth true)
    ∷ Stmt.Not (var 3) (Operand.Copied (var 3))
    ∷ Stmt.Tuple (var 4) (Operand.Moved (var 1) ∷ Operand.Moved (var 1) ∷ [])
    ∷ Stmt.Array (var 5) (Operand.Moved (var 1) ∷ Operand.Moved (along 4 (Step.Part 1 ∷ [])) ∷ [])
    ∷ Stmt.Make (var 6) 1 0 (Operand.Moved (var 1) ∷ [])
    ∷ Stmt.Make (var 6) 1 1 []
    ∷ Stmt.Close (var 7) 0 (seven ∷ [])
    ∷ Stmt.NewBox (var 8) (Operand.Moved (along 6 (Step.Field 0 0 ∷ [])))
    ∷ Stmt.Unsize (var 9) 0 (Operand.Moved (var 8))
    ∷ Stmt.Borrow (var 10) false (along 8 (Step.Inside ∷ []))
    ∷ Stmt.Touch (along 9 (Step.Inside ∷ []))
    ∷ Stmt.Print (Operand.Copied (along 10 (Step.Inside ∷ Step.Part 0 ∷ [])))
    ∷ Stmt.Put (var 11) (Operand.Number (pos 1) IntKind.Usize)
    ∷ Stmt.Forget (Operand.Moved (along 5 (Step.Index 11 ∷ [])))
    ∷ Stmt.Free (var 8) ∷ [])
    (Term.Goto 1)) ≡ []
every_statement = refl

-- locals: result, i32, bool, E, usize, Box<dyn Show>, &dyn Show, !
every_terminator : faults (with_main
    (id 2 ∷ id 0 ∷ id 4 ∷ id 12 ∷ id 5 ∷ id 8 ∷ id 9 ∷ id 13 ∷ [])
    (plain 10 [] (Term.If (Operand.Copied (var 2)) 1 12)
    ∷ plain 9 [] (Term.Case (var 3) 1 2 3)
    ∷ block Kind.Turn 9 [] (Term.Math (var 1) Math.Add (Operand.Copied (var 1)) seven 3 (Unwind.Block 13))
    ∷ plain 8 [] (Term.Negate (var 1) seven 4 Unwind.Resume)
    ∷ plain 7 [] (Term.Bounds (Operand.Copied (var 4)) 2 5 (Unwind.Block 13))
    ∷ plain 6 [] (Term.Ask (var 1) 6 Unwind.Abort)
    ∷ plain 5 (Stmt.Borrow (var 6) false (along 5 (Step.Inside ∷ [])) ∷ [])
    (Term.Virtual (var 0) 0 0 (Operand.Copied (var 6) ∷ []) 7 (Unwind.Block 13))
    ∷ plain 4 [] (Term.DropAt (var 5) 8 (Unwind.Block 13))
    ∷ plain 3 [] (Term.Call (var 0) 1 [] 9 (Unwind.Block 13))
    ∷ plain 2 [] (Term.Call (var 7) 4 [] 10 (Unwind.Block 13))
    ∷ plain 1 [] (Term.Goto 11)
    ∷ plain 0 [] Term.Return
    ∷ plain 1 [] (Term.Panic Why.Match (Unwind.Block 14))
    ∷ block Kind.Cleanup 1 [] (Term.DropAt (var 3) 14 Unwind.Abort)
    ∷ block Kind.Cleanup 0 [] Term.Resume ∷ [])) ≡ []
every_terminator = refl
