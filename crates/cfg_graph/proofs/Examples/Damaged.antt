-- The short listing with one change at a time.
use Rattle.std.proofs.Common.{◌≡◌, refl, [], ◌∷◌, ℕ, List, pos}
use Rattle.std.specs.Prelude.{codes, Some, None}
use Rattle.mir_base.specs.declared.int_kind.IntKind.{IntKind}
use Rattle.cfg_graph.specs.declared.place.Operand.{Operand}
use Rattle.cfg_graph.specs.declared.statement.Stmt.{Stmt}
use Rattle.cfg_graph.specs.declared.terminator.Term.{Term}
use Rattle.cfg_graph.specs.declared.terminator.Unwind.{Unwind}
use Rattle.cfg_graph.specs.declared.graph.Graph.{Graph}
use Rattle.cfg_graph.specs.WellFormed.Faults.{first_fault, nowhere}
use Rattle.cfg_graph.proofs.Examples.Graphs.{short, drop_of_d, body, head, id, var, make_d, plain, last, fault}

-- with another name of its last body, and another statement and terminator in the block 0 of that
abbrev short_with : List ℕ → Stmt → Term → Graph
short_with name stmt term = record {
  items = record short.items { bodies = head (codes "D::drop") (id 3 ∷ []) 2 ∷ head name [] 2 ∷ [] };
  bodies = drop_of_d ∷ body 0 (id 2 ∷ id 1 ∷ []) (plain 1 (stmt ∷ []) term ∷ last ∷ []) ∷ [];
}

abbrev with_drop : Term → Graph
with_drop term = short_with (codes "main") (make_d 1) term

unchanged : first_fault (with_drop (Term.DropAt (var 1) 1 Unwind.Resume)) ≡ None
unchanged = refl

a_constant_of_another_type : first_fault
    (short_with (codes "main") (Stmt.Make (var 1) 0 0 (Operand.Number (pos 7) IntKind.U32 ∷ []))
    (Term.DropAt (var 1) 1 Unwind.Resume)) ≡ Some (fault 3 1 0 0)
a_constant_of_another_type = refl

a_drop_that_leads_back : first_fault (with_drop (Term.DropAt (var 1) 0 Unwind.Resume)) ≡ Some (fault 4 1 0 1)
a_drop_that_leads_back = refl

a_drop_that_leads_nowhere : first_fault (with_drop (Term.DropAt (var 1) 7 Unwind.Resume)) ≡ Some (fault 1 1 0 1)
a_drop_that_leads_nowhere = refl

a_drop_of_no_local : first_fault (with_drop (Term.DropAt (var 9) 1 Unwind.Resume)) ≡ Some (fault 2 1 0 1)
a_drop_of_no_local = refl

a_drop_that_unwinds_to_a_plain_block : first_fault (with_drop (Term.DropAt (var 1) 1 (Unwind.Block 1)))
    ≡ Some (fault 5 1 0 1)
a_drop_that_unwinds_to_a_plain_block = refl

no_main : first_fault (short_with (codes "maine") (make_d 1) (Term.DropAt (var 1) 1 Unwind.Resume))
    ≡ Some (fault 1 nowhere nowhere nowhere)
no_main = refl
