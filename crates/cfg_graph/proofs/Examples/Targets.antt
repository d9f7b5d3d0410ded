-- Graphs in which a number or a local does not exist.
use Rattle.std.proofs.Common.{◌≡◌, refl, [], ◌∷◌}
use Rattle.std.specs.Prelude.{codes, Some}
use Rattle.cfg_graph.specs.declared.place.Step.{Step}
use Rattle.cfg_graph.specs.declared.place.Operand.{Operand}
use Rattle.cfg_graph.specs.declared.statement.Stmt.{Stmt}
use Rattle.cfg_graph.specs.declared.terminator.Term.{Term}
use Rattle.cfg_graph.specs.declared.terminator.Unwind.{Unwind}
use Rattle.cfg_graph.specs.WellFormed.Faults.{first_fault, nowhere}
use Rattle.cfg_graph.proofs.Examples.Graphs.{with_main, with_items, items, head, id, var, along, make_d, plain, body, last, d, e, show, show_d, closure, fault, item_fault}

no_such_block : first_fault (with_main (id 2 ∷ id 1 ∷ [])
    (plain 1 (make_d 1 ∷ []) (Term.DropAt (var 1) 7 Unwind.Resume) ∷ last ∷ [])) ≡ Some (fault 1 1 0 1)
no_such_block = refl

no_such_unwind_block : first_fault (with_main (id 2 ∷ id 1 ∷ [])
    (plain 1 (make_d 1 ∷ []) (Term.DropAt (var 1) 1 (Unwind.Block 7)) ∷ last ∷ [])) ≡ Some (fault 1 1 0 1)
no_such_unwind_block = refl

no_such_struct : first_fault (with_main (id 2 ∷ id 1 ∷ []) (plain 1 (Stmt.Make (var 1) 5 0 [] ∷ []) (Term.Goto 1) ∷
    last ∷ [])) ≡ Some (fault 1 1 0 0)
no_such_struct = refl

no_such_closure : first_fault (with_main (id 2 ∷ id 1 ∷ [])
    (plain 1 (Stmt.Close (var 1) 1 [] ∷ []) (Term.Goto 1) ∷ last ∷ [])) ≡ Some (fault 1 1 0 0)
no_such_closure = refl

no_such_trait : first_fault (with_main (id 2 ∷ id 1 ∷ [])
    (plain 1 (Stmt.Unsize (var 1) 1 (Operand.Moved (var 1)) ∷ []) (Term.Goto 1) ∷ last ∷ [])) ≡ Some (fault 1 1 0 0)
no_such_trait = refl

no_such_body : first_fault (with_main (id 2 ∷ id 1 ∷ [])
    (plain 1 (make_d 1 ∷ []) (Term.Call (var 0) 5 [] 1 Unwind.Resume) ∷ last ∷ [])) ≡ Some (fault 1 1 0 1)
no_such_body = refl

no_such_method : first_fault (with_main (id 2 ∷ id 1 ∷ [])
    (plain 1 (make_d 1 ∷ []) (Term.Virtual (var 0) 0 1 [] 1 Unwind.Resume) ∷ last ∷ [])) ≡ Some (fault 1 1 0 1)
no_such_method = refl

a_local_of_a_type_without_its_struct : first_fault
    (with_main (id 2 ∷ id 18 ∷ []) (plain 1 (Stmt.Put (var 0) Operand.Unit ∷ []) (Term.Goto 1) ∷ last ∷ []))
    ≡ Some (fault 1 1 nowhere 1)
a_local_of_a_type_without_its_struct = refl

a_local_of_no_type : first_fault (with_main (id 2 ∷ id 99 ∷ [])
    (plain 1 (Stmt.Put (var 0) Operand.Unit ∷ []) (Term.Goto 1) ∷ last ∷ [])) ≡ Some (fault 1 1 nowhere 1)
a_local_of_no_type = refl

no_block : first_fault (with_main (id 2 ∷ []) []) ≡ Some (fault 1 1 nowhere nowhere)
no_block = refl

no_main : first_fault (with_items (record items {
  bodies = head (codes "D::drop") (id 3 ∷ []) 2 ∷
      head (codes "maine") [] 2 ∷ head (codes "D::show") (id 15 ∷ []) 2 ∷
      head (codes "main::closure#1") (id 14 ∷ []) 0 ∷ head (codes "stop") [] 13 ∷ [];
}))
    ≡ Some (fault 1 nowhere nowhere nowhere)
no_main = refl

main_with_a_parameter : first_fault (record {
  items = record items {
    closures = [];
    adts = [];
    traits = [];
    impls = [];
    bodies =
        head (codes "main") (id 0 ∷ []) 2 ∷ [];
  };
  bodies = body 1 (id 2 ∷ id 0 ∷ []) (last ∷ []) ∷ [];
})
    ≡ Some (fault 1 nowhere nowhere nowhere)
main_with_a_parameter = refl

a_drop_body_that_is_not_there : first_fault
    (with_items (record items { adts = record d { drop_body = Some 5 } ∷ e ∷ [] })) ≡ Some (item_fault 1 0)
a_drop_body_that_is_not_there = refl

a_method_with_a_type_that_is_not_there : first_fault
    (with_items (record items { traits = record show { methods = head (codes "show") (id 9 ∷ []) 18 ∷ [] } ∷ [] }))
    ≡ Some (item_fault 1 2)
a_method_with_a_type_that_is_not_there = refl

an_impl_of_no_trait : first_fault (with_items (record items { impls = record show_d { trait_no = 1 } ∷ [] }))
    ≡ Some (item_fault 1 3)
an_impl_of_no_trait = refl

a_closure_without_its_body : first_fault (with_items (record items { closures = record closure { body = 5 } ∷ [] }))
    ≡ Some (item_fault 1 4)
a_closure_without_its_body = refl

no_such_local : first_fault (with_main (id 2 ∷ id 1 ∷ [])
    (plain 1 (make_d 1 ∷ []) (Term.DropAt (var 9) 1 Unwind.Resume) ∷ last ∷ [])) ≡ Some (fault 2 1 0 1)
no_such_local = refl

no_such_index : first_fault (with_main (id 2 ∷ id 11 ∷ [])
    (plain 1 (Stmt.Touch (along 1 (Step.Index 9 ∷ [])) ∷ []) (Term.Goto 1) ∷ last ∷ [])) ≡ Some (fault 2 1 0 0)
no_such_index = refl

fewer_locals_than_parameters : first_fault
    (record {
      items = record items {
        closures = [];
        adts = [];
        traits = [];
        impls = [];
        bodies =
            head (codes "main") [] 2 ∷ [];
      };
      bodies = body 0 [] (last ∷ []) ∷ [];
    }) ≡ Some (fault 2 0 nowhere nowhere)
fewer_locals_than_parameters = refl
