-- Ranks, cleanup blocks, rows of impls, and names; and which fault is the first.
use Rattle.std.proofs.Common.{◌≡◌, refl, [], ◌∷◌}
use Rattle.std.specs.Prelude.{codes, Some}
use Rattle.mir_base.specs.declared.trace.Why.{Why}
use Rattle.cfg_graph.specs.declared.place.Operand.{Operand}
use Rattle.cfg_graph.specs.declared.statement.Stmt.{Stmt}
use Rattle.cfg_graph.specs.declared.terminator.Term.{Term}
use Rattle.cfg_graph.specs.declared.terminator.Unwind.{Unwind}
use Rattle.cfg_graph.specs.declared.graph.Kind.{Kind}
use Rattle.cfg_graph.specs.WellFormed.Faults.{first_fault, nowhere}
use Rattle.cfg_graph.proofs.Examples.Graphs.{with_block, with_main, with_items, items, head, id, var, make_d, plain, block, last, d, e, show, show_d, fault, item_fault}

a_block_that_leads_to_itself : first_fault (with_main (id 2 ∷ []) (plain 1 [] (Term.Goto 0) ∷ last ∷ []))
    ≡ Some (fault 4 1 0 0)
a_block_that_leads_to_itself = refl

an_edge_to_the_same_rank : first_fault (with_main (id 2 ∷ []) (plain 0 [] (Term.Goto 1) ∷ last ∷ []))
    ≡ Some (fault 4 1 0 0)
an_edge_to_the_same_rank = refl

unwinding_to_no_lower_rank : first_fault
    (with_main (id 2 ∷ []) (plain 1 [] (Term.Panic Why.Explicit (Unwind.Block 1)) ∷
    block Kind.Cleanup 1 [] Term.Resume ∷ [])) ≡ Some (fault 4 1 0 0)
unwinding_to_no_lower_rank = refl

unwinding_to_a_plain_block : first_fault
    (with_main (id 2 ∷ id 1 ∷ []) (plain 1 (make_d 1 ∷ []) (Term.DropAt (var 1) 1 (Unwind.Block 1)) ∷ last ∷ []))
    ≡ Some (fault 5 1 0 1)
unwinding_to_a_plain_block = refl

a_plain_block_that_resumes : first_fault (with_main (id 2 ∷ []) (plain 0 [] Term.Resume ∷ [])) ≡ Some (fault 5 1 0 0)
a_plain_block_that_resumes = refl

an_edge_into_cleanup : first_fault (with_main (id 2 ∷ []) (plain 1 [] (Term.Goto 1) ∷
    block Kind.Cleanup 0 [] Term.Resume ∷ [])) ≡ Some (fault 5 1 0 0)
an_edge_into_cleanup = refl

an_edge_out_of_cleanup : first_fault
    (with_main (id 2 ∷ []) (plain 2 [] (Term.Panic Why.Explicit (Unwind.Block 1)) ∷
    block Kind.Cleanup 1 [] (Term.Goto 2) ∷ last ∷ [])) ≡ Some (fault 5 1 1 0)
an_edge_out_of_cleanup = refl

a_cleanup_block_that_calls : first_fault
    (with_main (id 2 ∷ []) (plain 2 [] (Term.Panic Why.Explicit (Unwind.Block 1)) ∷
    block Kind.Cleanup 1 [] (Term.Call (var 0) 1 [] 2 Unwind.Resume) ∷ block Kind.Cleanup 0 [] Term.Resume ∷ []))
    ≡ Some (fault 5 1 1 0)
a_cleanup_block_that_calls = refl

a_cleanup_block_that_returns : first_fault
    (with_main (id 2 ∷ []) (plain 2 [] (Term.Panic Why.Explicit (Unwind.Block 1)) ∷
    block Kind.Cleanup 1 [] Term.Return ∷ [])) ≡ Some (fault 5 1 1 0)
a_cleanup_block_that_returns = refl

a_cleanup_drop_that_may_unwind : first_fault
    (with_main (id 2 ∷ []) (plain 2 [] (Term.Panic Why.Explicit (Unwind.Block 1)) ∷
    block Kind.Cleanup 1 [] (Term.DropAt (var 0) 2 Unwind.Resume) ∷ block Kind.Cleanup 0 [] Term.Resume ∷ []))
    ≡ Some (fault 5 1 1 0)
a_cleanup_drop_that_may_unwind = refl

no_impl_for_the_type : first_fault (with_block (id 2 ∷ id 16 ∷ id 8 ∷ [])
    (Stmt.Unsize (var 2) 0 (Operand.Moved (var 1)) ∷ []) (Term.Goto 1)) ≡ Some (fault 6 1 0 0)
no_impl_for_the_type = refl

an_empty_name : first_fault (with_items (record items { traits = record show { name = [] } ∷ [] }))
    ≡ Some (item_fault 7 2)
an_empty_name = refl

a_name_with_a_space : first_fault (with_items (record items { traits = record show { name = codes "a b" } ∷ [] }))
    ≡ Some (item_fault 7 2)
a_name_with_a_space = refl

a_variant_with_a_mark : first_fault (with_items
    (record items {
      adts = d ∷ record e {
        variants = record { name = codes "A<"; fields = []; field_names = [] } ∷
            [];
      } ∷ [];
    })) ≡ Some (item_fault 7 1)
a_variant_with_a_mark = refl

a_struct_named_as_a_type : first_fault (with_items (record items { adts = record d { name = codes "u64" } ∷ e ∷ [] }))
    ≡ Some (item_fault 7 0)
a_struct_named_as_a_type = refl

a_struct_named_as_a_closure : first_fault
    (with_items (record items { adts = record d { name = codes "closure#x" } ∷ e ∷ [] })) ≡ Some (item_fault 7 0)
a_struct_named_as_a_closure = refl

a_second_struct_of_a_name : first_fault (with_items (record items { adts = d ∷ record e { name = codes "D" } ∷ [] }))
    ≡ Some (item_fault 7 1)
a_second_struct_of_a_name = refl

a_second_trait_of_a_name : first_fault (with_items (record items { traits = show ∷ show ∷ [] })) ≡ Some (item_fault 7 3)
a_second_trait_of_a_name = refl

a_second_impl_for_a_type : first_fault (with_items (record items { impls = show_d ∷ show_d ∷ [] }))
    ≡ Some (item_fault 7 4)
a_second_impl_for_a_type = refl

a_second_body_of_a_name : first_fault
    (with_items (record items {
      bodies = head (codes "main") (id 3 ∷ []) 2 ∷ head (codes "main") [] 2 ∷
          head (codes "D::show") (id 15 ∷ []) 2 ∷ head (codes "main::closure#1") (id 14 ∷ []) 0 ∷
          head (codes "stop") [] 13 ∷ [];
    })) ≡ Some (fault 7 1 nowhere nowhere)
a_second_body_of_a_name = refl

the_lowest_number_of_a_line : first_fault
    (with_main (id 2 ∷ id 1 ∷ []) (plain 1 (make_d 1 ∷ []) (Term.DropAt (var 9) 0 (Unwind.Block 1)) ∷ last ∷ []))
    ≡ Some (fault 2 1 0 1)
the_lowest_number_of_a_line = refl

the_first_line : first_fault (with_main (id 2 ∷ id 7 ∷ []) (plain 1 (make_d 9 ∷ []) (Term.Goto 9) ∷ last ∷ []))
    ≡ Some (fault 3 1 nowhere 1)
the_first_line = refl
