-- Terminators and items that do not have their types.
use Rattle.std.proofs.Common.{◌≡◌, refl, [], ◌∷◌}
use Rattle.std.specs.Prelude.{codes, true, Some}
use Rattle.mir_base.specs.declared.operator.Math.{Math}
use Rattle.mir_base.specs.declared.trace.Why.{Why}
use Rattle.cfg_graph.specs.declared.place.Operand.{Operand}
use Rattle.cfg_graph.specs.declared.terminator.Term.{Term}
use Rattle.cfg_graph.specs.declared.terminator.Unwind.{Unwind}
use Rattle.cfg_graph.specs.WellFormed.Faults.{first_fault, nowhere}
use Rattle.cfg_graph.proofs.Examples.Graphs.{with_block, with_main, with_items, items, id, var, seven, make_d, plain, last, d, e, show_d, closure, fault, item_fault}

a_condition_that_is_no_bool : first_fault
    (with_block (id 2 ∷ id 1 ∷ id 0 ∷ id 4 ∷ id 12 ∷ id 17 ∷ id 8 ∷ []) [] (Term.If seven 1 1)) ≡ Some (fault 3 1 0 0)
a_condition_that_is_no_bool = refl

a_case_of_a_struct : first_fault (with_block (id 2 ∷ id 1 ∷ id 0 ∷ id 4 ∷ id 12 ∷ id 17 ∷ id 8 ∷ []) []
    (Term.Case (var 1) 0 1 1)) ≡ Some (fault 3 1 0 0)
a_case_of_a_struct = refl

a_case_of_no_variant : first_fault (with_block (id 2 ∷ id 1 ∷ id 0 ∷ id 4 ∷ id 12 ∷ id 17 ∷ id 8 ∷ []) []
    (Term.Case (var 4) 2 1 1)) ≡ Some (fault 3 1 0 0)
a_case_of_no_variant = refl

a_sum_of_two_types : first_fault (with_block (id 2 ∷ id 1 ∷ id 0 ∷ id 4 ∷ id 12 ∷ id 17 ∷ id 8 ∷ []) []
    (Term.Math (var 2) Math.Add seven (Operand.Copied (var 5)) 1 Unwind.Resume)) ≡ Some (fault 3 1 0 0)
a_sum_of_two_types = refl

a_sum_of_truth_values : first_fault (with_block (id 2 ∷ id 1 ∷ id 0 ∷ id 4 ∷ id 12 ∷ id 17 ∷ id 8 ∷ []) []
    (Term.Math (var 3) Math.Add (Operand.Truth true) (Operand.Truth true) 1 Unwind.Resume)) ≡ Some (fault 3 1 0 0)
a_sum_of_truth_values = refl

an_unsigned_number_negated : first_fault
    (with_block (id 2 ∷ id 1 ∷ id 0 ∷ id 4 ∷ id 12 ∷ id 17 ∷ id 8 ∷ []) []
    (Term.Negate (var 5) (Operand.Copied (var 5)) 1 Unwind.Resume)) ≡ Some (fault 3 1 0 0)
an_unsigned_number_negated = refl

an_index_of_another_type : first_fault
    (with_block (id 2 ∷ id 1 ∷ id 0 ∷ id 4 ∷ id 12 ∷ id 17 ∷ id 8 ∷ []) [] (Term.Bounds seven 2 1 Unwind.Resume))
    ≡ Some (fault 3 1 0 0)
an_index_of_another_type = refl

an_argument_too_many : first_fault (with_block (id 2 ∷ id 1 ∷ id 0 ∷ id 4 ∷ id 12 ∷ id 17 ∷ id 8 ∷ []) []
    (Term.Call (var 0) 1 (seven ∷ []) 1 Unwind.Resume)) ≡ Some (fault 3 1 0 0)
an_argument_too_many = refl

a_result_of_another_type : first_fault
    (with_block (id 2 ∷ id 1 ∷ id 0 ∷ id 4 ∷ id 12 ∷ id 17 ∷ id 8 ∷ []) [] (Term.Call (var 2) 1 [] 1 Unwind.Resume))
    ≡ Some (fault 3 1 0 0)
a_result_of_another_type = refl

a_drop_body_called : first_fault (with_block (id 2 ∷ id 3 ∷ []) []
    (Term.Call (var 0) 0 (Operand.Copied (var 1) ∷ []) 1 Unwind.Resume)) ≡ Some (fault 3 1 0 0)
a_drop_body_called = refl

a_receiver_by_value : first_fault (with_block (id 2 ∷ id 1 ∷ id 0 ∷ id 4 ∷ id 12 ∷ id 17 ∷ id 8 ∷ []) []
    (Term.Virtual (var 0) 0 0 (Operand.Moved (var 6) ∷ []) 1 Unwind.Resume)) ≡ Some (fault 3 1 0 0)
a_receiver_by_value = refl

an_answer_that_is_no_i32 : first_fault
    (with_block (id 2 ∷ id 1 ∷ id 0 ∷ id 4 ∷ id 12 ∷ id 17 ∷ id 8 ∷ []) [] (Term.Ask (var 3) 1 Unwind.Resume))
    ≡ Some (fault 3 1 0 0)
an_answer_that_is_no_i32 = refl

a_panic_of_another_cause : first_fault
    (with_block (id 2 ∷ id 1 ∷ id 0 ∷ id 4 ∷ id 12 ∷ id 17 ∷ id 8 ∷ []) [] (Term.Panic Why.Overflow Unwind.Resume))
    ≡ Some (fault 3 1 0 0)
a_panic_of_another_cause = refl

a_dyn_local : first_fault (with_main (id 2 ∷ id 1 ∷ id 7 ∷ []) (plain 1 (make_d 1 ∷ []) (Term.Goto 1) ∷ last ∷ []))
    ≡ Some (fault 3 1 nowhere 2)
a_dyn_local = refl

another_signature : first_fault (with_main (id 0 ∷ []) (plain 0 [] Term.Return ∷ [])) ≡ Some (fault 3 1 nowhere nowhere)
another_signature = refl

a_drop_body_of_another_type : first_fault
    (with_items (record items { adts = d ∷ record e { drop_body = Some 0 } ∷ [] })) ≡ Some (item_fault 3 1)
a_drop_body_of_another_type = refl

a_dyn_field : first_fault (with_items
    (record items {
      adts = d ∷ record e
          { variants = record { name = codes "A"; fields = id 7 ∷ []; field_names = codes "0" ∷ [] } ∷ [] } ∷ [];
    }))
    ≡ Some (item_fault 3 1)
a_dyn_field = refl

an_enum_that_holds_itself : first_fault
    (with_items (record items {
      adts = d ∷
          record e { variants = record { name = codes "A"; fields = id 12 ∷ []; field_names = codes "0" ∷ [] } ∷ [] } ∷
          [];
    })) ≡ Some (item_fault 3 1)
an_enum_that_holds_itself = refl

a_closure_that_holds_itself : first_fault
    (with_items (record items { closures = record closure { captures = id 14 ∷ [] } ∷ [] })) ≡ Some (item_fault 3 4)
a_closure_that_holds_itself = refl

a_closure_of_another_body : first_fault (with_items (record items { closures = record closure { body = 2 } ∷ [] }))
    ≡ Some (item_fault 3 4)
a_closure_of_another_body = refl

an_impl_without_its_body : first_fault (with_items (record items { impls = record show_d { bodies = [] } ∷ [] }))
    ≡ Some (item_fault 3 3)
an_impl_without_its_body = refl

an_impl_with_a_body_too_many : first_fault
    (with_items (record items { impls = record show_d { bodies = 2 ∷ 2 ∷ [] } ∷ [] })) ≡ Some (item_fault 3 3)
an_impl_with_a_body_too_many = refl

an_impl_for_another_type : first_fault (with_items (record items { impls = record show_d { adt = 1 } ∷ [] }))
    ≡ Some (item_fault 3 3)
an_impl_for_another_type = refl
