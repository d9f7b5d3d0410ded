-- Statements that do not have their types.
use Rattle.std.proofs.Common.{◌≡◌, refl, [], ◌∷◌, pos, negsuc}
use Rattle.std.specs.Prelude.{true, false, Some, ◌^◌}
use Rattle.mir_base.specs.declared.int_kind.IntKind.{IntKind}
use Rattle.mir_base.specs.declared.operator.Cmp.{Cmp}
use Rattle.cfg_graph.specs.declared.place.Step.{Step}
use Rattle.cfg_graph.specs.declared.place.Operand.{Operand}
use Rattle.cfg_graph.specs.declared.statement.Stmt.{Stmt}
use Rattle.cfg_graph.specs.declared.terminator.Term.{Term}
use Rattle.cfg_graph.specs.WellFormed.Faults.{first_fault}
use Rattle.cfg_graph.proofs.Examples.Graphs.{with_main, id, var, along, seven, plain, last, fault}

a_field_of_another_type : first_fault
    (with_main (id 2 ∷ id 1 ∷ id 0 ∷ id 4 ∷ id 10 ∷ id 11 ∷ id 12 ∷ id 14 ∷ id 6 ∷ id 8 ∷ id 15 ∷ id 5 ∷ [])
    (plain 1 (Stmt.Make (var 1) 0 0 (Operand.Number (pos 7) IntKind.U32 ∷ []) ∷ []) (Term.Goto 1) ∷ last ∷ []))
    ≡ Some (fault 3 1 0 0)
a_field_of_another_type = refl

a_field_too_few : first_fault (with_main (id 2 ∷ id 1 ∷ id 0 ∷ id 4 ∷ id 10 ∷ id 11 ∷ id 12 ∷ id 14 ∷ id 6 ∷ id 8 ∷
    id 15 ∷ id 5 ∷ []) (plain 1 (Stmt.Make (var 1) 0 0 [] ∷ []) (Term.Goto 1) ∷ last ∷ [])) ≡ Some (fault 3 1 0 0)
a_field_too_few = refl

a_variant_that_is_not_there : first_fault
    (with_main (id 2 ∷ id 1 ∷ id 0 ∷ id 4 ∷ id 10 ∷ id 11 ∷ id 12 ∷ id 14 ∷ id 6 ∷ id 8 ∷ id 15 ∷ id 5 ∷ [])
    (plain 1 (Stmt.Make (var 6) 1 2 [] ∷ []) (Term.Goto 1) ∷ last ∷ [])) ≡ Some (fault 3 1 0 0)
a_variant_that_is_not_there = refl

a_number_outside_its_type : first_fault
    (with_main (id 2 ∷ id 1 ∷ id 0 ∷ id 4 ∷ id 10 ∷ id 11 ∷ id 12 ∷ id 14 ∷ id 6 ∷ id 8 ∷ id 15 ∷ id 5 ∷ [])
    (plain 1 (Stmt.Put (var 2) (Operand.Number (pos (2 ^ 31)) IntKind.I32) ∷ []) (Term.Goto 1) ∷ last ∷ []))
    ≡ Some (fault 3 1 0 0)
a_number_outside_its_type = refl

a_number_below_its_type : first_fault
    (with_main (id 2 ∷ id 1 ∷ id 0 ∷ id 4 ∷ id 10 ∷ id 11 ∷ id 12 ∷ id 14 ∷ id 6 ∷ id 8 ∷ id 15 ∷ id 5 ∷ [])
    (plain 1 (Stmt.Print (Operand.Number (negsuc (2 ^ 31)) IntKind.I32) ∷ []) (Term.Goto 1) ∷ last ∷ []))
    ≡ Some (fault 3 1 0 0)
a_number_below_its_type = refl

a_store_of_another_type : first_fault
    (with_main (id 2 ∷ id 1 ∷ id 0 ∷ id 4 ∷ id 10 ∷ id 11 ∷ id 12 ∷ id 14 ∷ id 6 ∷ id 8 ∷ id 15 ∷ id 5 ∷ [])
    (plain 1 (Stmt.Put (var 2) (Operand.Copied (var 3)) ∷ []) (Term.Goto 1) ∷ last ∷ [])) ≡ Some (fault 3 1 0 0)
a_store_of_another_type = refl

numbers_of_two_types_compared : first_fault
    (with_main (id 2 ∷ id 1 ∷ id 0 ∷ id 4 ∷ id 10 ∷ id 11 ∷ id 12 ∷ id 14 ∷ id 6 ∷ id 8 ∷ id 15 ∷ id 5 ∷ [])
    (plain 1 (Stmt.Compare (var 3) Cmp.Eq (Operand.Copied (var 2)) (Operand.Copied (var 11)) ∷ []) (Term.Goto 1) ∷
    last ∷ [])) ≡ Some (fault 3 1 0 0)
numbers_of_two_types_compared = refl

not_of_a_number : first_fault (with_main (id 2 ∷ id 1 ∷ id 0 ∷ id 4 ∷ id 10 ∷ id 11 ∷ id 12 ∷ id 14 ∷ id 6 ∷ id 8 ∷
    id 15 ∷ id 5 ∷ []) (plain 1 (Stmt.Not (var 3) seven ∷ []) (Term.Goto 1) ∷ last ∷ [])) ≡ Some (fault 3 1 0 0)
not_of_a_number = refl

a_tuple_in_another_order : first_fault
    (with_main (id 2 ∷ id 1 ∷ id 0 ∷ id 4 ∷ id 10 ∷ id 11 ∷ id 12 ∷ id 14 ∷ id 6 ∷ id 8 ∷ id 15 ∷ id 5 ∷ [])
    (plain 1 (Stmt.Tuple (var 4) (Operand.Moved (var 1) ∷ seven ∷ []) ∷ []) (Term.Goto 1) ∷ last ∷ []))
    ≡ Some (fault 3 1 0 0)
a_tuple_in_another_order = refl

an_array_of_another_length : first_fault
    (with_main (id 2 ∷ id 1 ∷ id 0 ∷ id 4 ∷ id 10 ∷ id 11 ∷ id 12 ∷ id 14 ∷ id 6 ∷ id 8 ∷ id 15 ∷ id 5 ∷ [])
    (plain 1 (Stmt.Array (var 5) (Operand.Moved (var 1) ∷ []) ∷ []) (Term.Goto 1) ∷ last ∷ [])) ≡ Some (fault 3 1 0 0)
an_array_of_another_length = refl

a_capture_of_another_type : first_fault
    (with_main (id 2 ∷ id 1 ∷ id 0 ∷ id 4 ∷ id 10 ∷ id 11 ∷ id 12 ∷ id 14 ∷ id 6 ∷ id 8 ∷ id 15 ∷ id 5 ∷ [])
    (plain 1 (Stmt.Close (var 7) 0 (Operand.Truth true ∷ []) ∷ []) (Term.Goto 1) ∷ last ∷ [])) ≡ Some (fault 3 1 0 0)
a_capture_of_another_type = refl

a_box_of_another_type : first_fault (with_main (id 2 ∷ id 1 ∷ id 0 ∷ id 4 ∷ id 10 ∷ id 11 ∷ id 12 ∷ id 14 ∷ id 6 ∷
    id 8 ∷ id 15 ∷ id 5 ∷ []) (plain 1 (Stmt.NewBox (var 8) seven ∷ []) (Term.Goto 1) ∷ last ∷ []))
    ≡ Some (fault 3 1 0 0)
a_box_of_another_type = refl

a_struct_unsized : first_fault (with_main (id 2 ∷ id 1 ∷ id 0 ∷ id 4 ∷ id 10 ∷ id 11 ∷ id 12 ∷ id 14 ∷ id 6 ∷ id 8 ∷
    id 15 ∷ id 5 ∷ []) (plain 1 (Stmt.Unsize (var 9) 0 (Operand.Moved (var 1)) ∷ []) (Term.Goto 1) ∷ last ∷ []))
    ≡ Some (fault 3 1 0 0)
a_struct_unsized = refl

a_reference_to_another_type : first_fault
    (with_main (id 2 ∷ id 1 ∷ id 0 ∷ id 4 ∷ id 10 ∷ id 11 ∷ id 12 ∷ id 14 ∷ id 6 ∷ id 8 ∷ id 15 ∷ id 5 ∷ [])
    (plain 1 (Stmt.Borrow (var 10) false (var 2) ∷ []) (Term.Goto 1) ∷ last ∷ [])) ≡ Some (fault 3 1 0 0)
a_reference_to_another_type = refl

a_reference_of_the_other_kind : first_fault
    (with_main (id 2 ∷ id 1 ∷ id 0 ∷ id 4 ∷ id 10 ∷ id 11 ∷ id 12 ∷ id 14 ∷ id 6 ∷ id 8 ∷ id 15 ∷ id 5 ∷ [])
    (plain 1 (Stmt.Borrow (var 10) true (var 1) ∷ []) (Term.Goto 1) ∷ last ∷ [])) ≡ Some (fault 3 1 0 0)
a_reference_of_the_other_kind = refl

no_i32_printed : first_fault (with_main (id 2 ∷ id 1 ∷ id 0 ∷ id 4 ∷ id 10 ∷ id 11 ∷ id 12 ∷ id 14 ∷ id 6 ∷ id 8 ∷
    id 15 ∷ id 5 ∷ []) (plain 1 (Stmt.Print (Operand.Copied (var 11)) ∷ []) (Term.Goto 1) ∷ last ∷ []))
    ≡ Some (fault 3 1 0 0)
no_i32_printed = refl

no_box_freed : first_fault (with_main (id 2 ∷ id 1 ∷ id 0 ∷ id 4 ∷ id 10 ∷ id 11 ∷ id 12 ∷ id 14 ∷ id 6 ∷ id 8 ∷
    id 15 ∷ id 5 ∷ []) (plain 1 (Stmt.Free (var 1) ∷ []) (Term.Goto 1) ∷ last ∷ [])) ≡ Some (fault 3 1 0 0)
no_box_freed = refl

a_part_that_is_not_there : first_fault
    (with_main (id 2 ∷ id 1 ∷ id 0 ∷ id 4 ∷ id 10 ∷ id 11 ∷ id 12 ∷ id 14 ∷ id 6 ∷ id 8 ∷ id 15 ∷ id 5 ∷ [])
    (plain 1 (Stmt.Touch (along 1 (Step.Part 1 ∷ [])) ∷ []) (Term.Goto 1) ∷ last ∷ [])) ≡ Some (fault 3 1 0 0)
a_part_that_is_not_there = refl

a_part_of_an_enum_without_its_variant : first_fault
    (with_main (id 2 ∷ id 1 ∷ id 0 ∷ id 4 ∷ id 10 ∷ id 11 ∷ id 12 ∷ id 14 ∷ id 6 ∷ id 8 ∷ id 15 ∷ id 5 ∷ [])
    (plain 1 (Stmt.Touch (along 6 (Step.Part 0 ∷ [])) ∷ []) (Term.Goto 1) ∷ last ∷ [])) ≡ Some (fault 3 1 0 0)
a_part_of_an_enum_without_its_variant = refl

a_variant_of_a_struct : first_fault (with_main (id 2 ∷ id 1 ∷ id 0 ∷ id 4 ∷ id 10 ∷ id 11 ∷ id 12 ∷ id 14 ∷ id 6 ∷
    id 8 ∷ id 15 ∷ id 5 ∷ []) (plain 1 (Stmt.Touch (along 1 (Step.Field 0 0 ∷ [])) ∷ []) (Term.Goto 1) ∷ last ∷ []))
    ≡ Some (fault 3 1 0 0)
a_variant_of_a_struct = refl

the_content_of_a_struct : first_fault
    (with_main (id 2 ∷ id 1 ∷ id 0 ∷ id 4 ∷ id 10 ∷ id 11 ∷ id 12 ∷ id 14 ∷ id 6 ∷ id 8 ∷ id 15 ∷ id 5 ∷ [])
    (plain 1 (Stmt.Touch (along 1 (Step.Inside ∷ [])) ∷ []) (Term.Goto 1) ∷ last ∷ [])) ≡ Some (fault 3 1 0 0)
the_content_of_a_struct = refl

an_index_that_is_no_usize : first_fault
    (with_main (id 2 ∷ id 1 ∷ id 0 ∷ id 4 ∷ id 10 ∷ id 11 ∷ id 12 ∷ id 14 ∷ id 6 ∷ id 8 ∷ id 15 ∷ id 5 ∷ [])
    (plain 1 (Stmt.Touch (along 5 (Step.Index 2 ∷ [])) ∷ []) (Term.Goto 1) ∷ last ∷ [])) ≡ Some (fault 3 1 0 0)
an_index_that_is_no_usize = refl

a_dyn_operand : first_fault (with_main (id 2 ∷ id 1 ∷ id 0 ∷ id 4 ∷ id 10 ∷ id 11 ∷ id 12 ∷ id 14 ∷ id 6 ∷ id 8 ∷
    id 15 ∷ id 5 ∷ []) (plain 1 (Stmt.Forget (Operand.Moved (along 9 (Step.Inside ∷ []))) ∷ []) (Term.Goto 1) ∷ last ∷
    [])) ≡ Some (fault 3 1 0 0)
a_dyn_operand = refl
