-- Uses of places on a path: of each rule one that breaks it, and one that just does not.
use Rattle.std.proofs.Common.{◌≡◌, refl, [], ◌∷◌}
use Rattle.std.specs.Prelude.{ℕ, List, map, false}
use Rattle.mir_ty.specs.declared.ty.TyId.{TyId}
use Rattle.cfg_graph.specs.declared.place.Step.{Step}
use Rattle.cfg_graph.specs.declared.place.Place.{Place}
use Rattle.cfg_graph.specs.declared.place.Operand.{Operand}
use Rattle.cfg_graph.specs.declared.statement.Stmt.{Stmt}
use Rattle.cfg_graph.specs.declared.terminator.Term.{Term}
use Rattle.cfg_graph.specs.declared.terminator.Unwind.{Unwind}
use Rattle.cfg_graph.specs.declared.graph.Kind.{Kind}
use Rattle.cfg_graph.specs.declared.graph.Block.{Block}
use Rattle.cfg_graph.specs.Moves.BadUses.{UseRule, U1, U2, BadUse, bad_uses_on}
use Rattle.cfg_graph.proofs.Examples.Graphs.{items, id, var, along, plain, block, body}

-- a parameter (D, D), and the locals D, [D; 2], usize, E, Box<D> and &D, which nothing has been stored into
abbrev locals : List TyId
locals = id 2 ∷ id 10 ∷ id 1 ∷ id 11 ∷ id 5 ∷ id 12 ∷ id 6 ∷ id 15 ∷ []

-- the bad uses on a path by their rules, blocks and lines
abbrev told : List BadUse → List (UseRule × ℕ × ℕ)
told bad = map (λ one. (one.rule, one.action.block, one.action.line)) bad

abbrev on_path : List ℕ → List Block → List (UseRule × ℕ × ℕ)
on_path path blocks = told (bad_uses_on items (body 1 locals blocks) path)

abbrev in_block : List Stmt → Term → List (UseRule × ℕ × ℕ)
in_block stmts term = on_path (0 ∷ []) (plain 0 stmts term ∷ [])

abbrev left : Place
left = along 1 (Step.Part 0 ∷ [])

abbrev right : Place
right = along 1 (Step.Part 1 ∷ [])

-- an element by its number, and by a local
abbrev first_element : Place
first_element = along 3 (Step.Part 0 ∷ [])

abbrev element : Place
element = along 3 (Step.Index 4 ∷ [])

abbrev behind : Place
behind = along 7 (Step.Inside ∷ [])

abbrev copied : Place → Stmt
copied place = Stmt.Forget (Operand.Copied place)

abbrev moved : Place → Stmt
moved place = Stmt.Forget (Operand.Moved place)

abbrev make_array : Place → Stmt
make_array to = Stmt.Array to (Operand.Moved left ∷ Operand.Moved right ∷ [])

abbrev made : Place → Stmt
made to = Stmt.Make to 0 0 []

a_copy_with_a_part_gone : in_block (moved left ∷ copied (var 1) ∷ []) (Term.Return) ≡ (U1, 0, 1) ∷ []
a_copy_with_a_part_gone = refl

a_copy_beside_what_is_gone : in_block (moved left ∷ copied right ∷ []) (Term.Return) ≡ []
a_copy_beside_what_is_gone = refl

a_move_out_of_what_is_gone : in_block (moved (var 1) ∷ moved left ∷ []) (Term.Return) ≡ (U1, 0, 1) ∷ []
a_move_out_of_what_is_gone = refl

a_move_beside_what_is_gone : in_block (moved left ∷ moved right ∷ []) (Term.Return) ≡ []
a_move_beside_what_is_gone = refl

moved_twice_in_one_statement : in_block (Stmt.Tuple (var 1) (Operand.Moved left ∷ Operand.Moved left ∷ []) ∷ [])
    (Term.Return) ≡ (U1, 0, 0) ∷ []
moved_twice_in_one_statement = refl

a_borrow_of_what_was_never_made : in_block (Stmt.Borrow (var 7) false (var 2) ∷ []) (Term.Return) ≡ (U1, 0, 0) ∷ []
a_borrow_of_what_was_never_made = refl

a_borrow_of_what_was_made : in_block (made (var 2) ∷ Stmt.Borrow (var 7) false (var 2) ∷ []) (Term.Return) ≡ []
a_borrow_of_what_was_made = refl

a_touch_with_a_part_gone : in_block (moved left ∷ Stmt.Touch (var 1) ∷ []) (Term.Return) ≡ (U1, 0, 1) ∷ []
a_touch_with_a_part_gone = refl

a_touch_where_the_part_is_there_again : in_block (moved left ∷ made left ∷ Stmt.Touch (var 1) ∷ []) (Term.Return) ≡ []
a_touch_where_the_part_is_there_again = refl

a_test_of_what_is_gone : in_block ([]) (Term.Case (var 5) 0 0 0) ≡ (U1, 0, 0) ∷ []
a_test_of_what_is_gone = refl

a_test_with_a_part_gone : in_block (Stmt.Make (var 5) 1 0 (Operand.Moved left ∷ []) ∷
    moved (along 5 (Step.Field 0 0 ∷ [])) ∷ []) (Term.Case (var 5) 0 0 0) ≡ []
a_test_with_a_part_gone = refl

a_store_into_what_is_gone : in_block (moved (var 1) ∷ made left ∷ []) (Term.Return) ≡ (U2, 0, 1) ∷ []
a_store_into_what_is_gone = refl

a_store_where_only_the_place_is_gone : in_block (moved left ∷ made left ∷ []) (Term.Return) ≡ []
a_store_where_only_the_place_is_gone = refl

a_store_into_a_whole_local : in_block (made (var 2) ∷ []) (Term.Return) ≡ []
a_store_into_a_whole_local = refl

a_drop_in_what_is_gone : in_block (moved (var 1) ∷ []) (Term.DropAt left 0 Unwind.Resume) ≡ (U2, 0, 1) ∷ []
a_drop_in_what_is_gone = refl

a_drop_where_only_the_place_is_gone : in_block (moved left ∷ []) (Term.DropAt left 0 Unwind.Resume) ≡ []
a_drop_where_only_the_place_is_gone = refl

a_drop_of_a_whole_local : in_block ([]) (Term.DropAt (var 2) 0 Unwind.Resume) ≡ []
a_drop_of_a_whole_local = refl

a_move_by_an_index_with_an_element_gone : in_block (make_array (var 3) ∷ moved first_element ∷ moved element ∷ [])
    (Term.Return) ≡ (U1, 0, 2) ∷ []
a_move_by_an_index_with_an_element_gone = refl

a_move_by_an_index_counts_for_no_place : in_block (make_array (var 3) ∷ moved element ∷ moved element ∷ [])
    (Term.Return) ≡ []
a_move_by_an_index_counts_for_no_place = refl

a_store_by_an_index_with_an_element_gone : in_block (make_array (var 3) ∷ moved first_element ∷ made element ∷ [])
    (Term.Return) ≡ (U2, 0, 2) ∷ []
a_store_by_an_index_with_an_element_gone = refl

a_store_by_an_index : in_block (make_array (var 3) ∷ made element ∷ []) (Term.Return) ≡ []
a_store_by_an_index = refl

a_drop_by_an_index_with_an_element_gone : in_block (make_array (var 3) ∷ moved first_element ∷ [])
    (Term.DropAt element 0 Unwind.Resume) ≡ (U2, 0, 2) ∷ []
a_drop_by_an_index_with_an_element_gone = refl

a_drop_by_an_index : in_block (make_array (var 3) ∷ []) (Term.DropAt element 0 Unwind.Resume) ≡ []
a_drop_by_an_index = refl

a_move_behind_a_reference_counts_for_no_place : in_block (Stmt.Borrow (var 7) false left ∷ moved behind ∷
    moved behind ∷ []) (Term.Return) ≡ []
a_move_behind_a_reference_counts_for_no_place = refl

behind_a_reference_that_is_gone : in_block (moved (var 7) ∷ copied behind ∷ []) (Term.Return)
    ≡ (U1, 0, 0) ∷ (U1, 0, 1) ∷ []
behind_a_reference_that_is_gone = refl

a_freed_box_is_gone : in_block (Stmt.NewBox (var 6) (Operand.Moved left) ∷ Stmt.Free (var 6) ∷ Stmt.Touch (var 6) ∷
    []) (Term.Return) ≡ (U1, 0, 2) ∷ []
a_freed_box_is_gone = refl

to_free_is_never_bad : in_block (Stmt.Free (var 6) ∷ []) (Term.Return) ≡ []
to_free_is_never_bad = refl

-- the result of a call is stored on the way on, and not where it panics; a drop takes on both ways

abbrev calling : List Block
calling = plain 1 [] (Term.Call (var 2) 1 [] 1 (Unwind.Block 2)) ∷ plain 0 (Stmt.Touch (var 2) ∷ []) Term.Return ∷
    block Kind.Cleanup 0 (Stmt.Touch (var 2) ∷ []) Term.Resume ∷ []

abbrev dropping : List Block
dropping = plain 1 (made (var 2) ∷ []) (Term.DropAt (var 2) 1 (Unwind.Block 2)) ∷
    plain 0 (Stmt.Touch (var 2) ∷ []) Term.Return ∷ block Kind.Cleanup 0 (Stmt.Touch (var 2) ∷ []) Term.Resume ∷ []

a_result_is_there : on_path (0 ∷ 1 ∷ []) calling ≡ []
a_result_is_there = refl

no_result_after_a_panic : on_path (0 ∷ 2 ∷ []) calling ≡ (U1, 2, 0) ∷ []
no_result_after_a_panic = refl

gone_after_a_drop : on_path (0 ∷ 1 ∷ []) dropping ≡ (U1, 1, 0) ∷ []
gone_after_a_drop = refl

gone_after_a_drop_that_panics : on_path (0 ∷ 2 ∷ []) dropping ≡ (U1, 2, 0) ∷ []
gone_after_a_drop_that_panics = refl
