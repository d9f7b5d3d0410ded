-- When a body is ready for elaboration: of each part one body that breaks it, and one that just does not.
use Rattle.std.proofs.Common.{◌≡◌, refl, [], ◌∷◌}
use Rattle.std.specs.Prelude.{ℕ, Bool, List, true, false}
use Rattle.mir_ty.specs.declared.ty.Ty.{Ty}
use Rattle.mir_ty.specs.declared.ty.TyId.{TyId}
use Rattle.cfg_graph.specs.declared.place.Step.{Step}
use Rattle.cfg_graph.specs.declared.place.Place.{Place}
use Rattle.cfg_graph.specs.declared.place.Operand.{Operand}
use Rattle.cfg_graph.specs.declared.statement.Stmt.{Stmt}
use Rattle.cfg_graph.specs.declared.terminator.Term.{Term}
use Rattle.cfg_graph.specs.declared.terminator.Unwind.{Unwind}
use Rattle.cfg_graph.specs.declared.graph.Block.{Block}
use Rattle.cfg_graph.specs.declared.graph.Body.{Body}
use Rattle.cfg_graph.specs.Moves.Actions.{actions_on}
use Rattle.cfg_graph.specs.NamedPlaces.{keeps_named}
use Rattle.cfg_graph.specs.Ready.{frees_nothing, begins_once, moves_well, refills_dropped, references_in_locals, references_stand_alone}
use Rattle.cfg_graph.proofs.Examples.Graphs.{items, id, var, along, give_unit, plain, last, body, make_d}

-- a parameter &mut D, and the locals D, (D, D), [D; 2], usize, Box<D>, &mut D and &mut D
abbrev locals : List TyId
locals = id 2 ∷ id 3 ∷ id 1 ∷ id 10 ∷ id 11 ∷ id 5 ∷ id 6 ∷ id 3 ∷ id 3 ∷ []

abbrev of_blocks : List Block → Body
of_blocks blocks = body 1 locals blocks

abbrev of_stmts : List Stmt → Body
of_stmts stmts = of_blocks (plain 1 stmts (Term.Goto 1) ∷ last ∷ [])

abbrev behind : Place
behind = along 1 (Step.Inside ∷ [])

abbrev borrow : ℕ → Place → Stmt
borrow local of = Stmt.Borrow (var local) true of

abbrev moved : Place → Stmt
moved place = Stmt.Forget (Operand.Moved place)

-- nothing is freed, and no edge leads to the first block
a_free : frees_nothing (of_stmts (Stmt.Free (var 6) ∷ [])) ≡ false
a_free = refl

a_loop_at_the_beginning : begins_once (of_blocks (plain 1 [] (Term.Goto 0) ∷ [])) ≡ false
a_loop_at_the_beginning = refl

-- what may be moved out
abbrev moves : Place → Bool
moves place = moves_well items (of_stmts (moved place ∷ []))

a_part_of_a_tuple : moves (along 3 (Step.Part 0 ∷ [])) ≡ true
a_part_of_a_tuple = refl

the_content_of_a_box : moves (along 6 (Step.Inside ∷ [])) ≡ true
the_content_of_a_box = refl

from_behind_a_reference : moves behind ≡ false
from_behind_a_reference = refl

by_an_index : moves (along 4 (Step.Index 5 ∷ [])) ≡ false
by_an_index = refl

out_of_a_type_with_a_drop_impl : moves (along 2 (Step.Part 0 ∷ [])) ≡ false
out_of_a_type_with_a_drop_impl = refl

-- a place behind a reference is refilled after its drop
abbrev refilling : Unwind → List Stmt → Body
refilling unwind stmts = of_blocks (plain 1 [] (Term.DropAt behind 1 unwind) ∷ plain 0 stmts Term.Return ∷ [])

abbrev refill : Stmt
refill = Stmt.Put behind (Operand.Moved (var 2))

refilled_at_once : refills_dropped items (refilling (Unwind.Block 1) (refill ∷ give_unit ∷ [])) ≡ true
refilled_at_once = refl

refilled_too_late : refills_dropped items (refilling (Unwind.Block 1) (give_unit ∷ refill ∷ [])) ≡ false
refilled_too_late = refl

not_refilled_after_a_panic : refills_dropped items (refilling Unwind.Resume (refill ∷ give_unit ∷ [])) ≡ false
not_refilled_after_a_panic = refl

an_abort_needs_no_refill : refills_dropped items (refilling Unwind.Abort (refill ∷ give_unit ∷ [])) ≡ true
an_abort_needs_no_refill = refl

a_whole_local_needs_no_refill : refills_dropped items
    (of_blocks (plain 1 [] (Term.DropAt (var 2) 1 Unwind.Resume) ∷ last ∷ [])) ≡ true
a_whole_local_needs_no_refill = refl

-- references in locals: the parameter, and the locals 7 and 8
abbrev referring : List Stmt → Bool
referring stmts = references_in_locals items (of_stmts stmts)

each_made_once : referring (borrow 7 (var 2) ∷ borrow 8 behind ∷ []) ≡ true
each_made_once = refl

one_that_no_line_names : referring (borrow 7 (var 2) ∷ []) ≡ true
one_that_no_line_names = refl

one_used_and_never_made : referring (borrow 7 (var 2) ∷ Stmt.Touch (along 8 (Step.Inside ∷ [])) ∷ []) ≡ false
one_used_and_never_made = refl

one_made_twice : referring (borrow 7 (var 2) ∷ borrow 8 behind ∷ borrow 8 (var 2) ∷ []) ≡ false
one_made_twice = refl

one_copied : referring (borrow 7 (var 2) ∷ Stmt.Put (var 8) (Operand.Copied (var 7)) ∷ []) ≡ false
one_copied = refl

a_parameter_stored_into : referring (borrow 7 (var 2) ∷ borrow 8 behind ∷ borrow 1 (var 2) ∷ []) ≡ false
a_parameter_stored_into = refl

-- references in other types
they_stand_alone : references_stand_alone items ≡ true
they_stand_alone = refl

a_tuple_of_references : references_stand_alone
    (record items { types = Ty.Unit ∷ Ty.Shared (id 0) ∷ Ty.Tuple (id 1 ∷ []) ∷ [] }) ≡ false
a_tuple_of_references = refl

-- what local 7 names between its making and a use of it
abbrev keeps : List Stmt → Bool
keeps stmts = keeps_named (of_stmts stmts) (actions_on (of_stmts stmts) (0 ∷ [])) 7

abbrev used : Stmt
used = Stmt.Touch (along 7 (Step.Inside ∷ []))

nothing_taken : keeps (borrow 7 (var 2) ∷ moved (var 6) ∷ used ∷ []) ≡ true
nothing_taken = refl

taken_before_a_use : keeps (borrow 7 (var 2) ∷ moved (var 2) ∷ used ∷ []) ≡ false
taken_before_a_use = refl

a_container_taken : keeps (borrow 7 (along 3 (Step.Part 0 ∷ [])) ∷ moved (var 3) ∷ used ∷ []) ≡ false
a_container_taken = refl

a_part_apart_taken : keeps (borrow 7 (along 3 (Step.Part 0 ∷ [])) ∷ moved (along 3 (Step.Part 1 ∷ [])) ∷ used ∷ [])
    ≡ true
a_part_apart_taken = refl

-- the fields of two variants lie at one address where they have one number
a_field_of_another_variant_taken : keeps
    (borrow 7 (along 3 (Step.Field 0 1 ∷ [])) ∷ moved (along 3 (Step.Field 1 1 ∷ [])) ∷ used ∷ []) ≡ false
a_field_of_another_variant_taken = refl

a_field_apart_taken : keeps
    (borrow 7 (along 3 (Step.Field 0 1 ∷ [])) ∷ moved (along 3 (Step.Field 1 0 ∷ [])) ∷ used ∷ []) ≡ true
a_field_apart_taken = refl

taken_after_the_last_use : keeps (borrow 7 (var 2) ∷ used ∷ moved (var 2) ∷ []) ≡ true
taken_after_the_last_use = refl

taken_and_made_again : keeps (borrow 7 (var 2) ∷ moved (var 2) ∷ make_d 2 ∷ borrow 7 (var 2) ∷ used ∷ []) ≡ true
taken_and_made_again = refl

taken_through_it : keeps (borrow 7 (var 2) ∷ moved (along 7 (Step.Inside ∷ [])) ∷ used ∷ []) ≡ true
taken_through_it = refl

taken_through_another : keeps (borrow 8 (var 2) ∷ borrow 7 (var 2) ∷ moved (along 8 (Step.Inside ∷ [])) ∷ used ∷ [])
    ≡ false
taken_through_another = refl

taken_by_an_operand_of_the_use : keeps
    (borrow 7 (var 2) ∷ Stmt.Tuple (var 3) (Operand.Copied (along 7 (Step.Inside ∷ [])) ∷ Operand.Moved (var 2) ∷
    []) ∷ []) ≡ false
taken_by_an_operand_of_the_use = refl
