-- Paths and the items that they give.
use Rattle.std.proofs.Common.{◌≡◌, refl, [], ◌∷◌}
use Rattle.std.specs.Prelude.{ℕ, Bool, List, true, false}
use Rattle.mir_base.specs.declared.trace.Why.{Why}
use Rattle.mir_ty.specs.declared.ty.TyId.{TyId}
use Rattle.cfg_graph.specs.declared.place.Operand.{Operand}
use Rattle.cfg_graph.specs.declared.terminator.Term.{Term}
use Rattle.cfg_graph.specs.declared.terminator.Unwind.{Unwind}
use Rattle.cfg_graph.specs.declared.graph.Kind.{Kind}
use Rattle.cfg_graph.specs.declared.graph.Block.{Block}
use Rattle.cfg_graph.specs.Moves.Paths.{choices_of_path, choices_of_leaving_path}
use Rattle.cfg_graph.proofs.Examples.Graphs.{items, id, var, plain, block, body, last}

-- locals: (), bool, i32, !, D
abbrev locals : List TyId
locals = id 2 ∷ id 4 ∷ id 0 ∷ id 13 ∷ id 1 ∷ []

abbrev given : List Block → List ℕ → List (List Bool)
given blocks path = choices_of_path items (body 0 locals blocks) path

abbrev given_leaving : List Block → List ℕ → List (List Bool)
given_leaving blocks path = choices_of_leaving_path items (body 0 locals blocks) path

abbrev resuming : Block
resuming = block Kind.Cleanup 0 [] Term.Resume

abbrev before : Term → List Block
before term = plain 1 [] term ∷ last ∷ resuming ∷ []

abbrev branching : List Block
branching = plain 1 [] (Term.If (Operand.Truth true) 1 2) ∷ last ∷ last ∷ []

abbrev looping : List Block
looping = plain 1 [] (Term.Goto 1) ∷ block Kind.Turn 2 [] (Term.If (Operand.Truth true) 1 2) ∷ last ∷ []

the_start : given branching (0 ∷ []) ≡ [] ∷ []
the_start = refl

no_path_begins_elsewhere : given branching (1 ∷ []) ≡ []
no_path_begins_elsewhere = refl

yes : given branching (0 ∷ 1 ∷ []) ≡ (true ∷ []) ∷ []
yes = refl

no_way : given branching (0 ∷ 2 ∷ []) ≡ (false ∷ []) ∷ []
no_way = refl

no_edge : given branching (1 ∷ 2 ∷ []) ≡ []
no_edge = refl

no_edge_from_the_end : given branching (0 ∷ 1 ∷ 2 ∷ []) ≡ []
no_edge_from_the_end = refl

both_ways_to_one_block : given (before (Term.If (Operand.Truth true) 1 1)) (0 ∷ 1 ∷ [])
    ≡ (false ∷ []) ∷ (true ∷ []) ∷ []
both_ways_to_one_block = refl

one_way_gives_nothing : given (before (Term.Goto 1)) (0 ∷ 1 ∷ []) ≡ [] ∷ []
one_way_gives_nothing = refl

a_turn_gives_a_0 : given looping (0 ∷ 1 ∷ []) ≡ (false ∷ []) ∷ []
a_turn_gives_a_0 = refl

each_turn_gives_a_0 : given looping (0 ∷ 1 ∷ 1 ∷ 2 ∷ []) ≡ (false ∷ true ∷ false ∷ false ∷ []) ∷ []
each_turn_gives_a_0 = refl

a_turn_at_the_start : given (block Kind.Turn 0 [] Term.Return ∷ []) (0 ∷ []) ≡ (false ∷ []) ∷ []
a_turn_at_the_start = refl

a_call_that_returns : given (before (Term.Call (var 2) 3 [] 1 (Unwind.Block 2))) (0 ∷ 1 ∷ []) ≡ (false ∷ []) ∷ []
a_call_that_returns = refl

a_call_that_panics : given (before (Term.Call (var 2) 3 [] 1 (Unwind.Block 2))) (0 ∷ 2 ∷ []) ≡ (true ∷ []) ∷ []
a_call_that_panics = refl

a_call_that_never_returns : given (before (Term.Call (var 3) 4 [] 1 (Unwind.Block 2))) (0 ∷ 1 ∷ []) ≡ []
a_call_that_never_returns = refl

a_panic_in_a_call_that_never_returns : given (before (Term.Call (var 3) 4 [] 1 (Unwind.Block 2))) (0 ∷ 2 ∷ [])
    ≡ (true ∷ []) ∷ []
a_panic_in_a_call_that_never_returns = refl

a_drop : given (before (Term.DropAt (var 4) 1 (Unwind.Block 2))) (0 ∷ 1 ∷ []) ≡ (false ∷ []) ∷ []
a_drop = refl

a_drop_that_panics : given (before (Term.DropAt (var 4) 1 (Unwind.Block 2))) (0 ∷ 2 ∷ []) ≡ (true ∷ []) ∷ []
a_drop_that_panics = refl

a_drop_of_what_needs_none : given (before (Term.DropAt (var 2) 1 (Unwind.Block 2))) (0 ∷ 1 ∷ []) ≡ [] ∷ []
a_drop_of_what_needs_none = refl

which_never_panics : given (before (Term.DropAt (var 2) 1 (Unwind.Block 2))) (0 ∷ 2 ∷ []) ≡ []
which_never_panics = refl

a_panic_gives_nothing : given (before (Term.Panic Why.Explicit (Unwind.Block 2))) (0 ∷ 2 ∷ []) ≡ [] ∷ []
a_panic_gives_nothing = refl

unwinding_leaves_with_a_1 : given_leaving (before (Term.Ask (var 2) 1 Unwind.Resume)) (0 ∷ []) ≡ (true ∷ []) ∷ []
unwinding_leaves_with_a_1 = refl

so_does_an_abort : given_leaving (before (Term.Ask (var 2) 1 Unwind.Abort)) (0 ∷ []) ≡ (true ∷ []) ∷ []
so_does_an_abort = refl

a_panic_leaves_without : given_leaving (before (Term.Panic Why.Explicit Unwind.Resume)) (0 ∷ []) ≡ [] ∷ []
a_panic_leaves_without = refl

a_return_is_no_such_end : given_leaving branching (0 ∷ 1 ∷ []) ≡ []
a_return_is_no_such_end = refl
