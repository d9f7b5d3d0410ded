-- Jumps out of loops, and what stands behind a call that does not return.
use Rattle.std.proofs.Common.{◌≡◌, refl, [], ◌∷◌, pos}
use Rattle.std.specs.Prelude.{codes}
use Rattle.mir_base.specs.declared.operator.Cmp.{Cmp}
use Rattle.mir_base.specs.declared.trace.End.{End}
use Rattle.mir_base.specs.declared.trace.Event.TheVariants.{Call as call, Return as return, Unwind as unwind, Make as make, Dropped as drop, Panicked as panic, Asked as asked, Printed as printed}
use Rattle.mir_base.specs.declared.trace.Why.{Why}
use Rattle.typed_tree.specs.declared.node.Use.{Use}
use Rattle.typed_tree.specs.Tree.{no_node, absent, present, Variable, Comparison, Call, Print, Ask, Panic, Block, If, Loop, Break, Continue, ProgramTree}
use Rattle.cfg_meaning.specs.Programs.{raw_graph_run}
use Rattle.lower_rules.specs.Lower.{graph_of}
use Rattle.lower_rules.proofs.Examples.Words.{n, used, a_name, unit, bool, i32, never, n_ty, let_, stmt, block, number, nn, signature, program}

-- fn main() { let x = loop { let a = N(1); if ask() == 0 { continue; } break 7; }; print(x); }
abbrev looping : ProgramTree
looping = program (block 0 unit (
    let_ 1 (used 2 i32 Use.Copy a_name) (n 3 i32 (Loop (block 4 never (
    let_ 5 (used 6 n_ty Use.Move a_name) (nn 7 (pos 1))
    ∷ stmt 9 (n 10 unit (If (n 11 bool (Comparison Cmp.Eq (n 12 i32 Ask) (number 13 0)))
    (block 14 never (stmt 15 (n 16 never (Continue 3)) ∷ [])) absent))
    ∷ stmt 17 (n 18 never (Break 3 (present (number 19 7))))
    ∷ []))))
    ∷ stmt 20 (n 21 unit (Print (used 22 i32 Use.Copy (Variable 2))))
    ∷ [])) [] []

each_turn_drops_its_local : raw_graph_run (graph_of looping) (pos 0 ∷ pos 5 ∷ []) 100
    ≡ (call 1 ∷ make 0 1 ∷ asked (pos 0) ∷ drop 0 1 ∷ return 0 ∷ make 0 2 ∷ asked (pos 5) ∷ drop 0 2 ∷ return 0 ∷ printed (pos 7) ∷ return 1 ∷ [], End.Returned)
each_turn_drops_its_local = refl

-- fn f() -> ! { panic!() }  fn main() { let a = N(1); print(f()); }
abbrev diverging : ProgramTree
diverging = program (block 0 unit (
    let_ 1 (used 2 n_ty Use.Move a_name) (nn 3 (pos 1))
    ∷ stmt 5 (n 6 unit (Print (n 7 never (Call 2 no_node))))
    ∷ [])) (signature (codes "f") [] never ∷ [])
    ((record { number = 2; params = []; answer = never; block = n 0 never (Block no_node (present (n 1 never Panic))) }) ∷ [])

what_is_behind_is_not_built : raw_graph_run (graph_of diverging) [] 100
    ≡ (call 1 ∷ make 0 1 ∷ call 2 ∷ panic Why.Explicit ∷ unwind 2 ∷ drop 0 1 ∷ return 0 ∷ unwind 1 ∷ [], End.Panicked)
what_is_behind_is_not_built = refl
