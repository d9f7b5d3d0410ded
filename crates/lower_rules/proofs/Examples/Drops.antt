-- What is dropped where a scope is left, by a value and by `return`, and while a panic unwinds.
use Rattle.std.proofs.Common.{◌≡◌, refl, [], ◌∷◌, pos, negsuc}
use Rattle.mir_base.specs.declared.operator.Cmp.{Cmp}
use Rattle.mir_base.specs.declared.trace.End.{End}
use Rattle.mir_base.specs.declared.trace.Event.TheVariants.{Call as call, Return as return, Unwind as unwind, Make as make, Dropped as drop, Panicked as panic, Asked as asked}
use Rattle.mir_base.specs.declared.trace.Why.{Why}
use Rattle.typed_tree.specs.declared.node.Use.{Use}
use Rattle.typed_tree.specs.Tree.{absent, Variable, Comparison, Assign, Ask, If, Return, ProgramTree}
use Rattle.cfg_meaning.specs.Programs.{raw_graph_run}
use Rattle.lower_rules.specs.Lower.{graph_of}
use Rattle.lower_rules.proofs.Examples.Words.{n, used, a_name, unit, bool, i32, never, n_ty, let_, stmt, block, number, nn, program}

-- fn main() { let a = N(1); if ask() == 0 { return; } let b = N(2); }
abbrev early : ProgramTree
early = program (block 0 unit (
    let_ 1 (used 2 n_ty Use.Move a_name) (nn 3 (pos 1))
    ∷ stmt 5 (n 6 unit (If (n 7 bool (Comparison Cmp.Eq (n 8 i32 Ask) (number 9 0)))
    (block 10 never (stmt 11 (n 12 never (Return absent)) ∷ [])) absent))
    ∷ let_ 13 (used 14 n_ty Use.Move a_name) (nn 15 (pos 2))
    ∷ [])) [] []

it_returns_early : raw_graph_run (graph_of early) (pos 0 ∷ []) 100
    ≡ (call 1 ∷ make 0 1 ∷ asked (pos 0) ∷ drop 0 1 ∷ return 0 ∷ return 1 ∷ [], End.Returned)
it_returns_early = refl

locals_in_reverse_order : raw_graph_run (graph_of early) (pos 7 ∷ []) 100
    ≡ (call 1 ∷ make 0 1 ∷ asked (pos 7) ∷ make 0 2 ∷ drop 0 2 ∷ return 0 ∷ drop 0 1 ∷ return 0 ∷ return 1 ∷ [], End.Returned)
locals_in_reverse_order = refl

-- fn main() { let a = N(1); let mut b = N(-1); b = N(2); }
abbrev assigning : ProgramTree
assigning = program (block 0 unit (
    let_ 1 (used 2 n_ty Use.Move a_name) (nn 3 (pos 1))
    ∷ let_ 5 (used 6 n_ty Use.Move a_name) (nn 7 (negsuc 0))
    ∷ stmt 9 (n 10 unit (Assign (n 11 n_ty (Variable 6)) (nn 12 (pos 2))))
    ∷ [])) [] []

-- the drop of the old value panics; the new one is stored, and is dropped before what is older
the_new_value_is_dropped_while_unwinding : raw_graph_run (graph_of assigning) [] 100
    ≡ (call 1 ∷ make 0 1 ∷ make 0 2 ∷ make 0 3 ∷ drop 0 2 ∷ panic Why.Explicit ∷ unwind 0 ∷ drop 0 3 ∷ return 0 ∷ drop 0 1 ∷ return 0 ∷ unwind 1 ∷ [], End.Panicked)
the_new_value_is_dropped_while_unwinding = refl
