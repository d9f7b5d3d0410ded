-- Tests from left to right, alternatives, and a guard before the names of its arm.
use Rattle.std.proofs.Common.{◌≡◌, refl, [], ◌∷◌, pos}
use Rattle.mir_base.specs.declared.operator.Cmp.{Cmp}
use Rattle.mir_base.specs.declared.trace.End.{End}
use Rattle.mir_base.specs.declared.trace.Event.TheVariants.{Call as call, Return as return, Unwind as unwind, Panicked as panic, Asked as asked, Printed as printed}
use Rattle.mir_base.specs.declared.trace.Why.{Why}
use Rattle.typed_tree.specs.declared.node.Use.{Use}
use Rattle.typed_tree.specs.Tree.{absent, present, Variable, Comparison, Print, Ask, Panic, Match, Arm, Wildcard, NumberPattern, OrPattern, ProgramTree}
use Rattle.cfg_meaning.specs.Programs.{raw_graph_run}
use Rattle.lower_rules.specs.Lower.{graph_of}
use Rattle.lower_rules.proofs.Examples.Words.{n, used, a_name, unit, bool, i32, never, nodes, stmt, block, number, program}

-- fn main() { match ask() { 0 | 1 => print(10), x if x < 5 => print(x), _ => panic!() } }
abbrev matching : ProgramTree
matching = program (block 0 unit (
    stmt 1 (n 2 unit (Match (n 3 i32 Ask) (nodes (
    n 4 unit (Arm (n 5 i32 (OrPattern (nodes (n 6 i32 (NumberPattern (pos 0)) ∷ n 7 i32 (NumberPattern (pos 1)) ∷ [])))) absent (n 8 unit (Print (number 9 10))))
    ∷ n 10 unit (Arm (used 11 i32 Use.Copy a_name) (present (n 12 bool (Comparison Cmp.Lt (used 13 i32 Use.Copy (Variable 11)) (number 14 5))))
    (n 15 unit (Print (used 16 i32 Use.Copy (Variable 11)))))
    ∷ n 17 never (Arm (n 18 i32 Wildcard) absent (n 19 never Panic))
    ∷ []))))
    ∷ [])) [] []

the_second_alternative : raw_graph_run (graph_of matching) (pos 1 ∷ []) 100 ≡ (call 1 ∷ asked (pos 1) ∷ printed (pos 10) ∷ return 1 ∷ [], End.Returned)
the_second_alternative = refl

the_guard_holds : raw_graph_run (graph_of matching) (pos 3 ∷ []) 100 ≡ (call 1 ∷ asked (pos 3) ∷ printed (pos 3) ∷ return 1 ∷ [], End.Returned)
the_guard_holds = refl

no_guard_holds : raw_graph_run (graph_of matching) (pos 9 ∷ []) 100 ≡ (call 1 ∷ asked (pos 9) ∷ panic Why.Explicit ∷ unwind 1 ∷ [], End.Panicked)
no_guard_holds = refl
