-- Names of patterns, matches, and guards.
use Rattle.std.proofs.Common.{◌≡◌, refl, [], ◌∷◌, pos}
use Rattle.mir_base.specs.declared.trace.End.{End}
use Rattle.mir_base.specs.declared.trace.Event.TheVariants.{Call as call, Return as return, Make as make, Dropped as drop, Printed as printed, Asked as asked}
use Rattle.cfg_meaning.specs.Programs.{raw_graph_run}
use Rattle.lower_rules.specs.Lower.{graph_of}
use Rattle.src_meaning.proofs.Examples.Patterns.{match_, of_let, or_, params}

names_of_parameters_are_entries_after_their_parameter : raw_graph_run (graph_of params) [] 100
    ≡ (
      call 4 ∷ make 0 1 ∷ make 0 2 ∷ make 0 3 ∷ make 0 4 ∷ call 2 ∷ drop 0 4 ∷ return 0 ∷ drop 0 3 ∷
          return 0 ∷ drop 0 1 ∷ return 0 ∷ drop 0 2 ∷ return 0 ∷ return 2 ∷ return 4 ∷ [],
      End.Returned,
    )
names_of_parameters_are_entries_after_their_parameter = refl

what_a_let_does_not_take_is_dropped_with_the_statement : raw_graph_run (graph_of of_let) [] 100
    ≡ (
      call 4 ∷ call 3 ∷ make 0 1 ∷ make 0 2 ∷ return 3 ∷ drop 0 2 ∷ return 0 ∷ printed (pos 7) ∷ drop 0 1 ∷
          return 0 ∷ return 4 ∷ [],
      End.Returned,
    )
what_a_let_does_not_take_is_dropped_with_the_statement = refl

the_guard_holds : raw_graph_run (graph_of match_) (pos 4 ∷ []) 100
    ≡ (call 4 ∷ make 0 1 ∷ asked (pos 4) ∷ call 1 ∷ drop 0 1 ∷ return 0 ∷ return 1 ∷ return 4 ∷ [], End.Returned)
the_guard_holds = refl

the_guard_fails : raw_graph_run (graph_of match_) (pos 5 ∷ []) 100
    ≡ (call 4 ∷ make 0 1 ∷ asked (pos 5) ∷ printed (pos 4) ∷ drop 0 1 ∷ return 0 ∷ return 4 ∷ [], End.Returned)
the_guard_fails = refl

a_guard_is_evaluated_once : raw_graph_run (graph_of or_) (pos 1 ∷ pos 0 ∷ []) 100
    ≡ (call 4 ∷ asked (pos 1) ∷ printed (pos 2) ∷ return 4 ∷ [], End.Returned)
a_guard_is_evaluated_once = refl
