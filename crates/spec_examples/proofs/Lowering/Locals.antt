-- Locals are dropped in the reverse order of their declaration, and ticks end a run at once.
use Rattle.std.proofs.Common.{◌≡◌, refl, [], ◌∷◌}
use Rattle.mir_base.specs.declared.trace.End.{End}
use Rattle.mir_base.specs.declared.trace.Event.TheVariants.{Call as call, Return as return, Make as make, Dropped as drop}
use Rattle.cfg_meaning.specs.Programs.{raw_graph_run}
use Rattle.lower_rules.specs.Lower.{graph_of}
use Rattle.src_meaning.proofs.Examples.Locals.{again, two}

the_younger_first : raw_graph_run (graph_of two) [] 100
    ≡ (call 2 ∷ make 0 1 ∷ make 0 2 ∷ drop 0 2 ∷ return 0 ∷ drop 0 1 ∷ return 0 ∷ return 2 ∷ [], End.Returned)
the_younger_first = refl

in_three_ticks : raw_graph_run (graph_of two) [] 3
    ≡ (call 2 ∷ make 0 1 ∷ make 0 2 ∷ drop 0 2 ∷ return 0 ∷ drop 0 1 ∷ return 0 ∷ return 2 ∷ [], End.Returned)
in_three_ticks = refl

out_of_ticks_in_the_second_destructor : raw_graph_run (graph_of two) [] 2
    ≡ (call 2 ∷ make 0 1 ∷ make 0 2 ∷ drop 0 2 ∷ return 0 ∷ [], End.OutOfTicks)
out_of_ticks_in_the_second_destructor = refl

out_of_ticks_at_once : raw_graph_run (graph_of two) [] 0
    ≡ ([], End.OutOfTicks)
out_of_ticks_at_once = refl

a_moved_variable_is_assigned_again : raw_graph_run (graph_of again) [] 100
    ≡ (
      call 2 ∷ make 0 1 ∷ call 1 ∷ drop 0 1 ∷ return 0 ∷ return 1 ∷ make 0 2 ∷ call 1 ∷ drop 0 2 ∷
          return 0 ∷ return 1 ∷ return 2 ∷ [],
      End.Returned,
    )
a_moved_variable_is_assigned_again = refl
