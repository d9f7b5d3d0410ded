-- Jumps out of loops, and what a turn holds.
use Rattle.std.proofs.Common.{◌≡◌, refl, [], ◌∷◌, pos}
use Rattle.mir_base.specs.declared.trace.End.{End}
use Rattle.mir_base.specs.declared.trace.Event.TheVariants.{Call as call, Return as return, Make as make, Dropped as drop, Printed as printed, Asked as asked}
use Rattle.cfg_meaning.specs.Programs.{raw_graph_run}
use Rattle.lower_rules.specs.Lower.{graph_of}
use Rattle.src_meaning.proofs.Examples.Loops.{breaking, continuing, while_let}

a_break_out_of_two_loops : raw_graph_run (graph_of breaking) [] 4
    ≡ (call 2 ∷ make 0 1 ∷ drop 0 1 ∷ return 0 ∷ printed (pos 7) ∷ return 2 ∷ [], End.Returned)
a_break_out_of_two_loops = refl

in_no_less_than_four_ticks : raw_graph_run (graph_of breaking) [] 3
    ≡ (call 2 ∷ make 0 1 ∷ [], End.OutOfTicks)
in_no_less_than_four_ticks = refl

temporaries_live_to_the_end_of_the_turn : raw_graph_run (graph_of while_let) (pos 0 ∷ pos 1 ∷ []) 100
    ≡ (
      call 2 ∷ make 0 1 ∷ call 3 ∷ asked (pos 0) ∷ return 3 ∷ printed (pos 7) ∷ drop 0 1 ∷ return 0 ∷
          make 0 2 ∷ call 3 ∷ asked (pos 1) ∷ return 3 ∷ drop 0 2 ∷ return 0 ∷ return 2 ∷ [],
      End.Returned,
    )
temporaries_live_to_the_end_of_the_turn = refl

a_continue_leaves_the_body : raw_graph_run (graph_of continuing) (pos 0 ∷ pos 0 ∷ pos 1 ∷ []) 100
    ≡ (
      call 2 ∷ asked (pos 0) ∷ make 0 1 ∷ drop 0 1 ∷ return 0 ∷ asked (pos 0) ∷ make 0 2 ∷ drop 0 2 ∷
          return 0 ∷ asked (pos 1) ∷ return 2 ∷ [],
      End.Returned,
    )
a_continue_leaves_the_body = refl
