-- A closure holds its captures in the order of its list, and is taken by its call.
use Rattle.std.proofs.Common.{◌≡◌, refl, [], ◌∷◌, pos}
use Rattle.mir_base.specs.declared.trace.End.{End}
use Rattle.mir_base.specs.declared.trace.Event.TheVariants.{Call as call, Return as return, Make as make, Dropped as drop, Printed as printed}
use Rattle.cfg_meaning.specs.Programs.{raw_graph_run}
use Rattle.lower_rules.specs.Lower.{graph_of}
use Rattle.src_meaning.proofs.Examples.Closures.{called, dropped}

a_call_takes_the_closure : raw_graph_run (graph_of called) [] 100
    ≡ (
      call 2 ∷ make 0 1 ∷ make 0 2 ∷ call 3 ∷ printed (pos 4) ∷ call 1 ∷ drop 0 1 ∷ return 0 ∷ return 1 ∷
          drop 0 2 ∷ return 0 ∷ return 3 ∷ return 2 ∷ [],
      End.Returned,
    )
a_call_takes_the_closure = refl

captures_are_dropped_in_the_order_of_the_list : raw_graph_run (graph_of dropped) [] 100
    ≡ (call 2 ∷ make 0 1 ∷ make 0 2 ∷ drop 0 2 ∷ return 0 ∷ drop 0 1 ∷ return 0 ∷ return 2 ∷ [], End.Returned)
captures_are_dropped_in_the_order_of_the_list = refl
