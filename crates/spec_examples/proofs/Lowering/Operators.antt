-- Bounds and overflow panic, and what is held is dropped.
use Rattle.std.proofs.Common.{◌≡◌, refl, [], ◌∷◌, pos, negsuc}
use Rattle.mir_base.specs.declared.trace.End.{End}
use Rattle.mir_base.specs.declared.trace.Event.TheVariants.{Call as call, Return as return, Unwind as unwind, Make as make, Dropped as drop, Printed as printed, Asked as asked, Panicked as panic}
use Rattle.mir_base.specs.declared.trace.Why.{Why}
use Rattle.typed_tree.specs.Tree.{Index}
use Rattle.cfg_meaning.specs.Programs.{raw_graph_run}
use Rattle.lower_rules.specs.Lower.{graph_of}
use Rattle.src_meaning.proofs.Examples.Operators.{past_the_end, remainder, sum_, within}

an_index_past_the_end : raw_graph_run (graph_of past_the_end) [] 100
    ≡ (
      call 2 ∷ make 0 1 ∷ make 0 2 ∷ panic Why.Index ∷ drop 0 1 ∷ return 0 ∷ drop 0 2 ∷ return 0 ∷
          unwind 2 ∷ [],
      End.Panicked,
    )
an_index_past_the_end = refl

an_index_within_the_array : raw_graph_run (graph_of within) [] 100
    ≡ (
      call 2 ∷ make 0 1 ∷ make 0 2 ∷ printed (pos 6) ∷ drop 0 1 ∷ return 0 ∷ drop 0 2 ∷ return 0 ∷
          return 2 ∷ [],
      End.Returned,
    )
an_index_within_the_array = refl

a_sum_that_overflows : raw_graph_run (graph_of sum_) (pos 1 ∷ []) 100
    ≡ (call 2 ∷ asked (pos 1) ∷ panic Why.Overflow ∷ unwind 2 ∷ [], End.Panicked)
a_sum_that_overflows = refl

a_sum_that_fits : raw_graph_run (graph_of sum_) (pos 0 ∷ []) 100
    ≡ (call 2 ∷ asked (pos 0) ∷ printed (pos 2147483647) ∷ return 2 ∷ [], End.Returned)
a_sum_that_fits = refl

a_remainder_has_the_sign_of_the_dividend : raw_graph_run (graph_of remainder) (pos 2 ∷ []) 100
    ≡ (call 2 ∷ asked (pos 2) ∷ printed (negsuc 0) ∷ return 2 ∷ [], End.Returned)
a_remainder_has_the_sign_of_the_dividend = refl

a_remainder_by_zero : raw_graph_run (graph_of remainder) (pos 0 ∷ []) 100
    ≡ (call 2 ∷ asked (pos 0) ∷ panic Why.Divide ∷ unwind 2 ∷ [], End.Panicked)
a_remainder_by_zero = refl
