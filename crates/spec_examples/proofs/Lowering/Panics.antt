-- Destructors that panic: the rest is dropped while unwinding, and a second panic aborts.
use Rattle.std.proofs.Common.{◌≡◌, refl, [], ◌∷◌}
use Rattle.mir_base.specs.declared.trace.End.{End}
use Rattle.mir_base.specs.declared.trace.Event.TheVariants.{Call as call, Return as return, Unwind as unwind, Make as make, Dropped as drop, Panicked as panic}
use Rattle.mir_base.specs.declared.trace.Why.{Why}
use Rattle.cfg_meaning.specs.Programs.{raw_graph_run}
use Rattle.lower_rules.specs.Lower.{graph_of}
use Rattle.src_meaning.proofs.Examples.Panics.{assigned, pending, result, struct_, twice}

the_rest_of_a_value_is_dropped : raw_graph_run (graph_of struct_) [] 100
    ≡ (
      call 2 ∷ make 0 1 ∷ make 0 2 ∷ make 0 3 ∷ drop 0 1 ∷ panic Why.Explicit ∷ unwind 0 ∷ drop 0 2 ∷
          return 0 ∷ drop 0 3 ∷ return 0 ∷ unwind 2 ∷ [],
      End.Panicked,
    )
the_rest_of_a_value_is_dropped = refl

a_second_panic_aborts : raw_graph_run (graph_of twice) [] 100
    ≡ (
      call 2 ∷ make 0 1 ∷ make 0 2 ∷ make 0 3 ∷ drop 0 1 ∷ panic Why.Explicit ∷ unwind 0 ∷ drop 0 2 ∷
          panic Why.Explicit ∷ unwind 0 ∷ [],
      End.Aborted,
    )
a_second_panic_aborts = refl

the_new_value_is_stored_all_the_same : raw_graph_run (graph_of assigned) [] 100
    ≡ (
      call 2 ∷ make 0 1 ∷ make 0 2 ∷ drop 0 1 ∷ panic Why.Explicit ∷ unwind 0 ∷ drop 0 2 ∷ return 0 ∷
          unwind 2 ∷ [],
      End.Panicked,
    )
the_new_value_is_stored_all_the_same = refl

a_result_is_dropped_after_the_parameters : raw_graph_run (graph_of result) [] 100
    ≡ (
      call 2 ∷ make 0 1 ∷ call 1 ∷ make 0 2 ∷ drop 0 1 ∷ panic Why.Explicit ∷ unwind 0 ∷ drop 0 2 ∷
          return 0 ∷ unwind 1 ∷ unwind 2 ∷ [],
      End.Panicked,
    )
a_result_is_dropped_after_the_parameters = refl

a_pending_destination_is_dropped : raw_graph_run (graph_of pending) [] 100
    ≡ (
      call 2 ∷ make 0 1 ∷ make 0 2 ∷ drop 0 1 ∷ panic Why.Explicit ∷ unwind 0 ∷ drop 0 2 ∷ return 0 ∷
          unwind 2 ∷ [],
      End.Panicked,
    )
a_pending_destination_is_dropped = refl
