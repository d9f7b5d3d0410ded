-- What a panic drops: the rest of a box, and destinations that are pending.
use Rattle.std.proofs.Common.{◌≡◌, refl, [], ◌∷◌}
use Rattle.mir_base.specs.declared.trace.End.{End}
use Rattle.mir_base.specs.declared.trace.Event.TheVariants.{Call as call, Return as return, Unwind as unwind, Make as make, Boxed as box, Dropped as drop, Freed as free, Panicked as panic}
use Rattle.mir_base.specs.declared.trace.Why.{Why}
use Rattle.cfg_meaning.specs.Programs.{raw_graph_run}
use Rattle.lower_rules.specs.Lower.{graph_of}
use Rattle.src_meaning.proofs.Examples.Unwinding.{boxed, of_let}

a_box_is_freed_after_its_content_panicked : raw_graph_run (graph_of boxed) [] 100
    ≡ (call 1 ∷ make 0 1 ∷ box 2 ∷ drop 0 1 ∷ panic Why.Explicit ∷ unwind 0 ∷ free 2 ∷ unwind 1 ∷ [], End.Panicked)
a_box_is_freed_after_its_content_panicked = refl

the_temporary_of_a_let_is_pending : raw_graph_run (graph_of of_let) [] 100
    ≡ (
      call 1 ∷ make 0 1 ∷ make 0 2 ∷ make 0 3 ∷ drop 0 1 ∷ panic Why.Explicit ∷ unwind 0 ∷ drop 0 2 ∷
          return 0 ∷ drop 0 3 ∷ return 0 ∷ unwind 1 ∷ [],
      End.Panicked,
    )
the_temporary_of_a_let_is_pending = refl
