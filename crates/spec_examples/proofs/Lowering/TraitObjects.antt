-- A trait object is called and dropped by the impl of the value in its box.
use Rattle.std.proofs.Common.{◌≡◌, refl, [], ◌∷◌, pos}
use Rattle.mir_base.specs.declared.trace.End.{End}
use Rattle.mir_base.specs.declared.trace.Event.TheVariants.{Call as call, Return as return, Unwind as unwind, Make as make, Boxed as box, Dropped as drop, Freed as free, Printed as printed, Asked as asked, Panicked as panic}
use Rattle.mir_base.specs.declared.trace.Why.{Why}
use Rattle.cfg_meaning.specs.Programs.{raw_graph_run}
use Rattle.lower_rules.specs.Lower.{graph_of}
use Rattle.src_meaning.proofs.Examples.TraitObjects.{shown}

by_the_impl_of_e : raw_graph_run (graph_of shown) (pos 1 ∷ []) 100
    ≡ (
      call 7 ∷ call 5 ∷ asked (pos 1) ∷ make 1 1 ∷ box 2 ∷ return 5 ∷ call 6 ∷ call 4 ∷ printed (pos 9) ∷
          return 4 ∷ panic Why.Explicit ∷ drop 1 1 ∷ return 2 ∷ free 2 ∷ unwind 6 ∷ unwind 7 ∷ [],
      End.Panicked,
    )
by_the_impl_of_e = refl

by_the_impl_of_d : raw_graph_run (graph_of shown) (pos 0 ∷ []) 100
    ≡ (
      call 7 ∷ call 5 ∷ asked (pos 0) ∷ make 0 1 ∷ box 2 ∷ return 5 ∷ call 6 ∷ call 3 ∷ printed (pos 1) ∷
          return 3 ∷ panic Why.Explicit ∷ drop 0 1 ∷ return 0 ∷ free 2 ∷ unwind 6 ∷ unwind 7 ∷ [],
      End.Panicked,
    )
by_the_impl_of_d = refl
