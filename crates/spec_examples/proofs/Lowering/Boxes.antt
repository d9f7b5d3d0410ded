-- A box is freed after what is left of its content, and `forget` runs no destructor.
use Rattle.std.proofs.Common.{◌≡◌, refl, [], ◌∷◌}
use Rattle.mir_base.specs.declared.trace.End.{End}
use Rattle.mir_base.specs.declared.trace.Event.TheVariants.{Call as call, Return as return, Make as make, Boxed as box, Dropped as drop, Freed as free, ForgotMade as forgot_made, ForgotBox as forgot_box}
use Rattle.cfg_meaning.specs.Programs.{raw_graph_run}
use Rattle.lower_rules.specs.Lower.{graph_of}
use Rattle.src_meaning.proofs.Examples.Boxes.{forgotten, part}

a_box_is_freed_without_a_moved_part : raw_graph_run (graph_of part) [] 100
    ≡ (
      call 2 ∷ make 0 1 ∷ make 0 2 ∷ box 3 ∷ call 1 ∷ drop 0 1 ∷ return 0 ∷ return 1 ∷ drop 0 2 ∷ return 0 ∷
          free 3 ∷ return 2 ∷ [],
      End.Returned,
    )
a_box_is_freed_without_a_moved_part = refl

forget_tells_of_each_part : raw_graph_run (graph_of forgotten) [] 100
    ≡ (
      call 2 ∷ make 0 1 ∷ make 0 2 ∷ box 3 ∷ forgot_made 0 1 ∷ forgot_made 0 2 ∷ forgot_box 3 ∷ return 2 ∷ [],
      End.Returned,
    )
forget_tells_of_each_part = refl
