-- The right operand of an assignment is evaluated before its place.
use Rattle.std.proofs.Common.{◌≡◌, refl, [], ◌∷◌}
use Rattle.mir_base.specs.declared.trace.End.{End}
use Rattle.mir_base.specs.declared.trace.Event.TheVariants.{Call as call, Return as return, Make as make, Dropped as drop}
use Rattle.cfg_meaning.specs.Programs.{raw_graph_run}
use Rattle.lower_rules.specs.Lower.{graph_of}
use Rattle.src_meaning.proofs.Examples.Assignments.{element}

the_value_before_the_place : raw_graph_run (graph_of element) [] 100
    ≡ (
      call 4 ∷ make 0 1 ∷ make 0 2 ∷ call 3 ∷ make 0 3 ∷ return 3 ∷ call 2 ∷ return 2 ∷ drop 0 2 ∷
          return 0 ∷ drop 0 1 ∷ return 0 ∷ drop 0 3 ∷ return 0 ∷ return 4 ∷ [],
      End.Returned,
    )
the_value_before_the_place = refl
