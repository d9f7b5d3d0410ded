-- Operands and temporaries are dropped by age, whatever the exit is, and jumps leave an operand's scope.
use Rattle.std.proofs.Common.{◌≡◌, refl, [], ◌∷◌}
use Rattle.mir_base.specs.declared.trace.End.{End}
use Rattle.mir_base.specs.declared.trace.Event.TheVariants.{Call as call, Return as return, Unwind as unwind, Make as make, Dropped as drop, Panicked as panic}
use Rattle.mir_base.specs.declared.trace.Why.{Why}
use Rattle.cfg_meaning.specs.Programs.{raw_graph_run}
use Rattle.lower_rules.specs.Lower.{graph_of}
use Rattle.src_meaning.proofs.Examples.Operands.{break_in_operands, panic_in_a_tail, panic_in_operands}

break_drops_operands : raw_graph_run (graph_of break_in_operands) [] 100
    ≡ (
      call 6 ∷ make 0 1 ∷ make 0 2 ∷ make 0 3 ∷ make 0 4 ∷ drop 0 4 ∷ return 0 ∷ drop 0 3 ∷ return 0 ∷
          drop 0 2 ∷ return 0 ∷ drop 0 1 ∷ return 0 ∷ return 6 ∷ [],
      End.Returned,
    )
break_drops_operands = refl

a_panic_drops_operands_before_temporaries_of_the_statement : raw_graph_run (graph_of panic_in_operands) [] 100
    ≡ (
      call 6 ∷ call 2 ∷ make 0 1 ∷ return 2 ∷ call 3 ∷ make 0 2 ∷ return 3 ∷ call 4 ∷ make 0 3 ∷ return 4 ∷
          panic Why.Explicit ∷ drop 0 3 ∷ return 0 ∷ drop 0 1 ∷ return 0 ∷ drop 0 2 ∷ return 0 ∷ unwind 6 ∷ [],
      End.Panicked,
    )
a_panic_drops_operands_before_temporaries_of_the_statement = refl

operands_and_temporaries_of_one_node_go_by_age : raw_graph_run (graph_of panic_in_a_tail) [] 100
    ≡ (
      call 6 ∷ make 0 1 ∷ make 0 2 ∷ call 8 ∷ return 8 ∷ panic Why.Explicit ∷ drop 0 2 ∷ return 0 ∷
          drop 0 1 ∷ return 0 ∷ unwind 6 ∷ [],
      End.Panicked,
    )
operands_and_temporaries_of_one_node_go_by_age = refl
