-- Where the temporaries of a tail, of a condition and of `if let` are dropped.
use Rattle.std.proofs.Common.{◌≡◌, refl, [], ◌∷◌, pos}
use Rattle.mir_base.specs.declared.trace.End.{End}
use Rattle.mir_base.specs.declared.trace.Event.TheVariants.{Call as call, Return as return, Make as make, Dropped as drop, Printed as printed}
use Rattle.cfg_meaning.specs.Programs.{raw_graph_run}
use Rattle.lower_rules.specs.Lower.{graph_of}
use Rattle.src_meaning.proofs.Examples.Temporaries.{if_, if_let, match_, tail}

of_a_tail_before_the_locals : raw_graph_run (graph_of tail) [] 100
    ≡ (
      call 4 ∷ call 3 ∷ make 0 1 ∷ make 0 2 ∷ call 2 ∷ return 2 ∷ drop 0 2 ∷ return 0 ∷ drop 0 1 ∷
          return 0 ∷ return 3 ∷ printed (pos 5) ∷ return 4 ∷ [],
      End.Returned,
    )
of_a_tail_before_the_locals = refl

of_if_let_before_the_else_block : raw_graph_run (graph_of if_let) [] 100
    ≡ (call 4 ∷ make 0 1 ∷ call 5 ∷ return 5 ∷ drop 0 1 ∷ return 0 ∷ printed (pos 2) ∷ return 4 ∷ [], End.Returned)
of_if_let_before_the_else_block = refl

of_a_condition_before_the_branch : raw_graph_run (graph_of if_) [] 100
    ≡ (call 4 ∷ make 0 1 ∷ call 2 ∷ return 2 ∷ drop 0 1 ∷ return 0 ∷ printed (pos 1) ∷ return 4 ∷ [], End.Returned)
of_a_condition_before_the_branch = refl

of_a_scrutinee_after_the_match : raw_graph_run (graph_of match_) [] 100
    ≡ (call 4 ∷ make 0 1 ∷ call 2 ∷ return 2 ∷ printed (pos 1) ∷ drop 0 1 ∷ return 0 ∷ return 4 ∷ [], End.Returned)
of_a_scrutinee_after_the_match = refl
