-- A value that is moved on one way, and what is left on the others.
use Rattle.std.proofs.Common.{◌≡◌, refl, [], ◌∷◌, pos}
use Rattle.mir_base.specs.declared.trace.End.{End}
use Rattle.mir_base.specs.declared.trace.Event.TheVariants.{Call as call, Return as return, Unwind as unwind, Make as make, Dropped as drop, Asked as asked, Panicked as panic}
use Rattle.mir_base.specs.declared.trace.Why.{Why}
use Rattle.typed_tree.specs.Tree.{Ask}
use Rattle.cfg_meaning.specs.Programs.{raw_graph_run}
use Rattle.lower_rules.specs.Lower.{graph_of}
use Rattle.src_meaning.proofs.Examples.Conditions.{moved_if}

moved : raw_graph_run (graph_of moved_if) (pos 0 ∷ []) 100
    ≡ (call 2 ∷ make 0 1 ∷ asked (pos 0) ∷ call 1 ∷ drop 0 1 ∷ return 0 ∷ return 1 ∷ return 2 ∷ [], End.Returned)
moved = refl

kept : raw_graph_run (graph_of moved_if) (pos 1 ∷ []) 100
    ≡ (call 2 ∷ make 0 1 ∷ asked (pos 1) ∷ drop 0 1 ∷ return 0 ∷ return 2 ∷ [], End.Returned)
kept = refl

unwound : raw_graph_run (graph_of moved_if) [] 100
    ≡ (call 2 ∷ make 0 1 ∷ panic Why.Ask ∷ drop 0 1 ∷ return 0 ∷ unwind 2 ∷ [], End.Panicked)
unwound = refl
