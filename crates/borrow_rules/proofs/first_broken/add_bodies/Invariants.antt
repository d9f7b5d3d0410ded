use Rattle.std.proofs.Common.{◌≡◌, ◌++◌, map, drop}
use Rattle.typed_tree.specs.View.{body_of}
use Rattle.borrow_rules.specs.Answers.{fault_in, faults_of}
use Rattle.borrow_rules.specs.View.{params_in}
use Rattle.borrow_rules.proofs.first_broken.add_bodies.Given as goal

abbrev pub invariant-loop-body : goal.invariant-loop-body
invariant-loop-body l =
    map fault_in l.faults.items ++ faults_of l.items (params_in l.found.keys) (map body_of (drop l.body-index l.bodies))
    ≡ map fault_in l.fn.faults.items ++ faults_of l.items (params_in l.found.keys) (map body_of l.bodies)
