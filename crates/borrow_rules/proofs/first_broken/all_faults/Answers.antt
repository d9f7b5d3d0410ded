use Rattle.std.proofs.Common.{◌≡◌, map, rules, ◌∙◌}
use Rattle.typed_tree.specs.View.{program_of}
use Rattle.borrow_rules.specs.Answers.{fault_in, faults_of}
use Rattle.borrow_rules.specs.View.{params_in}
use Rattle.borrow_rules.proofs.Broken.{faults_alike}
use Rattle.borrow_rules.proofs.first_broken.all_faults.Goals as goal

pub returns : goal.returns
returns c =
    let p = program_of c.args.typed.now in
    let made : map fault_in c.add_bodies.new.faults.items ≡ faults_of p.items (params_in c.in_ok-found.found.keys) p.bodies = search rules in
    made ∙ faults_alike p (params_in c.in_ok-found.found.keys) c.in_ok-found.ensures
