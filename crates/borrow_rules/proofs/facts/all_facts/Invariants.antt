use Rattle.std.proofs.Common.{◌≡◌, ◌++◌, map, drop}
use Rattle.typed_tree.specs.View.{body_of}
use Rattle.typing_rules.specs.Replaced.{all_facts}
use Rattle.borrow_rules.specs.View.{fact_in}
use Rattle.borrow_rules.proofs.facts.all_facts.Given as goal

abbrev pub invariant-loop-body : goal.invariant-loop-body
invariant-loop-body l = map fact_in l.facts ++ all_facts (map body_of (drop l.body-index l.bodies)) ≡ all_facts (map body_of l.bodies)
