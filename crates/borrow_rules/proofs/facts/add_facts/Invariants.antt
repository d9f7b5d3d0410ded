use Rattle.std.proofs.Common.{◌≡◌, ◌++◌, map, drop}
use Rattle.typed_tree.specs.View.{body_of, param_tree}
use Rattle.typing_rules.specs.Replaced.{facts_from}
use Rattle.borrow_rules.specs.View.{fact_in}
use Rattle.borrow_rules.proofs.facts.add_facts.Given as goal

abbrev pub invariant-loop-param : goal.invariant-loop-param
invariant-loop-param l =
    map fact_in l.facts ++ facts_from (body_of l.body) l.number (map param_tree (drop l.param-index l.body.params))
    ≡ map fact_in l.fn.facts ++ facts_from (body_of l.body) 0 (body_of l.body).params
