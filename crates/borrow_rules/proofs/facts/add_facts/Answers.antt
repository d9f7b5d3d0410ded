use Rattle.std.proofs.Common.{◌≡◌, ◌<◌, ◌+◌, ◌++◌, ◌∷◌, [], List, length, get_or, map, drop, rules, ap, subst, ◌∙◌}
use Rattle.std.proofs.lemmas.List.{map_push}
use Rattle.typed_tree.specs.Nodes.{nodes_of}
use Rattle.typed_tree.specs.Tree as tree
use Rattle.typed_tree.specs.View.{body_of, param_tree, tree_of}
use Rattle.typed_tree.specs.declared.body.Param.{Param}
use Rattle.typing_rules.specs.Replaced.{Facts, facts_from, facts_of}
use Rattle.borrow_rules.specs.View.{fact_in, facts_with, tree_in}
use Rattle.borrow_rules.proofs.Lists.{fact_more}
use Rattle.borrow_rules.proofs.facts.add_facts.Goals as goal

pub loop-param-preserved : goal.loop-param-preserved
loop-param-preserved c =
    let body = c.args.body.now in
    let i = c.loop-param.param-index in
    let number = c.loop-param.number in
    let d : Param = c.param-item.result in
    let same : c.as_slice-param-items.result.now ≡ body.params = search rules in
    let within : i < length body.params = subst (λ (ps : List Param). i < length ps) same c.loop-param-test.true in
    let is : d ≡ get_or body.params i d = subst (λ (ps : List Param). d ≡ get_or ps i d) same c.param-item.is in
    let nodes : map tree_in c.as_slice.result.now ≡ nodes_of (tree_of body.block) = search rules in
    let made : fact_in c.in_ok-fact.fact ≡ facts_of (body_of body) number (param_tree d) =
    c.in_ok-fact.ensures ∙ ap (λ (ns : List tree.Node). facts_with ns body.number number (param_tree d)) nodes in
    let pushed : map fact_in c.push.new.self ≡ map fact_in c.loop-param.facts ++ fact_in c.in_ok-fact.fact ∷ [] =
    ap (map fact_in) c.in_ok-push.ensures.pushed ∙ map_push fact_in c.loop-param.facts c.in_ok-fact.fact in
    let next : c.in-Some.next ≡ number + 1 = c.in-Some.ensures.1 in
    ap (λ (l : List Facts). l ++ facts_from (body_of body) c.in-Some.next (map param_tree (drop (i + 1) body.params))) pushed
    ∙ fact_more (body_of body) (map fact_in c.loop-param.facts) (fact_in c.in_ok-fact.fact) number c.in-Some.next body.params i d _ within is made next c.loop-param.invariant
