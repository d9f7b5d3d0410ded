use Rattle.std.proofs.Common.{◌≡◌, ◌++◌, ◌∙◌, List, refl, sym, ap, map}
use Rattle.typed_tree.specs.declared.body.Param.{Param}
use Rattle.typed_tree.specs.View.{param_tree}
use Rattle.lower_locals.specs.View.{entry_of, inside, inside_params}
use Rattle.typed_tree.proofs.Following.{one_more}
use Rattle.typed_tree.proofs.PlainForms.{node_seen}
use Rattle.lower_locals.proofs.body.add_in_params.Goals as goal

pub loop-param-preserved : goal.loop-param-preserved
loop-param-preserved c =
    let items = c.args.items.now in
    let p = c.param-item.result.pattern in
    let F = λ (all : List Param). inside_params items (map param_tree all) in
    let part = λ (x : Param). inside items (param_tree x).pattern in
    let is_new : map entry_of c.add_parts.new.found ≡ map entry_of c.loop-param.found ++ part c.param-item.result =
    c.in_ok-add_parts.ensures ∙ ap (λ n. map entry_of c.loop-param.found ++ inside items n) (sym (node_seen p)) in
    one_more F part c.args.params.now c.loop-param.param-index c.param-item.result _ _ _ (λ x rest. refl) c.loop-param-test.true c.param-item.is is_new c.loop-param.invariant
