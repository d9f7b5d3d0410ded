use Rattle.std.proofs.Common.{rules, ◌≡◌, ◌∷◌, ◌++◌, ◌∙◌, List, [], refl, ap, map}
use Rattle.std.proofs.lemmas.List.{map_push}
use Rattle.typed_tree.specs.declared.body.Param.{Param}
use Rattle.typed_tree.specs.declared.node.Form.{the_lemmas}
use Rattle.typed_tree.specs.Nodes.{number_of}
use Rattle.typed_tree.specs.View.{tree_of, param_tree}
use Rattle.src_meaning.specs.Scopes.{Entry}
use Rattle.lower_locals.specs.View.{entry_of, param_entry}
use Rattle.typed_tree.proofs.Following.{one_more}
use Rattle.lower_locals.proofs.body.add_params.Goals as goal

pub loop-param-preserved : goal.loop-param-preserved
loop-param-preserved c =
    let x = c.param-item.result in
    let F = λ (all : List Param). map param_entry (map param_tree all) in
    let part = λ (x : Param). param_entry (param_tree x) ∷ [] in
    let number : x.pattern.id.0 ≡ number_of (tree_of x.pattern) = search (rules, the_lemmas) in
    let is_new : map entry_of c.push.new.self ≡ map entry_of c.loop-param.found ++ part x =
    ap (map entry_of) c.in_ok-push.ensures.pushed ∙ map_push entry_of _ _
    ∙ ap (λ (n : _). map entry_of c.loop-param.found ++ ((let e : Entry = record { key = n; ty = x.ty } in e) ∷ [])) number in
    one_more F part c.args.params.now c.loop-param.param-index x _ _ _ (λ x rest. refl) c.loop-param-test.true c.param-item.is is_new c.loop-param.invariant
