use Rattle.std.proofs.Common.{rules, ◌≡◌, ◌∷◌, ◌++◌, ◌∙◌, List, [], refl, sym, ap, map, append_assoc}
use Rattle.typed_tree.specs.declared.body.Param.{Param}
use Rattle.typed_tree.specs.declared.node.Form.{the_lemmas}
use Rattle.typed_tree.specs.Tree.{node}
use Rattle.typed_tree.specs.View.{tree_of, form_of, param_tree}
use Rattle.scope_table.specs.declared.row.ScopeRow.{ScopeRow}
use Rattle.scope_table.specs.Table.{row, name_in, pattern_rows_in, param_rows, rows_of_params}
use Rattle.typed_tree.proofs.Following.{one_more}
use Rattle.scope_table.proofs.walking.add_params.Goals as goal

pub loop-param-preserved : goal.loop-param-preserved
loop-param-preserved c =
    let s = c.args.scope in
    let p = c.param-item.result.pattern in
    let first = row p.id s (name_in s) in
    let F = λ (all : List Param). rows_of_params s (map param_tree all) in
    let part = λ (x : Param). param_rows s (param_tree x).pattern in
    let tree : tree_of p ≡ node p.id.0 p.at p.ty p.by (form_of p.form) = search (rules, the_lemmas) in
    let pushed : c.push.new.self ≡ c.loop-param.rows ++ first ∷ [] = search rules in
    let inside : c.add_in_pattern.new.rows ≡ c.push.new.self ++ pattern_rows_in s (name_in s) (form_of p.form) = search rules in
    let is_new : c.add_in_pattern.new.rows ≡ c.loop-param.rows ++ part c.param-item.result =
    inside ∙ ap (λ (l : List ScopeRow). l ++ pattern_rows_in s (name_in s) (form_of p.form)) pushed
    ∙ append_assoc c.loop-param.rows (first ∷ []) (pattern_rows_in s (name_in s) (form_of p.form))
    ∙ ap (λ n. c.loop-param.rows ++ param_rows s n) (sym tree) in
    one_more F part c.args.params.now c.loop-param.param-index c.param-item.result _ _ _ (λ x rest. refl) c.loop-param-test.true c.param-item.is is_new c.loop-param.invariant
