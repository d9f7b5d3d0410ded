use Rattle.std.proofs.Common.{rules, ◌≡◌, ◌++◌, List, refl, map}
use Rattle.std.proofs.lemmas.Result.{on_ok_weaker}
use Rattle.scope_table.specs.Table.{pattern_rows, pattern_rows_of_fields, pattern_rows_among}
use Rattle.typed_tree.specs.declared.node.Form.{the_lemmas}
use Rattle.typed_tree.specs.declared.node.Node.{Node}
use Rattle.typed_tree.specs.declared.node.NumberedField.{NumberedField}
use Rattle.typed_tree.specs.View.{tree_of, field_of, nodes_from, fields_from}
use Rattle.typed_tree.proofs.Following.{one_more, two_behind}
use Rattle.scope_table.proofs.InForm.{of_pattern}
use Rattle.scope_table.proofs.patterns.+patterns.Goals as goal

pub add_parts-loop-part-preserved : goal.add_parts-loop-part-preserved
add_parts-loop-part-preserved t c =
    let F = λ (all : List Node). pattern_rows_among c.args.temporary c.args.name (nodes_from (map tree_of all)) in
    let part = λ (x : Node). pattern_rows c.args.temporary c.args.name (tree_of x) in
    let is_new : c.add_pattern.new.rows ≡ c.loop-part.rows ++ part c.part-item.result = search rules in
    one_more F part c.args.parts.now c.loop-part.part-index c.part-item.result _ _ _ (λ x rest. refl) c.loop-part-test.true c.part-item.is is_new c.loop-part.invariant

pub add_fields-loop-field-preserved : goal.add_fields-loop-field-preserved
add_fields-loop-field-preserved t c =
    let F = λ (all : List NumberedField). pattern_rows_of_fields c.args.temporary c.args.name (fields_from (map field_of all)) in
    let part = λ (x : NumberedField). pattern_rows c.args.temporary c.args.name (field_of x).1 in
    let is_new : c.add_pattern.new.rows ≡ c.loop-field.rows ++ part c.field-item.result = search (rules, the_lemmas) in
    one_more F part c.args.fields.now c.loop-field.field-index c.field-item.result _ _ _ (λ x rest. refl) c.loop-field-test.true c.field-item.is is_new c.loop-field.invariant

pub add_pattern-returns : goal.add_pattern-returns
add_pattern-returns t c =
    let all = of_pattern c.args.temporary c.args.name _ c.args.pattern.now _ c.by_name.ensures c.row_of.ensures in
    on_ok_weaker _ (two_behind _ _ _ _ _ _ c.in_ok-push.ensures.pushed all) c.add_in_pattern.ensures
