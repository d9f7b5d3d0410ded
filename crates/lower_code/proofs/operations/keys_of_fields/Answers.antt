use Rattle.std.proofs.Common.{rules, ◌≡◌, ◌++◌, ◌∷◌, [], List, refl, map}
use Rattle.std.proofs.lemmas.List.{map_push}
use Rattle.src_meaning.specs.FieldKeys.{field_keys}
use Rattle.typed_tree.specs.Nodes.{number_of}
use Rattle.typed_tree.specs.declared.node.Form.{the_lemmas}
use Rattle.typed_tree.specs.declared.node.NumberedField.{NumberedField}
use Rattle.typed_tree.specs.View.{field_of, fields_from}
use Rattle.lower_code.specs.View.{keys_seen}
use Rattle.lower_code.proofs.Nodes.{one_more}
use Rattle.lower_code.proofs.operations.keys_of_fields.Goals as goal

pub loop-field-preserved : goal.loop-field-preserved
loop-field-preserved c =
    let F = λ (all : List NumberedField). map (λ f. f.1) (field_keys (fields_from (map field_of all))) in
    let part = λ (x : NumberedField). number_of (field_of x).1 in
    let is_new : keys_seen c.push.new.self ≡ keys_seen c.loop-field.keys ++ part c.field-item.result ∷ [] = search (rules, the_lemmas, map_push) in
    one_more F part c.args.fields.now c.loop-field.field-index c.field-item.result _ _ _ (λ x rest. refl) c.loop-field-test.true c.field-item.is is_new c.loop-field.invariant
