use Rattle.std.proofs.Common.{◌≡◌, ◌++◌, ℕ, List, rules, refl, ap, ◌∙◌, map}
use Rattle.std.specs.Prelude.{option_map}
use Rattle.typed_tree.specs.View.{tree_of, field_of, nodes_from, fields_from}
use Rattle.typed_tree.specs.declared.node.Form.{the_lemmas}
use Rattle.typed_tree.specs.declared.node.Node.{Node}
use Rattle.typed_tree.specs.declared.node.NumberedField.{NumberedField}
use Rattle.typing_rules.specs.Accesses.{ToPart, bound, bound_fields, bound_parts, with_step}
use Rattle.borrow_rules.specs.AccessView.{bound_in, place_if_any}
use Rattle.borrow_rules.proofs.Joined.{one_more_listed}
use Rattle.borrow_rules.proofs.bindings.+bindings.Goals as goal

pub add_fields-loop-field-preserved : goal.add_fields-loop-field-preserved
add_fields-loop-field-preserved t c =
    let place = place_if_any c.args.place.now in
    let F = λ (k : ℕ) (all : List NumberedField). bound_fields place (fields_from (map field_of all)) in
    let part = λ (k : ℕ) (x : NumberedField). bound (option_map (with_step (ToPart (field_of x).0)) place) (field_of x).1 in
    let is_new : map bound_in c.add_part.new.bounds ≡ map bound_in c.loop-field.bounds ++ part 0 c.field-item.result = search (rules, the_lemmas) in
    one_more_listed F part c.args.fields.now c.loop-field.field-index c.field-item.result _ _ _ (λ k x rest. refl) c.loop-field-test.true c.field-item.is is_new c.loop-field.invariant

pub add_parts-loop-pattern-preserved : goal.add_parts-loop-pattern-preserved
add_parts-loop-pattern-preserved t c =
    let place = place_if_any c.args.place.now in
    let F = λ (k : ℕ) (all : List Node). bound_parts place k (nodes_from (map tree_of all)) in
    let part = λ (k : ℕ) (x : Node). bound (option_map (with_step (ToPart k)) place) (tree_of x) in
    let added : map bound_in c.add_part.new.bounds ≡ map bound_in c.loop-pattern.bounds ++ part c.loop-pattern.number c.pattern-item.result = search rules in
    let is_new : map bound_in c.add_part.new.bounds ≡ map bound_in c.loop-pattern.bounds ++ part c.loop-pattern.pattern-index c.pattern-item.result =
    added ∙ ap (λ (k : ℕ). map bound_in c.loop-pattern.bounds ++ part k c.pattern-item.result) c.loop-pattern.invariant.number in
    record {
      number = search rules;
      bounds = one_more_listed F part c.args.parts.now c.loop-pattern.pattern-index c.pattern-item.result _ _ _ (λ k x rest. refl) c.loop-pattern-test.true c.pattern-item.is is_new c.loop-pattern.invariant.bounds;
    }
