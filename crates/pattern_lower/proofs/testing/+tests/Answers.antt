use Rattle.std.proofs.Common.{rules, ◌≡◌, ◌++◌, ◌∷◌, [], List, refl, sym, ap, ◌∙◌, map, suc, ℕ}
use Rattle.std.proofs.lemmas.List.{map_push}
use Rattle.std.proofs.lemmas.Result.{on_ok_weaker}
use Rattle.cfg_graph.specs.Places.{named}
use Rattle.src_meaning.specs.Shape.{AnyOf, shape, extended, in_fields, in_parts, alternatives_at}
use Rattle.store_model.specs.Places.Place.{ToPart}
use Rattle.typed_tree.specs.declared.node.Form.{the_lemmas}
use Rattle.typed_tree.specs.declared.node.Node.{Node}
use Rattle.typed_tree.specs.declared.node.NumberedField.{NumberedField}
use Rattle.typed_tree.specs.View.{tree_of, field_of, nodes_from, fields_from}
use Rattle.pattern_lower.specs.Seen.{test_of, tests_from, alternatives_from, tests_in, listed, listed_alternatives, to_field}
use Rattle.pattern_lower.specs.declared.found.Test.{Any}
use Rattle.pattern_lower.proofs.Following.{one_more, listed_behind, from_listed, from_listed_alternatives, one_pushed, behind_pushed, behind_same, test_of-Any, test_of-Truth, test_of-Equal, test_of-Variant}
use Rattle.pattern_lower.proofs.testing.+tests.Goals as goal
use Rattle.pattern_lower.proofs.testing.+tests.Goals.{add_tests-then-is_test+in_ok-copy_place-in-VariantPattern+in_ok-push-in-VariantPattern, add_tests-else-is_test}

pub add_of_fields-loop-field-preserved : goal.add_of_fields-loop-field-preserved
add_of_fields-loop-field-preserved t c =
    let F = λ (all : List NumberedField). listed ((in_fields c.args.items.now (fields_from (map field_of all)) (to_field c.args.variant)).tests (named c.args.place.now)) in
    let part = λ (x : NumberedField). listed ((shape c.args.items.now (field_of x).1).tests (extended (to_field c.args.variant (field_of x).0) (named c.args.place.now))) in
    let is_new : map test_of c.add_tests.new.found ≡ map test_of c.loop-field.found ++ part c.field-item.result = search (rules, the_lemmas) in
    one_more F F part c.args.fields.now c.loop-field.field-index c.field-item.result _ _ _ (λ x rest. listed_behind _ _) c.loop-field-test.true c.field-item.is is_new c.loop-field.invariant

pub add_of_parts-loop-part-preserved : goal.add_of_parts-loop-part-preserved
add_of_parts-loop-part-preserved t c =
    let F = λ (n : ℕ) (all : List Node). listed ((in_parts c.args.items.now (nodes_from (map tree_of all)) n).tests (named c.args.place.now)) in
    let part = λ (x : Node). listed ((shape c.args.items.now (tree_of x)).tests (extended (ToPart c.loop-part.number) (named c.args.place.now))) in
    let is_new : map test_of c.add_tests.new.found ≡ map test_of c.loop-part.found ++ part c.part-item.result = search (rules, the_lemmas) in
    let number : suc c.loop-part.number ≡ c.in_ok-number.number = search rules in
    one_more (F c.loop-part.number) (F c.in_ok-number.number) part c.args.parts.now c.loop-part.part-index c.part-item.result _ _ _ (λ x rest. listed_behind _ _ ∙ ap (λ n. part x ++ F n rest) number) c.loop-part-test.true c.part-item.is is_new c.loop-part.invariant

pub add_tests-returns-in_ok-any-in-OrPattern : goal.add_tests-returns-in_ok-any-in-OrPattern
add_tests-returns-in_ok-any-in-OrPattern t c =
    let alternatives = alternatives_at c.args.items.now (nodes_from (map tree_of c.as_slice-in-OrPattern.result.now)) (named c.args.place.now) in
    let at : listed ((shape c.args.items.now (tree_of c.args.pattern.now)).tests (named c.args.place.now)) ≡ AnyOf alternatives ∷ [] = search (rules, the_lemmas) in
    let any : test_of (Any c.in_ok-any-in-OrPattern.any) ≡ AnyOf alternatives = test_of-Any _ ∙ ap AnyOf (ap alternatives_from c.in_ok-any-in-OrPattern.ensures ∙ from_listed_alternatives _) in
    let pushed : (c.push-in-OrPattern.new.self ≡ c.args.found.now ++ Any c.in_ok-any-in-OrPattern.any ∷ []) → map test_of c.push-in-OrPattern.new.self ≡ map test_of c.args.found.now ++ listed ((shape c.args.items.now (tree_of c.args.pattern.now)).tests (named c.args.place.now)) =
    λ is. ap (map test_of) is ∙ map_push test_of _ _ ∙ ap (λ t. map test_of c.args.found.now ++ t ∷ []) any ∙ ap (λ l. map test_of c.args.found.now ++ l) (sym at) in
    on_ok_weaker _ pushed c.push-in-OrPattern.ensures.pushed

pub tests_of_each-loop-alternative-preserved : goal.tests_of_each-loop-alternative-preserved
tests_of_each-loop-alternative-preserved t c =
    let F = λ (all : List Node). listed_alternatives (alternatives_at c.args.items.now (nodes_from (map tree_of all)) (named c.args.place.now)) in
    let part = λ (x : Node). (shape c.args.items.now (tree_of x)).tests (named c.args.place.now) ∷ [] in
    let listed_new : map test_of c.add_tests.new.found ≡ listed ((shape c.args.items.now (tree_of c.alternative-item.result)).tests (named c.args.place.now)) = search rules in
    let one : tests_in c.add_tests.new.found ≡ (shape c.args.items.now (tree_of c.alternative-item.result)).tests (named c.args.place.now) = ap tests_from listed_new ∙ from_listed _ in
    let is_new : map tests_in c.push.new.self ≡ map tests_in c.loop-alternative.any ++ part c.alternative-item.result = ap (map tests_in) c.in_ok-push.ensures.pushed ∙ map_push tests_in _ _ ∙ ap (λ t. map tests_in c.loop-alternative.any ++ t ∷ []) one in
    one_more F F part c.args.alternatives.now c.loop-alternative.alternative-index c.alternative-item.result _ _ _ (λ x rest. refl) c.loop-alternative-test.true c.alternative-item.is is_new c.loop-alternative.invariant

pub add_tests-returns-in_ok-copy_place-in-NumberPattern : goal.add_tests-returns-in_ok-copy_place-in-NumberPattern
add_tests-returns-in_ok-copy_place-in-NumberPattern t c = on_ok_weaker _ (one_pushed test_of _ _ _ _ (search (rules, the_lemmas, test_of-Equal))) c.push.ensures.pushed

pub add_tests-returns-in_ok-copy_place-in-TruthPattern : goal.add_tests-returns-in_ok-copy_place-in-TruthPattern
add_tests-returns-in_ok-copy_place-in-TruthPattern t c = on_ok_weaker _ (one_pushed test_of _ _ _ _ (search (rules, the_lemmas, test_of-Truth))) c.push-in-TruthPattern.ensures.pushed

pub add_tests-returns-after-is_test : goal.add_tests-returns-after-is_test
add_tests-returns-after-is_test t c = elim c.if-is_test.branch [
  | add_tests-then-is_test+in_ok-copy_place-in-VariantPattern+in_ok-push-in-VariantPattern w ↦
      on_ok_weaker _ (behind_pushed test_of _ _ _ _ _ _ (search (rules, the_lemmas, test_of-Variant)) (w.found-is ∙ w.in_ok-push-in-VariantPattern.ensures.pushed)) c.add_of_fields-in-VariantPattern.ensures
  | add_tests-else-is_test w ↦
      on_ok_weaker _ (behind_same test_of _ _ _ _ _ (search (rules, the_lemmas)) w.found-is) c.add_of_fields-in-VariantPattern.ensures
]
