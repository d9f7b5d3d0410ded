use Rattle.std.proofs.Common.{rules, ◌≡◌, ◌∙◌, ◌<◌, map, refl, sym, ap}
use Rattle.std.proofs.lemmas.Result.{on_ok_weaker}
use Rattle.lower_rules.specs.Build as build
use Rattle.cfg_graph.specs.Places.{named}
use Rattle.lower_passes.specs.Framed.{frame_of}
use Rattle.pattern_lower.specs.Seen.{test_of, tests_in, alternatives_from}
use Rattle.pattern_lower.specs.declared.found.Test.{the_lemmas}
use Rattle.src_meaning.specs.Shape.{PatternTest, IsNumber, IsTruth, AnyOf}
use Rattle.store_model.specs.Effects as effects
use Rattle.lower_blocks.specs.Building.{building_of}
use Rattle.lower_blocks.proofs.Tested.{any_is, any_fits, any_size, test_size}
use Rattle.lower_blocks.proofs.conditions.+tests.Goals as goal

pub test-returns-in-Equal : goal.test-returns-in-Equal
test-returns-in-Equal t c =
    let is : test_of c.args.test.now ≡ IsNumber (record { node = c.in-Equal.node.0; place = named c.in-Equal.at }) c.in-Equal.value c.in-Equal.kind =
    search (rules, the_lemmas) in
    on_ok_weaker c.equals.result
    (λ made. made (effects.Number c.in-Equal.value c.in-Equal.kind) (search rules)
    ∙ ap (λ (one : PatternTest). build.test (frame_of c.args.frame) one c.args.yes c.args.no (building_of c.args.blocks.now)) (sym is)) c.equals.ensures

pub test-returns-in-Truth : goal.test-returns-in-Truth
test-returns-in-Truth t c =
    let is : test_of c.args.test.now ≡ IsTruth (record { node = c.in-Truth.node.0; place = named c.in-Truth.at }) c.in-Truth.value =
    search (rules, the_lemmas) in
    on_ok_weaker c.equals-in-Truth.result
    (λ made. made (effects.Truth c.in-Truth.value) refl
    ∙ ap (λ (one : PatternTest). build.test (frame_of c.args.frame) one c.args.yes c.args.no (building_of c.args.blocks.now)) (sym is)) c.equals-in-Truth.ensures

pub test-returns-in-Any : goal.test-returns-in-Any
test-returns-in-Any t c =
    let is : test_of c.args.test.now ≡ AnyOf (alternatives_from (map tests_in c.in-Any.alternatives)) =
    ap test_of c.in-Any.is ∙ any_is c.in-Any.alternatives in
    let items : c.as_slice.result.now ≡ c.in-Any.alternatives = search rules in
    on_ok_weaker c.any_test.result
    (λ made. made
    ∙ ap (λ all. build.any_test (frame_of c.args.frame) (alternatives_from (map tests_in all)) c.args.yes c.args.no (building_of c.args.blocks.now)) items
    ∙ ap (λ (one : PatternTest). build.test (frame_of c.args.frame) one c.args.yes c.args.no (building_of c.args.blocks.now)) (sym is)) c.any_test.ensures

pub test-any_test-requires : goal.test-any_test-requires
test-any_test-requires t c =
    let items : c.as_slice.result.now ≡ c.in-Any.alternatives = search rules in
    let less : any_size (alternatives_from (map tests_in c.as_slice.result.now)) < test_size (test_of c.args.test.now) =
    any_fits c.args.test.now c.in-Any.alternatives c.as_slice.result.now c.in-Any.is items in
    search rules
