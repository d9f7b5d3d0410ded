use Rattle.std.proofs.Common.{◌≡◌, ◌++◌, map, drop}
use Rattle.cfg_graph.specs.Places.{named}
use Rattle.src_meaning.specs.Shape.{in_fields, in_parts, alternatives_at}
use Rattle.typed_tree.specs.View.{tree_of, field_of, nodes_from, fields_from}
use Rattle.pattern_lower.specs.Seen.{test_of, tests_in, listed, listed_alternatives, to_field}
use Rattle.pattern_lower.proofs.testing.+tests.Given as goal

abbrev pub invariant-add_of_fields-loop-field : goal.invariant-add_of_fields-loop-field
invariant-add_of_fields-loop-field l =
    map test_of l.found ++ listed ((in_fields l.items (fields_from (map field_of (drop l.field-index l.fields))) (to_field l.variant)).tests (named l.place)) ≡ map test_of l.fn.found ++ listed ((in_fields l.items (fields_from (map field_of l.fields)) (to_field l.variant)).tests (named l.place))

abbrev pub invariant-add_of_parts-loop-part : goal.invariant-add_of_parts-loop-part
invariant-add_of_parts-loop-part l =
    map test_of l.found ++ listed ((in_parts l.items (nodes_from (map tree_of (drop l.part-index l.parts))) l.number).tests (named l.place)) ≡ map test_of l.fn.found ++ listed ((in_parts l.items (nodes_from (map tree_of l.parts)) 0).tests (named l.place))

abbrev pub invariant-tests_of_each-loop-alternative : goal.invariant-tests_of_each-loop-alternative
invariant-tests_of_each-loop-alternative l =
    map tests_in l.any ++ listed_alternatives (alternatives_at l.items (nodes_from (map tree_of (drop l.alternative-index l.alternatives))) (named l.place)) ≡ listed_alternatives (alternatives_at l.items (nodes_from (map tree_of l.alternatives)) (named l.place))
