use Rattle.std.proofs.Common.{◌≡◌, ◌++◌, map, drop}
use Rattle.typed_tree.specs.View.{tree_of, field_of, nodes_from, fields_from}
use Rattle.typing_rules.specs.Accesses as rules
use Rattle.typing_rules.specs.Accesses.{◌⊕◌}
use Rattle.borrow_rules.specs.AccessView.{aliases_in, argument_in, place_if_any, told_in}
use Rattle.borrow_rules.proofs.expressions.+told.Given as goal

abbrev pub invariant-collect_all-loop-node : goal.invariant-collect_all-loop-node
invariant-collect_all-loop-node l =
    (told_in l.out ⊕ rules.told_all (aliases_in l.aliases) (nodes_from (map tree_of (drop l.node-index l.nodes))))
    ≡ (told_in l.fn.out ⊕ rules.told_all (aliases_in l.aliases) (nodes_from (map tree_of l.nodes)))

abbrev pub invariant-collect_fields-loop-field : goal.invariant-collect_fields-loop-field
invariant-collect_fields-loop-field l =
    (told_in l.out ⊕ rules.told_fields (aliases_in l.aliases) (fields_from (map field_of (drop l.field-index l.fields))))
    ≡ (told_in l.fn.out ⊕ rules.told_fields (aliases_in l.aliases) (fields_from (map field_of l.fields)))

abbrev pub invariant-collect_arms-loop-arm : goal.invariant-collect_arms-loop-arm
invariant-collect_arms-loop-arm l =
    (told_in l.out ⊕ rules.told_arms (aliases_in l.aliases) (place_if_any l.place) (nodes_from (map tree_of (drop l.arm-index l.arms))))
    ≡ (told_in l.fn.out ⊕ rules.told_arms (aliases_in l.aliases) (place_if_any l.place) (nodes_from (map tree_of l.arms)))

abbrev pub invariant-collect_arguments-loop-node : goal.invariant-collect_arguments-loop-node
invariant-collect_arguments-loop-node l =
    map argument_in l.args ++ rules.arguments (aliases_in l.aliases) (nodes_from (map tree_of (drop l.node-index l.nodes)))
    ≡ map argument_in l.fn.args ++ rules.arguments (aliases_in l.aliases) (nodes_from (map tree_of l.nodes))
