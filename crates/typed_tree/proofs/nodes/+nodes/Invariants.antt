use Rattle.std.proofs.Common.{◌≡◌, ◌++◌, map, drop}
use Rattle.typed_tree.specs.Nodes.{nodes_among, nodes_of_fields}
use Rattle.typed_tree.specs.View.{tree_of, field_of, nodes_from, fields_from}
use Rattle.typed_tree.specs.Listed.{trees}
use Rattle.typed_tree.proofs.nodes.+nodes.Given as goal

abbrev pub invariant-add_nodes-loop-node : goal.invariant-add_nodes-loop-node
invariant-add_nodes-loop-node l =
    trees l.found ++ nodes_among (nodes_from (map tree_of (drop l.node-index l.nodes))) ≡ trees l.fn.found ++ nodes_among (nodes_from (map tree_of l.nodes))

abbrev pub invariant-add_fields-loop-field : goal.invariant-add_fields-loop-field
invariant-add_fields-loop-field l =
    trees l.found ++ nodes_of_fields (fields_from (map field_of (drop l.field-index l.fields))) ≡ trees l.fn.found ++ nodes_of_fields (fields_from (map field_of l.fields))
