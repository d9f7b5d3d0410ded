use Rattle.std.proofs.Common.{◌≡◌, map, drop}
use Rattle.typed_tree.specs.Nodes.{nodes_among, nodes_of_fields, first_with}
use Rattle.typed_tree.specs.View.{tree_of, field_of, nodes_from, fields_from}
use Rattle.typed_tree.proofs.search.+search.Given as goal

abbrev pub invariant-find_in_nodes-loop-node : goal.invariant-find_in_nodes-loop-node
invariant-find_in_nodes-loop-node l =
    first_with l.id.0 (nodes_among (nodes_from (map tree_of l.nodes))) ≡ first_with l.id.0 (nodes_among (nodes_from (map tree_of (drop l.node-index l.nodes))))

abbrev pub invariant-find_in_fields-loop-field : goal.invariant-find_in_fields-loop-field
invariant-find_in_fields-loop-field l =
    first_with l.id.0 (nodes_of_fields (fields_from (map field_of l.fields))) ≡ first_with l.id.0 (nodes_of_fields (fields_from (map field_of (drop l.field-index l.fields))))
