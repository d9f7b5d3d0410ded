use Rattle.std.proofs.Common.{◌≡◌, ◌++◌, map, drop}
use Rattle.src_meaning.specs.Locals.OfBody.{all_cells, cells_of_fields}
use Rattle.typed_tree.specs.View.{tree_of, field_of, nodes_from, fields_from}
use Rattle.lower_locals.specs.View.{entry_of}
use Rattle.lower_locals.proofs.parts.+parts.Given as goal

abbrev pub invariant-add_nodes-loop-node : goal.invariant-add_nodes-loop-node
invariant-add_nodes-loop-node l =
    map entry_of l.found ++ all_cells l.items (nodes_from (map tree_of (drop l.node-index l.nodes))) ≡ map entry_of l.fn.found ++ all_cells l.items (nodes_from (map tree_of l.nodes))

abbrev pub invariant-add_fields-loop-field : goal.invariant-add_fields-loop-field
invariant-add_fields-loop-field l =
    map entry_of l.found ++ cells_of_fields l.items (fields_from (map field_of (drop l.field-index l.fields))) ≡ map entry_of l.fn.found ++ cells_of_fields l.items (fields_from (map field_of l.fields))
