use Rattle.std.proofs.Common.{◌≡◌, ◌++◌, map, drop}
use Rattle.scope_table.specs.Table.{pattern_rows_of_fields, pattern_rows_among}
use Rattle.typed_tree.specs.View.{tree_of, field_of, nodes_from, fields_from}
use Rattle.scope_table.proofs.patterns.+patterns.Given as goal

abbrev pub invariant-add_parts-loop-part : goal.invariant-add_parts-loop-part
invariant-add_parts-loop-part l =
    l.rows ++ pattern_rows_among l.temporary l.name (nodes_from (map tree_of (drop l.part-index l.parts)))
    ≡ l.fn.rows ++ pattern_rows_among l.temporary l.name (nodes_from (map tree_of l.parts))

abbrev pub invariant-add_fields-loop-field : goal.invariant-add_fields-loop-field
invariant-add_fields-loop-field l =
    l.rows ++ pattern_rows_of_fields l.temporary l.name (fields_from (map field_of (drop l.field-index l.fields)))
    ≡ l.fn.rows ++ pattern_rows_of_fields l.temporary l.name (fields_from (map field_of l.fields))
