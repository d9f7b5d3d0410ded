use Rattle.std.proofs.Common.{◌≡◌, ◌++◌, map, drop}
use Rattle.scope_table.specs.Table.{rows_of_arms, operand_rows, field_rows, statement_rows}
use Rattle.typed_tree.specs.View.{tree_of, field_of, nodes_from, fields_from}
use Rattle.scope_table.proofs.walking.+rows.Given as goal

abbrev pub invariant-add_arms-loop-arm : goal.invariant-add_arms-loop-arm
invariant-add_arms-loop-arm l =
    l.rows ++ rows_of_arms l.temporary (nodes_from (map tree_of (drop l.arm-index l.arms)))
    ≡ l.fn.rows ++ rows_of_arms l.temporary (nodes_from (map tree_of l.arms))

abbrev pub invariant-add_operands-loop-node : goal.invariant-add_operands-loop-node
invariant-add_operands-loop-node l =
    l.rows ++ operand_rows l.within l.id (nodes_from (map tree_of (drop l.node-index l.nodes)))
    ≡ l.fn.rows ++ operand_rows l.within l.id (nodes_from (map tree_of l.nodes))

abbrev pub invariant-add_fields-loop-field : goal.invariant-add_fields-loop-field
invariant-add_fields-loop-field l =
    l.rows ++ field_rows l.within l.id (fields_from (map field_of (drop l.field-index l.fields)))
    ≡ l.fn.rows ++ field_rows l.within l.id (fields_from (map field_of l.fields))

abbrev pub invariant-add_statements-loop-node : goal.invariant-add_statements-loop-node
invariant-add_statements-loop-node l =
    l.rows ++ statement_rows l.within (nodes_from (map tree_of (drop l.node-index l.nodes)))
    ≡ l.fn.rows ++ statement_rows l.within (nodes_from (map tree_of l.nodes))
