-- The row of a node by its number.
use Rattle.std.specs.Prelude.{ℕ, ◌==◌, List, Option, map, option_and_then, slice_get}
use Rattle.std.specs.List.{position}
use Rattle.scope_table.specs.declared.row.ScopeRow.{ScopeRow}

abbrev pub node_of : ScopeRow → ℕ
node_of row = row.node.0

-- the first row of the node with a number
abbrev pub row_with : ℕ → List ScopeRow → Option ScopeRow
row_with id rows = option_and_then (slice_get rows) (position (λ n. n == id) (map node_of rows))
