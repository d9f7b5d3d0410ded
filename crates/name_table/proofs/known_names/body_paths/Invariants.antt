use Rattle.std.proofs.Common.{◌≡◌, ◌++◌, drop}
use Rattle.src_tree.specs.View.{parts_in}
use Rattle.typing_rules.specs.Items.{items_of, body_paths}
use Rattle.name_table.proofs.known_names.body_paths.Given as goal

abbrev pub invariant-loop-piece : goal.invariant-loop-piece
invariant-loop-piece l =
    body_paths (items_of (parts_in l.pieces)) ≡ l.table ++ body_paths (items_of (parts_in (drop l.piece-index l.pieces)))
