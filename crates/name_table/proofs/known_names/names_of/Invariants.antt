use Rattle.std.proofs.Common.{◌≡◌, ◌++◌, drop}
use Rattle.std.specs.List.{filter_map}
use Rattle.src_tree.specs.View.{parts_in}
use Rattle.typing_rules.specs.Items.{items_of, item_syns}
use Rattle.name_table.specs.Forms.{sought}
use Rattle.name_table.proofs.known_names.names_of.Given as goal

abbrev pub invariant-loop-piece : goal.invariant-loop-piece
invariant-loop-piece l =
    filter_map (sought l.sort) (item_syns (items_of (parts_in l.pieces)))
    ≡ l.names ++ filter_map (sought l.sort) (item_syns (items_of (parts_in (drop l.piece-index l.pieces))))
