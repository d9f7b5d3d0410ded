use Rattle.std.proofs.Common.{◌≡◌, drop, []}
use Rattle.std.specs.List.{filter_map}
use Rattle.src_tree.specs.View.{parts_in}
use Rattle.typing_rules.specs.Collected.{starting_with, item_name, names_differ}
use Rattle.typing_rules.specs.Items.{items_of, item_syns}
use Rattle.name_table.proofs.item_names.names_differ.Given as goal

abbrev pub invariant-loop-piece : goal.invariant-loop-piece
invariant-loop-piece l =
    names_differ (filter_map item_name (item_syns (items_of (parts_in l.pieces)))) [] (starting_with l.items)
    ≡ names_differ (filter_map item_name (item_syns (items_of (parts_in (drop l.piece-index l.pieces))))) l.seen (starting_with l.items)
