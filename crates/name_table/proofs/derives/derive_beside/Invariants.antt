use Rattle.std.proofs.Common.{◌≡◌, drop}
use Rattle.std.specs.List.{filter_map}
use Rattle.src_tree.specs.View.{parts_in}
use Rattle.typing_rules.specs.Collected.{adt_item, all_derive, starting_with}
use Rattle.typing_rules.specs.Items.{item_syns, items_of}
use Rattle.name_table.proofs.derives.derive_beside.Given as goal

abbrev pub invariant-loop-piece : goal.invariant-loop-piece
invariant-loop-piece l =
    all_derive l.dropped 0 (filter_map adt_item (item_syns (items_of (parts_in l.pieces)))) (starting_with l.items)
    ≡ all_derive l.dropped l.number (filter_map adt_item (item_syns (items_of (parts_in (drop l.piece-index l.pieces))))) (starting_with l.items)
