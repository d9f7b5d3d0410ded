use Rattle.std.proofs.Common.{◌≡◌, ◌++◌, drop}
use Rattle.src_tree.specs.View.{parts_in}
use Rattle.typeck_checker.specs.Tables.{all_kinds_of}
use Rattle.typing_rules.specs.Items.{all_kinds, item_syns, items_of}
use Rattle.type_check.proofs.kinds.kinds.Given as goal

abbrev pub invariant-loop-piece : goal.invariant-loop-piece
invariant-loop-piece l =
    all_kinds (item_syns (items_of (parts_in l.pieces)))
    ≡ all_kinds_of l.kinds ++ all_kinds (item_syns (items_of (parts_in (drop l.piece-index l.pieces))))
