use Rattle.std.proofs.Common.{◌≡◌, ◌++◌, drop}
use Rattle.src_tree.specs.View.{parts_in}
use Rattle.typing_rules.specs.Items.{self_methods, item_syns, items_of}
use Rattle.type_check.proofs.self_methods.self_methods.Given as goal

abbrev pub invariant-loop-piece : goal.invariant-loop-piece
invariant-loop-piece l =
    self_methods (item_syns (items_of (parts_in l.pieces)))
    ≡ l.names ++ self_methods (item_syns (items_of (parts_in (drop l.piece-index l.pieces))))
