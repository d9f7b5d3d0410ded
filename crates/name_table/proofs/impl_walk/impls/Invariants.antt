use Rattle.std.proofs.Common.{◌≡◌, ◌≤◌, length, drop}
use Rattle.src_tree.specs.View.{parts_in}
use Rattle.typing_rules.specs.Collected.{impl_of, starting_with}
use Rattle.typing_rules.specs.Items.{item_syns, items_of}
use Rattle.typeck_heads.specs.Forms.{known_of}
use Rattle.name_table.specs.Forms.{each_done}
use Rattle.name_table.proofs.impl_walk.impls.Given as goal

abbrev pub invariant-loop-piece : goal.invariant-loop-piece
invariant-loop-piece l =
    record {
      answers : each_done (impl_of (known_of l.known)) (item_syns (items_of (parts_in l.pieces))) (starting_with l.initial.items)
          ≡ each_done (impl_of (known_of l.known)) (item_syns (items_of (parts_in (drop l.piece-index l.pieces)))) (starting_with l.items);
      grows : length l.initial.items.types ≤ length l.items.types;
    }
