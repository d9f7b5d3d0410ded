use Rattle.std.proofs.Common.{◌≡◌, ◌≤◌, length, drop}
use Rattle.src_tree.specs.View.{parts_in}
use Rattle.typing_rules.specs.Collected.{heads_collected, starting_with}
use Rattle.typing_rules.specs.Items.{items_of}
use Rattle.typeck_heads.specs.Forms.{known_of}
use Rattle.name_table.specs.Walked.{count_in}
use Rattle.name_table.proofs.item_walk.heads_from.Given as goal

abbrev pub invariant-loop-piece : goal.invariant-loop-piece
invariant-loop-piece l =
    record {
      answers : heads_collected (known_of l.known) (count_in l.initial.walked) (items_of (parts_in l.pieces)) (starting_with l.initial.items)
          ≡ heads_collected (known_of l.known) (count_in l.walked) (items_of (parts_in (drop l.piece-index l.pieces))) (starting_with l.items);
      grows : length l.initial.items.types ≤ length l.items.types;
      next : l.walked.traits ≡ length l.items.traits;
    }
