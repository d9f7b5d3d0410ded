use Rattle.std.proofs.Common.{◌≡◌, ◌≤◌, length, drop}
use Rattle.src_ast.specs.Seen.{word_of}
use Rattle.src_tree.specs.View.{parts_in}
use Rattle.typing_rules.specs.Collected as walk
use Rattle.typing_rules.specs.Collected.{starting_with}
use Rattle.typing_rules.specs.Items.{bodies_among}
use Rattle.typeck_heads.specs.Counts.{count_of}
use Rattle.typeck_heads.specs.Forms.{known_of}
use Rattle.typeck_heads.proofs.body_walk.+bodies.Given as goal

abbrev pub invariant-bodies_of-loop-piece : goal.invariant-bodies_of-loop-piece
invariant-bodies_of-loop-piece l =
    record {
      answers : walk.body_sigs (known_of l.known) (word_of l.owner) (count_of l.initial.count) (bodies_among (parts_in l.pieces)) (starting_with l.initial.items)
          ≡ walk.body_sigs (known_of l.known) (word_of l.owner) (count_of l.count) (bodies_among (parts_in (drop l.piece-index l.pieces))) (starting_with l.items);
      grows : length l.initial.items.types ≤ length l.items.types;
    }
