use Rattle.std.proofs.Common.{arith}
use Rattle.src_tree.specs.View.{parts_in}
use Rattle.typing_rules.specs.Collected.{heads_collected, starting_with}
use Rattle.typing_rules.specs.Items.{items_of}
use Rattle.typeck_heads.specs.Answers.{Refuses}
use Rattle.typeck_heads.specs.Forms.{known_of}
use Rattle.name_table.specs.Walked.{count_in}
use Rattle.name_table.proofs.ItemWalk.{on_items, stopped_item}
use Rattle.name_table.proofs.item_walk.heads_from.Goals as goal

pub returns-in_err-walked-clause-answers : goal.returns-in_err-walked-clause-answers
returns-in_err-walked-clause-answers c =
    let refused : Refuses (heads_collected (known_of c.args.known.now) (count_in c.args.walked) (items_of (parts_in c.args.pieces.now)) (starting_with c.args.items.now)) c.in_err-walked.field-0.0 =
    stopped_item (known_of c.args.known.now) _ (count_in c.loop-piece.walked) c.args.pieces.now c.loop-piece.piece-index c.piece-item.result
    (starting_with c.loop-piece.items) c.in_err-walked.field-0.0 c.loop-piece-test.true c.piece-item.is c.loop-piece.invariant.answers c.in_err-walked.ensures.answers in
    grind (arith, refused)

pub loop-piece-preserved : goal.loop-piece-preserved
loop-piece-preserved c =
    record {
      answers =
          on_items (known_of c.args.known.now) _ (count_in c.loop-piece.walked) (count_in c.in_ok-walked.walked) c.args.pieces.now c.loop-piece.piece-index c.piece-item.result
          (starting_with c.loop-piece.items) _ c.loop-piece-test.true c.piece-item.is c.loop-piece.invariant.answers c.in_ok-walked.ensures.answers;
      grows = omega arith;
      next = c.in_ok-walked.ensures.next;
    }
