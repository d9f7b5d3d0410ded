use Rattle.std.proofs.Common.{arith}
use Rattle.src_ast.specs.Seen.{word_of}
use Rattle.typing_rules.specs.Collected.{starting_with}
use Rattle.typeck_heads.specs.Counts.{count_of}
use Rattle.typeck_heads.specs.Forms.{answered, known_of}
use Rattle.src_tree.specs.View.{parts_in}
use Rattle.typing_rules.specs.Collected.{body_sigs}
use Rattle.typing_rules.specs.Items.{bodies_among}
use Rattle.typeck_heads.specs.Answers.{Refuses}
use Rattle.typeck_heads.proofs.Walks.{in_node, on_pieces, stopped_at}
use Rattle.typeck_heads.proofs.body_walk.+bodies.Goals as goal

pub bodies_of-returns-in_err-count-clause-answers : goal.bodies_of-returns-in_err-count-clause-answers
bodies_of-returns-in_err-count-clause-answers t c =
    let refused : Refuses (body_sigs (known_of c.args.known.now) (word_of c.args.owner) (count_of c.args.count) (bodies_among (parts_in c.args.pieces.now)) (starting_with c.args.items.now)) c.in_err-count.field-0.0 =
    stopped_at (known_of c.args.known.now) (word_of c.args.owner) _ (count_of c.loop-piece.count) c.args.pieces.now c.loop-piece.piece-index c.piece-item.result
    (starting_with c.loop-piece.items) c.in_err-count.field-0.0 c.loop-piece-test.true c.piece-item.is c.loop-piece.invariant.answers c.in_err-count.ensures.answers in
    grind (arith, refused)

pub bodies_of-loop-piece-preserved : goal.bodies_of-loop-piece-preserved
bodies_of-loop-piece-preserved t c =
    record {
      answers =
          on_pieces (known_of c.args.known.now) (word_of c.args.owner) _ (count_of c.loop-piece.count) (count_of c.in_ok-count.count) c.args.pieces.now c.loop-piece.piece-index c.piece-item.result
          (starting_with c.loop-piece.items) _ c.loop-piece-test.true c.piece-item.is c.loop-piece.invariant.answers c.in_ok-count.ensures.answers;
      grows = omega arith;
    }

pub node_bodies-returns-clause-answers : goal.node_bodies-returns-clause-answers
node_bodies-returns-clause-answers t c =
    in_node (known_of c.args.known.now) (word_of c.args.owner) (count_of c.args.count) (count_of c.in_ok-next.next) c.args.node.now c.as_slice.result.now
    (starting_with c.args.items.now) (starting_with c.own_body.new.items) (answered count_of c.bodies_of.result) c.bodies_of.new.items
    c.in_ok-next.ensures.answers c.as_slice.ensures c.bodies_of.ensures.answers
