-- A mark of a comment inside, and a character that is none.
use Rattle.std.proofs.Common.{◌∙◌, arith}
use Rattle.std.proofs.lemmas.List.{get_or_read}
use Rattle.src_token.proofs.CommentSteps.{past_closing, past_plain}
use Rattle.src_token.proofs.characters.comment_length.Goals as goal

pub loop-i-preserved-then-closes_comment : goal.loop-i-preserved-then-closes_comment
loop-i-preserved-then-closes_comment c = record {
  left =
      c.loop-i.invariant.left
      ∙ past_closing c.args.inside.now c.loop-i.i c.loop-i.depth c.loop-i-test.true c.index-inside-i.result c.character_at-next.result c.loop-i.second
      (get_or_read c.args.inside.now c.loop-i.i _ c.loop-i-test.true c.index-inside-i.is 0) c.character_at-next.ensures c.if-second.false c.if-depth-eq0.false c.if-closes_comment.ensures;
  shallow = omega arith;
}

pub loop-i-preserved : goal.loop-i-preserved
loop-i-preserved c = record {
  left =
      c.loop-i.invariant.left
      ∙ past_plain c.args.inside.now c.loop-i.i c.loop-i.depth c.loop-i-test.true c.index-inside-i.result c.character_at-next.result c.loop-i.second
      (get_or_read c.args.inside.now c.loop-i.i _ c.loop-i-test.true c.index-inside-i.is 0) c.character_at-next.ensures c.if-second.false c.if-closes_comment.ensures c.if-opens_comment.ensures;
  shallow = omega arith;
}
