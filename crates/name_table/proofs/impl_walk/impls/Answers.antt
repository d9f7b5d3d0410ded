use Rattle.std.proofs.Common.{arith}
use Rattle.src_tree.specs.View.{parts_in}
use Rattle.typing_rules.specs.Collected.{impl_of, starting_with}
use Rattle.typing_rules.specs.Items.{item_syns, items_of}
use Rattle.typeck_heads.specs.Answers.{Refuses}
use Rattle.typeck_heads.specs.Forms.{known_of}
use Rattle.name_table.specs.Forms.{each_done}
use Rattle.name_table.proofs.EachItem.{on_done, stopped_done}
use Rattle.name_table.proofs.impl_walk.impls.Goals as goal

pub loop-piece-preserved : goal.loop-piece-preserved
loop-piece-preserved c =
    record {
      answers =
          on_done (impl_of (known_of c.args.known.now)) _ c.args.pieces.now c.loop-piece.piece-index c.piece-item.result (starting_with c.loop-piece.items) _ _
          c.loop-piece-test.true c.piece-item.is c.loop-piece.invariant.answers c.in_ok-impl_at.ensures.answers;
      grows = omega arith;
    }

pub returns-in_err-impl_at-clause-answers : goal.returns-in_err-impl_at-clause-answers
returns-in_err-impl_at-clause-answers c =
    let refused : Refuses (each_done (impl_of (known_of c.args.known.now)) (item_syns (items_of (parts_in c.args.pieces.now))) (starting_with c.args.items.now)) c.in_err-impl_at.field-0.0 =
    stopped_done (impl_of (known_of c.args.known.now)) _ c.args.pieces.now c.loop-piece.piece-index c.piece-item.result (starting_with c.loop-piece.items) c.in_err-impl_at.field-0.0
    c.loop-piece-test.true c.piece-item.is c.loop-piece.invariant.answers c.in_err-impl_at.ensures.answers in
    grind (arith, refused)
