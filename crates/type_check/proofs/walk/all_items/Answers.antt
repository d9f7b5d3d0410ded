use Rattle.std.proofs.Common.{[], ap, arith, sym, subst, ◌∙◌}
use Rattle.typeck_heads.specs.Answers.{Refuses}
use Rattle.src_tree.specs.View.{parts_in, piece_of}
use Rattle.typeck_checker.specs.Stand.{env, state}
use Rattle.typing_rules.specs.Items.{item_syns, items_of}
use Rattle.typing_rules.specs.Program.{all_items}
use Rattle.typing_rules.specs.Scope.{Env}
use Rattle.typeck_items.specs.Had.{had}
use Rattle.type_check.specs.Forms.{piece_and_bodies}
use Rattle.type_check.proofs.EachItem.{on_items, stopped_item}
use Rattle.type_check.proofs.walk.all_items.Goals as goal

pub piece_of_text-requires : goal.piece_of_text-requires
piece_of_text-requires c = ap (λ (z : Env). z.variables) c.loop-piece.invariant.same.1.0 ∙ c.requires

pub loop-piece-preserved : goal.loop-piece-preserved
loop-piece-preserved c =
    let before = c.loop-piece.invariant in
    let after = c.in_ok-piece_of_text.ensures.same in
    let s = state c.loop-piece.checker in
    let here = ap (λ (z : Env). piece_and_bodies z (had c.loop-piece.before) (piece_of c.piece-item.result) s) (sym before.same.1.0) ∙ c.in_ok-piece_of_text.ensures.gives in
    record {
      gives = on_items (env c.args.checker.now) _ (had c.loop-piece.before) (had c.piece_of_text.new.before) c.args.pieces.now c.loop-piece.piece-index c.piece-item.result
          s (state c.piece_of_text.new.checker) c.loop-piece-test.true c.piece-item.is before.gives here;
      same = (after.0 ∙ before.same.0, (after.1.0 ∙ before.same.1.0, after.1.1 ∙ before.same.1.1));
    }

pub returns-in_err-piece_of_text-clause-gives : goal.returns-in_err-piece_of_text-clause-gives
returns-in_err-piece_of_text-clause-gives c =
    let w = env c.args.checker.now in
    let e = c.in_err-piece_of_text.field-0.0 in
    let s = state c.loop-piece.checker in
    let refused : Refuses (all_items w (record { methods = []; impls = [] }) (item_syns (items_of (parts_in c.args.pieces.now))) (state c.args.checker.now)) e =
    stopped_item w _ (had c.loop-piece.before) c.args.pieces.now c.loop-piece.piece-index c.piece-item.result s e c.loop-piece-test.true c.piece-item.is c.loop-piece.invariant.gives
    (subst (λ (z : Env). Refuses (piece_and_bodies z (had c.loop-piece.before) (piece_of c.piece-item.result) s) e) c.loop-piece.invariant.same.1.0 c.in_err-piece_of_text.ensures.gives) in
    grind (arith, refused)
