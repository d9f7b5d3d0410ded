use Rattle.std.proofs.Common.{ap, sym, ◌∙◌}
use Rattle.mir_base.specs.declared.place_in_text.Pos.{Pos}
use Rattle.typeck_calls.proofs.CalledMethods.{given_behind}
use Rattle.typeck_calls.proofs.Heads.{drop_seen}
use Rattle.typeck_checker.specs.Stand.{env, stack, state, top}
use Rattle.typing_rules.specs.Rows.{received}
use Rattle.typeck_calls.proofs.receivers.with_self.Goals as goal

pub returns-clause-gives : goal.returns-clause-gives
returns-clause-gives c id at found seen has is expected count args =
    let before = c.args.checker.now in
    let after = c.check_receiver.new.checker in
    given_behind (env before) at id (top (stack before)) found count args expected (state before) has c.args.self_ty is
    (record { behind = c.behind_of.result; answer = c.answer_of-answer.result; place_at = c.last_at-place_at.result; is_unique = c.in_ok-is_unique.is_unique; is_drop = c.is_drop-is_drop.result })
    c.in_ok-params.params (top (stack after)) (state after)
    (ap (λ (p : Pos). received (env before) p (top (stack before)) c.args.self_ty (state before)) (sym c.last_at-place_at.ensures)
    ∙ c.in_ok-is_unique.ensures.gives.0) c.in_ok-is_unique.ensures.gives.1
    (c.in_ok-params.ensures.copy found seen) (c.answer_of-answer.ensures found seen)
    (c.is_drop-is_drop.ensures ∙ drop_seen before.walk.items c.args.method found seen)
    c.last_at-place_at.ensures
    (c.behind_of.ensures before.walk.items found seen (top (stack after)))
