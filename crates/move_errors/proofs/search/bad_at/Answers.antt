use Rattle.std.proofs.Common.{◌≡◌, List, ap, subst, sym, ◌∙◌}
use Rattle.cfg_graph.specs.Moves.Gone.{PathAction}
use Rattle.init_flow.specs.Concerns.{AreOfBody}
use Rattle.move_errors.specs.Rows.{after, first_by}
use Rattle.move_errors.specs.Runs.{acts_at, actions_of}
use Rattle.move_errors.proofs.Using.{acts-used, used-anywhere}
use Rattle.move_errors.proofs.search.bad_at.Goals as goal

pub first_bad-requires-clause-used : goal.first_bad-requires-clause-used
first_bad-requires-clause-used c =
    let w = c.args.watch.now in
    let at = c.args.at in
    used-anywhere w.body.now at.block c.as_slice.result.now
    (subst (AreOfBody w.body.now) (sym (ap (actions_of at.block) c.as_slice.ensures ∙ c.in_ok-fill.ensures)) (acts-used w.items.now w.body.now at.block at.stage))

pub returns-clause-first : goal.returns-clause-first
returns-clause-first c =
    let w = c.args.watch.now in
    let at = c.args.at in
    let acts : actions_of at.block c.as_slice.result.now ≡ acts_at w.items.now w.body.now at.block at.stage = ap (actions_of at.block) c.as_slice.ensures ∙ c.in_ok-fill.ensures in
    c.first_bad.ensures.first at.block ∙ ap (λ (z : List PathAction). first_by w.items.now w.body.now w.forest.paths z c.args.row.now) acts

pub returns-clause-after : goal.returns-clause-after
returns-clause-after c = λ none.
    let w = c.args.watch.now in
    let at = c.args.at in
    let acts : actions_of at.block c.as_slice.result.now ≡ acts_at w.items.now w.body.now at.block at.stage = ap (actions_of at.block) c.as_slice.ensures ∙ c.in_ok-fill.ensures in
    c.first_bad.ensures.after at.block none ∙ ap (λ (z : List PathAction). after w.items.now w.body.now w.forest.paths z c.args.row.now) acts
