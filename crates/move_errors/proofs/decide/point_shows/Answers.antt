use Rattle.std.proofs.Common.{sym, ap, subst, ◌∙◌}
use Rattle.init_flow.specs.Concerns.{AreOfBody}
use Rattle.move_errors.specs.Runs.{actions_of}
use Rattle.move_errors.proofs.Using.{acts-used, used-anywhere}
use Rattle.move_errors.proofs.decide.point_shows.Goals as goal

pub first_bad-requires-clause-used : goal.first_bad-requires-clause-used
first_bad-requires-clause-used c =
    let w = c.args.watch.now in
    used-anywhere w.body.now c.args.at.block c.as_slice.result.now
    (subst (AreOfBody w.body.now) (sym (ap (actions_of c.args.at.block) c.as_slice.ensures ∙ c.in_ok-fill.ensures)) (acts-used w.items.now w.body.now c.args.at.block c.args.at.stage))
