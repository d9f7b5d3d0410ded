use Rattle.std.proofs.Common.{◌||◌, ◌∙◌}
use Rattle.cfg_graph.specs.Places.{named}
use Rattle.move_paths.specs.Uses.{use_of}
use Rattle.move_errors.proofs.Concerned.{told}
use Rattle.move_errors.proofs.bad.is_bad.Goals as goal

pub returns : goal.returns
returns c =
    let w = c.args.watch.now in
    (λ i. c.is_gone_above-over.ensures i || c.is_gone_within-within.ensures i)
    ∙ told w.items.now w.body.now w.forest c.requires.watched.is_forest (named c.args.place.now) c.nearest-near.result c.nearest-near.ensures
    (use_of c.args.how) c.args.row.now c.asked_for-asked.result.above c.asked_for-asked.result.within c.asked_for-asked.ensures.asks
