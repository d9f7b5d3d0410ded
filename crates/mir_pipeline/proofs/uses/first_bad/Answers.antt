use Rattle.std.proofs.Common.{rules, ◌≡◌, ◌≤◌, length}
use Rattle.mir_pipeline.proofs.FirstBad.{all_stand, is_first, one_more}
use Rattle.mir_pipeline.proofs.uses.first_bad.Goals as goal

pub returns-in-Err-clause-refused : goal.returns-in-Err-clause-refused
returns-in-Err-clause-refused c =
    is_first c.args.graph.now c.loop-number.number c.in-Err.error (search rules) c.loop-number.invariant c.in-Err.ensures.refused

pub loop-number-preserved : goal.loop-number-preserved
loop-number-preserved c = one_more c.args.graph.now c.loop-number.number c.loop-number.invariant c.in_default.ensures.accepted

pub returns-clause-accepted : goal.returns-clause-accepted
returns-clause-accepted c =
    let whole : length c.args.graph.now.bodies ≤ c.loop-number.number = search rules in
    all_stand c.args.graph.now c.loop-number.number whole c.loop-number.invariant
