use Rattle.std.proofs.Common.{◌∙◌}
use Rattle.drop_plans.proofs.analyses.Analyses.new.Goals as goal

pub present_rows-requires-clause-forest : goal.present_rows-requires-clause-forest
present_rows-requires-clause-forest c found at = (c.requires.gone found at).forest

pub present_rows-requires-clause-switches : goal.present_rows-requires-clause-switches
present_rows-requires-clause-switches c found at = (c.requires.gone found at).switches

pub returns : goal.returns
returns c found at =
    let g = c.requires.gone found at in record {
      forest = g.forest;
      below = c.in_ok-present.ensures.masks ∙ g.switches.below;
      present = c.in_ok-present.ensures.rows found at;
      gone = g.rows;
    }
