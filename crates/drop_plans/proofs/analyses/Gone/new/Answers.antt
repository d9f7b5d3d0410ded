use Rattle.drop_plans.proofs.analyses.Gone.new.Goals as goal

pub returns : goal.returns
returns c found at = record {
  forest = c.in_ok-forest.ensures found at;
  switches = c.in_ok-rows.ensures.switches found at;
  rows = c.in_ok-rows.ensures.rows found at;
}
