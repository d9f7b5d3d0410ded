use Rattle.drop_plans.proofs.facts.facts_at.Goals as goal

pub returns-clause-known : goal.returns-clause-known
returns-clause-known c items body are at ends = record {
  present = c.in_ok-row_at.ensures.known items body are are.present at ends;
  gone = c.in_ok-row_at-2.ensures.known items body are are.gone at ends;
}
