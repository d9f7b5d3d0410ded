use Rattle.std.proofs.Common.{◌∙◌, List, length, ap, subst}
use Rattle.drop_ends.specs.declared.decided.Decided.{Decided}
use Rattle.drop_bodies.specs.Counts.{AreCounts, kind_at, totals_of}
use Rattle.drop_bodies.proofs.body.plan_body.Goals as goal

pub counts_of-requires-clause-forest : goal.counts_of-requires-clause-forest
counts_of-requires-clause-forest c = c.requires.told.forest.once

pub counts_of-requires-clause-count : goal.counts_of-requires-clause-count
counts_of-requires-clause-count c = ap length c.as_slice.ensures ∙ c.in_ok-plan.ensures.decided.long

pub returns : goal.returns
returns c =
    let told = c.args.told.now in
    let plan = c.in_ok-plan.plan in record {
      forest = told.forest;
      is_forest = c.requires.told.forest;
      flagged = c.in_ok-plan.ensures.flagged;
      flags = c.in_ok-plan.ensures.flags;
      room = c.in_ok-plan.ensures.room;
      decided = c.in_ok-plan.ensures.decided;
      counts = subst (λ (l : List Decided). AreCounts (kind_at told.forest.paths l c.args.body.now.blocks)
          (length c.args.body.now.blocks) (length plan.flags.paths) (totals_of c.in_ok-counts.counts)) c.as_slice.ensures
          c.in_ok-counts.ensures;
    }
