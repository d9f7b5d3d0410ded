use Rattle.std.proofs.lemmas.Result.{IfOk-weaker}
use Rattle.move_paths.specs.Forest.{path_at}
use Rattle.drop_plans.specs.Plans.{facts_of}
use Rattle.drop_plans.proofs.Closed.{closed, tree-of}
use Rattle.drop_plans.proofs.drops.plan_at.Goals as goal

pub plan-requires-clause-told : goal.plan-requires-clause-told
plan-requires-clause-told c =
    let told = c.args.told.now in
    let are = c.requires.told.1 in
    record {
      once = are.forest.once;
      closed = closed c.args.items.now c.requires.told.0 told.forest are.forest;
      below = are.below;
      present = c.in_ok-facts.ensures.long.0;
      gone = c.in_ok-facts.ensures.long.1;
      flags = c.requires.flags;
    }

pub returns : goal.returns
returns c =
    IfOk-weaker c.plan.result _ _
    (λ made h body tree are at ends is.
    (facts_of c.in_ok-facts.facts, c.in_ok-facts.ensures.known c.args.items.now body are at ends, h tree (tree-of c.args.items.now body c.args.told.now.forest are.forest (path_at c.args.told.now.forest.paths c.args.path) tree is)))
    c.plan.ensures
