use Rattle.std.proofs.Common.{◌∷◌, [], Some}
use Rattle.move_paths.specs.Uses.{use_of}
use Rattle.init_flow.proofs.Fitting.{fits-one}
use Rattle.drop_plans.proofs.facts.pass_use.Goals as goal

pub returns-in-Some : goal.returns-in-Some
returns-in-Some c = (
  c.in-Some.switch ∷ [],
  fits-one c.args.forest.now.paths c.args.gone (use_of c.args.how, c.args.place.now) (Some c.in-Some.switch) c.in-Some.ensures,
  c.turn.ensures,
)
