use Rattle.std.proofs.Common.{◌∙◌}
use Rattle.typeck_env.proofs.Keys.{any_key}
use Rattle.typeck_env.proofs.places.is_any.Goals as goal

pub returns : goal.returns
returns c = c.has_key.ensures ∙ any_key c.args.key.0 c.args.keys.now
