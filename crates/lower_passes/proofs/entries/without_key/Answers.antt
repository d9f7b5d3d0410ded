use Rattle.std.proofs.Common.{◌∙◌, sym}
use Rattle.lower_passes.specs.Scoped.{held}
use Rattle.lower_passes.proofs.Keyed.{none_goes}
use Rattle.lower_passes.proofs.entries.without_key.Goals as goal

pub returns-else-has_key : goal.returns-else-has_key
returns-else-has_key c = none_goes c.args.key.0 (held c.args.entries) (sym c.has_key.ensures ∙ c.if-has_key.false)
