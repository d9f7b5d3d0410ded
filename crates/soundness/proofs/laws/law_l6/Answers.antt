use Rattle.soundness.proofs.Sound.{once}
use Rattle.soundness.proofs.laws.law_l6.Goals as goal

pub returns : goal.returns
returns c = record { once = once }
