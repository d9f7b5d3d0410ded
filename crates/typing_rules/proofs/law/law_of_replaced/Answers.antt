use Rattle.typing_rules.proofs.LeastSet.{rounds_find_the_least}
use Rattle.typing_rules.proofs.law.law_of_replaced.Goals as goal

pub returns : goal.returns
returns c = rounds_find_the_least
