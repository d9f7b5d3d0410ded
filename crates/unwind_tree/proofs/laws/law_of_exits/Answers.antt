use Rattle.unwind_tree.proofs.Following.{follows}
use Rattle.unwind_tree.proofs.laws.law_of_exits.Goals as goal

pub returns : goal.returns
returns c = follows
