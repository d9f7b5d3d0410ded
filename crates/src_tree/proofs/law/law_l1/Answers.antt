use Rattle.src_tree.proofs.Places.{spelled_once}
use Rattle.src_tree.proofs.law.law_l1.Goals as goal

pub returns : goal.returns
returns c = spelled_once
