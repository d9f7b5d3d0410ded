use Rattle.drop_laws.proofs.KindLaws.{each-path-has-a-tree}
use Rattle.drop_laws.proofs.laws.law_of_trees.Goals as goal

pub returns : goal.returns
returns c = record { trees = each-path-has-a-tree }
