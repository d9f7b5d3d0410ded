use Rattle.src_parse.proofs.Laws.{reads_beginnings, reads_trees}
use Rattle.src_parse.proofs.law.law_of_reading.Goals as goal

pub returns-clause-beginnings : goal.returns-clause-beginnings
returns-clause-beginnings c = reads_beginnings

pub returns-clause-trees : goal.returns-clause-trees
returns-clause-trees c = reads_trees
