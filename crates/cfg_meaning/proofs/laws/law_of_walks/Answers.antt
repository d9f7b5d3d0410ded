use Rattle.cfg_meaning.proofs.FreeWalks.{free_walk_on, free_walk_same}
use Rattle.cfg_meaning.proofs.Runs.{values_walk_on, values_walk_same, values_nested}
use Rattle.cfg_meaning.proofs.laws.law_of_walks.Goals as goal

pub returns : goal.returns
returns c = record { values = values_walk_on; values_fuel = values_walk_same; free = free_walk_on; free_fuel = free_walk_same; nested = values_nested }
