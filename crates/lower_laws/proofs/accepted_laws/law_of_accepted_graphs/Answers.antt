-- Proves the clauses of `law_of_accepted_graphs`.
use Rattle.lower_laws.proofs.AcceptedWhole.{are_lowerable, accepted_graphs_are_well_formed}
use Rattle.lower_laws.proofs.accepted_laws.law_of_accepted_graphs.Goals as goal

pub returns-clause-programs : goal.returns-clause-programs
returns-clause-programs c = are_lowerable

pub returns-clause-graphs : goal.returns-clause-graphs
returns-clause-graphs c = accepted_graphs_are_well_formed
