use Rattle.scope_table.proofs.Params.{table_is_right}
use Rattle.scope_table.proofs.laws.law_of_scopes.Goals as goal

pub returns-clause-values : goal.returns-clause-values
returns-clause-values c = table_is_right _

pub returns-clause-free : goal.returns-clause-free
returns-clause-free c = table_is_right _
