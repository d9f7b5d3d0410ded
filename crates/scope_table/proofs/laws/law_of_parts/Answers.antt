use Rattle.scope_table.proofs.PartsLines.{parts_in_their_scopes}
use Rattle.scope_table.proofs.PartsRows.{table_has_the_parts}
use Rattle.scope_table.proofs.laws.law_of_parts.Goals as goal

pub returns-clause-table : goal.returns-clause-table
returns-clause-table c = table_has_the_parts _

pub returns-clause-table_by_itself : goal.returns-clause-table_by_itself
returns-clause-table_by_itself c = table_has_the_parts _

pub returns-clause-values : goal.returns-clause-values
returns-clause-values c = parts_in_their_scopes _

pub returns-clause-free : goal.returns-clause-free
returns-clause-free c = parts_in_their_scopes _
