use Rattle.well_typed.specs.Program.{program}
use Rattle.well_typed.proofs.ClaimLemmas.{so_where_holds, holds_where_so}
use Rattle.well_typed.proofs.ItemLemmas.{are_finite, are_distinct, is_program}
use Rattle.well_typed.proofs.NumberLemmas.{numbers_differ}
use Rattle.well_typed.proofs.law.law_of_typing.Goals as goal

pub returns-clause-test : goal.returns-clause-test
returns-clause-test c = λ p. (so_where_holds (program p), holds_where_so (program p))

pub returns-clause-numbers : goal.returns-clause-numbers
returns-clause-numbers c = numbers_differ

pub returns-clause-finite : goal.returns-clause-finite
returns-clause-finite c = are_finite

pub returns-clause-types : goal.returns-clause-types
returns-clause-types c = are_distinct

pub returns-clause-scalars : goal.returns-clause-scalars
returns-clause-scalars c = is_program
