use Rattle.typing_soundness.proofs.Items.Meanings.{one_number, one_param_number}
use Rattle.typing_soundness.proofs.law.law_of_written_types.Goals as goal

pub returns-clause-types : goal.returns-clause-types
returns-clause-types c = one_number

pub returns-clause-params : goal.returns-clause-params
returns-clause-params c = one_param_number
