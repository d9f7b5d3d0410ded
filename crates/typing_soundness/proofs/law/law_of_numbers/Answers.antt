use Rattle.typing_soundness.proofs.Numbers.Order.{body_rises}
use Rattle.typing_soundness.proofs.Numbers.Rows.{typed_on}
use Rattle.typing_soundness.proofs.law.law_of_numbers.Goals as goal

pub returns-clause-typed : goal.returns-clause-typed
returns-clause-typed c f ns one_to_one context in_ standing n w h = typed_on f ns one_to_one context in_ standing n w h

pub returns-clause-order : goal.returns-clause-order
returns-clause-order c = body_rises
