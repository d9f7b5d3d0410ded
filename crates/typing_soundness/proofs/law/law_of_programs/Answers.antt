-- Proves the clauses of `law_of_programs`.
use Rattle.typing_soundness.proofs.Items.Accepting.{are_collected, are_headed, are_typed}
use Rattle.typing_soundness.proofs.Items.Entire.{text_well_typed}
use Rattle.typing_soundness.proofs.Bodies.Order.{bodies_in_order}
use Rattle.typing_soundness.proofs.law.law_of_programs.Goals as goal

pub returns-clause-order : goal.returns-clause-order
returns-clause-order c = bodies_in_order

pub returns-clause-items : goal.returns-clause-items
returns-clause-items c = are_collected

pub returns-clause-heads : goal.returns-clause-heads
returns-clause-heads c = are_headed

pub returns-clause-bodies : goal.returns-clause-bodies
returns-clause-bodies c = are_typed

pub returns-clause-programs : goal.returns-clause-programs
returns-clause-programs c = text_well_typed
