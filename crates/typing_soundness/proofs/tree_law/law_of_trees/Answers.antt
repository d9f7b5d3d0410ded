-- Proves the clauses of `law_of_trees`.
use Rattle.typing_soundness.proofs.Texts.{is_of_text, text_program, read_is_typed}
use Rattle.typing_soundness.proofs.tree_law.law_of_trees.Goals as goal

pub returns-clause-trees : goal.returns-clause-trees
returns-clause-trees c = is_of_text

pub returns-clause-programs : goal.returns-clause-programs
returns-clause-programs c = text_program

pub returns-clause-read : goal.returns-clause-read
returns-clause-read c = read_is_typed
