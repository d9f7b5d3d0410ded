-- Proves the clause of `law_of_names`.
use Rattle.typing_soundness.proofs.Items.Named.{names_are_words}
use Rattle.typing_soundness.proofs.law.law_of_names.Goals as goal

pub returns : goal.returns
returns c = record { names = names_are_words }
