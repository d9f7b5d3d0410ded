-- Proves the clauses of `law_of_items`.
use Rattle.typing_soundness.proofs.Items.Adts.{text_adts}
use Rattle.typing_soundness.proofs.Items.Dropped.{text_drops}
use Rattle.typing_soundness.proofs.Items.Fields.{text_fields}
use Rattle.typing_soundness.proofs.Items.Finite.{text_finite}
use Rattle.typing_soundness.proofs.Items.Heads.{text_types, text_heads, text_closures}
use Rattle.typing_soundness.proofs.Items.Implemented.{text_implemented}
use Rattle.typing_soundness.proofs.Items.Impls.{text_impls}
use Rattle.typing_soundness.proofs.Items.Limits.Program.{text_limits}
use Rattle.typing_soundness.proofs.Items.Main.{text_main}
use Rattle.typing_soundness.proofs.Items.Traits.{text_traits}
use Rattle.typing_soundness.proofs.Items.Words.{text_item_names, text_names_differ}
use Rattle.typing_soundness.proofs.law.law_of_items.Goals as goal

pub returns-clause-types : goal.returns-clause-types
returns-clause-types c = text_types

pub returns-clause-heads : goal.returns-clause-heads
returns-clause-heads c = text_heads

pub returns-clause-closures : goal.returns-clause-closures
returns-clause-closures c = text_closures

pub returns-clause-adts : goal.returns-clause-adts
returns-clause-adts c = text_adts

pub returns-clause-fields : goal.returns-clause-fields
returns-clause-fields c = text_fields

pub returns-clause-finite : goal.returns-clause-finite
returns-clause-finite c = text_finite

pub returns-clause-traits : goal.returns-clause-traits
returns-clause-traits c = text_traits

pub returns-clause-impls : goal.returns-clause-impls
returns-clause-impls c = text_impls

pub returns-clause-main : goal.returns-clause-main
returns-clause-main c = text_main

pub returns-clause-words : goal.returns-clause-words
returns-clause-words c = text_item_names

pub returns-clause-names : goal.returns-clause-names
returns-clause-names c = text_names_differ

pub returns-clause-limits : goal.returns-clause-limits
returns-clause-limits c = text_limits

pub returns-clause-drops : goal.returns-clause-drops
returns-clause-drops c = text_drops

pub returns-clause-implements : goal.returns-clause-implements
returns-clause-implements c = text_implemented
