use Rattle.std.proofs.Common.{◌∙◌}
use Rattle.mirdrop_program.proofs.Rows.{not_one, one_text}
use Rattle.mirdrop_program.proofs.words.functions_in.Goals as goal

pub returns-then-texts-eq1 : goal.returns-then-texts-eq1
returns-then-texts-eq1 c = c.count_of.ensures ∙ one_text c.args.texts.now _ c.if-texts-eq1.true

pub returns-else-texts-eq1 : goal.returns-else-texts-eq1
returns-else-texts-eq1 c = not_one c.args.texts.now c.if-texts-eq1.false
