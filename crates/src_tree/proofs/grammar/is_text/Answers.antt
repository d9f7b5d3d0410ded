use Rattle.std.proofs.Common.{ap, ◌∙◌}
use Rattle.src_tree.specs.Grammar.{is_text}
use Rattle.src_tree.proofs.Texts.{texts}
use Rattle.src_tree.proofs.grammar.is_text.Goals as goal

pub returns : goal.returns
returns c = c.eq.ensures ∙ texts c.as_str.result.now c.args.text.now ∙ ap (λ z. is_text z c.args.text.now) c.as_str.ensures
