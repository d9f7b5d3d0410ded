use Rattle.std.proofs.Common.{rules, ◌≡◌, sym, ap, ◌∙◌}
use Rattle.src_token.specs.declared.token.Token.{Token}
use Rattle.src_token.specs.declared.word.Word.{Word}
use Rattle.src_tree.specs.declared.row.GrammarRow.{GrammarRow}
use Rattle.src_tree.specs.Grammar.{by_row, expression}
use Rattle.src_tree.proofs.Named.{if_is}
use Rattle.src_tree.proofs.beginnings.expression.Goals as goal

pub returns-in-Word-If : goal.returns-in-Word-If
returns-in-Word-If c =
    let e : c.args.token.now ≡ Token.Word Word.If = search rules in
    ap (by_row GrammarRow.If) if_is ∙ sym (ap (expression c.args.head) e)
