use Rattle.std.proofs.Common.{rules, ◌≡◌, sym, ap, ◌∙◌}
use Rattle.src_token.specs.declared.token.Token.{Token}
use Rattle.src_token.specs.declared.word.Word.{Word}
use Rattle.src_tree.specs.declared.row.GrammarRow.{GrammarRow}
use Rattle.src_tree.specs.Grammar.{by_row, item}
use Rattle.src_tree.proofs.Named.{fn_is}
use Rattle.src_tree.proofs.beginnings.item.Goals as goal

pub returns-in-Word-Fn : goal.returns-in-Word-Fn
returns-in-Word-Fn c =
    let e : c.args.token.now ≡ Token.Word Word.Fn = search rules in
    ap (by_row GrammarRow.Fn) fn_is ∙ sym (ap item e)
