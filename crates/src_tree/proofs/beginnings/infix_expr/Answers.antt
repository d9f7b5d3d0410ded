use Rattle.std.proofs.Common.{rules, ◌≡◌, sym, ap, ◌∙◌}
use Rattle.src_token.specs.declared.token.Token.{Token}
use Rattle.src_token.specs.declared.mark.Mark.{Mark}
use Rattle.src_tree.specs.declared.row.GrammarRow.{GrammarRow}
use Rattle.src_tree.specs.Grammar.{joined_by, infix_expr}
use Rattle.src_tree.proofs.Named.{or_is}
use Rattle.src_tree.proofs.beginnings.infix_expr.Goals as goal

pub returns-in-Mark-OrOr : goal.returns-in-Mark-OrOr
returns-in-Mark-OrOr c =
    let e : c.args.token.now ≡ Token.Mark Mark.OrOr = search rules in
    c.joined_by-in-Mark-OrOr.ensures ∙ ap (joined_by c.args.seen GrammarRow.Or 2) or_is ∙ sym (ap (infix_expr c.args.seen) e)
