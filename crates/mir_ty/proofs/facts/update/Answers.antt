use Rattle.std.proofs.Common.{sym, ◌∙◌}
use Rattle.mir_ty.specs.Known.{rule_of}
use Rattle.mir_ty.proofs.KnownLemmas.{all_caught_up}
use Rattle.mir_ty.proofs.Rules.{rule_of-growing}
use Rattle.mir_ty.proofs.facts.update.Goals as goal

pub returns-else-is_news : goal.returns-else-is_news
returns-else-is_news c =
    all_caught_up c.args.types.now (rule_of c.args.fact c.args.adts.now c.args.closures.now) (rule_of-growing c.args.fact c.args.adts.now c.args.closures.now) c.args.known.now c.args.added.now c.args.number
    c.requires.distinct c.requires.at (sym (c.is_news.ensures c.args.added.now c.requires.at) ∙ c.if-is_news.false) c.requires.behind
