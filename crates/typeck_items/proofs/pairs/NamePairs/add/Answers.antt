use Rattle.std.proofs.Common.{ap, not, sym, ◌∙◌}
use Rattle.typing_rules.specs.Program.{is_seen}
use Rattle.typeck_items.proofs.PairLists.{is_new_pair}
use Rattle.typeck_items.proofs.pairs.NamePairs.add.Goals as goal

pub returns-clause-told : goal.returns-clause-told
returns-clause-told c =
    rw (← c.self.view_is) (c.in_ok-is_new.ensures.added ∙ is_new_pair c.in_ok-pair.pair c.self.inside.pairs.keys c.args.owner.now c.args.name.now c.in_ok-pair.ensures.0 c.in_ok-pair.ensures.1)
