use Rattle.std.proofs.Common.{Contains, rules}
use Rattle.mir_ty.specs.Facts.{copy_rule, drop_rule}
use Rattle.mir_ty.proofs.KnownLemmas.{all_behind}
use Rattle.mir_ty.proofs.Rules.{copy_rule-growing, drop_rule-growing}
use Rattle.mir_ty.proofs.facts.bring_up_to_date.Goals as goal

pub returns-in_default-clause-copies : goal.returns-in_default-clause-copies
returns-in_default-clause-copies c =
    let absent : ¬ Contains c.args.types.now c.args.added.now = search rules in
    all_behind c.args.types.now (copy_rule c.args.adts.now c.args.closures.now) (copy_rule-growing c.args.adts.now c.args.closures.now) c.args.copies.now.items c.args.added.now c.requires.copies absent

pub returns-in_default-clause-drops : goal.returns-in_default-clause-drops
returns-in_default-clause-drops c =
    let absent : ¬ Contains c.args.types.now c.args.added.now = search rules in
    all_behind c.args.types.now (drop_rule c.args.adts.now c.args.closures.now) (drop_rule-growing c.args.adts.now c.args.closures.now) c.args.drops.now.items c.args.added.now c.requires.drops absent
