use Rattle.std.proofs.Common.{subst}
use Rattle.src_tree.specs.View.{parts_in}
use Rattle.typing_rules.specs.Collected.{collecting, starting_with}
use Rattle.typing_rules.specs.Items.{items_of}
use Rattle.typeck_heads.specs.Answers.{Answers}
use Rattle.name_table.proofs.collection.tree_collected.Goals as goal

pub returns : goal.returns
returns c =
    subst (λ z. Answers (collecting (items_of (parts_in z)) c.args.tree.now.end (starting_with c.args.items.now)) c.collect_items.result c.collect_items.new.items)
    c.as_slice.ensures c.collect_items.ensures
