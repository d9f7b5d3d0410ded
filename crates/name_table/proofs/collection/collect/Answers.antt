use Rattle.std.proofs.Common.{Err, arith}
use Rattle.src_tree.specs.View.{items_of}
use Rattle.typing_rules.specs.Collected.{collected}
use Rattle.name_table.specs.Collects.{Collects}
use Rattle.name_table.proofs.Stages.{collects_none, collects_items}
use Rattle.name_table.proofs.collection.collect.Goals as goal

pub returns-in-Err : goal.returns-in-Err
returns-in-Err c =
    let refused : Collects (collected (items_of c.args.tree.now) c.args.tree.now.end) (Err c.in-Err.error) =
    collects_none (items_of c.args.tree.now) c.args.tree.now.end c.in_ok-items.items c.in-Err.error c.in_ok-items.ensures.items c.in-Err.ensures in
    grind (arith, refused)

pub returns-in-Ok : goal.returns-in-Ok
returns-in-Ok c =
    collects_items (items_of c.args.tree.now) c.args.tree.now.end c.in_ok-items.items c.tree_collected.new.items _ c.in_ok-items.ensures.items c.in-Ok.ensures
