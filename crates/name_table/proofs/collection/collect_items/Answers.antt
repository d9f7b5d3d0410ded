use Rattle.src_tree.specs.View.{parts_in}
use Rattle.typing_rules.specs.Collected.{starting_with}
use Rattle.typing_rules.specs.Items.{items_of}
use Rattle.typeck_heads.specs.Forms.{known_of}
use Rattle.name_table.proofs.Stages.{stages_answer}
use Rattle.name_table.proofs.collection.collect_items.Goals as goal

pub returns : goal.returns
returns c =
    stages_answer (items_of (parts_in c.args.pieces.now)) c.args.end (known_of c.in_ok-known.known) (starting_with c.args.items.now)
    c.in_stages-done.result c.in_stages-done.new.items c.in_ok-known.ensures.known c.in_stages-done.ensures
