use Rattle.std.proofs.Common.{ap, sym, ◌∙◌}
use Rattle.src_ast.specs.Seen.{syn_of}
use Rattle.typing_rules.specs.Collected.{starting_with}
use Rattle.typing_rules.specs.Items.{trait_name}
use Rattle.typeck_heads.specs.Counts.{count_of}
use Rattle.typeck_heads.specs.Forms.{known_of}
use Rattle.name_table.specs.Forms.{item_of_node, one_more}
use Rattle.name_table.proofs.KeptItems.{traits_after}
use Rattle.name_table.proofs.item_walk.node_added.Goals as goal

pub returns-clause-next : goal.returns-clause-next
returns-clause-next c =
    c.in_ok-more.ensures.more ∙ ap (one_more (trait_name (syn_of c.args.node.now))) c.requires.next
    ∙ sym (traits_after (known_of c.args.known.now) (count_of c.args.walked.count) (count_of c.in_ok-count.count) (item_of_node c.args.node.now)
    (starting_with c.args.items.now) (starting_with c.item_and_bodies.new.items) c.in_ok-count.ensures.answers)
