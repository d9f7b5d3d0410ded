use Rattle.src_ast.specs.ItemForms.{name_seen}
use Rattle.typing_rules.specs.Collected.{starting_with}
use Rattle.std.proofs.Common.{[], arith}
use Rattle.std.specs.List.{filter_map}
use Rattle.src_tree.specs.View.{parts_in}
use Rattle.typing_rules.specs.Collected.{item_name, names_differ}
use Rattle.typing_rules.specs.Items.{items_of, item_syns}
use Rattle.typeck_heads.specs.Answers.{Refuses}
use Rattle.name_table.proofs.ItemNames.{on_names, stopped_name}
use Rattle.name_table.proofs.item_names.names_differ.Goals as goal

pub loop-piece-preserved : goal.loop-piece-preserved
loop-piece-preserved c =
    on_names _ c.args.pieces.now c.loop-piece.piece-index c.piece-item.result (name_seen c.name_at.result) c.loop-piece.seen _ (starting_with c.args.items.now) (starting_with c.args.items.now)
    c.loop-piece-test.true c.piece-item.is c.name_at.ensures c.loop-piece.invariant c.in_ok-seen.ensures

pub returns-in_err-seen : goal.returns-in_err-seen
returns-in_err-seen c =
    let refused : Refuses (names_differ (filter_map item_name (item_syns (items_of (parts_in c.args.pieces.now)))) [] (starting_with c.args.items.now)) c.in_err-seen.field-0.0 =
    stopped_name _ c.args.pieces.now c.loop-piece.piece-index c.piece-item.result (name_seen c.name_at.result) c.loop-piece.seen (starting_with c.args.items.now) c.in_err-seen.field-0.0
    c.loop-piece-test.true c.piece-item.is c.name_at.ensures c.loop-piece.invariant c.in_err-seen.ensures in
    grind (arith, refused)
