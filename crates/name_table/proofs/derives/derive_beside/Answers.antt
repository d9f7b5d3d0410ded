use Rattle.std.proofs.Common.{arith}
use Rattle.std.specs.List.{filter_map}
use Rattle.src_tree.specs.View.{parts_in}
use Rattle.typing_rules.specs.Collected.{adt_item, all_derive, starting_with}
use Rattle.typing_rules.specs.Items.{item_syns, items_of}
use Rattle.typeck_heads.specs.Answers.{Refuses}
use Rattle.name_table.specs.AdtForms.{adt_seen}
use Rattle.name_table.specs.Forms.{derives_by}
use Rattle.name_table.proofs.EachItem.{derive_steps, on_derived, stopped_derived}
use Rattle.name_table.proofs.derives.derive_beside.Goals as goal

pub loop-piece-preserved : goal.loop-piece-preserved
loop-piece-preserved c =
    on_derived c.args.dropped.now _ c.loop-piece.number c.in_ok-number.number c.args.pieces.now c.loop-piece.piece-index c.piece-item.result (adt_seen c.adt_at.result) (starting_with c.args.items.now) (starting_with c.args.items.now)
    c.loop-piece-test.true c.piece-item.is c.loop-piece.invariant c.adt_at.ensures c.in_ok-number.ensures

pub returns-in_err-number : goal.returns-in_err-number
returns-in_err-number c =
    let refused : Refuses (all_derive c.args.dropped.now 0 (filter_map adt_item (item_syns (items_of (parts_in c.args.pieces.now)))) (starting_with c.args.items.now)) c.in_err-number.field-0.0 =
    stopped_derived c.args.dropped.now _ c.loop-piece.number c.args.pieces.now c.loop-piece.piece-index c.piece-item.result (adt_seen c.adt_at.result) (starting_with c.args.items.now) c.in_err-number.field-0.0
    c.loop-piece-test.true c.piece-item.is c.loop-piece.invariant c.adt_at.ensures c.in_err-number.ensures in
    grind (arith, refused)
