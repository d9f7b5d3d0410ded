-- One struct or enum more, and none.
use Rattle.std.proofs.Common.{rules, ◌≡◌, Some, refl}
use Rattle.mir_ty.specs.AreItems.{IsAdt}
use Rattle.listing_write.specs.Compared.{adt_seen}
use Rattle.listing_parts.specs.declared.error.ReadError.{ReadError}
use Rattle.listing_lines.specs.ItemReading.{adt_read}
use Rattle.listing_parts.specs.Table.{under}
use Rattle.mir_text.specs.SectionReading.{one_adt}
use Rattle.mir_text.specs.SectionsRead.{items_seen}
use Rattle.mir_text.proofs.Growing.{adt_added, err_item, missed, no_adt}
use Rattle.mir_text.proofs.items.add_adt.Goals as goal

pub returns-in-Ok-add_adt : goal.returns-in-Ok-add_adt
returns-in-Ok-add_adt c =
    let heads = c.args.heads.now in
    let mid = c.adt_line.new.items in
    let is : IsAdt mid.types c.in-Ok.adt = search rules in
    let found : adt_read heads c.args.text.now ≡ Some (adt_seen (under heads mid) c.in-Ok.adt, c.in-Ok.rest.now) = search rules in
    adt_added heads c.args.items.now mid c.requires c.adt_line.ensures.grow c.add_adt.new.self c.in-Ok.adt c.in-Ok.rest c.args.text.now is found c.in-Ok-add_adt.ensures.added

pub returns-in-Err-add_adt : goal.returns-in-Err-add_adt
returns-in-Err-add_adt c =
    let heads = c.args.heads.now in
    err_item heads c.args.items.now c.adt_line.new.items c.requires c.adt_line.ensures.grow c.add_adt.new.self ReadError.NoMemory (one_adt heads (items_seen heads c.args.items.now) c.args.text.now)
    c.in-Err-add_adt.ensures.refused (λ h. absurd (cc h))

pub returns-in-Err : goal.returns-in-Err
returns-in-Err c =
    let heads = c.args.heads.now in
    err_item heads c.args.items.now c.adt_line.new.items c.requires c.adt_line.ensures.grow c.adt_line.new.items c.in-Err.error (one_adt heads (items_seen heads c.args.items.now) c.args.text.now)
    refl (λ h. no_adt heads (items_seen heads c.args.items.now) c.args.text.now (c.adt_line.ensures.missing (missed c.adt_line.result c.in-Err.error c.in-Err.is h)))
