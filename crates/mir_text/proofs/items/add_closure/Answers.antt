-- One closure more, and none.
use Rattle.std.proofs.Common.{rules, ◌≡◌, Some, refl}
use Rattle.mir_ty.specs.AreItems.{AreTypes}
use Rattle.listing_write.specs.Compared.{closure_seen}
use Rattle.listing_parts.specs.declared.error.ReadError.{ReadError}
use Rattle.listing_lines.specs.LineReading.{closure_read}
use Rattle.listing_parts.specs.Table.{under}
use Rattle.mir_text.specs.SectionReading.{one_closure}
use Rattle.mir_text.specs.SectionsRead.{items_seen}
use Rattle.mir_text.proofs.Growing.{closure_added, err_item, missed, no_closure}
use Rattle.mir_text.proofs.items.add_closure.Goals as goal

pub returns-in-Ok-add_closure : goal.returns-in-Ok-add_closure
returns-in-Ok-add_closure c =
    let heads = c.args.heads.now in
    let mid = c.closure_line.new.items in
    let is : AreTypes mid.types c.in-Ok.def.captures = search rules in
    let found : closure_read heads c.args.n c.args.text.now ≡ Some (closure_seen (under heads mid) c.in-Ok.def, c.in-Ok.rest.now) = search rules in
    closure_added heads c.args.items.now mid c.requires.drafted c.closure_line.ensures.grow c.add_closure.new.self c.args.n c.in-Ok.def c.in-Ok.rest c.args.text.now c.requires.due is found c.in-Ok-add_closure.ensures.added

pub returns-in-Err-add_closure : goal.returns-in-Err-add_closure
returns-in-Err-add_closure c =
    let heads = c.args.heads.now in
    err_item heads c.args.items.now c.closure_line.new.items c.requires.drafted c.closure_line.ensures.grow c.add_closure.new.self ReadError.NoMemory (one_closure heads (items_seen heads c.args.items.now) c.args.text.now)
    c.in-Err-add_closure.ensures.refused (λ h. absurd (cc h))

pub returns-in-Err : goal.returns-in-Err
returns-in-Err c =
    let heads = c.args.heads.now in
    err_item heads c.args.items.now c.closure_line.new.items c.requires.drafted c.closure_line.ensures.grow c.closure_line.new.items c.in-Err.error (one_closure heads (items_seen heads c.args.items.now) c.args.text.now)
    refl (λ h. no_closure heads c.args.items.now c.args.n c.args.text.now c.requires.due (c.closure_line.ensures.missing (missed c.closure_line.result c.in-Err.error c.in-Err.is h)))
