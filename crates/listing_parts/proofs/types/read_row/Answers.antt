use Rattle.std.proofs.Common.{rules, ◌≡◌, Some, None, Ok, sym, subst}
use Rattle.listing_parts.specs.Table.{text_under}
use Rattle.listing_parts.specs.TypeReading.{type_read}
use Rattle.listing_parts.specs.TypesRead.{FindsRow}
use Rattle.listing_parts.proofs.DepthFree.{row_by_itself}
use Rattle.listing_parts.proofs.FoundRows.{row_of_more, row_of_none}
use Rattle.listing_parts.proofs.types.read_row.Goals as goal

pub returns-in_ok-push-in-Ok : goal.returns-in_ok-push-in-Ok
returns-in_ok-push-in-Ok c =
    let heads = c.args.heads.now in
    let read = type_read heads in
    let mid = c.read_type.new.items in
    let is : read c.args.text.now ≡ Some (text_under heads mid c.in-Ok.id, c.in-Ok.rest.now) = search rules in
    subst (FindsRow heads c.args.items.now c.read_more.new.items c.args.parts.now c.read_more.new.parts c.read_more.result) (sym (row_by_itself heads c.args.text.now))
    (row_of_more heads c.args.items.now mid c.read_more.new.items read c.args.parts.now c.push.new.self c.read_more.new.parts c.in-Ok.id c.args.text.now c.in-Ok.rest.now c.read_more.result
    c.requires.within c.requires.read c.read_type.ensures.grow is c.in_ok-push-in-Ok.ensures.pushed c.read_more.ensures)

pub returns-in-Err-Unreadable : goal.returns-in-Err-Unreadable
returns-in-Err-Unreadable c =
    let heads = c.args.heads.now in
    let read = type_read heads in
    let none : read c.args.text.now ≡ None = search rules in
    subst (FindsRow heads c.args.items.now c.read_type.new.items c.args.parts.now c.args.parts.now (Ok c.args.text)) (sym (row_by_itself heads c.args.text.now))
    (row_of_none heads c.args.items.now c.read_type.new.items read c.args.parts.now c.args.text c.requires.within c.requires.read c.read_type.ensures.grow none)
