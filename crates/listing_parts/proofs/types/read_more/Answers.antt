use Rattle.std.proofs.Common.{rules, ◌≡◌, ◌-◌, ◌+◌, ◌<◌, length, Some, None, sym, subst, arith}
use Rattle.mir_ty.specs.AreItems.{AreTypes}
use Rattle.listing_write.specs.Reading.Rows.{comma, many}
use Rattle.listing_parts.specs.Table.{text_under}
use Rattle.listing_parts.specs.TypeReading.{type_read}
use Rattle.listing_parts.proofs.FoundRows.{row_stops, row_goes_on, still_types, one_more_type, then_grow}
use Rattle.listing_parts.proofs.types.read_more.Goals as goal

pub returns-in-Err-Unreadable : goal.returns-in-Err-Unreadable
returns-in-Err-Unreadable c =
    let heads = c.args.heads.now in
    let read = comma (type_read heads) in
    let none : read c.loop.rest.now ≡ None = search rules in
    row_stops heads read c.args.items.now c.loop.items c.read_behind_comma.new.items (length c.args.text.now - c.loop.counter) c.args.parts.now c.loop.parts c.loop.rest (many read c.args.text.now)
    c.loop.invariant.left c.loop.invariant.within c.loop.invariant.grow c.read_behind_comma.ensures.grow none

pub loop-preserved : goal.loop-preserved
loop-preserved c =
    let heads = c.args.heads.now in
    let read = comma (type_read heads) in
    let new = c.read_behind_comma.new.items in
    let fuel = length c.args.text.now - (c.loop.counter + 1) in
    let grow = c.read_behind_comma.ensures.grow in
    let is : read c.loop.rest.now ≡ Some (text_under heads new c.in-Ok.id, c.in-Ok.behind.now) = search rules in
    let within : c.in-Ok.id.0 < length new.types = search rules in
    let pushed = c.in_ok-push-in-Ok.ensures.pushed in
    record {
      left =
          row_goes_on heads read c.args.items.now c.loop.items new (length c.args.text.now - c.loop.counter) fuel c.args.parts.now c.loop.parts c.push.new.self c.in-Ok.id c.loop.rest.now c.in-Ok.behind.now
          (many read c.args.text.now) (omega arith) c.loop.invariant.left c.loop.invariant.within c.loop.invariant.grow grow is pushed;
      within = subst (AreTypes new.types) (sym pushed) (one_more_type new.types c.loop.parts c.in-Ok.id (still_types heads c.loop.items new c.loop.parts grow c.loop.invariant.within) within);
      grow = then_grow heads c.args.items.now c.loop.items new c.loop.invariant.grow grow;
    }
