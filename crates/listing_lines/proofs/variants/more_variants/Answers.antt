-- One variant more, and no more variants.
use Rattle.std.proofs.Common.{rules, ◌≡◌, ◌-◌, ◌+◌, All, length, Some, None, sym, subst, arith}
use Rattle.mir_ty.specs.AreItems.{IsVariant}
use Rattle.listing_write.specs.Compared.{variant_seen}
use Rattle.listing_write.specs.Reading.Rows.{comma, many}
use Rattle.listing_parts.specs.Table.{under}
use Rattle.listing_parts.proofs.FoundRows.{then_grow}
use Rattle.listing_lines.specs.ItemReading.{variant_read}
use Rattle.listing_lines.proofs.FoundVariants.{row_stops, row_goes_on, still_variants, one_more_variant}
use Rattle.listing_lines.proofs.variants.more_variants.Goals as goal

pub returns-in-Err-Unreadable : goal.returns-in-Err-Unreadable
returns-in-Err-Unreadable c =
    let heads = c.args.heads.now in
    let read = comma (variant_read heads) in
    let none : read c.loop.rest.now ≡ None = search rules in
    row_stops heads read c.args.items.now c.loop.items c.variant_behind_comma.new.items (length c.args.text.now - c.loop.counter) c.args.variants.now c.loop.variants c.loop.rest (many read c.args.text.now)
    c.loop.invariant.left c.loop.invariant.within c.loop.invariant.grow c.variant_behind_comma.ensures.grow none

pub loop-preserved : goal.loop-preserved
loop-preserved c =
    let heads = c.args.heads.now in
    let read = comma (variant_read heads) in
    let new = c.variant_behind_comma.new.items in
    let fuel = length c.args.text.now - (c.loop.counter + 1) in
    let grow = c.variant_behind_comma.ensures.grow in
    let is : read c.loop.rest.now ≡ Some (variant_seen (under heads new) c.in-Ok.variant, c.in-Ok.behind.now) = search rules in
    let within : IsVariant new.types c.in-Ok.variant = search rules in
    let pushed = c.in_ok-push-in-Ok.ensures.pushed in
    record {
      left =
          row_goes_on heads read c.args.items.now c.loop.items new (length c.args.text.now - c.loop.counter) fuel c.args.variants.now c.loop.variants c.push.new.self c.in-Ok.variant c.loop.rest.now c.in-Ok.behind.now
          (many read c.args.text.now) (omega arith) c.loop.invariant.left c.loop.invariant.within c.loop.invariant.grow grow is pushed;
      within = subst (All (IsVariant new.types)) (sym pushed) (one_more_variant new.types c.loop.variants c.in-Ok.variant (still_variants heads c.loop.items new c.loop.variants grow c.loop.invariant.within) within);
      grow = then_grow heads c.args.items.now c.loop.items new c.loop.invariant.grow grow;
    }
