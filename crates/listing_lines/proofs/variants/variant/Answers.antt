use Rattle.std.proofs.Common.{rules, ◌≡◌, Some, map}
use Rattle.mir_ty.specs.AreItems.{AreTypes}
use Rattle.listing_parts.specs.Table.{text_under}
use Rattle.listing_lines.specs.ItemReading.{variant_read}
use Rattle.listing_lines.proofs.FoundVariants.{variant_found}
use Rattle.listing_lines.proofs.variants.variant.Goals as goal

pub returns-in-Ok-make_variant : goal.returns-in-Ok-make_variant
returns-in-Ok-make_variant c =
    let heads = c.args.heads.now in
    let new = c.read_types.new.items in
    let found : variant_read heads c.args.text.now ≡ Some ((c.in-Some.name.now, map (text_under heads new) c.in-Ok.fields), c.in-Ok.rest.now) = search rules in
    let within : AreTypes new.types c.in-Ok.fields = search rules in
    variant_found heads c.args.items.now new c.in-Ok-make_variant.variant c.in-Ok.rest c.in-Some.name.now c.in-Ok.fields (variant_read heads c.args.text.now) c.in-Ok-make_variant.ensures found within c.read_types.ensures.grow
