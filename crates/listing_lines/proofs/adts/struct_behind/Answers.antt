use Rattle.std.proofs.Common.{rules, ◌≡◌, ◌∷◌, [], false, Some, map}
use Rattle.mir_ty.specs.AreItems.{AreTypes}
use Rattle.listing_write.specs.Compared.{AdtSeen}
use Rattle.listing_parts.specs.Table.{text_under}
use Rattle.listing_lines.specs.ItemReading.{struct_from}
use Rattle.listing_lines.proofs.FoundVariants.{struct_found}
use Rattle.listing_lines.proofs.adts.struct_behind.Goals as goal

pub returns-in-Ok-make_struct : goal.returns-in-Ok-make_struct
returns-in-Ok-make_struct c =
    let heads = c.args.heads.now in
    let new = c.read_types.new.items in
    let seen : AdtSeen = record { is_enum = false; name = c.args.name.now; variants = (c.args.name.now, map (text_under heads new) c.in-Ok.fields) ∷ []; copy = c.in-Some.copy; drop_body = c.in-Some.body } in
    let found : struct_from heads (c.args.name.now, c.args.text.now) ≡ Some (seen, c.in-Some.rest.now) = search rules in
    let within : AreTypes new.types c.in-Ok.fields = search rules in
    struct_found heads c.args.items.now new c.in-Ok-make_struct.adt c.in-Some.rest c.args.name.now c.in-Ok.fields c.in-Some.copy c.in-Some.body (struct_from heads (c.args.name.now, c.args.text.now))
    c.in-Ok-make_struct.ensures found within c.read_types.ensures.grow
