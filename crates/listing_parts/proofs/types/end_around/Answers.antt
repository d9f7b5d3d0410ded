use Rattle.std.proofs.Common.{rules, ◌≡◌, Some, Ok, subst}
use Rattle.listing_write.specs.Types.{form_text}
use Rattle.listing_parts.specs.Table.{text_under, under}
use Rattle.listing_parts.specs.TypeReading.{around_end}
use Rattle.listing_parts.specs.TypesRead.{FindsType}
use Rattle.listing_parts.proofs.OpenEnds.{around_ends}
use Rattle.listing_parts.proofs.types.end_around.Goals as goal

pub returns-in-Ok : goal.returns-in-Ok
returns-in-Ok c =
    let heads = c.args.heads.now in
    let old = c.args.items.now in
    let found : around_end c.args.around c.args.text.now ≡ Some (c.in-Some.n, c.in-Some.rest.now) = search rules in
    around_ends heads old c.read_interned.new.items c.args.around c.args.id c.args.text.now c.in-Some.n c.in-Some.rest.now c.in-Ok.id c.in-Ok.rest found
    (subst (λ ty. FindsType heads old c.read_interned.new.items (Ok (c.in-Ok.id, c.in-Ok.rest)) (Some (form_text (under heads old) (text_under heads old) ty, c.in-Some.rest.now)))
    c.around_type.ensures (c.in-Ok.ensures))
