use Rattle.std.proofs.Common.{rules, ◌≡◌, ◌++◌, codes, Some}
use Rattle.mir_ty.specs.declared.ty.Ty.{Ty}
use Rattle.mir_ty.specs.ItemTable.{type_at}
use Rattle.listing_write.specs.Types.{trait_name}
use Rattle.listing_parts.specs.Table.{text_under}
use Rattle.listing_parts.specs.TypesRead.{GivesType}
use Rattle.listing_lines.specs.TraitReading.{reference_to}
use Rattle.listing_lines.proofs.FoundMethods.{self_given}
use Rattle.listing_lines.proofs.receiver.self_type.Goals as goal

pub returns-in-Ok : goal.returns-in-Ok
returns-in-Ok c =
    let heads = c.args.heads.now in
    let mid = c.give_number.new.items in
    let inner : type_at mid c.in-Ok.to ≡ Some (Ty.Dyn c.args.n) = search rules in
    let text : text_under heads mid c.in-Ok.to ≡ codes "dyn " ++ trait_name heads c.args.n = search rules in
    let given : GivesType heads mid c.give_number-in-Ok.new.items c.give_number-in-Ok.result (reference_to c.args.unique c.in-Ok.to) = search rules in
    self_given heads c.args.items.now mid c.give_number-in-Ok.new.items c.args.n c.args.unique c.in-Ok.to c.give_number-in-Ok.result c.give_number.ensures.grow inner text given
