-- One trait more, and none.
use Rattle.std.proofs.Common.{rules, ◌≡◌, All, Some, refl}
use Rattle.mir_ty.specs.AreItems.{IsMethod}
use Rattle.listing_write.specs.Compared.{trait_seen}
use Rattle.listing_parts.specs.declared.error.ReadError.{ReadError}
use Rattle.listing_lines.specs.TraitReading.{trait_read}
use Rattle.listing_parts.specs.Table.{under}
use Rattle.mir_text.specs.SectionReading.{one_trait}
use Rattle.mir_text.specs.SectionsRead.{items_seen}
use Rattle.mir_text.proofs.Growing.{trait_added, err_item, missed, no_trait}
use Rattle.mir_text.proofs.items.add_trait.Goals as goal

pub returns-in-Ok-add_trait : goal.returns-in-Ok-add_trait
returns-in-Ok-add_trait c =
    let heads = c.args.heads.now in
    let mid = c.trait_line.new.items in
    let is : All (IsMethod mid.types c.args.n) c.in-Ok.def.methods = search rules in
    let found : trait_read heads c.args.n c.args.text.now ≡ Some (trait_seen (under heads mid) c.in-Ok.def, c.in-Ok.rest.now) = search rules in
    trait_added heads c.args.items.now mid c.requires.drafted c.trait_line.ensures.grow c.add_trait.new.self c.args.n c.in-Ok.def c.in-Ok.rest c.args.text.now c.requires.due is found c.in-Ok-add_trait.ensures.added

pub returns-in-Err-add_trait : goal.returns-in-Err-add_trait
returns-in-Err-add_trait c =
    let heads = c.args.heads.now in
    err_item heads c.args.items.now c.trait_line.new.items c.requires.drafted c.trait_line.ensures.grow c.add_trait.new.self ReadError.NoMemory (one_trait heads (items_seen heads c.args.items.now) c.args.text.now)
    c.in-Err-add_trait.ensures.refused (λ h. absurd (cc h))

pub returns-in-Err : goal.returns-in-Err
returns-in-Err c =
    let heads = c.args.heads.now in
    err_item heads c.args.items.now c.trait_line.new.items c.requires.drafted c.trait_line.ensures.grow c.trait_line.new.items c.in-Err.error (one_trait heads (items_seen heads c.args.items.now) c.args.text.now)
    refl (λ h. no_trait heads c.args.items.now c.args.n c.args.text.now c.requires.due (c.trait_line.ensures.missing (missed c.trait_line.result c.in-Err.error c.in-Err.is h)))
