-- One impl more, and none.
use Rattle.std.proofs.Common.{rules, ◌≡◌, Some, refl}
use Rattle.listing_lines.specs.LineReading.{impl_read}
use Rattle.listing_parts.specs.declared.error.ReadError.{ReadError}
use Rattle.mir_text.specs.SectionReading.{one_impl}
use Rattle.mir_text.specs.SectionsRead.{items_seen}
use Rattle.mir_text.proofs.Growing.{impl_added, no_impl, missed, no_impl_read}
use Rattle.mir_text.proofs.items.add_impl.Goals as goal

pub returns-in-Ok-add_impl : goal.returns-in-Ok-add_impl
returns-in-Ok-add_impl c =
    let heads = c.args.heads.now in
    let found : impl_read heads c.args.text.now ≡ Some (c.in-Ok.def, c.in-Ok.rest.now) = search rules in
    impl_added heads c.args.items.now c.add_impl.new.self c.in-Ok.def c.in-Ok.rest c.args.text.now c.requires found c.in-Ok-add_impl.ensures.added

pub returns-in-Err-add_impl : goal.returns-in-Err-add_impl
returns-in-Err-add_impl c =
    let heads = c.args.heads.now in
    no_impl heads c.args.items.now c.add_impl.new.self ReadError.NoMemory (one_impl heads (items_seen heads c.args.items.now) c.args.text.now) c.requires c.in-Err-add_impl.ensures.refused (λ h. absurd (cc h))

pub returns-in-Err : goal.returns-in-Err
returns-in-Err c =
    let heads = c.args.heads.now in
    no_impl heads c.args.items.now c.args.items.now c.in-Err.error (one_impl heads (items_seen heads c.args.items.now) c.args.text.now) c.requires refl
    (λ h. no_impl_read heads (items_seen heads c.args.items.now) c.args.text.now (c.impl_line.ensures.missing (missed c.impl_line.result c.in-Err.error c.in-Err.is h)))
