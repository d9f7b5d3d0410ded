use Rattle.std.proofs.Common.{length, refl, sym, subst}
use Rattle.std.proofs.lemmas.Option.{slice_get_read}
use Rattle.mir_ty.specs.AreItems.{AreDistinct}
use Rattle.mir_ty.proofs.TypeLists.{not_before}
use Rattle.mir_ty.proofs.type_table.TypeTableDuplicate.duplicate.Goals as goal

pub push-requires : goal.push-requires
push-requires c =
    let types = c.as_slice-ty-items.result.now in
    let at = slice_get_read types (length types) c.loop-ty.ty-index c.ty-item.result refl c.loop-ty-test.true c.ty-item.is in
    let distinct = subst AreDistinct (sym c.as_slice-ty-items.ensures.types) c.as_slice-ty-items.ensures.distinct in
    λ has. not_before types c.loop-ty.ty-index c.ty-item.result distinct at (rw (c.loop-ty.invariant, c.in_ok-duplicate.ensures) at has)
