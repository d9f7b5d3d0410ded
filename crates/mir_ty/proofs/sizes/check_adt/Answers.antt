use Rattle.std.proofs.Common.{All, subst, arith}
use Rattle.std.proofs.lemmas.List.{take_all}
use Rattle.std.proofs.lemmas.List.Elements.{All-more}
use Rattle.mir_ty.specs.declared.adt.Variant.{Variant}
use Rattle.mir_ty.specs.AreItems.{IsShort}
use Rattle.mir_ty.proofs.sizes.check_adt.Goals as goal

pub loop-variant-preserved : goal.loop-variant-preserved
loop-variant-preserved c =
    let P = λ (variant : Variant). IsShort variant.fields in
    All-more P c.as_slice-variant-items.result.now c.loop-variant.variant-index c.variant-item.result c.loop-variant-test.true c.loop-variant.invariant
    (subst P c.variant-item.is c.in_ok-check_variant.ensures)

pub returns : goal.returns
returns c =
    let P = λ (variant : Variant). IsShort variant.fields in
    let all = subst (All P) (take_all c.loop-variant.variant-index c.as_slice-variant-items.result.now c.loop-variant-test.false) c.loop-variant.invariant in
    record {
      variants = omega (arith, c.in_ok-check_len.ensures, c.len.ensures);
      fields = subst (All P) c.as_slice-variant-items.ensures all;
    }
