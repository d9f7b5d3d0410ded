use Rattle.std.proofs.Common.{All, subst, arith}
use Rattle.std.proofs.lemmas.List.{take_all}
use Rattle.std.proofs.lemmas.List.Elements.{All-more}
use Rattle.mir_ty.specs.declared.def.Sig.{Sig}
use Rattle.mir_ty.specs.AreItems.{IsShort}
use Rattle.mir_ty.proofs.sizes.check_trait.Goals as goal

pub loop-method-preserved : goal.loop-method-preserved
loop-method-preserved c =
    let P = λ (sig : Sig). IsShort sig.params in
    All-more P c.as_slice-method-items.result.now c.loop-method.method-index c.method-item.result c.loop-method-test.true c.loop-method.invariant
    (subst P c.method-item.is c.in_ok-check_sig.ensures)

pub returns : goal.returns
returns c =
    let P = λ (sig : Sig). IsShort sig.params in
    let all = subst (All P) (take_all c.loop-method.method-index c.as_slice-method-items.result.now c.loop-method-test.false) c.loop-method.invariant in
    record {
      methods = omega (arith, c.in_ok-check_len.ensures, c.len.ensures);
      params = subst (All P) c.as_slice-method-items.ensures all;
    }
