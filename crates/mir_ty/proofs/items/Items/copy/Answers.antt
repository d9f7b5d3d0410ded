use Rattle.mir_ty.specs.declared.items.Items.TheInside.{Inside}
use Rattle.mir_ty.proofs.TableLemmas.{tables_equal}
use Rattle.mir_ty.proofs.items.Items.copy.Goals as goal

pub invariant_of-result : goal.invariant_of-result
invariant_of-result c =
    let marks = c.in_ok-copies in
    let types = c.in_ok-types in
    let adts = c.in_ok-adts in
    let impls = c.in_ok-impls in
    let copy : Inside = record {
      types = types.types;
      copies = marks.copies;
      drops = marks.drops;
      adts = adts.adts;
      traits = adts.traits;
      impls = impls.impls;
      closures = impls.closures;
      bodies = types.bodies;
    } in
    tables_equal c.self.inside c.self.invariant copy types.ensures.one marks.ensures.one marks.ensures.other adts.ensures.one adts.ensures.other impls.ensures.one impls.ensures.other types.ensures.other
