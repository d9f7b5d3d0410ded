use Rattle.store_model.proofs.Values.DropMeasure.{IsNearerEnd-begun, IsNearerEnd-held}
use Rattle.store_model.proofs.value.enter.Goals as goal

pub returns-in_default : goal.returns-in_default
returns-in_default c = IsNearerEnd-begun _ _ _ c.in_default.is c.next.ensures.left c.next.ensures.part

pub returns : goal.returns
returns c =
    IsNearerEnd-held _ _ _ _ _ _ c.in-Some.is c.element_mut.ensures.value c.replace-first.ensures.value c.replace-first.ensures.after
