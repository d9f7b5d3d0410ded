use Rattle.std.proofs.Common.{Some, sym, ◌∙◌, ap}
use Rattle.store_model.specs.Values.Datum.{datum_of}
use Rattle.store_model.specs.Values.DropMeasure.{node_count, IsNearerEnd}
use Rattle.store_model.proofs.Values.DropMeasure.{IsNearerEnd-Boxed, IsNearerEnd-Parts, IsNearerEnd-other, falls_nearer_end}
use Rattle.store_model.proofs.value.Value.drop.Goals as goal
use Rattle.store_model.proofs.value.Value.drop.Goals.{in-Boxed, in-Parts, in-Gone-1}

pub loop-self-smaller : goal.loop-self-smaller
loop-self-smaller c =
    let near : IsNearerEnd (node_count (datum_of c.loop-self.self)) c.loop-self.waiting (c.in-Some.part, c.in-Some.others) =
    elim c.match-self.branch [
      | in-Boxed w ↦ IsNearerEnd-Boxed _ _ _ _ _ _ w.in-Boxed.is (ap (λ x. Some (x, c.loop-self.waiting)) (sym w.into_inner.ensures) ∙ sym w.rest-is ∙ c.in-Some.is)
      | in-Parts w ↦ IsNearerEnd-Parts _ _ _ _ _ _ _ w.in-Parts.is w.enter-rest.ensures (sym w.rest-is ∙ c.in-Some.is)
      | in-Gone-1 w ↦ IsNearerEnd-other _ _ _ _ w.next-rest.ensures.left (sym w.rest-is ∙ c.in-Some.is)
    ]
    in
    falls_nearer_end _ _ _ near
