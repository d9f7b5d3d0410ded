use Rattle.std.proofs.Common.{◌≡◌, Some, None, arith}
use Rattle.std.proofs.lemmas.Grind.{common_steps}
use Rattle.store_model.specs.Values.Datum.{datum_of}
use Rattle.store_model.specs.Values.Access.{value_at}
use Rattle.store_model.proofs.Values.Access.{IsCutOff-from_none, not_cut_off}
use Rattle.store_model.proofs.access.read.Goals as goal

pub returns-in_err-place-clause-absent : goal.returns-in_err-place-clause-absent
returns-in_err-place-clause-absent c =
    let none : value_at c.args.path.now (datum_of c.args.root.now) ≡ None = grind (arith, common_steps) in
    (λ _. IsCutOff-from_none _ _ none, λ _. cc)

pub returns-clause-absent : goal.returns-clause-absent
returns-clause-absent c =
    let some : value_at c.args.path.now (datum_of c.args.root.now) ≡ Some (datum_of c.loop-step.place.now) = grind (arith, common_steps) in
    (λ e. absurd (cc), λ cut. absurd (not_cut_off _ _ _ some cut))
