use Rattle.std.proofs.Common.{◌≡◌, ◌++◌, ◌∷◌, [], None, sym, arith}
use Rattle.std.specs.Option.{option_copied}
use Rattle.std.proofs.lemmas.Grind.{common_steps}
use Rattle.store_model.specs.Values.Datum.{datum_of}
use Rattle.store_model.specs.Values.Access.{value_at}
use Rattle.store_model.proofs.Values.Access.{replaced-nowhere}
use Rattle.machine_store.proofs.Marks.{stands_or_not, marks_taken}
use Rattle.machine_store.proofs.cell.Cell.take.Goals as goal

pub returns-then-is_none-clause-after : goal.returns-then-is_none-clause-after
returns-then-is_none-clause-after c =
    let none : value_at c.args.place.now (datum_of c.args.self.now) ≡ None = grind (arith, common_steps) in
    sym (replaced-nowhere _ _ _ none)

pub invariant_of-self-2 : goal.invariant_of-self-2
invariant_of-self-2 c =
    let stands = stands_or_not (option_copied c.read.result) (datum_of c.self.inside.value) c.args.place.now c.read.ensures.value (grind (arith, common_steps)) in
    let items : c.push.new.self.items ≡ c.self.inside.gone.items ++ c.args.place.now ∷ [] = grind (arith, common_steps) in
    rw (c.take.ensures.after, c.remove_within.ensures, items) (marks_taken _ stands.0 _ _ stands.1 c.self.invariant)
