use Rattle.std.proofs.Common.{◌≡◌, ◌==◌, List, [], ◌∷◌, length, false, None, refl, sym}
use Rattle.std.proofs.lemmas.Bool.{true≢false}
use Rattle.store_model.specs.declared.address.At.{At}
use Rattle.store_model.specs.declared.address.At.TheVariants.{Part, Inside}
use Rattle.store_model.specs.Values.Access.{value_at}
use Rattle.store_model.specs.Values.Datum.{Gone}
use Rattle.machine_store.proofs.frame.taken_of_nothing.Goals as goal

-- nothing is at a place in what is gone
none_in_gone : (place : List At) → (length place == 0) ≡ false → None ≡ value_at place Gone
none_in_gone [] e = absurd (true≢false e)
none_in_gone (Part n ∷ place) e = refl
none_in_gone (Inside ∷ place) e = refl

pub returns : goal.returns
returns c = none_in_gone c.args.place.now (sym c.if-is_empty.ensures)
