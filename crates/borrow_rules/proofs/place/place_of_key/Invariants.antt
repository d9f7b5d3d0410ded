use Rattle.std.proofs.Common.{◌≡◌, drop}
use Rattle.typing_rules.specs.Accesses.{place_of_key}
use Rattle.borrow_rules.specs.AccessView.{aliases_in}
use Rattle.borrow_rules.proofs.place.place_of_key.Given as goal

abbrev pub invariant-loop-alias : goal.invariant-loop-alias
invariant-loop-alias l =
    place_of_key (aliases_in (drop l.alias-index l.aliases)) l.key.0 ≡ place_of_key (aliases_in l.aliases) l.key.0
