use Rattle.std.proofs.Common.{◌≡◌, drop}
use Rattle.src_meaning.specs.Shape.{place_of_key}
use Rattle.lower_code.specs.View.{aliases_of}
use Rattle.lower_code.proofs.loops_and_guards.place_under.Given as goal

abbrev pub invariant-loop-alias : goal.invariant-loop-alias
invariant-loop-alias l =
    place_of_key l.key.0 (aliases_of l.aliases) ≡ place_of_key l.key.0 (aliases_of (drop l.alias-index l.aliases))
