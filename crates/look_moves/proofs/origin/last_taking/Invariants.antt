use Rattle.std.proofs.Common.{◌≡◌, drop}
use Rattle.std.specs.Option.{option_or}
use Rattle.cfg_graph.specs.Places.{named}
use Rattle.look_moves.specs.Actions.{seen}
use Rattle.look_moves.specs.Origin.{last_taking}
use Rattle.look_moves.proofs.origin.last_taking.Given as goal

abbrev pub invariant-loop-n : goal.invariant-loop-n
invariant-loop-n l =
    option_or (last_taking (named l.place) (seen (drop l.n l.actions))) l.found
    ≡ last_taking (named l.place) (seen l.actions)
