use Rattle.std.proofs.Common.{◌≡◌, drop}
use Rattle.std.specs.Option.{option_or}
use Rattle.cfg_graph.specs.Places.{named}
use Rattle.look_moves.specs.Actions.{seen}
use Rattle.look_moves.specs.Origin.{last_store}
use Rattle.look_moves.proofs.origin.last_store.Given as goal

abbrev pub invariant-loop-action : goal.invariant-loop-action
invariant-loop-action l =
    option_or (last_store (named l.place) (seen (drop l.action-index l.actions))) l.found
    ≡ last_store (named l.place) (seen l.actions)
