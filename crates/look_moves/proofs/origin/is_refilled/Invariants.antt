use Rattle.std.proofs.Common.{◌≡◌, drop}
use Rattle.std.specs.List.{list_any}
use Rattle.cfg_graph.specs.Places.{named}
use Rattle.look_moves.specs.Actions.{seen}
use Rattle.look_moves.specs.Origin.{refills}
use Rattle.look_moves.proofs.origin.is_refilled.Given as goal

abbrev pub invariant-loop-action : goal.invariant-loop-action
invariant-loop-action l =
    list_any (refills (named l.place)) (seen (drop l.action-index l.later)) ≡ list_any (refills (named l.place)) (seen l.later)
