use Rattle.std.proofs.Common.{◌≡◌, drop, map}
use Rattle.lower_rules.specs.Spots.{loop_among}
use Rattle.lower_blocks.specs.Building.{loop_of, ways_of}
use Rattle.lower_blocks.proofs.ways.to_turn.Given as goal

abbrev pub invariant-loop-around : goal.invariant-loop-around
invariant-loop-around l =
    loop_among l.id.0 (ways_of l.ways).nowhere (map loop_of l.loops)
    ≡ loop_among l.id.0 (ways_of l.ways).nowhere (map loop_of (drop l.around-index l.loops))
