use Rattle.std.proofs.Common.{◌≡◌, ◌==◌, not, take}
use Rattle.std.specs.List.{filter}
use Rattle.look_lines.proofs.tellings.without.Given as goal

abbrev pub invariant-loop-m : goal.invariant-loop-m
invariant-loop-m l = l.kept ≡ filter (λ m. not (m == l.n)) (take l.m-index l.numbers)
