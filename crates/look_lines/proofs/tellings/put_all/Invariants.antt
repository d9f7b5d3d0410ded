use Rattle.std.proofs.Common.{◌≡◌, ◌++◌, take}
use Rattle.std.specs.Prelude.{flat_map, codes}
use Rattle.std.specs.Fmt.{decimal}
use Rattle.look_lines.proofs.tellings.put_all.Given as goal

abbrev pub invariant-loop-n : goal.invariant-loop-n
invariant-loop-n l = l.out.items ≡ l.initial.out.items ++ flat_map (λ n. codes " #" ++ decimal n) (take l.n-index l.numbers)
