use Rattle.std.proofs.Common.{◌≡◌, map}
use Rattle.std.specs.List.{range_with_len}
use Rattle.store_model.specs.declared.address.At.TheVariants.{Part}
use Rattle.store_model.proofs.parts.numbered_steps.Given as goal

abbrev pub invariant-loop-number : goal.invariant-loop-number
invariant-loop-number l = l.steps ≡ map Part (range_with_len 0 l.number)
