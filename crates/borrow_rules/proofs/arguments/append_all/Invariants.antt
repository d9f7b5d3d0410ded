use Rattle.std.proofs.Common.{◌≡◌, map}
use Rattle.std.specs.Vec.Iter.{into_iter_items}
use Rattle.typing_rules.specs.Accesses.{◌⊕◌, all_told}
use Rattle.borrow_rules.specs.AccessView.{argument_in, told_in}
use Rattle.borrow_rules.proofs.arguments.append_all.Given as goal

abbrev pub invariant-loop-argument : goal.invariant-loop-argument
invariant-loop-argument l =
    (told_in l.out ⊕ all_told (map argument_in (into_iter_items l.argument-iterator))) ≡ (told_in l.fn.out ⊕ all_told (map argument_in l.fn.args))
