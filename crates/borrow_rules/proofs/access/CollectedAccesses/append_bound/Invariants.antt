use Rattle.std.proofs.Common.{◌≡◌, map, drop}
use Rattle.typing_rules.specs.Accesses.{◌⊕◌, accesses_of}
use Rattle.borrow_rules.specs.AccessView.{bound_in, told_in}
use Rattle.borrow_rules.proofs.access.CollectedAccesses.append_bound.Given as goal

abbrev pub invariant-loop-bound : goal.invariant-loop-bound
invariant-loop-bound l =
    (told_in l.self ⊕ accesses_of (map bound_in (drop l.bound-index l.bounds))) ≡ (told_in l.fn.self ⊕ accesses_of (map bound_in l.bounds))
