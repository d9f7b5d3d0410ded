use Rattle.std.proofs.Common.{◌≡◌, ◌++◌, map, drop}
use Rattle.typing_rules.specs.Accesses.{alias_of}
use Rattle.borrow_rules.specs.AccessView.{aliases_in, bound_in}
use Rattle.borrow_rules.proofs.guards.aliases_with.Given as goal

abbrev pub invariant-loop-bound : goal.invariant-loop-bound
invariant-loop-bound l =
    aliases_in l.all ++ map alias_of (map bound_in (drop l.bound-index l.bounds)) ≡ map alias_of (map bound_in l.bounds)

abbrev pub invariant-loop-alias : goal.invariant-loop-alias
invariant-loop-alias l =
    aliases_in l.all ++ aliases_in (drop l.alias-index l.aliases) ≡ map alias_of (map bound_in l.bounds) ++ aliases_in l.aliases
