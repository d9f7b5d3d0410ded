use Rattle.std.proofs.Common.{◌≡◌, ◌++◌, drop}
use Rattle.std.specs.List.{filter_map}
use Rattle.typing_rules.specs.Collected.{impl_bodies}
use Rattle.typing_rules.specs.Items.{method_body}
use Rattle.typeck_heads.proofs.impls.impl_bodies.Given as goal

abbrev pub invariant-loop-method : goal.invariant-loop-method
invariant-loop-method l =
    impl_bodies l.known.paths l.owner l.trait_ l.methods
    ≡ l.bodies ++ filter_map (λ m. method_body l.known.paths l.owner l.trait_ m.name) (drop l.method-index l.methods)
