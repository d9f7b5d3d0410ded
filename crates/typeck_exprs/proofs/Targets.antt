-- The loop that a jump leaves, without its label.
use Rattle.std.proofs.Common.{◌≡◌, map, reverse, refl}
use Rattle.typeck_env.specs.Scope.{around_of}
use Rattle.typeck_checker.specs.Stand.{env_in}
use Rattle.typeck_checker.specs.declared.body_scope.BodyScope.{BodyScope}
use Rattle.typeck_checker.specs.declared.tables.Tables.{Tables}

pub loops_are : (t : Tables) (s : BodyScope) → (env_in t s).loops ≡ reverse (map around_of s.loops)
unfolding env_in
loops_are t s = refl
