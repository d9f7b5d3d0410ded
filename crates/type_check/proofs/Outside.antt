-- Where bodies of items stand.
use Rattle.std.proofs.Common.{◌≡◌, [], sym}
use Rattle.typeck_bodies.specs.Aside.{alone}
use Rattle.typing_rules.specs.Scope.{Env}

-- outside of all variables
pub alone_is : (e : Env) → e.variables ≡ [] → alone e ≡ e
alone_is e bare = λ i. record e { variables = sym bare i }
