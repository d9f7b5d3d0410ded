-- What stands where the block of a closure begins.
use Rattle.std.specs.Prelude.{◌≡◌, ⊤, length, Result, Ok, Err}
use Rattle.mir_base.specs.declared.rule.RuleError.{RuleError}
use Rattle.typeck_checker.specs.Lists.{below_all}
use Rattle.typeck_checker.specs.Stand.{env, env_in, stack}
use Rattle.typeck_checker.specs.declared.checker.Checker.{Checker}
use Rattle.typeck_bodies.specs.Aside.{with_loops}
use Rattle.typeck_bodies.specs.declared.scopes.BegunBody.{BegunBody}
use Rattle.typeck_bodies.specs.declared.scopes.BodyHead.{BodyHead}

-- the patterns of the parameters stand above what stood there, and the loops around stand with what was put aside
abbrev pub KeepsSelf : BegunBody → Checker → Result BodyHead RuleError → Checker → Type 0
KeepsSelf begun before (Ok head) after =
    (below_all (length head.params) (stack after) ≡ stack before)
    × (after.tables ≡ before.tables)
    × (head.outer ≡ begun.outer)
    × (env_in before.tables head.aside ≡ with_loops (env before).loops (env_in before.tables begun.aside))
KeepsSelf begun before (Err e) after = ⊤
