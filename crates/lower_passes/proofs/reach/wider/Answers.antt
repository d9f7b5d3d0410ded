use Rattle.std.proofs.Common.{rules, ◌≡◌, ◌≤◌, Option, Some, ℕ, subst}
use Rattle.lower_passes.specs.Reaching.{Keeps}
use Rattle.lower_passes.proofs.Reached.{keeps_more}
use Rattle.lower_passes.proofs.reach.wider.Goals as goal

pub returns-then-one-another-clause-one : goal.returns-then-one-another-clause-one
returns-then-one-another-clause-one c = λ g keeps.
    let is : c.args.one ≡ Some c.in_ok-one.one = search rules in
    let less : c.in_ok-one.one ≤ c.in_ok-another.another = search rules in
    keeps_more c.in_ok-one.one c.in_ok-another.another g less (subst (λ (r : Option ℕ). Keeps r g) is keeps)

pub returns-else-one-another-clause-another : goal.returns-else-one-another-clause-another
returns-else-one-another-clause-another c = λ g keeps.
    let is : c.args.another ≡ Some c.in_ok-another.another = search rules in
    let less : c.in_ok-another.another ≤ c.in_ok-one.one = search rules in
    keeps_more c.in_ok-another.another c.in_ok-one.one g less (subst (λ (r : Option ℕ). Keeps r g) is keeps)
