use Rattle.std.proofs.Common.{rules, ◌≡◌, ◌≤◌, suc, Option, Some, ℕ, subst}
use Rattle.lower_passes.specs.Reaching.{Keeps}
use Rattle.lower_passes.proofs.Reached.{keeps_around}
use Rattle.lower_passes.proofs.reach.around_scope.Goals as goal

pub returns : goal.returns
returns c = λ f g node t keeps.
    let n : ℕ = c.in_ok-inner.field-0 in
    let is : c.args.inner ≡ Some n = search rules in
    let less : n ≤ suc c.saturating_sub.result = search rules in
    keeps_around f n c.saturating_sub.result g node t less (subst (λ (r : Option ℕ). Keeps r g) is keeps)
