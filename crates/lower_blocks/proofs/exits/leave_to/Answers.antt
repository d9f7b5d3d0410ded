use Rattle.std.proofs.Common.{rules, ◌≡◌, ◌∙◌, ◌-◌, ℕ, length, sym, ap}
use Rattle.std.proofs.lemmas.Result.{on_ok_weaker}
use Rattle.lower_passes.specs.Scoped.{scopes_of}
use Rattle.lower_blocks.proofs.exits.leave_to.Goals as goal

pub returns : goal.returns
returns c =
    let count : c.saturating_sub-count.result ≡ length (scopes_of c.args.scopes.now) - c.args.way.base = search rules in
    on_ok_weaker c.leave_some.result
    (λ made plain based blocked. made plain blocked
    (count ∙ ap (λ (n : ℕ). length (scopes_of c.args.scopes.now) - n) (sym based))) c.leave_some.ensures
