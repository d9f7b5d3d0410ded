use Rattle.std.proofs.Common.{map, ap, sym, ◌∙◌}
use Rattle.typing_rules.specs.Accesses.{is_bound}
use Rattle.borrow_rules.specs.AccessView.{bound_in, key_if_any}
use Rattle.borrow_rules.proofs.Keys.{a_key, no_key}
use Rattle.borrow_rules.proofs.guards.is_bound.Goals as goal

pub returns-in-Some : goal.returns-in-Some
returns-in-Some c =
    c.has_key.ensures ∙ sym (a_key c.in-Some.root.0 c.args.bounds.now)
    ∙ ap (λ root. is_bound (key_if_any root) (map bound_in c.args.bounds.now)) (sym c.in-Some.is)

pub returns-in-None : goal.returns-in-None
returns-in-None c =
    sym (no_key c.args.bounds.now) ∙ ap (λ root. is_bound (key_if_any root) (map bound_in c.args.bounds.now)) (sym c.in-None.is)
