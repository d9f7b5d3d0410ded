use Rattle.std.proofs.Common.{rules, reverse, sym, subst}
use Rattle.std.specs.String.{string_bytes}
use Rattle.typeck_env.specs.Scope.{IsIndexed}
use Rattle.typeck_env.proofs.Slots.{entered}
use Rattle.typeck_env.proofs.variables.Variables.enter.Goals as goal

pub invariant_of-self-in-Ok : goal.invariant_of-self-in-Ok
invariant_of-self-in-Ok c =
    subst (λ xs. IsIndexed (reverse xs) c.insert.new.self) (sym c.in_ok-push.ensures.pushed)
    (entered c.self.inside.slots (record { variable = c.args.variable; hides = c.copied-hides.result }) c.len-place.result (string_bytes c.in_ok-name.name)
    c.self.inside.youngest c.insert.new.self c.in-Ok.ensures.updates (search rules) (search rules) (search rules) c.self.invariant)
