use Rattle.std.proofs.Common.{◌≡◌, rules, Option, Some, None, reverse, slice_get, ap, ◌∙◌}
use Rattle.std.specs.Option.{option_map}
use Rattle.typeck_env.specs.Scope.{entry_in}
use Rattle.typeck_env.specs.declared.variables.Slot.{Slot}
use Rattle.typeck_env.proofs.Slots.{numbered}
use Rattle.typeck_env.proofs.variables.Variables.at.Goals as goal

pub returns-in-Some : goal.returns-in-Some
returns-in-Some c =
    let at : Some c.in-Some.slot.now ≡ slice_get c.self.inside.slots c.args.number = search rules in
    ap (option_map entry_in) at ∙ numbered c.self.inside.slots c.args.number ∙ ap (λ v. slice_get (reverse v) c.args.number) c.self.view_is

pub returns-in-None : goal.returns-in-None
returns-in-None c =
    let at : ◌≡◌ {A = Option Slot} None (slice_get c.self.inside.slots c.args.number) = search rules in
    ap (option_map entry_in) at ∙ numbered c.self.inside.slots c.args.number ∙ ap (λ v. slice_get (reverse v) c.args.number) c.self.view_is
