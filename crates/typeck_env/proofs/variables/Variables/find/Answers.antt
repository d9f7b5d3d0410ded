use Rattle.std.proofs.Common.{◌≡◌, rules, Option, Some, None, slice_get, ap, ◌∙◌}
use Rattle.std.specs.HashMap.{get_by_text}
use Rattle.std.specs.Option.{option_map}
use Rattle.typeck_env.specs.Scope.{entry_in}
use Rattle.typeck_env.specs.declared.variables.Slot.{Slot}
use Rattle.typeck_env.proofs.Slots.{find_some, find_none}
use Rattle.typing_rules.specs.Scope.{variable}
use Rattle.typeck_env.proofs.variables.Variables.find.Goals as goal

pub returns-in-Some-get : goal.returns-in-Some-get
returns-in-Some-get c =
    let noted : get_by_text c.self.inside.youngest c.args.name.now ≡ Some c.in-Some.place.now = search rules in
    let at : Some c.in-Some-get.slot.now ≡ slice_get c.self.inside.slots c.in-Some.place.now = search rules in
    ap (option_map entry_in) at ∙ find_some c.self.inside.slots c.self.inside.youngest c.self.invariant c.args.name.now c.in-Some.place.now noted
    ∙ ap (λ v. variable v c.args.name.now) c.self.view_is

pub returns-in-None-get : goal.returns-in-None-get
returns-in-None-get c =
    let noted : get_by_text c.self.inside.youngest c.args.name.now ≡ Some c.in-Some.place.now = search rules in
    let at : ◌≡◌ {A = Option Slot} None (slice_get c.self.inside.slots c.in-Some.place.now) = search rules in
    ap (option_map entry_in) at ∙ find_some c.self.inside.slots c.self.inside.youngest c.self.invariant c.args.name.now c.in-Some.place.now noted
    ∙ ap (λ v. variable v c.args.name.now) c.self.view_is

pub returns-in-None : goal.returns-in-None
returns-in-None c =
    let noted : get_by_text c.self.inside.youngest c.args.name.now ≡ None = search rules in
    find_none c.self.inside.slots c.self.inside.youngest c.self.invariant c.args.name.now noted ∙ ap (λ v. variable v c.args.name.now) c.self.view_is
