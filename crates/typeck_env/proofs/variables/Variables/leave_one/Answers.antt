use Rattle.std.proofs.Common.{rules}
use Rattle.typeck_env.proofs.Slots.{left, is_noted}
use Rattle.typeck_env.proofs.variables.Variables.leave_one.Goals as goal

pub invariant_of-self-in-Some-get_mut : goal.invariant_of-self-in-Some-get_mut
invariant_of-self-in-Some-get_mut c =
    left c.self.inside.slots c.pop.new.self c.in-Some.slot c.as_str-name.result.now _ c.self.inside.youngest (c.get_mut.follows.lender c.in-Some-hides.place)
    c.in-Some.ensures c.as_str-name.ensures c.in-Some-hides.is c.self.invariant ((c.get_mut.follows.holds c.in-Some-hides.place).3 (search rules))

pub invariant_of-self-in-Some-hides : goal.invariant_of-self-in-Some-hides
invariant_of-self-in-Some-hides c =
    let noted = is_noted c.self.inside.slots c.pop.new.self c.in-Some.slot c.as_str-name.result.now c.self.inside.youngest
    c.in-Some.ensures c.as_str-name.ensures c.self.invariant in
    absurd (search (rules, noted))

pub invariant_of-self-in-None : goal.invariant_of-self-in-None
invariant_of-self-in-None c =
    left c.self.inside.slots c.pop.new.self c.in-Some.slot c.as_str-name.result.now _ c.self.inside.youngest c.remove.new.self
    c.in-Some.ensures c.as_str-name.ensures c.in-None.is c.self.invariant c.remove.ensures.updates
