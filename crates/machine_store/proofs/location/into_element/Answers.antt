use Rattle.std.proofs.Common.{◌≡◌, Some, arith, rules}
use Rattle.std.proofs.lemmas.Grind.{common_steps}
use Rattle.machine_store.specs.Standing.{standing, number_of, located_of}
use Rattle.machine_store.proofs.Locations.{at_none, no_element}
use Rattle.machine_store.proofs.location.into_element.Goals as goal

pub returns : goal.returns
returns c =
    let number : number_of (standing c.args.index) ≡ Some c.in-Some.number = grind (arith, common_steps) in
    let past = at_none c.in_ok-part.field-0 _ c.in-None.is c.in_ok-part.ensures.past in
    no_element c.args.items.now (standing c.args.index) c.in-Some.number (located_of c.args.s) number (λ n e. let h = past n (search rules) in let k = c.part_count.ensures in omega arith)
