use Rattle.std.proofs.Common.{rules, ◌≡◌, true, Some, slice_get}
use Rattle.cfg_graph.specs.WellFormed.NameFaults.{same_name}
use Rattle.listing_lines.proofs.FoundMethods.{own_named}
use Rattle.listing_lines.proofs.trait_lines.own_head.Goals as goal

pub returns-then-eq-clause-named : goal.returns-then-eq-clause-named
returns-then-eq-clause-named c =
    let heads = c.args.heads.now in
    let at : slice_get heads.traits c.args.n ≡ Some c.in_ok-head.head.now = search rules in
    let same : same_name c.in_ok-name.name.now c.in_ok-head.head.now.name ≡ true = search rules in
    own_named heads c.args.n c.in_ok-head.head.now c.in_ok-name.name.now at same
