use Rattle.std.proofs.Common.{[], drop, refl}
use Rattle.cfg_graph.proofs.FirstBroken.{unless_more}
use Rattle.cfg_graph.specs.WellFormed.ItemFaults.{trait_tests}
use Rattle.cfg_graph.proofs.item_faults.trait_fault.Goals as goal

pub returns : goal.returns
returns c =
    let tests = trait_tests c.args.items.now c.args.bodies c.args.n c.args.def.now in
    let named = unless_more 7 _ _ _ _ [] c.trait_has_names.ensures refl c.unless-named.ensures in
    let typed = unless_more 3 _ _ _ _ (drop 2 tests) c.trait_places_dyn.ensures named c.unless-typed.ensures in
    unless_more 1 _ _ _ _ (drop 1 tests) c.trait_exists.ensures typed c.unless.ensures
