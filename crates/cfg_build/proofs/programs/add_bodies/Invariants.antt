use Rattle.std.proofs.Common.{◌≡◌, ◌++◌, All, map, drop}
use Rattle.cfg_graph.specs.WellFormed.Faults.{IsCountedBody}
use Rattle.typed_tree.specs.View.{body_of}
use Rattle.lower_rules.specs.Lower as low
use Rattle.lower_rules.specs.Listed.{of_bodies}
use Rattle.cfg_build.proofs.programs.add_bodies.Given as goal

abbrev pub invariant-loop-body : goal.invariant-loop-body
invariant-loop-body l = record {
  number : l.number ≡ l.body-index;
  bodies : l.bodies ++ map (low.body_of l.items) (map body_of (drop l.body-index l.all)) ≡ l.fn.bodies ++ map (low.body_of l.items) (map body_of l.all);
  counted : All IsCountedBody l.fn.bodies → All IsCountedBody l.bodies;
  sites : l.sites ++ of_bodies l.items l.number (map body_of (drop l.body-index l.all)) ≡ l.fn.sites ++ of_bodies l.items 0 (map body_of l.all);
}
