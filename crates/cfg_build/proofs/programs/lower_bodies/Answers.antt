use Rattle.std.proofs.Common.{rules, ◌≡◌, ◌<◌, ◌-◌, ◌^◌, [], All, List, length, map, refl, sym, subst, arith}
use Rattle.std.proofs.lemmas.Grind.{common_steps}
use Rattle.std.proofs.lemmas.List.Elements.{All-nil}
use Rattle.cfg_graph.specs.declared.graph.Body.{Body}
use Rattle.cfg_graph.specs.WellFormed.Faults.{IsCountedBody}
use Rattle.typed_tree.specs.View.{body_of}
use Rattle.lower_rules.specs.Lower as low
use Rattle.lower_rules.specs.Listed.{of_bodies}
use Rattle.cfg_build.proofs.Claimed.{behind_none, sites_behind_none}
use Rattle.cfg_build.proofs.programs.lower_bodies.Goals as goal

pub returns : goal.returns
returns c =
    let items = c.args.items.now in
    let trees = map body_of c.args.all.now in
    let none : c.new-bodies.result ≡ [] = search rules in
    record {
      bodies = behind_none c.new-bodies.result c.add_bodies.new.bodies (map (low.body_of items) trees) _ none c.in_ok-add_bodies.ensures.0 refl;
      sites = sites_behind_none c.new-sites.result c.add_bodies.new.sites (of_bodies items 0 trees) _ (search rules) c.in_ok-add_bodies.ensures.1 refl;
      few = grind (arith, common_steps);
      counted = c.in_ok-add_bodies.ensures.2 (subst (All IsCountedBody) (sym none) (All-nil IsCountedBody));
    }
