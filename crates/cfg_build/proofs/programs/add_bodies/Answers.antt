use Rattle.std.proofs.Common.{rules, ◌≡◌, ◌∙◌, ◌∷◌, ◌+◌, ℕ, List, [], refl, map, ap}
use Rattle.typed_tree.specs.View.{body_of}
use Rattle.typed_tree.specs.declared.body.TBody.{TBody}
use Rattle.typed_tree.proofs.Following.{one_more}
use Rattle.lower_rules.specs.Lower as low
use Rattle.cfg_build.proofs.Claimed.{body_more}
use Rattle.cfg_build.proofs.programs.add_bodies.Goals as goal

pub loop-body-preserved : goal.loop-body-preserved
loop-body-preserved c =
    let on : c.in_ok-number.number ≡ c.loop-body.number + 1 = search rules in
    let F = λ (rest : List TBody). map (low.body_of c.args.items.now) (map body_of rest) in
    let part = λ (x : TBody). low.body_of c.args.items.now (body_of x) ∷ [] in
    record {
      number = on ∙ ap (λ (k : ℕ). k + 1) c.loop-body.invariant.number;
      bodies = one_more F part c.args.all.now c.loop-body.body-index c.body-item.result _ _ _ (λ x rest. refl) c.loop-body-test.true c.body-item.is
          c.in_ok-add_body.ensures.0 c.loop-body.invariant.bodies;
      sites = body_more c.args.items.now c.args.all.now c.loop-body.body-index c.loop-body.number c.in_ok-number.number c.body-item.result
          c.loop-body.sites c.add_body.new.sites _ c.loop-body.invariant.number on c.loop-body-test.true c.body-item.is
          c.in_ok-add_body.ensures.1 c.loop-body.invariant.sites;
      counted = λ all. c.in_ok-add_body.ensures.2 (c.loop-body.invariant.counted all);
    }
