use Rattle.std.proofs.Common.{All, subst, sym}
use Rattle.std.proofs.lemmas.List.Elements.{All-push}
use Rattle.std.proofs.lemmas.Result.{on_ok_weaker}
use Rattle.cfg_graph.specs.WellFormed.Faults.{IsCountedBody}
use Rattle.typed_tree.specs.View.{body_of}
use Rattle.lower_rules.specs.Lower as low
use Rattle.cfg_build.proofs.Claimed.{pushed_is}
use Rattle.cfg_build.proofs.programs.add_body.Goals as goal

pub returns : goal.returns
returns c =
    on_ok_weaker c.push.result
    (λ pushed. (
      pushed_is c.args.bodies.now c.push.new.self c.in_ok-lowered.lowered.body (low.body_of c.args.items.now (body_of c.args.body.now))
          pushed c.in_ok-lowered.ensures.body,
      c.in_ok-add_sites.ensures c.in_ok-lowered.ensures.body c.in_ok-lowered.ensures.locals c.in_ok-lowered.ensures.nodes,
      λ all. subst (All IsCountedBody) (sym pushed) (All-push IsCountedBody c.args.bodies.now c.in_ok-lowered.lowered.body all c.in_ok-lowered.ensures.counted),
    )) c.push.ensures.pushed
