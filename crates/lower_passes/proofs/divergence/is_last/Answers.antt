use Rattle.std.proofs.Common.{rules, ◌≡◌, ◌∙◌, Some}
use Rattle.lower_passes.specs.Framed.{frame_of, stored}
use Rattle.lower_passes.proofs.Stored.{last_is}
use Rattle.lower_passes.proofs.divergence.is_last.Goals as goal

pub returns-in_ok-to-in-Some : goal.returns-in_ok-to-in-Some
returns-in_ok-to-in-Some c =
    let is : stored c.args.action.now ≡ Some c.in-Some.to.now = search rules in
    c.is_never.ensures
    ∙ last_is (frame_of c.args.frame) c.args.action.now c.in-Some.to.now c.in_ok-to-in-Some.to is c.in_ok-to-in-Some.ensures
