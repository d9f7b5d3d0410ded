use Rattle.std.proofs.Common.{sym}
use Rattle.std.proofs.lemmas.Result.{on_ok_weaker}
use Rattle.lower_rules.specs.Build as build
use Rattle.lower_code.specs.View.{exit_of}
use Rattle.lower_blocks.specs.Building.{ways_of}
use Rattle.lower_blocks.proofs.exits.exit.Goals as goal

pub returns : goal.returns
returns c =
    on_ok_weaker c.leave_to.result
    (λ made. made (build.way_of (exit_of c.args.to) (ways_of c.args.ways)) (sym c.way_for.ensures.0)
    (sym c.way_for.ensures.1)) c.leave_to.ensures
