use Rattle.std.proofs.Common.{◌≡◌, drop}
use Rattle.std.specs.List.{find}
use Rattle.mir_pipeline.specs.Graphs.{stands_at}
use Rattle.mir_pipeline.proofs.uses.site_at.Given as goal

abbrev pub invariant-loop-site : goal.invariant-loop-site
invariant-loop-site l = find (stands_at l.body l.at) (drop l.site-index l.sites) ≡ find (stands_at l.body l.at) l.sites
