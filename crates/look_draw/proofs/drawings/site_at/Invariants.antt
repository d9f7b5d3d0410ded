use Rattle.std.proofs.Common.{◌≡◌, drop}
use Rattle.std.specs.List.{find}
use Rattle.look_draw.specs.Drawings.{is_at}
use Rattle.look_draw.proofs.drawings.site_at.Given as goal

abbrev pub invariant-loop-site : goal.invariant-loop-site
invariant-loop-site l = find (is_at l.body l.block l.at) (drop l.site-index l.sites) ≡ find (is_at l.body l.block l.at) l.sites
