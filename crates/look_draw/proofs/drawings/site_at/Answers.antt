use Rattle.std.proofs.Common.{rules}
use Rattle.look_draw.specs.Drawings.{is_at}
use Rattle.look_draw.proofs.Finding.{find_here, find_none, find_on}
use Rattle.look_draw.proofs.drawings.site_at.Goals as goal

pub loop-site-preserved : goal.loop-site-preserved
loop-site-preserved c =
    find_on (is_at c.args.body c.args.block c.args.at) c.args.sites.now c.loop-site.site-index c.site-item.result c.loop-site-test.true c.site-item.is
    (search rules) c.loop-site.invariant

pub returns-then-is_at : goal.returns-then-is_at
returns-then-is_at c =
    find_here (is_at c.args.body c.args.block c.args.at) c.args.sites.now c.loop-site.site-index c.site-item.result c.loop-site-test.true c.site-item.is
    (search rules) c.loop-site.invariant

pub returns : goal.returns
returns c = find_none (is_at c.args.body c.args.block c.args.at) c.args.sites.now c.loop-site.site-index c.loop-site-test.false c.loop-site.invariant
