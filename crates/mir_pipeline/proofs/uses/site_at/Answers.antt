use Rattle.std.proofs.Common.{rules, ◌≡◌, ◌∙◌, Some, None, ap, sym, false, true}
use Rattle.mir_pipeline.specs.Graphs.{stands_at}
use Rattle.mir_pipeline.proofs.Finding.{find_here, find_none, find_on}
use Rattle.mir_pipeline.proofs.uses.site_at.Goals as goal

pub loop-site-preserved : goal.loop-site-preserved
loop-site-preserved c =
    find_on (stands_at c.args.body c.args.at) c.args.sites.now c.loop-site.site-index c.site-item.result c.loop-site-test.true c.site-item.is
    (search rules) c.loop-site.invariant

pub returns-then-stands_at : goal.returns-then-stands_at
returns-then-stands_at c =
    find_here (stands_at c.args.body c.args.at) c.args.sites.now c.loop-site.site-index c.site-item.result c.loop-site-test.true c.site-item.is
    (search rules) c.loop-site.invariant

pub returns : goal.returns
returns c = find_none (stands_at c.args.body c.args.at) c.args.sites.now c.loop-site.site-index c.loop-site-test.false c.loop-site.invariant
