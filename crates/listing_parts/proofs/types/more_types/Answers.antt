use Rattle.std.proofs.Common.{sym, subst}
use Rattle.listing_parts.specs.TypesRead.{FindsRow}
use Rattle.listing_parts.proofs.DepthFree.{more_by_itself}
use Rattle.listing_parts.proofs.types.more_types.Goals as goal

pub returns : goal.returns
returns c =
    subst (FindsRow c.args.heads.now c.args.items.now c.read_more.new.items c.args.parts.now c.read_more.new.parts c.read_more.result) (sym (more_by_itself c.args.heads.now c.args.text.now))
    c.read_more.ensures
