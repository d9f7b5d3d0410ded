use Rattle.listing_parts.proofs.NumberTables.{put_in}
use Rattle.listing_parts.proofs.heads.note.Goals as goal

pub returns : goal.returns
returns c =
    put_in c.in_ok-from_slice.field-0 c.args.numbers.now c.insert.new.self c.args.n c.args.name.now
    c.in_ok-insert.ensures.updates c.in_ok-from_slice.ensures.items
