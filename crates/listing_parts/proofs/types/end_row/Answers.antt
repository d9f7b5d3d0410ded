use Rattle.std.proofs.Common.{rules, ◌≡◌, Some, codes}
use Rattle.listing_write.specs.Reading.Words.{strip}
use Rattle.listing_parts.proofs.OpenEnds.{last_part, row_more}
use Rattle.listing_parts.proofs.types.end_row.Goals as goal

pub returns-in-Some : goal.returns-in-Some
returns-in-Some c =
    let found : strip (codes ", ") c.args.text.now ≡ Some c.in-Some.rest.now = search rules in
    let (front, last, is) = last_part c.args.parts c.requires.some in
    row_more c.args.heads.now c.args.items.now front last c.args.parts c.args.text.now c.in-Some.rest c.requires.read c.requires.within is found
