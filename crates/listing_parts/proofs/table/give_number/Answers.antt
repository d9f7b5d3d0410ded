use Rattle.listing_parts.proofs.Given.{given, not_given}
use Rattle.listing_parts.proofs.table.give_number.Goals as goal

pub returns-in_err-id : goal.returns-in_err-id
returns-in_err-id c = not_given c.args.heads.now c.args.items.now c.intern.new.self _ c.from_residual.result c.from_residual.ensures.0 c.requires.read c.in_err-id.ensures.refused

pub returns : goal.returns
returns c = given c.args.heads.now c.args.items.now c.intern.new.self c.args.ty c.in_ok-id.id c.requires.read c.requires.stands c.in_ok-id.ensures.interned c.ty-found.ensures.sound
