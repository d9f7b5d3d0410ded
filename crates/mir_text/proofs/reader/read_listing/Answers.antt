-- What is answered of the graph that was read, of the text that it was read from.
use Rattle.std.proofs.Common.{rules, ◌≡◌, Some, None, codes}
use Rattle.listing_write.specs.Lists.{line}
use Rattle.listing_write.specs.Reading.Words.{strip}
use Rattle.mir_text.specs.Judged.{Judges}
use Rattle.mir_text.proofs.Judging.{answers}
use Rattle.mir_text.proofs.Whole.{no_first}
use Rattle.mir_text.proofs.reader.read_listing.Goals as goal
use Rattle.listing_parts.proofs.LineByLine.{strip_sound}
use Rattle.mir_text.specs.GraphReading.{IsRead}

pub returns-in-Ok : goal.returns-in-Ok
returns-in-Ok c =
    let text = c.args.text.now in
    let t = c.in-Some.behind.now in
    let found : strip (line (codes "mirdrop 1")) text ≡ Some t = search rules in
    let read : IsRead t c.in-Ok.graph c.in-Ok.whole c.in-Ok.rest.now = search rules in
    let judged : Judges c.in-Ok.graph c.in-Ok.whole c.in-Ok.rest.now c.answer.result = search rules in
    answers text t c.in-Ok.graph c.in-Ok.whole c.in-Ok.rest.now c.answer.result (strip_sound (line (codes "mirdrop 1")) text t found) read judged

pub returns-in_default : goal.returns-in_default
returns-in_default c =
    let none : strip (line (codes "mirdrop 1")) c.args.text.now ≡ None = search rules in
    no_first c.args.text.now none
