use Rattle.listing_parts.proofs.Spans.{strip_told}
use Rattle.listing_parts.proofs.words.strip_bytes.Goals as goal

pub returns : goal.returns
returns c = strip_told c.args.word.now c.args.text.now c.strip_prefix.result c.strip_prefix.ensures.cases
