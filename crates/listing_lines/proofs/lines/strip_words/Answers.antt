use Rattle.listing_parts.proofs.Spans.{strip_told}
use Rattle.listing_lines.proofs.lines.strip_words.Goals as goal

pub returns : goal.returns
returns c = strip_told c.args.words.now c.args.text.now c.strip_prefix.result c.strip_prefix.ensures.cases
