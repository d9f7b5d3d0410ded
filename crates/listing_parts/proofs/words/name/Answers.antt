use Rattle.std.proofs.lemmas.List.Sums.{prefix_len-le-length}
use Rattle.cfg_graph.specs.WellFormed.NameFaults.{stands_in_names}
use Rattle.listing_parts.proofs.Spans.{span_is}
use Rattle.listing_parts.proofs.words.name.Goals as goal

pub split_at-requires : goal.split_at-requires
split_at-requires c = rw c.name_length.ensures (prefix_len-le-length stands_in_names c.args.text.now)

pub returns : goal.returns
returns c = rw c.split_at.ensures.front (rw c.split_at.ensures.back (rw c.name_length.ensures (span_is stands_in_names c.args.text.now)))
