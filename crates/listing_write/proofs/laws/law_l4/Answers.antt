use Rattle.listing_write.proofs.InLines.{listing-lines}
use Rattle.listing_write.proofs.Reading.Law.{one_graph_a_listing}
use Rattle.listing_write.proofs.Reading.Settled.{well_formed_as_compared}
use Rattle.listing_write.proofs.laws.law_l4.Goals as goal

pub returns : goal.returns
returns c = record {
  one_graph = one_graph_a_listing;
  as_compared = well_formed_as_compared;
  in_lines = listing-lines;
}
