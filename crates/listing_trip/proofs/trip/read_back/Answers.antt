use Rattle.std.proofs.Common.{◌∙◌}
use Rattle.listing_trip.proofs.ReadBack.{only_memory, read_as}
use Rattle.listing_trip.proofs.trip.read_back.Goals as goal

pub want_of-requires : goal.want_of-requires
want_of-requires c =
    only_memory c.args.graph.now c.in_ok-text.ensures.reads_back c.as_slice.result.now
    (c.as_slice.ensures ∙ c.in_ok-text.ensures.listed) c.in-Err.error c.in-Err.ensures

pub returns-in-Ok-clause-well_formed : goal.returns-in-Ok-clause-well_formed
returns-in-Ok-clause-well_formed c = c.in-Ok.ensures.listed.well_formed

pub returns-in-Ok-clause-runs : goal.returns-in-Ok-clause-runs
returns-in-Ok-clause-runs c =
    read_as c.args.graph.now c.in_ok-text.ensures.reads_back c.as_slice.result.now
    (c.as_slice.ensures ∙ c.in_ok-text.ensures.listed) c.in-Ok.read c.in-Ok.ensures
