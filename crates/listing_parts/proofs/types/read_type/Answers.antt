use Rattle.std.proofs.Common.{rules, ◌≤◌, length, ap, ◌∙◌, arith}
use Rattle.listing_parts.specs.OpenTypes.{goes_on}
use Rattle.listing_parts.proofs.DepthFree.{nothing_read}
use Rattle.listing_parts.proofs.OpenTypes.{nothing_goes_on}
use Rattle.listing_parts.proofs.types.read_type.Goals as goal

pub returns : goal.returns
returns c =
    let heads = c.args.heads.now in
    let left = c.loop.invariant.left in
    let past : length c.args.text.now ≤ c.loop.counter = search rules in
    record {
      there = tt;
      within = tt;
      missing = λ h.
          c.loop.invariant.there ∙ ap (goes_on heads c.loop.items c.loop.opens) (nothing_read heads c.loop.rest.now (omega (arith, left, past)))
          ∙ nothing_goes_on heads c.loop.items c.loop.opens;
      grow = c.loop.invariant.grow;
    }
