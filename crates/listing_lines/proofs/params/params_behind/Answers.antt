use Rattle.std.proofs.Common.{rules, ◌≡◌, ◌∷◌, Some, map}
use Rattle.listing_parts.specs.Table.{text_under}
use Rattle.listing_parts.specs.TypeReading.{more_types}
use Rattle.listing_lines.specs.TraitReading.{closed_params}
use Rattle.listing_lines.proofs.FoundMethods.{params_found}
use Rattle.listing_lines.proofs.params.params_behind.Goals as goal

pub returns-in-Ok-with_first : goal.returns-in-Ok-with_first
returns-in-Ok-with_first c =
    let heads = c.args.heads.now in
    let old = c.args.items.now in
    let new = c.more_types.new.items in
    let others = c.more_types.new.parts in
    let words = (more_types heads c.args.text.now).0 in
    let same : map (text_under heads new) others ≡ words = search rules in
    let found : closed_params (text_under heads old c.args.first) (more_types heads c.args.text.now) ≡ Some (text_under heads old c.args.first ∷ words, c.in-Some.rest.now) = search rules in
    params_found heads old new c.args.n c.args.first others c.in-Ok-with_first.params words c.in-Some.rest (closed_params (text_under heads old c.args.first) (more_types heads c.args.text.now))
    c.requires.read c.requires.within c.requires.own c.more_types.ensures.grow c.more_types.ensures.within same c.in-Ok-with_first.ensures found
