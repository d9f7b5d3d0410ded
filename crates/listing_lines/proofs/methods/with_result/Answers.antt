use Rattle.std.proofs.Common.{rules, ◌≡◌, ◌<◌, List, ℕ, Some, length, map}
use Rattle.listing_write.specs.Compared.{SigSeen}
use Rattle.listing_parts.specs.Table.{text_under}
use Rattle.listing_lines.specs.TraitReading.{result_from}
use Rattle.listing_lines.proofs.FoundMethods.{method_found}
use Rattle.listing_lines.proofs.methods.with_result.Goals as goal

pub returns-in-Ok-make_method : goal.returns-in-Ok-make_method
returns-in-Ok-make_method c =
    let heads = c.args.heads.now in
    let old = c.args.items.now in
    let new = c.read_type.new.items in
    let there : c.in-Ok.answer.0 < length new.types = search rules in
    let words : List (List ℕ) = map (text_under heads old) c.args.params in
    let seen : SigSeen = (c.args.name.now, words, text_under heads new c.in-Ok.answer) in
    let found : result_from heads c.args.name.now (words, c.args.text.now) ≡ Some (seen, c.in-Ok.rest.now) = search rules in
    method_found heads old new c.args.n c.in-Ok-make_method.sig c.in-Ok.rest c.args.name.now c.args.params c.in-Ok.answer (result_from heads c.args.name.now (words, c.args.text.now))
    c.requires.read c.requires.within c.requires.own c.read_type.ensures.grow there c.in-Ok-make_method.ensures found
