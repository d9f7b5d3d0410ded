use Rattle.std.proofs.Common.{rules, ◌<◌, List, ℕ, Some, length, ap, sym, ◌∙◌}
use Rattle.listing_write.specs.Reading.Words.{FoundInText}
use Rattle.listing_lines.proofs.Names.{is_named, not_named}
use Rattle.listing_lines.proofs.words.utf8_name.Goals as goal

pub returns-in-Ok : goal.returns-in-Ok
returns-in-Ok c =
    let w = c.name.result.0.now in
    let r = c.name.result.1.now in
    let some : 0 < length w = search rules in
    ap (λ (x : List ℕ). let found : FoundInText (List ℕ) = Some (x, r) in found) c.in-Ok.ensures.cases.0 ∙ sym (is_named w r c.args.text.now c.name.ensures some c.in-Ok.ensures.cases.1)

pub returns-in-Err : goal.returns-in-Err
returns-in-Err c = sym (not_named c.name.result.0.now c.name.result.1.now c.args.text.now c.name.ensures c.in-Err.ensures.cases.0)
