-- One head more, and no more heads.
use Rattle.std.proofs.Common.{rules, ◌≡◌, ◌-◌, ◌+◌, List, ℕ, Some, None, ap, sym, ◌∙◌, arith}
use Rattle.mir_ty.specs.ItemTable.{ItemTable, with_trait}
use Rattle.listing_write.specs.Reading.Words.{FoundInText, bind}
use Rattle.mir_text.specs.SectionReading.{on_within}
use Rattle.mir_text.proofs.Onward.{one_more, no_more}
use Rattle.mir_text.specs.HeadReading.{trait_head, trait_of, one_trait_head}
use Rattle.mir_text.proofs.heads.trait_heads.Goals as goal

pub returns-in-None : goal.returns-in-None
returns-in-None c =
    let head : trait_head c.loop.rest.now ≡ None = search rules in
    let none : one_trait_head c.loop.heads c.loop.rest.now ≡ None = ap (λ (f : FoundInText (List ℕ)). bind f (λ f. Some (with_trait c.loop.heads (trait_of f.0), f.1))) head in
    let whole = c.loop.invariant ∙ no_more one_trait_head (c.args.count - c.loop.counter) c.loop.heads c.loop.rest.now none in
    (ap (λ (q : ItemTable × List ℕ). q.0) (sym whole), ap (λ (q : ItemTable × List ℕ). q.1) (sym whole))

pub loop-preserved : goal.loop-preserved
loop-preserved c =
    let name = c.in-Some.name.now in
    let behind = c.in-Some.behind.now in
    let more = c.args.count - (c.loop.counter + 1) in
    let head : trait_head c.loop.rest.now ≡ Some (name, behind) = search rules in
    let found : one_trait_head c.loop.heads c.loop.rest.now ≡ Some (with_trait c.loop.heads (trait_of name), behind) = ap (λ (f : FoundInText (List ℕ)). bind f (λ f. Some (with_trait c.loop.heads (trait_of f.0), f.1))) head in
    let pushed : c.push_trait.new.heads ≡ with_trait c.loop.heads (trait_of name) = search rules in
    c.loop.invariant
    ∙ one_more one_trait_head (c.args.count - c.loop.counter) more c.loop.heads (with_trait c.loop.heads (trait_of name)) c.loop.rest.now behind (omega arith) found
    ∙ ap (λ (h : ItemTable). on_within more one_trait_head h behind) (sym pushed)
