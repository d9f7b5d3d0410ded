use Rattle.std.proofs.Common.{◌≡◌, ◌∙◌, ◌∷◌, ◌++◌, List, [], suc, length, map, append-nil, sym, ap, arith}
use Rattle.lower_code.specs.View.{entry_of}
use Rattle.src_meaning.specs.Scopes.{Entry, needing_drop}
use Rattle.lower_passes.specs.Scoped.{held}
use Rattle.lower_passes.proofs.Lists.{some_added}
use Rattle.lower_passes.proofs.drops.add_needing.Goals as goal

pub loop-at-preserved : goal.loop-at-preserved
loop-at-preserved c =
    let es : List Entry = held c.in-Youngest.older.now in
    let was : held c.loop-at.at.now ≡ entry_of c.in-Youngest.entry ∷ es = ap held c.in-Youngest.is in
    let old : List Entry = map entry_of c.loop-at.drops.items in
    some_added c.args.items.now (entry_of c.in-Youngest.entry ∷ []) es old (map entry_of c.add_if_needing.new.drops.items) _
    c.in_ok-add_if_needing.ensures
    (sym (ap (λ (l : List Entry). old ++ needing_drop c.args.items.now l) was) ∙ c.loop-at.invariant)

pub loop-at-smaller : goal.loop-at-smaller
loop-at-smaller c =
    let longer : length (held c.loop-at.at.now) ≡ suc (length (held c.in-Youngest.older.now)) = ap (λ (l : List Entry). length l) (ap held c.in-Youngest.is) in
    omega arith

pub returns : goal.returns
returns c =
    let none : held c.loop-at.at.now ≡ [] = ap held c.in_default.is in
    let old : List Entry = map entry_of c.loop-at.drops.items in
    sym (append-nil old) ∙ sym (ap (λ (l : List Entry). old ++ needing_drop c.args.items.now l) none) ∙ c.loop-at.invariant
