use Rattle.std.proofs.Common.{rules, ◌≡◌, ◌∙◌, ◌∷◌, ◌++◌, List, [], suc, length, map, reverse, append-nil, sym, ap, arith}
use Rattle.lower_code.specs.View.{entry_of}
use Rattle.lower_code.specs.declared.code.Entry as plain
use Rattle.src_meaning.specs.Scopes.{Entry, Scopes, needing_drop, all_entries}
use Rattle.lower_passes.specs.Scoped.{entries_of, scope_of, scopes_of}
use Rattle.lower_passes.proofs.Lists.{some_added, turned_entries}
use Rattle.lower_passes.proofs.drops.panic_drops.Goals as goal

pub loop-at-preserved : goal.loop-at-preserved
loop-at-preserved c =
    let s = scope_of c.in-Innermost.scope in
    let S : Scopes = scopes_of c.in-Innermost.around.now in
    let was : scopes_of c.loop-at.at.now ≡ s ∷ S = ap scopes_of c.in-Innermost.is in
    let old : List Entry = map entry_of c.loop-at.drops.items in
    some_added c.args.items.now (s.pending ++ s.entries) (all_entries S) old (map entry_of c.add_scope.new.drops.items) _
    c.in_ok-add_scope.ensures
    (sym (ap (λ (T : Scopes). old ++ needing_drop c.args.items.now (all_entries T)) was) ∙ c.loop-at.invariant)

pub loop-at-smaller : goal.loop-at-smaller
loop-at-smaller c =
    let longer : length (scopes_of c.loop-at.at.now) ≡ suc (length (scopes_of c.in-Innermost.around.now)) = ap (λ (T : Scopes). length T) (ap scopes_of c.in-Innermost.is) in
    omega arith

pub returns : goal.returns
returns c =
    let none : scopes_of c.loop-at.at.now ≡ [] = ap scopes_of c.in_default.is in
    let es : List plain.Entry = c.loop-at.drops.items in
    let old : List Entry = map entry_of es in
    let turned : c.from_vec.result ≡ reverse es = search rules in
    ap entries_of turned ∙ turned_entries es
    ∙ sym (append-nil old) ∙ sym (ap (λ (T : Scopes). old ++ needing_drop c.args.items.now (all_entries T)) none) ∙ c.loop-at.invariant
