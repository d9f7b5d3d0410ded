use Rattle.std.proofs.Common.{rules, ◌≡◌, ◌∙◌, ◌++◌, List, map, take, drop, sym, ap}
use Rattle.std.proofs.Math.ListN.{drop_of_length-le}
use Rattle.std.proofs.lemmas.List.{append-nil, map-append, take-map, drop-map}
use Rattle.lower_rules.specs.Build.{outside}
use Rattle.lower_code.specs.View.{exit_of}
use Rattle.lower_code.specs.declared.code.Exit.{Exit}
use Rattle.lower_passes.proofs.mark_pass.CodeMarks.leave_loop.Goals as goal

pub returns : goal.returns
returns c =
    let old : List Exit = c.args.self.now.jumps in
    let items : List Exit = c.as_slice-exit-items.result.now in
    let left : List Exit = c.loop-exit.self.jumps in
    let kept : List Exit = c.truncate.new.self in
    let gone = drop_of_length-le items c.loop-exit-test.false in
    let all : left ≡ kept ++ items = sym (append-nil left) ∙ ap (λ (rest : List Exit). left ++ rest) (sym gone) ∙ c.loop-exit.invariant.1 in
    let own : c.behind.result.now ≡ drop c.args.count old = search rules in
    let items_are : items ≡ c.in_ok-others.others = search rules in
    let kept_is : map exit_of kept ≡ take c.args.count (map exit_of old) =
    ap (map exit_of) c.truncate.ensures ∙ sym (take-map exit_of c.args.count old) in
    let others : map exit_of items ≡ outside c.args.id.0 (drop c.args.count (map exit_of old)) =
    ap (map exit_of) items_are ∙ c.in_ok-others.ensures
    ∙ ap (λ (js : List Exit). outside c.args.id.0 (map exit_of js)) own
    ∙ ap (outside c.args.id.0) (sym (drop-map exit_of c.args.count old)) in
    (c.loop-exit.invariant.0, ap (map exit_of) all ∙ map-append exit_of kept items ∙ (λ i. kept_is i ++ others i))
