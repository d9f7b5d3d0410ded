use Rattle.std.proofs.Common.{◌≡◌, ◌∙◌, ◌+◌, ◌<◌, ℕ, List, length, ap, sym, subst, arith}
use Rattle.std.specs.Prelude.{slice_set, slice_index}
use Rattle.drop_ranks.specs.Ranks.{IsOrder, AreTopsTo, number_at}
use Rattle.drop_ranks.proofs.Ordered.{number-within, tops-more, all-tops}
use Rattle.drop_ranks.proofs.upper.tops.Goals as goal

pub bounds-sizes-number : goal.bounds-sizes-number
bounds-sizes-number c =
    let ranks = c.args.ranks.now in
    let order : List (ℕ × ℕ) = c.as_slice-number-items.result.now in
    let o = subst (IsOrder ranks) (sym c.as_slice-number-items.ensures.value) c.in_ok-order.ensures in
    let within = number-within ranks c.args.sizes.now order o c.loop-number.number-index c.loop-number-test.true in
    let l = c.requires.sizes in omega (within, l, arith)

pub set-requires : goal.set-requires
set-requires c =
    let ranks = c.args.ranks.now in
    let order : List (ℕ × ℕ) = c.as_slice-number-items.result.now in
    let o = subst (IsOrder ranks) (sym c.as_slice-number-items.ensures.value) c.in_ok-order.ensures in
    let within = number-within ranks c.args.sizes.now order o c.loop-number.number-index c.loop-number-test.true in
    let l = c.loop-number.invariant.long in omega (within, l, arith)

pub loop-number-preserved : goal.loop-number-preserved
loop-number-preserved c =
    let ranks = c.args.ranks.now in
    let sizes = c.args.sizes.now in
    let order : List (ℕ × ℕ) = c.as_slice-number-items.result.now in
    let o = subst (IsOrder ranks) (sym c.as_slice-number-items.ensures.value) c.in_ok-order.ensures in
    let i = c.loop-number.number-index in
    let so = tops-more ranks sizes order o i c.loop-number.next c.loop-number.tops c.loop-number.invariant
    c.loop-number-test.true in
    let top : c.in_ok-top.top ≡ c.loop-number.next + slice_index sizes (number_at order i) = c.in_ok-top.ensures in
    let next : c.in_ok-next.next ≡ c.in_ok-top.top + 1 = c.in_ok-next.ensures in
    let set : c.set.new.self ≡ slice_set c.loop-number.tops (number_at order i) c.in_ok-top.top = c.set.ensures in
    subst (λ (z : List ℕ). AreTopsTo ranks sizes order (i + 1) c.in_ok-next.next z)
    (ap (λ (t : ℕ). slice_set c.loop-number.tops (number_at order i) t) (sym top) ∙ sym set)
    (subst (λ (n : ℕ). AreTopsTo ranks sizes order (i + 1) n (slice_set c.loop-number.tops (number_at order i)
    (c.loop-number.next + slice_index sizes (number_at order i))))
    (ap (λ (t : ℕ). t + 1) (sym top) ∙ sym next) so)

pub returns : goal.returns
returns c =
    let ranks = c.args.ranks.now in
    let sizes = c.args.sizes.now in
    let order : List (ℕ × ℕ) = c.as_slice-number-items.result.now in
    let o = subst (IsOrder ranks) (sym c.as_slice-number-items.ensures.value) c.in_ok-order.ensures in
    let all : c.loop-number.number-index ≡ length order =
    (let f = c.loop-number-test.false in let e = c.loop-number.auto.number-index-end in omega (f, e, arith)) in
    all-tops ranks sizes order o c.loop-number.next c.loop-number.tops
    (subst (λ (n : ℕ). AreTopsTo ranks sizes order n c.loop-number.next c.loop-number.tops) all c.loop-number.invariant)
