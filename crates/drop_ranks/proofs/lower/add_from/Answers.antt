use Rattle.std.proofs.Common.{◌≡◌, ◌∙◌, ◌∷◌, [], ◌++◌, ◌+◌, ◌-◌, ℕ, suc, List, ap, sym, append_assoc, arith}
use Rattle.std.specs.List.{range_with_len}
use Rattle.drop_ranks.proofs.Ordered.{range-more}
use Rattle.drop_ranks.proofs.lower.add_from.Goals as goal

pub loop-rank-preserved : goal.loop-rank-preserved
loop-rank-preserved c =
    let first = c.args.first in
    let rank = c.loop-rank.rank in
    let start = c.loop-rank.auto.rank in
    let count : ℕ = rank - first in
    let next : suc count ≡ rank + 1 - first = omega (start, arith) in
    c.in_ok-push.ensures.pushed
    ∙ ap (λ (l : List ℕ). l ++ rank ∷ []) c.loop-rank.invariant
    ∙ append_assoc c.args.ranks.now (range_with_len first count) (rank ∷ [])
    ∙ ap (λ (l : List ℕ). c.args.ranks.now ++ l) (sym (range-more first count rank (omega (start, arith)))
    ∙ ap (range_with_len first) next)
