use Rattle.std.proofs.Common.{◌≡◌, ◌∙◌, ◌+◌, ℕ, nat_eq, List, Some, slice_get, rules, ap, subst, arith}
use Rattle.std.specs.List.Sorted.{IsPermutation}
use Rattle.std.proofs.lemmas.List.Sorted.{IsNonDecreasingBy-from_sort_by_key, IsPermutation-sym, Contains-permutation}
use Rattle.std.proofs.lemmas.Map.Keys.{IsDistinct-IsPermutation}
use Rattle.std.proofs.lemmas.Option.{slice_get-get_or, slice_get_within, get_or_from_slice_get}
use Rattle.drop_ranks.specs.Ranks.{numbered_from}
use Rattle.drop_ranks.proofs.Ordered.{numbered-at, numbered-right, numbered-once, eq-flips}
use Rattle.drop_ranks.proofs.order.in_order.Goals as goal

pub returns : goal.returns
returns c =
    let ranks = c.args.ranks.now in
    let order : List (ℕ × ℕ) = c.sort_unstable_by_key.new.self.items in
    let start : List (ℕ × ℕ) = numbered_from 0 ranks in
    let moved : IsPermutation start order =
    subst (λ (l : List (ℕ × ℕ)). IsPermutation l order) c.in_ok-order.ensures
    c.sort_unstable_by_key.ensures.permutation in record {
      rising = IsNonDecreasingBy-from_sort_by_key (λ (entry : ℕ × ℕ). entry.0) _ c.sort_unstable_by_key.ensures.sorted
          (λ a r q k. search rules);
      all = λ n rank at.
          let here : slice_get start n ≡ Some (rank, n) =
          numbered-at ranks 0 n rank at ∙ (let z : 0 + n ≡ n = omega arith in ap (λ (m : ℕ). Some (rank, m)) z) in
          Contains-permutation start order (rank, n) moved
          (n, slice_get_within start n (rank, n) here, get_or_from_slice_get start n (rank, n) (rank, n) here);
      right = λ entry has.
          let was = Contains-permutation order start entry (IsPermutation-sym start order moved) has in
          let at = numbered-right ranks 0 was.0 entry (slice_get-get_or start was.0 entry was.1 ∙ ap Some was.2) in
          let is : entry.1 ≡ was.0 = (let e = at.1 in omega (e, arith)) in ap (slice_get ranks) is ∙ at.0;
      once = IsDistinct-IsPermutation (λ (one other : ℕ × ℕ). nat_eq one.1 other.1) (λ x y. eq-flips x.1 y.1) start
          order moved (numbered-once ranks);
    }
