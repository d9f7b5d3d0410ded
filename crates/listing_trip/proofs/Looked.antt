-- What was looked at one by one: with one more, and all of it.
use Rattle.std.proofs.Common.{◌≡◌, ℕ, ◌+◌, ◌<◌, ◌≤◌, List, [], ◌∷◌, ◌++◌, All, get_or, length, take, ap, subst, sym, ◌∙◌}
use Rattle.std.proofs.lemmas.List.{take_all, take_more}
use Rattle.std.proofs.lemmas.List.Elements.{All-push}

module _ {X : Type 0} (P : X → Type 0) (xs : List X) (n : ℕ) where
  pub one_more : (x : X) → n < length xs → x ≡ get_or xs n x → All P (take n xs) → P x → All P (take (n + 1) xs)
  one_more x within read before here =
      subst (All P) (sym (take_more xs n x within ∙ ap (λ (y : X). take n xs ++ y ∷ []) (sym read)))
      (All-push P (take n xs) x before here)

  pub all_seen : length xs ≤ n → All P (take n xs) → All P xs
  all_seen over seen = subst (All P) (take_all n xs over) seen

-- of a slice that is the list
module _ {X : Type 0} (P : X → Type 0) (items xs : List X) (same : items ≡ xs) (n : ℕ) where
  pub one_more_item : (x : X) → n < length items → x ≡ get_or items n x → All P (take n xs) → P x → All P
      (take (n + 1) xs)
  one_more_item x within read before here =
      one_more P xs n x (subst (λ (ys : List X). n < length ys) same within)
      (subst (λ (ys : List X). x ≡ get_or ys n x) same read) before here

  pub all_items_seen : length items ≤ n → All P (take n xs) → All P xs
  all_items_seen over seen = all_seen P xs n (subst (λ (ys : List X). length ys ≤ n) same over) seen
