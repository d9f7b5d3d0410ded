-- Ranks with the numbers of their blocks.
use Rattle.std.proofs.Common.{◌≡◌, ◌⊎◌, inl, inr, ◌∙◌, ◌∷◌, [], ◌++◌, ◌+◌, ◌-◌, ◌<◌, ◌≤◌, ℕ, zero, suc, Bool, true, false, nat_eq, nat_lt, List, Option, Some, None, Contains, length, slice_get, slice_index, refl, sym, ap, subst, arith}
use Rattle.std.specs.Prelude.{slice_index_or, slice_set, get_or}
use Rattle.std.specs.List.{IsDistinct, range_with_len}
use Rattle.std.proofs.lemmas.Bool.{false≢true, ltb-true, lt-ltb, cases_eq, eqb-true, eq-eqb}
use Rattle.std.proofs.lemmas.List.{get_or-set_other, get_or-set_same, length-set}
use Rattle.std.proofs.lemmas.Map.Keys.{IsDistinct-from_apart, apart_from_distinct}
use Rattle.std.proofs.lemmas.Option.{none-some, same_Some, slice_get_within, slice_get-get_or, get_or_from_slice_get}
use Rattle.drop_ranks.specs.Ranks.{numbered_from, number_at, IsOrder, AreTops, AreTopsTo}

pub range-more : (a n j : ℕ) → a + n ≡ j → range_with_len a (suc n) ≡ range_with_len a n ++ j ∷ []
range-more a zero j e = (let z : a ≡ j = omega (e, arith) in ap (λ (n : ℕ). n ∷ []) z)
range-more a (suc n) j e = ap (λ (l : List ℕ). a ∷ l) (range-more (a + 1) n j (omega (e, arith)))

pub numbered-at : (ranks : List ℕ) (k n rank : ℕ) → slice_get ranks n ≡ Some rank →
    slice_get (numbered_from k ranks) n ≡ Some (rank, k + n)
numbered-at [] k n rank e = absurd (none-some rank e)
numbered-at (r ∷ ranks) k zero rank e =
    (let z : k ≡ k + 0 = omega arith in (λ i. Some (same_Some r rank e i, z i)))
numbered-at (r ∷ ranks) k (suc n) rank e =
    numbered-at ranks (suc k) n rank e ∙ (let z : suc k + n ≡ k + suc n = omega arith in ap (λ (m : ℕ). Some (
      rank,
      m,
    )) z)

pub numbered-right : (ranks : List ℕ) (k n : ℕ) (entry : ℕ × ℕ) → slice_get (numbered_from k ranks) n ≡ Some entry →
    (slice_get ranks n ≡ Some entry.0) × (entry.1 ≡ k + n)
numbered-right [] k n entry e = absurd (none-some entry e)
numbered-right (r ∷ ranks) k zero entry e =
    let same : (r, k) ≡ entry = same_Some (r, k) entry e in
    (ap (λ (z : ℕ × ℕ). Some z.0) same, sym (ap (λ (z : ℕ × ℕ). z.1) same) ∙ (let z : k ≡ k + 0 = omega arith in z))
numbered-right (r ∷ ranks) k (suc n) entry e =
    let rest = numbered-right ranks (suc k) n entry e in
    (rest.0, (let s = rest.1 in omega (s, arith)))

pub numbered-long : (ranks : List ℕ) (k : ℕ) → length (numbered_from k ranks) ≡ length ranks
numbered-long [] k = refl
numbered-long (r ∷ ranks) k = ap suc (numbered-long ranks (suc k))

not-same : (a b : ℕ) → (a ≡ b → ⊥) → nat_eq a b ≡ false
not-same a b differ = by (nat_eq a b) refl
  where
    by : (c : Bool) → nat_eq a b ≡ c → nat_eq a b ≡ false
    by false e = e
    by true e = absurd (differ (eqb-true a b e))

pub eq-flips : (a b : ℕ) → nat_eq a b ≡ nat_eq b a
eq-flips a b = by (nat_eq a b) refl (nat_eq b a) refl
  where
    by : (c : Bool) → nat_eq a b ≡ c → (d : Bool) → nat_eq b a ≡ d → c ≡ d
    by true e true f = refl
    by false e false f = refl
    by true e false f = absurd (false≢true (sym f ∙ eq-eqb b a (sym (eqb-true a b e))))
    by false e true f = absurd (false≢true (sym e ∙ eq-eqb a b (sym (eqb-true b a f))))

-- each number stands once
pub numbered-once : (ranks : List ℕ) → IsDistinct (λ (one other : ℕ × ℕ). nat_eq one.1 other.1) (numbered_from 0 ranks)
numbered-once ranks =
    IsDistinct-from_apart (λ (one other : ℕ × ℕ). nat_eq one.1 other.1) (numbered_from 0 ranks) (λ i j d less within.
    let first = numbered-right ranks 0 i (get_or (numbered_from 0 ranks) i d) (slice_get-get_or (numbered_from 0
    ranks) i d (omega (less, within, arith))) in
    let second = numbered-right ranks 0 j (get_or (numbered_from 0 ranks) j d) (slice_get-get_or (numbered_from 0
    ranks) j d within) in
    not-same (get_or (numbered_from 0 ranks) i d).1 (get_or (numbered_from 0 ranks) j d).1
    (λ same. let a = first.1 in let b = second.1 in omega (less, a, b, same, arith)))

less-or : (a b : ℕ) → (a < b) ⊎ (a < b → ⊥)
less-or a b = by (nat_lt a b) refl
  where
    by : (c : Bool) → nat_lt a b ≡ c → (a < b) ⊎ (a < b → ⊥)
    by true e = inl (ltb-true a b e)
    by false e = inr (λ less. false≢true (sym e ∙ lt-ltb a b less))

module _ (ranks sizes : List ℕ) (order : List (ℕ × ℕ)) (o : IsOrder ranks order) where
  entry-at : (i : ℕ) → i < length order → (d : ℕ × ℕ) → slice_get order i ≡ Some (get_or order i d)
  entry-at i within d = slice_get-get_or order i d within

  same-entry : (i : ℕ) → i < length order → (d e : ℕ × ℕ) → get_or order i d ≡ get_or order i e
  same-entry i within d e = same_Some (get_or order i d) (get_or order i e) (sym (entry-at i within d) ∙ entry-at i
      within e)

  -- each place in the order has the number of a block
  pub number-within : (i : ℕ) → i < length order → number_at order i < length ranks
  number-within i within =
      let entry = slice_index_or order i (0, 0) in
      slice_get_within ranks entry.1 entry.0 (o.right entry (i, within, same-entry i within entry (0, 0)))

  -- and each block a place
  place-of : (n : ℕ) → n < length ranks →
      (i : ℕ) × (i < length order) × (number_at order i ≡ n) × ((slice_index_or order i (0, 0)).0 ≡ slice_index ranks n)
  place-of n within =
      let has = o.all n (slice_index ranks n) (slice_get-get_or ranks n 0 within) in
      let is : slice_index_or order has.0 (0, 0) ≡ (slice_index ranks n, n) =
      same-entry has.0 has.1 (0, 0) (slice_index ranks n, n) ∙ has.2 in
      (has.0, has.1, ap (λ (z : ℕ × ℕ). z.1) is, ap (λ (z : ℕ × ℕ). z.0) is)

  module _ (count next : ℕ) (tops : List ℕ) (so_far : AreTopsTo ranks sizes order count next tops) (within : count <
      length order) where
    abbrev number : ℕ
    number = number_at order count

    abbrev top : ℕ
    top = next + slice_index sizes number

    abbrev after : List ℕ
    after = slice_set tops number top

    apart : (j : ℕ) → j < count → number_at order j ≡ number → ⊥
    apart j less same =
        let off = apart_from_distinct (λ (one other : ℕ × ℕ). nat_eq one.1 other.1) order j count (0, 0) o.once less
        within in
        false≢true (sym off ∙ ap (nat_eq (number_at order j)) (sym same) ∙ itself (number_at order j))
      where
        itself : (k : ℕ) → nat_eq k k ≡ true
        itself k = eq-eqb k k refl

    earlier : (j : ℕ) → j < count → slice_index after (number_at order j) ≡ slice_index tops (number_at order j)
    earlier j less = get_or-set_other tops number (number_at order j) top 0 (apart j less)

    here : slice_index after number ≡ top
    here = get_or-set_same tops number top 0 (let w = number-within count within in let l = so_far.long in omega (
      w,
      l,
      arith,
    ))

    one-more : (j : ℕ) → j < count + 1 → (P : ℕ → Type 0) → ((j : ℕ) → j < count → P j) → P count → P j
    one-more j less P before last = by (cases_eq j count)
      where
        by : (j ≡ count) ⊎ (j ≡ count → ⊥) → P j
        by (inl same) = subst P (sym same) last
        by (inr other) = before j (omega (less, other, arith))

    pub tops-more : AreTopsTo ranks sizes order (count + 1) (top + 1) after
    tops-more = record {
      long = length-set tops number top ∙ so_far.long;
      under = λ j less. one-more j less (λ j. slice_index after (number_at order j) < top + 1)
          (λ j before. let u = so_far.under j before in let e = earlier j before in omega (u, e, arith))
          (let e = here in omega (e, arith));
      room = λ j less. one-more j less (λ j. slice_index sizes (number_at order j) ≤ slice_index after (number_at
          order j))
          (λ j before. let u = so_far.room j before in let e = earlier j before in omega (u, e, arith))
          (let e = here in omega (e, arith));
      rising = λ j k less below. one-more k below
          (λ k. j < k → slice_index after (number_at order j) + slice_index sizes (number_at order k) < slice_index
          after (number_at order k))
          (λ k before less. let u = so_far.rising j k less before in let e = earlier j (omega (less, before, arith)) in
          let f = earlier k before in omega (u, e, f, arith))
          (λ less. let u = so_far.under j less in let e = earlier j less in let h = here in omega (u, e, h, arith))
          less;
    }

  pub all-tops : (next : ℕ) (tops : List ℕ) → AreTopsTo ranks sizes order (length order) next tops → AreTops ranks
      sizes tops
  all-tops next tops so_far = record {
    long = so_far.long;
    above = λ m n m_in n_in less. above m n (place-of m m_in) (place-of n n_in) less;
    room = λ n n_in. let p = place-of n n_in in
        subst (λ (z : ℕ). slice_index sizes z ≤ slice_index tops z) p.2 (so_far.room p.0 p.1);
  }
    where
      above : (m n : ℕ) →
          ((i : ℕ) × (i < length order) × (number_at order i ≡ m) × ((slice_index_or order i (0, 0)).0 ≡ slice_index
          ranks m)) →
          ((j : ℕ) × (j < length order) × (number_at order j ≡ n) × ((slice_index_or order j (0, 0)).0 ≡ slice_index
          ranks n)) →
          slice_index ranks m < slice_index ranks n → slice_index tops m + slice_index sizes n < slice_index tops n
      above m n p q less = by (less-or p.0 q.0)
        where
          by : (p.0 < q.0) ⊎ (p.0 < q.0 → ⊥) → slice_index tops m + slice_index sizes n < slice_index tops n
          by (inl before) =
              subst (λ (z : ℕ). slice_index tops z + slice_index sizes n < slice_index tops n) p.2
              (subst (λ (z : ℕ). slice_index tops (number_at order p.0) + slice_index sizes z < slice_index tops z) q.2
              (so_far.rising p.0 q.0 before q.1))
          by (inr behind) =
              let up = o.rising q.0 p.0 (0, 0) (omega (behind, arith)) p.1 in
              let e = p.3 in let f = q.3 in absurd (let never : ⊥ = omega (up, e, f, less, arith) in never)
