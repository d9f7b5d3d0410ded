-- Fields in the order of their numbers, where each number is given once and there are as many as types: each is of the
-- type that stands at its number.
use Rattle.std.proofs.Common.{◌≡◌, inl, inr, ℕ, suc, ◌+◌, ◌<◌, ◌≤◌, nat_lt, ◌==◌, not, ◌||◌, Bool, true, false, List, [], ◌∷◌, length, map, Some, slice_get, if◌then◌else◌, refl, sym, ap, subst, ◌∙◌, arith}
use Rattle.std.proofs.lemmas.Bool.{ltb-true, ltb-false, false≢true}
use Rattle.std.proofs.lemmas.Bool.Decides.{eqb_tells}
use Rattle.std.proofs.lemmas.Option.{same_Some, slice_get_within}
use Rattle.mir_ty.specs.declared.ty.TyId.{TyId}
use Rattle.src_meaning.specs.Evaluation.{insert_field, in_number_order}
use Rattle.well_typed.specs.Names.{are_distinct_numbers, is_number_among}
use Rattle.soundness_cells.proofs.PassCellTypes.{left_of, right_of, is_false}

module _ (A : Type 0) where
  abbrev Numbered : Type 0
  Numbered = List (ℕ × A)

  abbrev numbers : Numbered → List ℕ
  numbers fields = map (λ f. f.0) fields

  -- the numbers rise, from one on
  abbrev Rising : ℕ → Numbered → Type 0
  Rising b [] = Unit {0}
  Rising b (f ∷ fields) = (b ≤ f.0) × Rising (suc f.0) fields

  abbrev Without : ℕ → Numbered → Type 0
  Without n [] = Unit {0}
  Without n (f ∷ fields) = (n ≡ f.0 → ⊥) × Without n fields

  abbrev pub Distinct : Numbered → Type 0
  Distinct [] = Unit {0}
  Distinct (f ∷ fields) = Without f.0 fields × Distinct fields

  abbrev Below : ℕ → Numbered → Type 0
  Below n [] = Unit {0}
  Below n (f ∷ fields) = (f.0 < n) × Below n fields

  insert_without : (n m : ℕ) (a : A) (fields : Numbered) → (n ≡ m → ⊥) → Without n fields →
      Without n (insert_field m a fields)
  insert_without n m a [] apart h = (apart, tt)
  insert_without n m a (f ∷ fields) apart h = by (nat_lt m f.0) (insert_without n m a fields apart h.1)
    where
      by : (b : Bool) → Without n (insert_field m a fields) →
          Without n (if b then (m, a) ∷ f ∷ fields else f ∷ insert_field m a fields)
      by true k = (apart, h)
      by false k = (h.0, k)

  order_without : (n : ℕ) (fields : Numbered) → Without n fields → Without n (in_number_order fields)
  order_without n [] h = tt
  order_without n (f ∷ fields) h =
      insert_without n f.0 f.1 (in_number_order fields) h.0 (order_without n fields h.1)

  insert_rising : (n : ℕ) (a : A) (b : ℕ) (fields : Numbered) → b ≤ n → Without n fields → Rising b fields →
      Rising b (insert_field n a fields)
  insert_rising n a b [] low w r = (low, tt)
  insert_rising n a b (f ∷ fields) low w r =
      by (nat_lt n f.0) refl (λ less. insert_rising n a (suc f.0) fields less w.1 r.1)
    where
      by : (x : Bool) → nat_lt n f.0 ≡ x → (suc f.0 ≤ n → Rising (suc f.0) (insert_field n a fields)) →
          Rising b (if x then (n, a) ∷ f ∷ fields else f ∷ insert_field n a fields)
      by true e again = (low, ((let l = ltb-true n f.0 e in omega (l, arith)), r.1))
      by false e again = (r.0, again (past (ltb-false n f.0 e)))
        where
          past : f.0 ≤ n → suc f.0 ≤ n
          past l = elim (eqb_tells n f.0) [
            | inl same ↦ absurd (w.0 same.1)
            | inr other ↦ (let apart = other.1 in omega (l, apart, arith))
          ]

  order_rising : (fields : Numbered) → Distinct fields → Rising 0 (in_number_order fields)
  order_rising [] d = tt
  order_rising (f ∷ fields) d = insert_rising f.0 f.1 0 (in_number_order fields) (let z : 0 ≤ f.0 = omega arith in z)
      (order_without f.0 fields d.0) (order_rising fields d.1)

  insert_below : (n m : ℕ) (a : A) (fields : Numbered) → m < n → Below n fields → Below n (insert_field m a fields)
  insert_below n m a [] l h = (l, tt)
  insert_below n m a (f ∷ fields) l h = by (nat_lt m f.0) (insert_below n m a fields l h.1)
    where
      by : (b : Bool) → Below n (insert_field m a fields) →
          Below n (if b then (m, a) ∷ f ∷ fields else f ∷ insert_field m a fields)
      by true k = (l, h)
      by false k = (h.0, k)

  order_below : (n : ℕ) (fields : Numbered) → Below n fields → Below n (in_number_order fields)
  order_below n [] h = tt
  order_below n (f ∷ fields) h = insert_below n f.0 f.1 (in_number_order fields) h.0 (order_below n fields h.1)

  insert_length : (m : ℕ) (a : A) (fields : Numbered) → length (insert_field m a fields) ≡ suc (length fields)
  insert_length m a [] = refl
  insert_length m a (f ∷ fields) = by (nat_lt m f.0) (insert_length m a fields)
    where
      by : (b : Bool) → length (insert_field m a fields) ≡ suc (length fields) →
          length (if b then (m, a) ∷ f ∷ fields else f ∷ insert_field m a fields) ≡ suc (suc (length fields))
      by true k = refl
      by false k = ap suc k

  order_length : (fields : Numbered) → length (in_number_order fields) ≡ length fields
  order_length [] = refl
  order_length (f ∷ fields) = insert_length f.0 f.1 (in_number_order fields) ∙ ap suc (order_length fields)

  -- there is room for them
  room : (b n : ℕ) (fields : Numbered) → Rising b fields → Below n fields → b ≤ n → b + length fields ≤ n
  room b n [] r h l = omega (l, arith)
  room b n (f ∷ fields) r h l =
      let k = room (suc f.0) n fields r.1 h.1 (let z = h.0 in omega (z, arith)) in
      let z = r.0 in omega (k, z, arith)

  pub distinct_numbers : (fields : Numbered) → are_distinct_numbers (numbers fields) ≡ true → Distinct fields
  distinct_numbers [] h = tt
  distinct_numbers (f ∷ fields) h = (
    apart fields (is_false (is_number_among f.0 (numbers fields))
        (left_of (not (is_number_among f.0 (numbers fields))) _ h)),
    distinct_numbers fields (right_of (not (is_number_among f.0 (numbers fields))) _ h),
  )
    where
      apart : (others : Numbered) → is_number_among f.0 (numbers others) ≡ false → Without f.0 others
      apart [] h = tt
      apart (d ∷ others) h = by (f.0 == d.0) refl h (apart others)
        where
          by : (x : Bool) → (f.0 == d.0) ≡ x → (x || is_number_among f.0 (numbers others)) ≡ false →
              (is_number_among f.0 (numbers others) ≡ false → Without f.0 others) → Without f.0 (d ∷ others)
          by true e h again = absurd (false≢true (sym h))
          by false e h again = (
            λ same. elim (eqb_tells f.0 d.0) [
              | inl is ↦ absurd (false≢true (sym e ∙ is.0))
              | inr other ↦ other.1 same
            ],
            again h,
          )

  module _ (P : TyId → A → Type 0) where
    -- each is of the type at its number
    abbrev AtNumber : List TyId → ℕ → A → Type 0
    AtNumber tys n a = (want : TyId) × ((slice_get tys n ≡ Some want) × P want a)

    abbrev pub OfFields : List TyId → Numbered → Type 0
    OfFields tys [] = Unit {0}
    OfFields tys (f ∷ fields) = AtNumber tys f.0 f.1 × OfFields tys fields

    insert_of : (tys : List TyId) (m : ℕ) (a : A) (fields : Numbered) → AtNumber tys m a → OfFields tys fields →
        OfFields tys (insert_field m a fields)
    insert_of tys m a [] one h = (one, tt)
    insert_of tys m a (f ∷ fields) one h = by (nat_lt m f.0) (insert_of tys m a fields one h.1)
      where
        by : (b : Bool) → OfFields tys (insert_field m a fields) →
            OfFields tys (if b then (m, a) ∷ f ∷ fields else f ∷ insert_field m a fields)
        by true k = (one, h)
        by false k = (h.0, k)

    order_of : (tys : List TyId) (fields : Numbered) → OfFields tys fields → OfFields tys (in_number_order fields)
    order_of tys [] h = tt
    order_of tys (f ∷ fields) h = insert_of tys f.0 f.1 (in_number_order fields) h.0 (order_of tys fields h.1)

    below_of : (tys : List TyId) (fields : Numbered) → OfFields tys fields → Below (length tys) fields
    below_of tys [] h = tt
    below_of tys (f ∷ fields) h = (slice_get_within tys f.0 h.0.0 h.0.1.0, below_of tys fields h.1)

    -- one after the other
    abbrev pub InOrder : List TyId → Numbered → Type 0
    InOrder [] [] = Unit {0}
    InOrder [] (f ∷ fields) = ⊥
    InOrder (id ∷ ids) [] = ⊥
    InOrder (id ∷ ids) (f ∷ fields) = P id f.1 × InOrder ids fields

    -- from one number on there is no gap
    all_there : (b : ℕ) (fields : Numbered) (tys ids : List TyId) → Rising b fields →
        Below (b + length fields) fields → OfFields tys fields → length fields ≡ length ids →
        ((i : ℕ) → slice_get ids i ≡ slice_get tys (b + i)) → InOrder ids fields
    all_there b [] tys [] r l o e same = tt
    all_there b [] tys (id ∷ ids) r l o e same =
        absurd (let never : 0 ≡ suc (length ids) = e in let z : ⊥ = omega (never, arith) in z)
    all_there b (f ∷ fields) tys [] r l o e same =
        absurd (let never : suc (length fields) ≡ 0 = e in let z : ⊥ = omega (never, arith) in z)
    all_there b (f ∷ fields) tys (id ∷ ids) r l o e same =
        let k = room (suc f.0) (b + suc (length fields)) fields r.1 l.1 (let z = l.0 in omega (z, arith)) in
        let low = r.0 in
        let first : f.0 ≡ b + 0 = omega (k, low, arith) in
        let want : o.0.0 ≡ id = same_Some o.0.0 id (sym o.0.1.0 ∙ ap (slice_get tys) first ∙ sym (same 0)) in
        let next : suc f.0 ≡ suc b = omega (first, arith) in
        let whole : b + suc (length fields) ≡ suc b + length fields = omega arith in
        let long : suc (length fields) ≡ suc (length ids) = e in
        let short : length fields ≡ length ids = omega (long, arith) in (
          subst (λ z. P z f.1) want o.0.1.1,
          all_there (suc b) fields tys ids (subst (λ z. Rising z fields) next r.1)
              (subst (λ z. Below z fields) whole l.1) o.1 short
              (λ i. same (suc i) ∙ ap (slice_get tys) (let z : b + suc i ≡ suc b + i = omega arith in z)),
        )

    pub in_order : (fields : Numbered) (tys : List TyId) → Distinct fields → length fields ≡ length tys →
        OfFields tys fields → InOrder tys (in_number_order fields)
    in_order fields tys d e o =
        let long : length (in_number_order fields) ≡ length tys = order_length fields ∙ e in
        let top : length tys ≡ 0 + length (in_number_order fields) = (let l = long in omega (l, arith)) in
        all_there 0 (in_number_order fields) tys tys (order_rising fields d)
        (subst (λ z. Below z (in_number_order fields)) top
        (order_below (length tys) fields (below_of tys fields o)))
        (order_of tys fields o) long (λ i. ap (slice_get tys) (let z : i ≡ 0 + i = omega arith in z))
