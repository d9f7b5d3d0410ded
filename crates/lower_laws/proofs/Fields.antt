-- The fields of a struct expression, as they are taken: in the order of their numbers, which are all those of the
-- variant's fields.
use Rattle.std.proofs.Common.{◌≡◌, inl, inr, ℕ, suc, ◌+◌, ◌<◌, ◌≤◌, nat_lt, ◌==◌, not, ◌||◌, Bool, true, false, List, [], ◌∷◌, length, map, Some, slice_get, if◌then◌else◌, refl, sym, ap, subst, ◌∙◌, arith}
use Rattle.std.proofs.lemmas.Bool.{ltb-true, ltb-false}
use Rattle.std.proofs.lemmas.Bool.Decides.{eqb_tells}
use Rattle.std.proofs.lemmas.Option.{same_Some, slice_get_within}
use Rattle.mir_ty.specs.declared.ty.TyId.{TyId}
use Rattle.src_meaning.specs.Evaluation.{insert_field, in_number_order}
use Rattle.src_meaning.specs.FieldKeys.{moved_fields}
use Rattle.well_typed.specs.Names.{are_distinct_numbers, is_number_among}
use Rattle.lower_rules.specs.Build as build
use Rattle.lower_rules.proofs.TypedLines as typed_lines
use Rattle.lower_laws.proofs.Base as base
use Rattle.lower_laws.proofs.Base.{Ground, untrue, and_first, and_second}

-- fields, by their numbers and the keys of their values
abbrev Fields : Type 0
Fields = List (ℕ × ℕ)

-- the numbers rise, from one on
abbrev Rising : ℕ → Fields → Type 0
Rising b [] = Unit {0}
Rising b (f ∷ fields) = (b ≤ f.0) × Rising (suc f.0) fields

abbrev Without : ℕ → Fields → Type 0
Without n [] = Unit {0}
Without n (f ∷ fields) = (n ≡ f.0 → ⊥) × Without n fields

abbrev Distinct : Fields → Type 0
Distinct [] = Unit {0}
Distinct (f ∷ fields) = Without f.0 fields × Distinct fields

abbrev Below : ℕ → Fields → Type 0
Below n [] = Unit {0}
Below n (f ∷ fields) = (f.0 < n) × Below n fields

insert_without : (n m a : ℕ) (fields : Fields) → (n ≡ m → ⊥) → Without n fields → Without n (insert_field m a fields)
insert_without n m a [] apart h = (apart, tt)
insert_without n m a (f ∷ fields) apart h = by (nat_lt m f.0) (insert_without n m a fields apart h.1)
  where
    by : (b : Bool) → Without n (insert_field m a fields) → Without n (if b then (m, a) ∷ f ∷ fields else f ∷ insert_field m a fields)
    by true k = (apart, h)
    by false k = (h.0, k)

order_without : (n : ℕ) (fields : Fields) → Without n fields → Without n (in_number_order fields)
order_without n [] h = tt
order_without n (f ∷ fields) h = insert_without n f.0 f.1 (in_number_order fields) h.0 (order_without n fields h.1)

insert_rising : (n a b : ℕ) (fields : Fields) → b ≤ n → Without n fields → Rising b fields → Rising b (insert_field n a fields)
insert_rising n a b [] low w r = (low, tt)
insert_rising n a b (f ∷ fields) low w r = by (nat_lt n f.0) refl (λ less. insert_rising n a (suc f.0) fields less w.1 r.1)
  where
    by : (x : Bool) → nat_lt n f.0 ≡ x → (suc f.0 ≤ n → Rising (suc f.0) (insert_field n a fields)) → Rising b (if x then (n, a) ∷ f ∷ fields else f ∷ insert_field n a fields)
    by true e again = (low, ((let l = ltb-true n f.0 e in omega (l, arith)), r.1))
    by false e again = (r.0, again (past (ltb-false n f.0 e)))
      where
        past : f.0 ≤ n → suc f.0 ≤ n
        past l = elim (eqb_tells n f.0) [ inl same ↦ absurd (w.0 same.1) | inr other ↦ (let apart = other.1 in omega (l, apart, arith)) ]

rising_from : (b : ℕ) (fields : Fields) → Rising b fields → Rising 0 fields
rising_from b [] r = tt
rising_from b (f ∷ fields) r = ((let z : 0 ≤ f.0 = omega arith in z), r.1)

order_rising : (fields : Fields) → Distinct fields → Rising 0 (in_number_order fields)
order_rising [] d = tt
order_rising (f ∷ fields) d = insert_rising f.0 f.1 0 (in_number_order fields) (let z : 0 ≤ f.0 = omega arith in z) (order_without f.0 fields d.0) (order_rising fields d.1)

insert_below : (n m a : ℕ) (fields : Fields) → m < n → Below n fields → Below n (insert_field m a fields)
insert_below n m a [] l h = (l, tt)
insert_below n m a (f ∷ fields) l h = by (nat_lt m f.0) (insert_below n m a fields l h.1)
  where
    by : (b : Bool) → Below n (insert_field m a fields) → Below n (if b then (m, a) ∷ f ∷ fields else f ∷ insert_field m a fields)
    by true k = (l, h)
    by false k = (h.0, k)

order_below : (n : ℕ) (fields : Fields) → Below n fields → Below n (in_number_order fields)
order_below n [] h = tt
order_below n (f ∷ fields) h = insert_below n f.0 f.1 (in_number_order fields) h.0 (order_below n fields h.1)

insert_length : (m a : ℕ) (fields : Fields) → length (insert_field m a fields) ≡ suc (length fields)
insert_length m a [] = refl
insert_length m a (f ∷ fields) = by (nat_lt m f.0) (insert_length m a fields)
  where
    by : (b : Bool) → length (insert_field m a fields) ≡ suc (length fields) → length (if b then (m, a) ∷ f ∷ fields else f ∷ insert_field m a fields) ≡ suc (suc (length fields))
    by true k = refl
    by false k = ap suc k

order_length : (fields : Fields) → length (in_number_order fields) ≡ length fields
order_length [] = refl
order_length (f ∷ fields) = insert_length f.0 f.1 (in_number_order fields) ∙ ap suc (order_length fields)

-- there is room for them
room : (b n : ℕ) (fields : Fields) → Rising b fields → Below n fields → b ≤ n → b + length fields ≤ n
room b n [] r h l = omega (l, arith)
room b n (f ∷ fields) r h l = let k = room (suc f.0) n fields r.1 h.1 (let z = h.0 in omega (z, arith)) in let z = r.0 in omega (k, z, arith)

pub distinct_numbers : (fields : Fields) → are_distinct_numbers (map (λ f. f.0) fields) ≡ true → Distinct fields
distinct_numbers [] h = tt
distinct_numbers (f ∷ fields) h = (apart fields (base.not_true _ (and_first (not (is_number_among f.0 (map (λ f. f.0) fields))) _ h)), distinct_numbers fields (and_second (not (is_number_among f.0 (map (λ f. f.0) fields))) _ h))
  where
    apart : (others : Fields) → is_number_among f.0 (map (λ f. f.0) others) ≡ false → Without f.0 others
    apart [] h = tt
    apart (d ∷ others) h = by (f.0 == d.0) refl h (apart others)
      where
        by : (x : Bool) → (f.0 == d.0) ≡ x → x || is_number_among f.0 (map (λ f. f.0) others) ≡ false → (is_number_among f.0 (map (λ f. f.0) others) ≡ false → Without f.0 others) → Without f.0 (d ∷ others)
        by true e h again = absurd (untrue (sym h))
        by false e h again = ((λ same. elim (eqb_tells f.0 d.0) [ inl is ↦ absurd (untrue (sym e ∙ is.0)) | inr other ↦ other.1 same ]), again h)

module _ (g : Ground) where
  -- each with the cell of its value, of the type of the variant's field
  abbrev pub OfFields : List TyId → Fields → Type 0
  OfFields tys [] = Unit {0}
  OfFields tys (f ∷ fields) = ((want : TyId) × (slice_get tys f.0 ≡ Some want) × base.KeyIs g f.1 want) × OfFields tys fields

  insert_of : (tys : List TyId) (m a : ℕ) (fields : Fields) → ((want : TyId) × (slice_get tys m ≡ Some want) × base.KeyIs g a want) → OfFields tys fields → OfFields tys (insert_field m a fields)
  insert_of tys m a [] one h = (one, tt)
  insert_of tys m a (f ∷ fields) one h = by (nat_lt m f.0) (insert_of tys m a fields one h.1)
    where
      by : (b : Bool) → OfFields tys (insert_field m a fields) → OfFields tys (if b then (m, a) ∷ f ∷ fields else f ∷ insert_field m a fields)
      by true k = (one, h)
      by false k = (h.0, k)

  order_of : (tys : List TyId) (fields : Fields) → OfFields tys fields → OfFields tys (in_number_order fields)
  order_of tys [] h = tt
  order_of tys (f ∷ fields) h = insert_of tys f.0 f.1 (in_number_order fields) h.0 (order_of tys fields h.1)

  below_of : (tys : List TyId) (fields : Fields) → OfFields tys fields → Below (length tys) fields
  below_of tys [] h = tt
  below_of tys (f ∷ fields) h = (slice_get_within tys f.0 h.0.0 h.0.1, below_of tys fields h.1)

  abbrev Moved : ℕ → Fields → List TyId → Type 0
  Moved n fields tys = typed_lines.AllMoved g.items g.bodies (base.B g) (build.operands_of (base.F g) (moved_fields n fields)) tys

  -- from one number on there is no gap
  all_taken : (n b : ℕ) (fields : Fields) (tys ids : List TyId) → Rising b fields → Below (b + length fields) fields → OfFields tys fields → length fields ≡ length ids → ((i : ℕ) → slice_get ids i ≡ slice_get tys (b + i)) → Moved n fields ids
  all_taken n b [] tys [] r l o e same = tt
  all_taken n b [] tys (id ∷ ids) r l o e same = absurd (let never : 0 ≡ suc (length ids) = e in let z : ⊥ = omega (never, arith) in z)
  all_taken n b (f ∷ fields) tys [] r l o e same = absurd (let never : suc (length fields) ≡ 0 = e in let z : ⊥ = omega (never, arith) in z)
  all_taken n b (f ∷ fields) tys (id ∷ ids) r l o e same =
      let first : f.0 ≡ b + 0 =
      (let k = room (suc f.0) (b + suc (length fields)) fields r.1 l.1 (let z = l.0 in omega (z, arith)) in let z = r.0 in omega (k, z, arith)) in
      let want : o.0.0 ≡ id = same_Some o.0.0 id (sym o.0.1 ∙ ap (slice_get tys) first ∙ sym (same 0)) in
      let key : base.KeyIs g f.1 id = subst (λ (z : TyId). base.KeyIs g f.1 z) want o.0.2 in
      let t = g.known (g.local_of f.1) id key in
      let next : suc f.0 ≡ suc b = (let z = first in omega (z, arith)) in
      let whole : b + suc (length fields) ≡ suc b + length fields = omega arith in
      let short : length fields ≡ length ids = (let z : suc (length fields) ≡ suc (length ids) = e in omega (z, arith)) in (
        (t.0, base.key_at g f.1 id t.0 key t.1, t.2),
        all_taken n (suc b) fields tys ids (subst (λ (z : ℕ). Rising z fields) next r.1) (subst (λ (z : ℕ). Below z fields) whole l.1) o.1 short
            (λ i. same (suc i) ∙ ap (slice_get tys) (let z : b + suc i ≡ suc b + i = omega arith in z)),
      )

  -- the fields of a variant, each given once
  pub fields_taken : (n : ℕ) (fields : Fields) (tys : List TyId) → Distinct fields → length fields ≡ length tys → OfFields tys fields → Moved n (in_number_order fields) tys
  fields_taken n fields tys d e o =
      let long : length (in_number_order fields) ≡ length tys = order_length fields ∙ e in
      all_taken n 0 (in_number_order fields) tys tys (order_rising fields d)
      (subst (λ (z : ℕ). Below z (in_number_order fields)) (let z : length tys ≡ 0 + length (in_number_order fields) = (let l = long in omega (l, arith)) in z) (order_below (length tys) fields (below_of tys fields o)))
      (order_of tys fields o) long (λ i. ap (slice_get tys) (let z : i ≡ 0 + i = omega arith in z))
