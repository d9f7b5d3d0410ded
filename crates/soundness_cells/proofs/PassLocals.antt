-- What stands in the local of a key: the local is that of the first entry with the key; where entries with one key have
-- one type, each entry stands in the local of its key.
use Rattle.std.proofs.Common.{◌≡◌, ◌⊎◌, inl, inr, ℕ, zero, suc, ◌+◌, ◌<◌, ◌≤◌, ◌==◌, not, Bool, true, false, List, [], ◌∷◌, map, length, Some, None, nat_lt, if◌then◌else◌, refl, ap, sym, ◌∙◌, subst, arith}
use Rattle.std.specs.Prelude.{get_or, slice_get, option_map}
use Rattle.std.specs.List.{prefix_len}
use Rattle.std.specs.Option.{option_map_or}
use Rattle.std.proofs.lemmas.Bool.{false≢true, ltb-true, ltb-false}
use Rattle.std.proofs.lemmas.Bool.Decides.{Decides-eqb}
use Rattle.std.proofs.lemmas.List.{length-map, get_or-map}
use Rattle.std.proofs.lemmas.List.Sums.{prefix_len_stops}
use Rattle.std.proofs.lemmas.Option.{none-some, slice_get-get_or, slice_get-map, slice_get_past}
use Rattle.mir_ty.specs.declared.ty.TyId.{TyId}
use Rattle.src_meaning.specs.Locals.OfBody.{local_among}
use Rattle.src_meaning.specs.Scopes.{Entry}
use Rattle.soundness_values.proofs.Leaving.{AllOf}

-- an entry is among some
abbrev pub EntryIn : List Entry → Entry → Type 0
EntryIn [] e = ⊥
EntryIn (x ∷ es) e = (x ≡ e) ⊎ EntryIn es e

pub entry_of_all : (holds : Entry → Type 0) (es : List Entry) (e : Entry) → AllOf holds es → EntryIn es e → holds e
entry_of_all holds [] e h i = absurd i
entry_of_all holds (x ∷ es) e h (inl same) = subst holds same h.0
entry_of_all holds (x ∷ es) e h (inr i) = entry_of_all holds es e h.1 i

entry_at : (es : List Entry) (k : ℕ) (e : Entry) → slice_get es k ≡ Some e → EntryIn es e
entry_at [] k e h = absurd (none-some e h)
entry_at (x ∷ es) zero e h = let same : x ≡ e = cc in inl same
entry_at (x ∷ es) (suc k) e h = inr (entry_at es k e h)

abbrev pub keys : List Entry → List ℕ
keys es = map (λ (e : Entry). e.key) es

abbrev pub tys : List Entry → List TyId
tys es = map (λ (e : Entry). e.ty) es

abbrev pub stop : List ℕ → ℕ → ℕ
stop ks key = prefix_len (λ k. not (k == key)) ks

abbrev no_entry : Entry
no_entry = record { key = 0; ty = record { 0 = 0 } }

stands : (ks : List ℕ) (key : ℕ) → stop ks key < length ks → get_or ks (stop ks key) 0 ≡ key
stands ks key l = (Decides-eqb (get_or ks (stop ks key) 0) key).0
    (is_so (get_or ks (stop ks key) 0 == key) (prefix_len_stops (λ k. not (k == key)) ks 0 l))
  where
    is_so : (b : Bool) → not b ≡ false → b ≡ true
    is_so true e = refl
    is_so false e = absurd (false≢true (sym e))

pub within_so : (ks : List ℕ) (key : ℕ) → nat_lt (stop ks key) (length ks) ≡ true → local_among ks key ≡ stop ks key
within_so ks key e = ap (λ b. option_map_or (λ n. n) (if b then Some (stop ks key) else None) (length ks + key)) e

past_so : (ks : List ℕ) (key : ℕ) → nat_lt (stop ks key) (length ks) ≡ false → local_among ks key ≡ length ks + key
past_so ks key e = ap (λ b. option_map_or (λ n. n) (if b then Some (stop ks key) else None) (length ks + key)) e

-- an entry with a key, by which its local has its type
abbrev pub Standing : List Entry → ℕ → Type 0
Standing es key = (e : Entry) × (EntryIn es e
    × ((e.key ≡ key) × (slice_get (tys es) (local_among (keys es) key) ≡ Some e.ty)))

-- the local of a key is that of an entry with this key, or there is none
abbrev Missing : List Entry → ℕ → Type 0
Missing es key = (slice_get (tys es) (local_among (keys es) key) ≡ None) × (length (keys es) ≤ stop (keys es) key)

found_or_missing : (es : List Entry) (key : ℕ) → Standing es key ⊎ Missing es key
found_or_missing es key = by (nat_lt (stop (keys es) key) (length (keys es))) refl
  where
    k : ℕ
    k = stop (keys es) key

    by : (b : Bool) → nat_lt (stop (keys es) key) (length (keys es)) ≡ b → Standing es key ⊎ Missing es key
    by true h =
        let less : k < length (keys es) = ltb-true k (length (keys es)) h in
        let long : length (keys es) ≡ length es = length-map es (λ (e : Entry). e.key) in
        let within : k < length es = subst (λ n. k < n) long less in
        inl (
          get_or es k no_entry,
          (
            entry_at es k (get_or es k no_entry) (slice_get-get_or es k no_entry within),
            (
              sym (get_or-map (λ (e : Entry). e.key) es k no_entry 0 within) ∙ stands (keys es) key less,
              ap (slice_get (tys es)) (within_so (keys es) key h) ∙ slice_get-map (λ (e : Entry). e.ty) es k
                  ∙ ap (option_map (λ (e : Entry). e.ty)) (slice_get-get_or es k no_entry within),
            ),
          ),
        )
    by false h =
        let one : length (keys es) ≡ length es = length-map es (λ (e : Entry). e.key) in
        let other : length (tys es) ≡ length es = length-map es (λ (e : Entry). e.ty) in
        let past : length (tys es) ≤ length (keys es) + key = omega (one, other, arith) in
        inr (
          ap (slice_get (tys es)) (past_so (keys es) key h)
              ∙ slice_get_past (tys es) (length (keys es) + key) past,
          ltb-false k (length (keys es)) h,
        )

-- two keys with one local are one
pub one_key : (ks : List ℕ) (a b : ℕ) → local_among ks a ≡ local_among ks b → a ≡ b
one_key ks a b e = by (nat_lt (stop ks a) (length ks)) (nat_lt (stop ks b) (length ks)) refl refl
  where
    by : (c d : Bool) → nat_lt (stop ks a) (length ks) ≡ c → nat_lt (stop ks b) (length ks) ≡ d → a ≡ b
    by true true f g =
        sym (stands ks a (ltb-true (stop ks a) (length ks) f))
        ∙ ap (λ n. get_or ks n 0) (sym (within_so ks a f) ∙ e ∙ within_so ks b g)
        ∙ stands ks b (ltb-true (stop ks b) (length ks) g)
    by true false f g =
        let less : stop ks a < length ks = ltb-true (stop ks a) (length ks) f in
        let same : stop ks a ≡ length ks + b = sym (within_so ks a f) ∙ e ∙ past_so ks b g in
        absurd (let never : ⊥ = omega (less, same, arith) in never)
    by false true f g =
        let less : stop ks b < length ks = ltb-true (stop ks b) (length ks) g in
        let same : length ks + a ≡ stop ks b = sym (past_so ks a f) ∙ e ∙ within_so ks b g in
        absurd (let never : ⊥ = omega (less, same, arith) in never)
    by false false f g =
        let same : length ks + a ≡ length ks + b = sym (past_so ks a f) ∙ e ∙ past_so ks b g in omega (same, arith)

-- the local of a key is the place of an entry with this key, or none is there
pub at_local : (es : List Entry) (key : ℕ) →
    ((e : Entry) × ((slice_get es (local_among (keys es) key) ≡ Some e) × (e.key ≡ key)))
    ⊎ (length es ≤ local_among (keys es) key)
at_local es key = by (nat_lt (stop (keys es) key) (length (keys es))) refl
  where
    k : ℕ
    k = stop (keys es) key

    long : length (keys es) ≡ length es
    long = length-map es (λ (e : Entry). e.key)

    by : (b : Bool) → nat_lt (stop (keys es) key) (length (keys es)) ≡ b →
        ((e : Entry) × ((slice_get es (local_among (keys es) key) ≡ Some e) × (e.key ≡ key)))
        ⊎ (length es ≤ local_among (keys es) key)
    by true h =
        let less : k < length (keys es) = ltb-true k (length (keys es)) h in
        let within : k < length es = subst (λ n. k < n) long less in
        inl (
          get_or es k no_entry,
          (
            ap (slice_get es) (within_so (keys es) key h) ∙ slice_get-get_or es k no_entry within,
            sym (get_or-map (λ (e : Entry). e.key) es k no_entry 0 within) ∙ stands (keys es) key less,
          ),
        )
    by false h =
        let one : length (keys es) ≡ length es = long in
        let other : local_among (keys es) key ≡ length (keys es) + key = past_so (keys es) key h in
        let past : length es ≤ local_among (keys es) key = omega (one, other, arith) in inr past

pub found_or_none : (es : List Entry) (key : ℕ) →
    Standing es key ⊎ (slice_get (tys es) (local_among (keys es) key) ≡ None)
found_or_none es key = by (found_or_missing es key)
  where
    by : Standing es key ⊎ Missing es key →
        Standing es key ⊎ (slice_get (tys es) (local_among (keys es) key) ≡ None)
    by (inl s) = inl s
    by (inr m) = inr m.0

comes : (es : List Entry) (e : Entry) → EntryIn es e → stop (keys es) e.key < length (keys es)
comes [] e i = absurd i
comes (x ∷ es) e i = by (x.key == e.key) refl i (λ j. comes es e j)
  where
    by : (b : Bool) → (x.key == e.key) ≡ b → (x ≡ e) ⊎ EntryIn es e →
        (EntryIn es e → stop (keys es) e.key < length (keys es)) →
        (if not b then 1 + stop (keys es) e.key else 0) < length (keys (x ∷ es))
    by true h j later = let positive : 0 < length (keys (x ∷ es)) = omega arith in positive
    by false h (inl same) later =
        absurd (false≢true (sym h ∙ (Decides-eqb x.key e.key).1 (ap (λ (y : Entry). y.key) same)))
    by false h (inr y) later =
        let less : stop (keys es) e.key < length (keys es) = later y in
        let more : 1 + stop (keys es) e.key < length (keys (x ∷ es)) = omega (less, arith) in more

-- where entries with one key have one type, each stands in the local of its key
pub has_local : (es : List Entry) →
    ((a b : Entry) → EntryIn es a → EntryIn es b → a.key ≡ b.key → a.ty ≡ b.ty) → (e : Entry) → EntryIn es e →
    slice_get (tys es) (local_among (keys es) e.key) ≡ Some e.ty
has_local es one e i = by (found_or_missing es e.key)
  where
    by : Standing es e.key ⊎ Missing es e.key → slice_get (tys es) (local_among (keys es) e.key) ≡ Some e.ty
    by (inl f) = f.1.1.1 ∙ ap Some (one f.0 e f.1.0 i f.1.1.0)
    by (inr m) =
        let less : stop (keys es) e.key < length (keys es) = comes es e i in
        let past : length (keys es) ≤ stop (keys es) e.key = m.1 in
        absurd (let never : ⊥ = omega (less, past, arith) in never)
