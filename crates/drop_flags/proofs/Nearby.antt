-- Spans of locals as paths are added one after another, and what they leave out.
use Rattle.std.proofs.Common.{◌≡◌, ◌⊎◌, inl, inr, ◌∙◌, ◌∷◌, [], ◌++◌, ◌+◌, ◌-◌, ◌<◌, ◌≤◌, ℕ, zero, suc, Bool, true, false, List, Some, drop, length, take, slice_get, if◌then◌else◌, refl, sym, ap, subst, append_assoc, arith}
use Rattle.std.specs.Prelude.{nat_lt}
use Rattle.std.proofs.lemmas.Bool.{false≢true, lt-ltb, ltb-true}
use Rattle.std.proofs.lemmas.List.{length-take-le, take-append-drop}
use Rattle.std.proofs.lemmas.Option.{none-some, same_Some, slice_get_within}
use Rattle.cfg_graph.specs.declared.place.Place.{Place}
use Rattle.drop_flags.specs.Spans.{AreSpans, IsNear, IsWider, span_of, wider}
use Rattle.drop_flags.specs.declared.paths.Span.{Span}

cases_eq : (m n : ℕ) → (m ≡ n) ⊎ (m ≡ n → ⊥)
cases_eq zero zero = inl refl
cases_eq zero (suc n) = inr (λ e. omega (e, arith))
cases_eq (suc m) zero = inr (λ e. omega (e, arith))
cases_eq (suc m) (suc n) = elim (cases_eq m n) [
  | inl e ↦ inl (ap suc e)
  | inr e ↦ inr (λ s. e (omega (s, arith)))
]

-- the first paths, so many, stand within the spans of their locals
pub record SpansTo (paths : List Place) (count : ℕ) (spans : List Span) : Type 0 where
  pub in_order : (local : ℕ) → (span_of spans local).from ≤ (span_of spans local).end
  pub bounded : (local : ℕ) → (span_of spans local).end ≤ count
  pub each : (n : ℕ) (path : Place) → n < count → slice_get paths n ≡ Some path →
      ((span_of spans path.local).from ≤ n) × (n < (span_of spans path.local).end)

pub none-yet : (paths : List Place) → SpansTo paths 0 []
none-yet paths = record {
  in_order = λ local. omega arith;
  bounded = λ local. omega arith;
  each = λ n path less at. absurd (omega (less, arith));
}

wider-ordered : (span : Span) (number : ℕ) → span.end ≤ number → (wider span number).from ≤ number
wider-ordered span number bounded = by (nat_lt span.from span.end) refl
  where
    by : (b : Bool) → nat_lt span.from span.end ≡ b → (if b then span.from else number) ≤ number
    by true e = let l = ltb-true span.from span.end e in omega (l, bounded, arith)
    by false e = omega arith

wider-keeps : (span : Span) (number n : ℕ) → span.from ≤ n → n < span.end → (wider span number).from ≤ n
wider-keeps span number n from less = by (nat_lt span.from span.end) refl
  where
    by : (b : Bool) → nat_lt span.from span.end ≡ b → (if b then span.from else number) ≤ n
    by true e = from
    by false e =
        absurd (false≢true
        (sym e ∙ lt-ltb span.from span.end (let l : span.from < span.end = omega (from, less, arith) in l)))

module _ (paths : List Place) (i : ℕ) (path : Place) (old new : List Span) (here : slice_get paths i ≡ Some path)
    (are : SpansTo paths i old) (is : IsWider old new path.local i) where
  pub one-wider : SpansTo paths (i + 1) new
  one-wider = record {
    in_order = λ local. ordered local (cases_eq local path.local);
    bounded = λ local. bounded local (cases_eq local path.local);
    each = λ n other less at. each n other less at (cases_eq n i) (cases_eq other.local path.local);
  }
    where
      was : ℕ → Span
      was local = span_of old local

      ordered : (local : ℕ) → (local ≡ path.local) ⊎ (local ≡ path.local → ⊥) →
          (span_of new local).from ≤ (span_of new local).end
      ordered local (inl e) =
          let span-is : span_of new local ≡ wider (was path.local) i = ap (span_of new) e ∙ is.is in
          let w = wider-ordered (was path.local) i (are.bounded path.local) in
          subst (λ (s : Span). s.from ≤ s.end) (sym span-is) (omega (w, arith))
      ordered local (inr e) = subst (λ (s : Span). s.from ≤ s.end) (sym (is.same local e)) (are.in_order local)

      bounded : (local : ℕ) → (local ≡ path.local) ⊎ (local ≡ path.local → ⊥) → (span_of new local).end ≤ i + 1
      bounded local (inl e) =
          subst (λ (s : Span). s.end ≤ i + 1) (sym (ap (span_of new) e ∙ is.is)) (omega arith)
      bounded local (inr e) =
          subst (λ (s : Span). s.end ≤ i + 1) (sym (is.same local e)) (let b = are.bounded local in omega (b, arith))

      Within : Span → ℕ → Type 0
      Within s n = (s.from ≤ n) × (n < s.end)

      each : (n : ℕ) (other : Place) → n < i + 1 → slice_get paths n ≡ Some other → (n ≡ i) ⊎ (n ≡ i → ⊥) →
          (other.local ≡ path.local) ⊎ (other.local ≡ path.local → ⊥) → Within (span_of new other.local) n
      each n other less at (inl last) (inl same) =
          let w = wider-ordered (was path.local) i (are.bounded path.local) in
          subst (λ (s : Span). Within s n) (sym (ap (span_of new) same ∙ is.is))
          (omega (w, last, arith), omega (last, arith))
      each n other less at (inl last) (inr apart) =
          absurd (apart (ap (λ (p : Place). p.local)
          (same_Some other path (sym at ∙ ap (slice_get paths) last ∙ here))))
      each n other less at (inr before) (inl same) =
          let e = are.each n other (omega (less, before, arith)) at in
          let e0 : (was path.local).from ≤ n = subst (λ (l : ℕ). (was l).from ≤ n) same e.0 in
          let e1 : n < (was path.local).end = subst (λ (l : ℕ). n < (was l).end) same e.1 in
          let k = wider-keeps (was path.local) i n e0 e1 in
          subst (λ (s : Span). Within s n) (sym (ap (span_of new) same ∙ is.is)) (k, omega (less, arith))
      each n other less at (inr before) (inr apart) =
          subst (λ (s : Span). Within s n) (sym (is.same other.local apart))
          (are.each n other (omega (less, before, arith)) at)

pub all-within : (paths : List Place) (count : ℕ) (spans : List Span) → count ≡ length paths →
    SpansTo paths count spans →
    AreSpans paths spans
all-within paths count spans all are = record {
  in_order = are.in_order;
  bounded = λ local. (let b = are.bounded local in omega (b, all, arith));
  each = λ n path at. (let w = slice_get_within paths n path at in are.each n path (omega (w, all, arith)) at);
}

-- what stands before and behind a span is of other locals
module _ (paths : List Place) (spans : List Span) (are : AreSpans paths spans) (local : ℕ) where
  abbrev span : Span
  span = span_of spans local

  at-take : {X : Type 0} (xs : List X) (k n : ℕ) (x : X) → slice_get (take k xs) n ≡ Some x →
      (slice_get xs n ≡ Some x) × (n < k)
  at-take [] zero n x e = absurd (none-some x e)
  at-take [] (suc k) n x e = absurd (none-some x e)
  at-take (y ∷ xs) zero n x e = absurd (none-some x e)
  at-take (y ∷ xs) (suc k) zero x e = (e, omega arith)
  at-take (y ∷ xs) (suc k) (suc n) x e = let r = at-take xs k n x e in (r.0, (let l = r.1 in omega (l, arith)))

  at-drop : {X : Type 0} (xs : List X) (k n : ℕ) (x : X) → slice_get (drop k xs) n ≡ Some x →
      slice_get xs (k + n) ≡ Some x
  at-drop xs zero n x e = ap (slice_get xs) (let z : 0 + n ≡ n = omega arith in z) ∙ e
  at-drop [] (suc k) n x e = absurd (none-some x e)
  at-drop (y ∷ xs) (suc k) n x e =
      ap (slice_get (y ∷ xs)) (let z : suc k + n ≡ suc (k + n) = omega arith in z) ∙ at-drop xs k n x e

  pub near-is : IsNear paths local span.from (take (span.end - span.from) (drop span.from paths))
  near-is = record {
    before = take span.from paths;
    after = drop (span.end - span.from) (drop span.from paths);
    parts = sym (append_assoc (take span.from paths) (take (span.end - span.from) (drop span.from paths))
        (drop (span.end - span.from) (drop span.from paths))
        ∙ ap (λ (l : List Place). take span.from paths ++ l)
        (take-append-drop (span.end - span.from) (drop span.from paths))
        ∙ take-append-drop span.from paths);
    first_is = length-take-le span.from paths
        (let o = are.in_order local in let b = are.bounded local in omega (o, b, arith));
    others_before = λ n path at same.
        (let r = at-take paths span.from n path at in let e = (are.each n path r.0).0 in let l = r.1 in
        let e2 : span.from ≤ n = subst (λ (k : ℕ). (span_of spans k).from ≤ n) same e in
        omega (e2, l, arith));
    others_after = λ n path at same.
        (let a = at-drop paths span.from (span.end - span.from + n) path
        (at-drop (drop span.from paths) (span.end - span.from) n path at) in
        let e = (are.each (span.from + (span.end - span.from + n)) path a).1 in
        let e2 : span.from + (span.end - span.from + n) < span.end =
        subst (λ (k : ℕ). span.from + (span.end - span.from + n) < (span_of spans k).end) same e in
        let o = are.in_order local in omega (e2, o, arith));
  }
