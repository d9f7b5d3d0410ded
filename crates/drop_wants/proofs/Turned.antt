-- What is decided of some drops, one after another with other numbers of flags.
use Rattle.std.proofs.Common.{◌≡◌, ◌⊎◌, inl, inr, ◌∙◌, ◌+◌, ◌<◌, ◌≤◌, ℕ, zero, suc, ◌∷◌, [], List, Some, length, slice_get, refl, sym, ap, subst, arith}
use Rattle.std.specs.Prelude.{slice_set}
use Rattle.std.proofs.lemmas.Bool.{cases_eq}
use Rattle.std.proofs.lemmas.List.{get_or-set_same, length-set}
use Rattle.std.proofs.lemmas.Option.{same_Some, slice_get_within, slice_get-get_or}
use Rattle.drop_ends.specs.declared.decided.Decided.{Decided}
use Rattle.drop_wants.specs.Renumbered.{IsRenumbered, AreRenumbered}

module _ (number : ℕ → ℕ) where
  -- the first drops, so many, have other numbers
  pub record TurnedTo (n : ℕ) (before now : List Decided) : Type 0 where
    pub long : length now ≡ length before
    pub each : (k : ℕ) (how other : Decided) → k < n → slice_get before k ≡ Some how → slice_get now k ≡ Some other →
        IsRenumbered number how other
    pub rest : (k : ℕ) → n ≤ k → slice_get now k ≡ slice_get before k

  pub none-turned : (before : List Decided) → TurnedTo 0 before before
  none-turned before = record {
    long = refl;
    each = λ k how other less a b. absurd (omega (less, arith));
    rest = λ k far. refl;
  }

  set-same : (xs : List Decided) (n : ℕ) (x : Decided) → n < length xs → slice_get (slice_set xs n x) n ≡ Some x
  set-same xs n x less =
      slice_get-get_or (slice_set xs n x) n x (let l = length-set xs n x in omega (l, less, arith))
      ∙ ap Some (get_or-set_same xs n x x less)

  set-other : (xs : List Decided) (n k : ℕ) (x : Decided) → (k ≡ n → ⊥) → slice_get (slice_set xs n x) k ≡ slice_get xs k
  set-other [] n k x apart = refl
  set-other (y ∷ xs) zero zero x apart = absurd (apart refl)
  set-other (y ∷ xs) zero (suc k) x apart = refl
  set-other (y ∷ xs) (suc n) zero x apart = refl
  set-other (y ∷ xs) (suc n) (suc k) x apart = set-other xs n k x (λ e. apart (ap suc e))

  pub one-turned : (n : ℕ) (before now : List Decided) (old new : Decided) → TurnedTo n before now →
      slice_get now n ≡ Some old → IsRenumbered number old new → TurnedTo (n + 1) before (slice_set now n new)
  one-turned n before now old new are at is = record {
    long = length-set now n new ∙ are.long;
    each = λ k how other less a b. each k how other less a b (cases_eq k n);
    rest = λ k far. set-other now n k new (λ e. omega (e, far, arith)) ∙ are.rest k (omega (far, arith));
  }
    where
      each : (k : ℕ) (how other : Decided) → k < n + 1 → slice_get before k ≡ Some how →
          slice_get (slice_set now n new) k ≡ Some other → (k ≡ n) ⊎ (k ≡ n → ⊥) → IsRenumbered number how other
      each k how other less a b (inl e) =
          let was : old ≡ how = same_Some old how (sym at ∙ are.rest n (omega arith) ∙ ap (slice_get before) (sym e) ∙ a) in
          let is_now : new ≡ other =
          same_Some new other (sym (set-same now n new (slice_get_within now n old at))
          ∙ ap (slice_get (slice_set now n new)) (sym e) ∙ b) in
          subst (λ (h : Decided). IsRenumbered number h other) was (subst (IsRenumbered number old) is_now is)
      each k how other less a b (inr apart) =
          are.each k how other (omega (less, apart, arith)) a (sym (set-other now n k new apart) ∙ b)

  pub all-turned : (n : ℕ) (before now : List Decided) → length before ≤ n → TurnedTo n before now →
      AreRenumbered number before now
  all-turned n before now far are = record {
    long = are.long;
    each = λ k how other a b. are.each k how other
        (let w = slice_get_within before k how a in omega (w, far, arith)) a b;
  }
