-- What left no trace in its bucket repeats none before it.
use Rattle.std.proofs.Common.{◌≡◌, ℕ, zero, suc, ◌+◌, ◌*◌, ◌%◌, ◌<◌, ◌==◌, ◌&&◌, Bool, true, false, List, replicate, take, length, slice_get, Option, Some, None, refl, ap, sym, subst, ◌∙◌, arith, ◌⊎◌, inl, inr}
use Rattle.std.specs.List.{list_any}
use Rattle.std.specs.Option.{option_map_or}
use Rattle.std.specs.Cmp.Lexicographic.{bytes_decides}
use Rattle.std.proofs.Math.Nat.{eq-or-lt_of_le}
use Rattle.std.proofs.lemmas.Bool.{eqb-true, false≢true}
use Rattle.std.proofs.lemmas.List.{length-replicate}
use Rattle.std.proofs.lemmas.Option.{same_Some}
use Rattle.mir_ty.specs.declared.def.ImplDef.{ImplDef}
use Rattle.cfg_graph.specs.WellFormed.Buckets.{name_key, impl_key, IsMarked, AreMet}
use Rattle.cfg_graph.specs.WellFormed.NameFaults.{same_name, same_impl, is_repeated_impl}
use Rattle.cfg_graph.proofs.Rests.{few_goes_on}

-- before the first, nothing is met
pub none_met : {X : Type 0} (key_of : X → ℕ) (xs : List X) → AreMet key_of xs 0 (replicate 131072 0)
none_met key_of xs = record { met = λ i x below is. absurd (omega (arith, below)); enough = length-replicate {A = ℕ} 131072 0 }

module _ {X : Type 0} (key_of : X → ℕ) (xs : List X) where
  pub one_met : (n : ℕ) (x : X) (old new : List ℕ) → AreMet key_of xs n old → Some x ≡ slice_get xs n →
      ((key : ℕ) → IsMarked old key → IsMarked new key) → IsMarked new (key_of x) → length new ≡ 131072 → AreMet key_of xs (n + 1) new
  one_met n x old new before at kept here enough = record { met = met; enough = enough }
    where
      met : (i : ℕ) (y : X) → i < n + 1 → slice_get xs i ≡ Some y → IsMarked new (key_of y)
      met i y below is = by (eq-or-lt_of_le (omega arith))
        where
          by : (i ≡ n) ⊎ (i < n) → IsMarked new (key_of y)
          by (inr less) = kept (key_of y) (before.met i y less is)
          by (inl same) = subst (λ z. IsMarked new (key_of z)) (same_Some x y (at ∙ ap (slice_get xs) (sym same) ∙ is)) here

  -- what passes a test has the key that is not marked
  module _ (test : X → Bool) (key : ℕ) (buckets : List ℕ) (together : (y : X) → test y ≡ true → key ≡ key_of y) (free : IsMarked buckets key → ⊥) where
    other : (n : ℕ) → AreMet key_of xs (n + 1) buckets → (o : Option X) → slice_get xs n ≡ o → option_map_or test o false ≡ false
    other n met None at = refl
    other n met (Some y) at = by (test y) refl
      where
        by : (b : Bool) → test y ≡ b → b ≡ false
        by false e = refl
        by true e = absurd (free (subst (IsMarked buckets) (sym (together y e)) (met.met n y (omega arith) at)))

    fewer : (n : ℕ) → AreMet key_of xs (n + 1) buckets → AreMet key_of xs n buckets
    fewer n met = record { met = λ i x below at. met.met i x (omega arith) at; enough = met.enough }

    pub repeats_none : (n : ℕ) → AreMet key_of xs n buckets → list_any test (take n xs) ≡ false
    repeats_none zero met = refl
    repeats_none (suc n) met =
        let next : suc n ≡ n + 1 = omega arith in
        let all : AreMet key_of xs (n + 1) buckets = subst (λ k. AreMet key_of xs k buckets) next met in
        ap (λ k. list_any test (take k xs)) next
        ∙ few_goes_on test xs n (repeats_none n (fewer n all)) (other n all (slice_get xs n) refl)

module _ {X : Type 0} (name_of : X → List ℕ) (xs : List X) where
  pub name_repeats_none : (name : List ℕ) (buckets : List ℕ) → (IsMarked buckets (name_key name) → ⊥) → (n : ℕ) →
      AreMet (λ x. name_key (name_of x)) xs n buckets → list_any (λ y. same_name name (name_of y)) (take n xs) ≡ false
  name_repeats_none name buckets free n met =
      repeats_none (λ x. name_key (name_of x)) xs (λ y. same_name name (name_of y)) (name_key name) buckets (λ y e. ap name_key ((bytes_decides name (name_of y)).0 e))
      free n met

both : (a b : Bool) → (a && b) ≡ true → (a ≡ true) × (b ≡ true)
both true b e = (refl, e)
both false b e = absurd (false≢true e)

module _ (impls : List ImplDef) where
  pub impl_repeats_none : (impl : ImplDef) (buckets : List ℕ) → (IsMarked buckets (impl_key impl) → ⊥) → (n : ℕ) → AreMet impl_key impls n buckets → is_repeated_impl impls n impl ≡ false
  impl_repeats_none impl buckets free n met =
      repeats_none impl_key impls (same_impl impl) (impl_key impl) buckets together free n met
    where
      together : (y : ImplDef) → same_impl impl y ≡ true → impl_key impl ≡ impl_key y
      together y e =
          let two : (((impl.trait_no == y.trait_no) ≡ true) × ((impl.adt == y.adt) ≡ true)) = both (impl.trait_no == y.trait_no) (impl.adt == y.adt) e in
          let traits : impl.trait_no ≡ y.trait_no = eqb-true impl.trait_no y.trait_no two.0 in
          let types : impl.adt ≡ y.adt = eqb-true impl.adt y.adt two.1 in
          ap (λ t. (t * 81007 + impl.adt) % 32899072) traits ∙ ap (λ a. (y.trait_no * 81007 + a) % 32899072) types
