-- What a test leaves: a condition takes its operand, and a test of a variant changes nothing.
use Rattle.std.proofs.Common.{◌≡◌, ◌⊎◌, inl, inr, ℕ, ◌==◌, Bool, true, false, Option, Some, None, refl, ap, ◌∙◌}
use Rattle.mir_ty.specs.declared.ty.TyId.{TyId}
use Rattle.mir_ty.specs.ItemTable.{ItemTable}
use Rattle.cfg_graph.specs.declared.place.Operand.{Operand}
use Rattle.cfg_graph.specs.declared.place.Place as graph
use Rattle.cfg_graph.specs.Places.{named}
use Rattle.cfg_meaning.specs.Actions.{site_of, operand_of}
use Rattle.store_model.specs.Concrete.Effects.{choose, chosen_truth, chosen_if, variant_tested, evaluate_operand}
use Rattle.store_model.specs.Concrete.Location.{Setting, Reached, Reaches, CutOff, Nowhere, reach, on_reached}
use Rattle.store_model.specs.Concrete.State.{State}
use Rattle.store_model.specs.Effects as effects
use Rattle.store_model.specs.Effects.{Choice, Yes, No, Neither, Stuck}
use Rattle.store_model.specs.Values.Datum.{Datum, Gone, Number, Truth, UnitValue, Aggregate, Box, Address}
use Rattle.drop_values.specs.Like.{raw_setting}

module _ (items : ItemTable) (local_ty : (body local : ℕ) → Option TyId) where
  abbrev raw : Setting
  raw = raw_setting items local_ty

  -- what a condition took
  pub record Chosen (operand : Operand) (w v : State) : Type 0 where
    pub value : Datum
    pub gives : evaluate_operand raw (operand_of 0 operand) w ≡ Some (value, v)

  pub chosen : (operand : Operand) (w v : State) → (choose raw (effects.IsTrue (operand_of 0 operand)) w ≡ Yes v)
      ⊎ (choose raw (effects.IsTrue (operand_of 0 operand)) w ≡ No v) → Chosen operand w v
  chosen operand w v c = by (evaluate_operand raw (operand_of 0 operand) w) refl c
    where
      so : (d : Datum) (u : State) → evaluate_operand raw (operand_of 0 operand) w ≡ Some (d, u) →
          (chosen_truth raw (Some (d, u)) w ≡ Yes v) ⊎ (chosen_truth raw (Some (d, u)) w ≡ No v) → Chosen operand
          w v
      so (Truth true) u e (inl c) =
          record {
            value = Truth true;
            gives = e ∙ ap (λ u. Some (Truth true, u)) (let x : Yes u ≡ Yes v = c in
                cc);
          }
      so (Truth true) u e (inr c) = absurd (let x : Yes u ≡ No v = c in cc)
      so (Truth false) u e (inl c) = absurd (let x : No u ≡ Yes v = c in cc)
      so (Truth false) u e (inr c) =
          record {
            value = Truth false;
            gives = e ∙ ap (λ u. Some (Truth false, u)) (let x : No u ≡ No v = c in
                cc);
          }
      so Gone u e (inl c) = absurd (let x : Neither Stuck w ≡ Yes v = c in cc)
      so Gone u e (inr c) = absurd (let x : Neither Stuck w ≡ No v = c in cc)
      so (Number x) u e (inl c) = absurd (let x : Neither Stuck w ≡ Yes v = c in cc)
      so (Number x) u e (inr c) = absurd (let x : Neither Stuck w ≡ No v = c in cc)
      so UnitValue u e (inl c) = absurd (let x : Neither Stuck w ≡ Yes v = c in cc)
      so UnitValue u e (inr c) = absurd (let x : Neither Stuck w ≡ No v = c in cc)
      so (Aggregate x y z) u e (inl c) = absurd (let x : Neither Stuck w ≡ Yes v = c in cc)
      so (Aggregate x y z) u e (inr c) = absurd (let x : Neither Stuck w ≡ No v = c in cc)
      so (Box x y z) u e (inl c) = absurd (let x : Neither Stuck w ≡ Yes v = c in cc)
      so (Box x y z) u e (inr c) = absurd (let x : Neither Stuck w ≡ No v = c in cc)
      so (Address x) u e (inl c) = absurd (let x : Neither Stuck w ≡ Yes v = c in cc)
      so (Address x) u e (inr c) = absurd (let x : Neither Stuck w ≡ No v = c in cc)

      by : (o : Option (Datum × State)) → evaluate_operand raw (operand_of 0 operand) w ≡ o →
          (chosen_truth raw o w ≡ Yes v) ⊎ (chosen_truth raw o w ≡ No v) → Chosen operand w v
      by None e (inl c) = absurd (let x : Neither Stuck w ≡ Yes v = c in cc)
      by None e (inr c) = absurd (let x : Neither Stuck w ≡ No v = c in cc)
      by (Some (d, u)) e c = so d u e c

  -- a test of a variant changes nothing
  pub unchanged : (place : graph.Place) (variant : ℕ) (w v : State) →
      (choose raw (effects.HasVariant (site_of 0 place) variant) w ≡ Yes v)
      ⊎ (choose raw (effects.HasVariant (site_of 0 place) variant) w ≡ No v) → w ≡ v
  unchanged place variant w v c = by (reach raw w (named place)) c
    where
      abbreviated : (b : Bool) → (chosen_if raw b w ≡ Yes v) ⊎ (chosen_if raw b w ≡ No v) → w ≡ v
      abbreviated true (inl c) = let x : Yes w ≡ Yes v = c in cc
      abbreviated true (inr c) = absurd (let x : Yes w ≡ No v = c in cc)
      abbreviated false (inl c) = absurd (let x : No w ≡ Yes v = c in cc)
      abbreviated false (inr c) = let x : No w ≡ No v = c in cc

      never : {A : Type 0} → (Neither Stuck w ≡ Yes v) ⊎ (Neither Stuck w ≡ No v) → A
      never (inl c) = absurd (let x : Neither Stuck w ≡ Yes v = c in cc)
      never (inr c) = absurd (let x : Neither Stuck w ≡ No v = c in cc)

      of : (d : Datum) → (variant_tested raw variant d w ≡ Yes v) ⊎ (variant_tested raw variant d w ≡ No v) → w ≡ v
      of (Aggregate active serial parts) c = abbreviated (variant == active) c
      of other c = never c

      by : (r : Reached) →
          (on_reached r (λ s. variant_tested raw variant s.value w) (Neither Stuck w) (Neither Stuck w) ≡ Yes v)
          ⊎ (on_reached r (λ s. variant_tested raw variant s.value w) (Neither Stuck w) (Neither Stuck w) ≡ No v) →
          w ≡ v
      by CutOff c = never c
      by Nowhere c = never c
      by (Reaches s) c = of s.value c
