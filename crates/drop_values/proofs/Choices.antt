-- What a test of the raw graph chooses, it chooses in the elaborated run too.
use Rattle.std.proofs.Common.{◌≡◌, ◌⊎◌, inl, ℕ, ◌==◌, Bool, true, false, Option, Some, None, refl, sym, subst}
use Rattle.mir_ty.specs.declared.ty.TyId.{TyId}
use Rattle.mir_ty.specs.ItemTable.{ItemTable}
use Rattle.store_model.specs.Concrete.Effects.{evaluate_operand, chosen_truth, chosen_if, variant_tested, choose}
use Rattle.store_model.specs.Values.Datum.{Datum, Gone, Number, Truth, UnitValue, Aggregate, Box, Address}
use Rattle.store_model.specs.Effects as effects
use Rattle.store_model.specs.Effects.{EffectSite, Stuck, Out, Choice, Yes, No, Neither}
use Rattle.store_model.specs.Concrete.Location.{Setting, Reached, Reaches, CutOff, Nowhere, reach, on_reached}
use Rattle.store_model.specs.Concrete.State.{State}
use Rattle.drop_values.specs.Covers.{Covers}
use Rattle.drop_values.specs.Like.{IsStuck, Flags, Like, raw_setting, strict_setting, Extends}
use Rattle.drop_values.proofs.Reach.{reach_there}
use Rattle.drop_values.proofs.Operands.{Both as BothOf, SiteOk as SiteOkOf, OperandOk as OperandOkOf, taken_there}

module _ (items : ItemTable) (local_ty local_ty' : (body local : ℕ) → Option TyId)
    (extends : Extends local_ty local_ty') (flags : Flags) (depth number : ℕ) where
  abbrev raw : Setting
  raw = raw_setting items local_ty

  abbrev strict : Setting
  strict = strict_setting items local_ty'

  abbrev L : State → State → Type 0
  L = Like local_ty flags

  abbrev Both : (most : ℕ) (w w' : State) → Type 0
  Both = BothOf items local_ty local_ty' extends flags depth number

  abbrev SiteOk : EffectSite → Type 0
  SiteOk = SiteOkOf items local_ty local_ty' extends flags depth number

  abbrev OperandOk : effects.Operand → Type 0
  OperandOk = OperandOkOf items local_ty local_ty' extends flags depth number

  module _ (most : ℕ) where
    -- tests
    abbrev pub ChoiceWay : Choice State → Choice State → Type 0
    ChoiceWay (Yes w) c = (w' : State) × (c ≡ Yes w') × L w w'
    ChoiceWay (No w) c = (w' : State) × (c ≡ No w') × L w w'
    ChoiceWay (Neither halt w) c = IsStuck halt ⊎ ((w' : State) × (c ≡ Neither halt w') × (w'.trace ≡ w.trace))

    pub truth-Same : (operand : effects.Operand) (w w' : State) → Both most w w' → OperandOk operand →
        ChoiceWay (choose raw (effects.IsTrue operand) w) (choose strict (effects.IsTrue operand) w')
    truth-Same operand w w' b ok = by (evaluate_operand raw operand w) refl
      where
        chosen : (v : Datum) (u u' : State) → Both most u u' → ChoiceWay (chosen_truth raw (Some (v, u)) w)
            (chosen_truth strict (Some (v, u')) w')
        chosen (Truth true) u u' c = (u', refl, c.like)
        chosen (Truth false) u u' c = (u', refl, c.like)
        chosen other u u' c = inl tt

        by : (o : Option (Datum × State)) → evaluate_operand raw operand w ≡ o → ChoiceWay (chosen_truth raw o w)
            (chosen_truth strict (evaluate_operand strict operand w') w')
        by None h = inl tt
        by (Some t) h = let k = taken_there items local_ty local_ty' extends flags depth number most operand w w' t.0
            t.1 b ok h in subst
            (λ o. ChoiceWay (chosen_truth raw (Some t) w) (chosen_truth strict o w')) (sym k.1) (chosen t.0 t.1 k.0 k.2)

    pub variant-Same : (site : EffectSite) (variant : ℕ) (w w' : State) → Both most w w' → SiteOk site →
        ChoiceWay (choose raw (effects.HasVariant site variant) w) (choose strict (effects.HasVariant site variant) w')
    variant-Same site variant w w' b ok = by (reach raw w site.place) refl
      where
        if-Same : (x : Bool) → ChoiceWay (chosen_if raw x w) (chosen_if strict x w')
        if-Same true = (w', refl, b.like)
        if-Same false = (w', refl, b.like)

        tested : (d other : Datum) → Covers d other → ChoiceWay (variant_tested raw variant d w)
            (variant_tested strict variant other w')
        tested (Aggregate active serial parts) other c =
            subst (λ o. ChoiceWay (chosen_if raw (variant == active) w) (variant_tested strict variant o w'))
            (sym c.1) (if-Same (variant == active))
        tested others other c = inl tt

        by : (r : Reached) → reach raw w site.place ≡ r →
            ChoiceWay (on_reached r (λ s. variant_tested raw variant s.value w) (Neither Stuck w) (Neither Stuck w))
            (choose strict (effects.HasVariant site variant) w')
        by CutOff h = inl tt
        by Nowhere h = inl tt
        by (Reaches s) h =
            let r = reach_there items local_ty local_ty' extends flags w w' b.like depth number
            site.place s b.deep b.number_is ok h in
            subst (λ o. ChoiceWay (variant_tested raw variant s.value w)
            (on_reached o (λ s. variant_tested strict variant s.value w') (Neither Stuck w') (Neither Stuck w')))
            (sym r.0.reaches) (tested s.value r.0.other r.0.covers)
