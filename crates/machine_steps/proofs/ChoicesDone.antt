-- What terminators do that neither call nor drop nor compute.
use Rattle.std.proofs.Common.{◌≡◌, ℕ, ◌==◌, ℤ, pos, Bool, true, false, List, [], ◌∷◌, Option, Some, None, refl, ap, sym, subst, ◌∙◌}
use Rattle.std.specs.Prelude.{int_lt}
use Rattle.cfg_graph.specs.declared.place.Operand.{Operand}
use Rattle.cfg_graph.specs.declared.place.Place.{Place}
use Rattle.cfg_meaning.specs.Actions.{site_of, operand_of}
use Rattle.cfg_meaning.specs.Programs.{setting_of}
use Rattle.mir_base.specs.Trace.{Trace}
use Rattle.mir_base.specs.declared.trace.Event.{Event}
use Rattle.mir_base.specs.declared.trace.Why.{Why}
use Rattle.machine_steps.specs.declared.actions.Outcome.{Outcome}
use Rattle.machine_steps.specs.declared.world.World.{World}
use Rattle.machine_steps.specs.Steps.{seen, Panics, Does, truth_of, stored_and_told, seen_choice, NotChosen, leaves_choice, Chooses}
use Rattle.machine_steps.specs.Worlds.{state_of, run_setting, Evaluates}
use Rattle.machine_store.specs.Standing.{number_of, with_activations}
use Rattle.machine_steps.proofs.Operands.{operand_same_trace}
use Rattle.machine_store.proofs.SameReach.{reach_same}
use Rattle.store_model.specs.Concrete.Effects.{bounded, within_bounds, asked, choose, chosen_truth, chosen_if, variant_tested}
use Rattle.store_model.specs.Concrete.Location.{Setting, Located, Reached, Reaches, CutOff, Nowhere, reach, on_reached}
use Rattle.store_model.specs.Concrete.State.{State, with_event}
use Rattle.store_model.specs.declared.value.Value.{Value}
use Rattle.store_model.specs.Effects as actions
use Rattle.store_model.specs.Effects.{EffectSite, Stuck, Out, Choice, Yes, No, Neither}
use Rattle.store_model.specs.Values.Datum.{Datum, Gone, Number, Truth, UnitValue, Aggregate, Box, Address, Data, datum_of}

-- a value of which no variant is asked
abbrev pub HasNoVariant : Datum → Type 0
HasNoVariant (Aggregate variant serial parts) = ⊥
HasNoVariant value = Unit {0}

-- An index.

module _ (setting : Setting) (count : ℕ) (w : World) where
  bounded_number : (value : Datum) (number : ℤ) → number_of value ≡ Some number → (v : State) → bounded setting count value v ≡ within_bounds setting (int_lt number (pos count)) v
  bounded_number (Number n) number e v = let same : n ≡ number = cc in ap (λ n. within_bounds setting (int_lt n (pos count)) v) same
  bounded_number other number e v = absurd (cc)

  pub index_within : (value : Datum) (number : ℤ) → number_of value ≡ Some number → int_lt number (pos count) ≡ true → Does (bounded setting count value) w Outcome.Goes w
  index_within value number e l before = ap seen (bounded_number value number e (state_of before w) ∙ ap (λ b. within_bounds setting b (state_of before w)) l)

  pub index_past : (value : Datum) (number : ℤ) → number_of value ≡ Some number → int_lt number (pos count) ≡ false → (new : World) →
      ((before : Trace) → state_of before new ≡ with_event (Event.Panicked Why.Index) (state_of before w)) → Does (bounded setting count value) w Outcome.Panics new
  index_past value number e l new told before =
      ap seen (bounded_number value number e (state_of before w) ∙ ap (λ b. within_bounds setting b (state_of before w)) l) ∙ ap Panics (sym (told before))

  pub no_index : (value : Datum) → number_of value ≡ None → Does (bounded setting count value) w Outcome.Stuck w
  no_index (Number n) e before = absurd (cc)
  no_index other e before = refl

-- Asking.

module _ (setting : Setting) (to : EffectSite) (old : World) where
  abbrev asks : State → Out State
  asks w = asked setting to w.asked w

  pub nothing_asked : old.asks.now ≡ [] → (new : World) → ((before : Trace) → state_of before new ≡ with_event (Event.Panicked Why.Ask) (state_of before old)) → Does asks old Outcome.Panics new
  nothing_asked e new told before = ap (λ l. seen (asked setting to l (state_of before old))) e ∙ ap Panics (sym (told before))

  pub number_asked : (number : ℤ) (rest : List ℤ) → old.asks.now ≡ number ∷ rest → (mid new : World) (outcome : Outcome) →
      ((before : Trace) → state_of before mid ≡ record (state_of before old) { asked = rest }) →
      Does (stored_and_told setting to (Number number) (Event.Asked number)) mid outcome new → Does asks old outcome new
  number_asked number rest e mid new outcome same h before =
      ap (λ l. seen (asked setting to l (state_of before old))) e
      ∙ ap (λ w. seen (stored_and_told setting to (Number number) (Event.Asked number) w)) (sym (same before)) ∙ h before

-- Choices.

module _ (old mid : World) (operand : Operand) (taken : Option Value) (gave : (before : Trace) → Evaluates (run_setting old) operand (state_of before old) taken (state_of before mid)) where
  abbrev choice_of : State → Choice State
  choice_of w = choose (run_setting old) (actions.IsTrue (operand_of 0 operand)) w

  truth_chosen_by : (w : State) (value : Datum) (o : Option Bool) → truth_of value ≡ o → (v : State) → v.trace ≡ w.trace → seen_choice (chosen_truth (run_setting old) (Some (value, v)) w) ≡ leaves_choice o v
  truth_chosen_by w (Truth true) o e v t = ap (λ o. leaves_choice o v) e
  truth_chosen_by w (Truth false) o e v t = ap (λ o. leaves_choice o v) e
  truth_chosen_by w other o e v t = ap (NotChosen Stuck) (sym t) ∙ ap (λ o. leaves_choice o v) e

  pub truth_chosen : (value : Value) (o : Option Bool) → taken ≡ Some value → truth_of (datum_of value) ≡ o → Chooses (actions.IsTrue (operand_of 0 operand)) old o mid
  truth_chosen value o e is before =
      let g = subst (λ t. Evaluates (run_setting old) operand (state_of before old) t (state_of before mid)) e (gave before) in
      ap (λ o. seen_choice (chosen_truth (run_setting old) o (state_of before old))) g.1
      ∙ truth_chosen_by (state_of before old) (datum_of value) o is (state_of before mid) (operand_same_trace (run_setting old) operand (state_of before old) (state_of before mid) (datum_of value) g.1)

  pub no_truth : taken ≡ None → Chooses (actions.IsTrue (operand_of 0 operand)) old None mid
  no_truth e before =
      let g = subst (λ t. Evaluates (run_setting old) operand (state_of before old) t (state_of before mid)) e (gave before) in
      ap (λ o. seen_choice (chosen_truth (run_setting old) o (state_of before old))) g.0 ∙ ap (λ (w : State). NotChosen Stuck w.trace) (sym g.1)

module _ (w : World) (on : Place) (variant : ℕ) where
  variant_chosen : (r : Reached) → reach (setting_of true w.graph.now) (with_activations (state_of [] w).activations) (site_of 0 on).place ≡ r → (o : Option Bool) →
      ((v : State) → seen_choice (on_reached r (λ s. variant_tested (run_setting w) variant s.value v) (Neither Stuck v) (Neither Stuck v)) ≡ leaves_choice o v) →
      Chooses (actions.HasVariant (site_of 0 on) variant) w o w
  variant_chosen r e o h before =
      ap (λ r. seen_choice (on_reached r (λ s. variant_tested (run_setting w) variant s.value (state_of before w)) (Neither Stuck (state_of before w)) (Neither Stuck (state_of before w))))
      (reach_same w.strict w.graph.now (state_of before w) (site_of 0 on).place ∙ e) ∙ h (state_of before w)

  pub variant_there : (s : Located) (active : ℕ) (serial : Option ℕ) (parts : Data) → reach (setting_of true w.graph.now) (with_activations (state_of [] w).activations) (site_of 0 on).place ≡ Reaches s →
      s.value ≡ Aggregate active serial parts → Chooses (actions.HasVariant (site_of 0 on) variant) w (Some (variant == active)) w
  variant_there s active serial parts e is =
      variant_chosen (Reaches s) e (Some (variant == active))
      (λ v. ap (λ d. seen_choice (variant_tested (run_setting w) variant d v)) is ∙ by (variant == active) v)
    where
      by : (b : Bool) (v : State) → seen_choice (chosen_if (run_setting w) b v) ≡ leaves_choice (Some b) v
      by true v = refl
      by false v = refl

  pub no_variant : (s : Located) → reach (setting_of true w.graph.now) (with_activations (state_of [] w).activations) (site_of 0 on).place ≡ Reaches s → HasNoVariant s.value →
      Chooses (actions.HasVariant (site_of 0 on) variant) w None w
  no_variant s e h = variant_chosen (Reaches s) e None (λ v. by s.value h v)
    where
      by : (value : Datum) → HasNoVariant value → (v : State) → seen_choice (variant_tested (run_setting w) variant value v) ≡ leaves_choice None v
      by (Aggregate active serial parts) h v = absurd h
      by other h v = refl

  pub cut_off : reach (setting_of true w.graph.now) (with_activations (state_of [] w).activations) (site_of 0 on).place ≡ CutOff → Chooses (actions.HasVariant (site_of 0 on) variant) w None w
  cut_off e = variant_chosen CutOff e None (λ v. refl)

  pub nowhere : reach (setting_of true w.graph.now) (with_activations (state_of [] w).activations) (site_of 0 on).place ≡ Nowhere → Chooses (actions.HasVariant (site_of 0 on) variant) w None w
  nowhere e = variant_chosen Nowhere e None (λ v. refl)
