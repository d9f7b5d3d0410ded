-- One step after another, as the machine does them.
use Rattle.std.proofs.Common.{◌≡◌, ℕ, ℤ, Bool, true, false, not, List, [], map, All, Option, Some, None, refl, ap, sym, subst, ◌∙◌}
use Rattle.std.proofs.lemmas.List.Elements.{All-map}
use Rattle.cfg_graph.specs.declared.place.Operand.{Operand}
use Rattle.cfg_meaning.specs.Actions.{site_of, operand_of, operands_of}
use Rattle.cfg_meaning.specs.Programs.{setting_of}
use Rattle.cfg_graph.specs.declared.place.Place.{Place}
use Rattle.machine_store.specs.Standing.{with_activations, number_of}
use Rattle.machine_steps.proofs.Operands.{whole_same}
use Rattle.mir_base.specs.Trace.{Trace}
use Rattle.machine_steps.specs.declared.actions.Outcome.{Outcome}
use Rattle.machine_steps.specs.declared.world.World.{World}
use Rattle.machine_steps.specs.Steps.{seen, leaves, Goes, Halted, Does, truth_of, stored_and_told, number_by_truth, compared_as}
use Rattle.mir_base.specs.declared.trace.Event.{Event}
use Rattle.machine_steps.specs.Worlds.{state_of, run_setting, Evaluates, EvaluatesAll}
use Rattle.store_model.specs.declared.value.Value.{Value, Value-F, fold-roll-Value}
use Rattle.store_model.specs.declared.value.Value.TheVariants.{rolls-Bool}
use Rattle.mir_base.specs.declared.operator.Cmp.{Cmp}
use Rattle.mir_ty.specs.declared.adt.Adt.{Adt}
use Rattle.store_model.specs.Concrete.Effects.{evaluate_operand, evaluate_operands, with_operand, with_two_operands, with_operands, put, put_if, or_stuck, whole_at, printed, tell_after, boxed, built, made_event, compared}
use Rattle.std.specs.Prelude.{slice_get}
use Rattle.std.proofs.lemmas.Bool.{true≢false}
use Rattle.std.specs.Option.{option_map_or, is_some}
use Rattle.store_model.specs.Concrete.Location.{Setting, Located}
use Rattle.store_model.specs.Concrete.State.{State, with_event, numbered_next}
use Rattle.store_model.specs.Effects.{EffectSite, Stuck, Out, Go, Unwind, Halts, OfVariant}
use Rattle.store_model.specs.Values.Datum.{Datum, Gone, Number, Truth, UnitValue, Aggregate, Box, Address, data_from, datum_of, datum_of_layer}
use Rattle.store_model.specs.Values.Wholeness.{IsWhole, AreWhole}
use Rattle.store_model.proofs.Values.Wholeness.{AreWhole-data_from}

-- What comes after operands.

operand_next : (setting : Setting) (operand : Operand) (w after : State) (value : Datum) (next : Datum → State → Out State) →
    evaluate_operand setting (operand_of 0 operand) w ≡ Some (value, after) → with_operand setting (operand_of 0 operand) w next ≡ next value after
operand_next setting operand w after value next e = rw e refl

operand_none : (setting : Setting) (operand : Operand) (w : State) (next : Datum → State → Out State) →
    evaluate_operand setting (operand_of 0 operand) w ≡ None → with_operand setting (operand_of 0 operand) w next ≡ Halts Stuck w
operand_none setting operand w next e = rw e refl

operands_next : (setting : Setting) (operands : List Operand) (w after : State) (values : List Datum) (next : List Datum → State → Out State) →
    evaluate_operands setting (operands_of 0 operands) w ≡ Some (values, after) → with_operands setting (operands_of 0 operands) w next ≡ next values after
operands_next setting operands w after values next e = rw e refl

operands_none : (setting : Setting) (operands : List Operand) (w : State) (next : List Datum → State → Out State) →
    evaluate_operands setting (operands_of 0 operands) w ≡ None → with_operands setting (operands_of 0 operands) w next ≡ Halts Stuck w
operands_none setting operands w next e = rw e refl

module _ (old mid : World) where
  module _ (operand : Operand) (taken : Option Value) (gave : (before : Trace) → Evaluates (run_setting old) operand (state_of before old) taken (state_of before mid)) where
    pub value_whole : (value : Value) → taken ≡ Some value → IsWhole (datum_of value)
    value_whole value e = (subst (λ t. Evaluates (run_setting old) operand (state_of [] old) t (state_of [] mid)) e (gave [])).0

    pub then_does : (value : Value) → taken ≡ Some value → (next : Datum → State → Out State) (outcome : Outcome) (new : World) → Does (next (datum_of value)) mid outcome new →
        Does (λ w. with_operand (run_setting old) (operand_of 0 operand) w next) old outcome new
    then_does value e next outcome new h before =
        let g = subst (λ t. Evaluates (run_setting old) operand (state_of before old) t (state_of before mid)) e (gave before) in
        ap seen (operand_next (run_setting old) operand (state_of before old) (state_of before mid) (datum_of value) next g.1) ∙ h before

    pub stuck_does : taken ≡ None → (next : Datum → State → Out State) → Does (λ w. with_operand (run_setting old) (operand_of 0 operand) w next) old Outcome.Stuck mid
    stuck_does e next before =
        let g = subst (λ t. Evaluates (run_setting old) operand (state_of before old) t (state_of before mid)) e (gave before) in
        ap seen (operand_none (run_setting old) operand (state_of before old) next g.0) ∙ ap (λ w. Halted Stuck w.trace) (sym g.1)

  module _ (operands : List Operand) (taken : Option (List Value)) (gave : (before : Trace) → EvaluatesAll (run_setting old) operands (state_of before old) taken (state_of before mid)) where
    pub values_whole : (values : List Value) → taken ≡ Some values → All (λ value. IsWhole (datum_of value)) values
    values_whole values e = (subst (λ t. EvaluatesAll (run_setting old) operands (state_of [] old) t (state_of [] mid)) e (gave [])).0

    pub then_all_do : (values : List Value) → taken ≡ Some values → (next : List Datum → State → Out State) (outcome : Outcome) (new : World) → Does (next (map datum_of values)) mid outcome new →
        Does (λ w. with_operands (run_setting old) (operands_of 0 operands) w next) old outcome new
    then_all_do values e next outcome new h before =
        let g = subst (λ t. EvaluatesAll (run_setting old) operands (state_of before old) t (state_of before mid)) e (gave before) in
        ap seen (operands_next (run_setting old) operands (state_of before old) (state_of before mid) (map datum_of values) next g.1) ∙ h before

    pub stuck_all_do : taken ≡ None → (next : List Datum → State → Out State) → Does (λ w. with_operands (run_setting old) (operands_of 0 operands) w next) old Outcome.Stuck mid
    stuck_all_do e next before =
        let g = subst (λ t. EvaluatesAll (run_setting old) operands (state_of before old) t (state_of before mid)) e (gave before) in
        ap seen (operands_none (run_setting old) operands (state_of before old) next g.0) ∙ ap (Halted Stuck) (sym g.1)

-- in one setting as in another that is the same
pub in_setting : (one other : Setting) → one ≡ other → (step : Setting → State → Out State) (old : World) (outcome : Outcome) (new : World) → Does (step one) old outcome new → Does (step other) old outcome new
in_setting one other e step old outcome new h = subst (λ setting. Does (step setting) old outcome new) e h

pub all_whole : (parts : List Value) → All (λ part. IsWhole (datum_of part)) parts → AreWhole (data_from (map datum_of parts))
all_whole parts h = (AreWhole-data_from (map datum_of parts)).1 (All-map IsWhole datum_of parts h)

-- what a value is the other truth value of
abbrev pub other_of : Datum → Option Datum
other_of (Truth b) = Some (Truth (not b))
other_of _ = None

abbrev pub other_truth : Setting → EffectSite → Datum → State → Out State
other_truth setting to value = put_if setting to (other_of value)

module _ (setting : Setting) (to : EffectSite) (old new : World) (outcome : Outcome) (value : Datum) where
  pub other_stored : (truth : Bool) → truth_of value ≡ Some truth → Does (put setting to (Truth (not truth))) old outcome new → Does (other_truth setting to value) old outcome new
  other_stored truth e h = go value e
    where
      go : (value : Datum) → truth_of value ≡ Some truth → Does (other_truth setting to value) old outcome new
      go (Truth b) e = let same : b ≡ truth = cc in subst (λ t. Does (put setting to (Truth (not t))) old outcome new) (sym same) h
      go other e = absurd (cc)

pub no_other : (setting : Setting) (to : EffectSite) (w : World) (value : Datum) → truth_of value ≡ None → Does (other_truth setting to value) w Outcome.Stuck w
no_other setting to w (Truth b) e before = absurd (cc)
no_other setting to w other e before = refl

pub datum_of_truth : (truth : Bool) → datum_of (Value.Bool truth) ≡ Truth truth
datum_of_truth truth = ap datum_of (sym (rolls-Bool truth)) ∙ fold-roll-Value Datum datum_of_layer (Value-F.Bool truth)

-- What is done with what stands whole at a place.

pub place_next : (w : World) (place : Place) (s : Located) → whole_at (setting_of true w.graph.now) (with_activations (state_of [] w).activations) (site_of 0 place) ≡ Some s →
    (next : Located → State → Out State) (outcome : Outcome) (new : World) → Does (next s) w outcome new →
    Does (λ v. or_stuck (whole_at (run_setting w) v (site_of 0 place)) (λ s. next s v) v) w outcome new
place_next w place s is next outcome new h before =
    ap seen (ap (λ o. or_stuck o (λ s. next s (state_of before w)) (state_of before w)) (whole_same w.strict w.graph.now (state_of before w) (site_of 0 place) ∙ is)) ∙ h before

pub place_stuck : (w : World) (place : Place) → whole_at (setting_of true w.graph.now) (with_activations (state_of [] w).activations) (site_of 0 place) ≡ None →
    (next : Located → State → Out State) → Does (λ v. or_stuck (whole_at (run_setting w) v (site_of 0 place)) (λ s. next s v) v) w Outcome.Stuck w
place_stuck w place is next before =
    ap seen (ap (λ o. or_stuck o (λ s. next s (state_of before w)) (state_of before w)) (whole_same w.strict w.graph.now (state_of before w) (site_of 0 place) ∙ is))

-- Printing.

pub number_printed : (setting : Setting) (w : World) (new : World) (value : Datum) (number shown : ℤ) → number_of value ≡ Some number →
    ((before : Trace) → state_of before new ≡ with_event (Event.Printed shown) (state_of before w)) → shown ≡ number → Does (printed setting value) w Outcome.Goes new
number_printed setting w new (Number n) number shown e told same before =
    let is : n ≡ number = cc in
    ap (λ k. Goes (with_event (Event.Printed k) (state_of before w))) (is ∙ sym same) ∙ ap Goes (sym (told before))
number_printed setting w new other number shown e told same before = absurd (cc)

pub nothing_printed : (setting : Setting) (w : World) (value : Datum) → number_of value ≡ None → Does (printed setting value) w Outcome.Stuck w
nothing_printed setting w (Number n) e before = absurd (cc)
nothing_printed setting w other e before = refl

-- What is told after a value was stored.

told_after_going : (setting : Setting) (event : Event) (o : Out State) (w : State) → seen o ≡ Goes w → seen (tell_after setting event o) ≡ Goes (with_event event w)
told_after_going setting event (Go v) w e = let same : v ≡ w = cc in ap (λ v. Goes (with_event event v)) same
told_after_going setting event (Unwind v) w e = absurd (cc)
told_after_going setting event (Halts halt v) w e = absurd (cc)

not_told : (setting : Setting) (event : Event) (o : Out State) (outcome : Outcome) (w : State) → seen o ≡ leaves outcome w → (outcome ≡ Outcome.Goes → ⊥) → seen (tell_after setting event o) ≡ leaves outcome w
not_told setting event (Go v) Outcome.Goes w e h = absurd (h refl)
not_told setting event (Go v) Outcome.Panics w e h = absurd (cc)
not_told setting event (Go v) Outcome.Stuck w e h = absurd (cc)
not_told setting event (Unwind v) outcome w e h = e
not_told setting event (Halts halt v) outcome w e h = e

module _ (setting : Setting) (to : EffectSite) (value : Datum) (event : Event) (old mid : World) where
  pub stored_then_told : (new : World) → Does (put setting to value) old Outcome.Goes mid → ((before : Trace) → state_of before new ≡ with_event event (state_of before mid)) →
      Does (stored_and_told setting to value event) old Outcome.Goes new
  stored_then_told new h told before = told_after_going setting event (put setting to value (state_of before old)) (state_of before mid) (h before) ∙ ap Goes (sym (told before))

  pub not_stored : (outcome : Outcome) → Does (put setting to value) old outcome mid → (outcome ≡ Outcome.Goes → ⊥) → Does (stored_and_told setting to value event) old outcome mid
  not_stored outcome h other before = not_told setting event (put setting to value (state_of before old)) outcome (state_of before mid) (h before) other

-- a box is made with the serial number that was drawn
pub box_made : (setting : Setting) (to : EffectSite) (old drawn new : World) (outcome : Outcome) (serial : ℕ) (content : Datum) → serial ≡ old.serial →
    ((before : Trace) → state_of before drawn ≡ numbered_next (state_of before old)) →
    Does (stored_and_told setting to (Box serial None content) (Event.Boxed serial)) drawn outcome new → Does (boxed setting to content) old outcome new
box_made setting to old drawn new outcome serial content is next h before =
    ap (λ n. seen (stored_and_told setting to (Box n None content) (Event.Boxed n) (numbered_next (state_of before old)))) (sym is)
    ∙ ap (λ w. seen (stored_and_told setting to (Box serial None content) (Event.Boxed serial) w)) (sym (next before)) ∙ h before

pub box_whole : (serial : ℕ) (content value : Datum) → value ≡ Box serial None content → IsWhole content → IsWhole value
box_whole serial content value e h = subst IsWhole (sym e) h

-- What comes after two operands.

module _ (old mid last : World) (left right : Operand) (t u : Option Value) (first : (before : Trace) → Evaluates (run_setting old) left (state_of before old) t (state_of before mid))
    (second : (before : Trace) → Evaluates (run_setting mid) right (state_of before mid) u (state_of before last)) (same : run_setting mid ≡ run_setting old) (next : Datum → Datum → State → Out State) where
  abbrev does_both : State → Out State
  does_both w = with_two_operands (run_setting old) (operand_of 0 left) (operand_of 0 right) w next

  pub two_do : (a b : Value) → t ≡ Some a → u ≡ Some b → (outcome : Outcome) (new : World) → Does (next (datum_of a) (datum_of b)) last outcome new → Does does_both old outcome new
  two_do a b e f outcome new h =
      then_does old mid left t first a e (λ x w. with_operand (run_setting old) (operand_of 0 right) w (next x)) outcome new
      (in_setting (run_setting mid) (run_setting old) same (λ s w. with_operand s (operand_of 0 right) w (next (datum_of a))) mid outcome new
      (then_does mid last right u second b f (next (datum_of a)) outcome new h))

  pub second_stuck : (a : Value) → t ≡ Some a → u ≡ None → Does does_both old Outcome.Stuck last
  second_stuck a e f =
      then_does old mid left t first a e (λ x w. with_operand (run_setting old) (operand_of 0 right) w (next x)) Outcome.Stuck last
      (in_setting (run_setting mid) (run_setting old) same (λ s w. with_operand s (operand_of 0 right) w (next (datum_of a))) mid Outcome.Stuck last
      (stuck_does mid last right u second f (next (datum_of a))))

-- Comparing.

number_pair : (operator : Cmp) (a b : ℤ) → compared operator (Number a) (Number b) ≡ Some (compared_as operator a b)
number_pair Cmp.Eq a b = refl
number_pair other a b = refl

pub numbers_compared : (operator : Cmp) (left right : Datum) (a b : ℤ) → number_of left ≡ Some a → number_of right ≡ Some b → compared operator left right ≡ Some (compared_as operator a b)
numbers_compared operator (Number n) (Number m) a b e f =
    let same : n ≡ a = cc in
    let other : m ≡ b = cc in
    number_pair operator n m ∙ ap (λ n. Some (compared_as operator n m)) same ∙ ap (λ m. Some (compared_as operator a m)) other
numbers_compared operator (Number n) other a b e f = absurd (cc)
numbers_compared operator other right a b e f = absurd (cc)

pub no_number_compared : (operator : Cmp) (left right : Datum) (a : ℤ) → number_of left ≡ Some a → number_of right ≡ None → compared operator left right ≡ None
no_number_compared operator (Number n) (Number m) a e f = absurd (cc)
no_number_compared operator (Number n) other a e f = refl
no_number_compared operator other right a e f = absurd (cc)

truth_number : (operator : Cmp) (a b : Bool) → compared operator (Truth a) (Truth b) ≡ Some (compared_as operator (number_by_truth a) (number_by_truth b))
truth_number Cmp.Eq true true = refl
truth_number Cmp.Eq true false = refl
truth_number Cmp.Eq false true = refl
truth_number Cmp.Eq false false = refl
truth_number other true true = refl
truth_number other true false = refl
truth_number other false true = refl
truth_number other false false = refl

pub truths_compared : (operator : Cmp) (left right : Datum) (a b : Bool) → truth_of left ≡ Some a → truth_of right ≡ Some b →
    compared operator left right ≡ Some (compared_as operator (number_by_truth a) (number_by_truth b))
truths_compared operator (Truth n) (Truth m) a b e f =
    let same : n ≡ a = cc in
    let other : m ≡ b = cc in
    truth_number operator n m ∙ ap (λ n. Some (compared_as operator (number_by_truth n) (number_by_truth m))) same
    ∙ ap (λ m. Some (compared_as operator (number_by_truth a) (number_by_truth m))) other
truths_compared operator (Truth n) other a b e f = absurd (cc)
truths_compared operator other right a b e f = absurd (cc)

pub no_truth_compared : (operator : Cmp) (left right : Datum) (a : Bool) → truth_of left ≡ Some a → truth_of right ≡ None → compared operator left right ≡ None
no_truth_compared operator (Truth n) (Truth m) a e f = absurd (cc)
no_truth_compared operator (Truth n) other a e f = refl
no_truth_compared operator other right a e f = absurd (cc)

pub nothing_compared : (operator : Cmp) (left right : Datum) → number_of left ≡ None → truth_of left ≡ None → compared operator left right ≡ None
nothing_compared operator (Number n) right e f = absurd (cc)
nothing_compared operator (Truth n) right e f = absurd (cc)
nothing_compared operator Gone right e f = refl
nothing_compared operator UnitValue right e f = refl
nothing_compared operator (Aggregate variant serial parts) right e f = refl
nothing_compared operator (Box serial impl_no inside) right e f = refl
nothing_compared operator (Address address) right e f = refl

module _ (setting : Setting) (to : EffectSite) (last : World) where
  abbrev stores_truth : Option Bool → State → Out State
  stores_truth o = put_if setting to (option_map_or (λ t. Some (Truth t)) o None)

  pub truth_stored : (o : Option Bool) (truth : Bool) → o ≡ Some truth → (outcome : Outcome) (new : World) → Does (put setting to (Truth truth)) last outcome new → Does (stores_truth o) last outcome new
  truth_stored o truth e outcome new h = subst (λ o. Does (stores_truth o) last outcome new) (sym e) h

  pub no_truth_stored : (o : Option Bool) → o ≡ None → Does (stores_truth o) last Outcome.Stuck last
  no_truth_stored o e = subst (λ o. Does (stores_truth o) last Outcome.Stuck last) (sym e) (λ before. refl)

-- Making.

-- the number and the `Drop` body of a struct or an enum
abbrev impl_by : ℕ → Option ℕ → Option (ℕ × ℕ)
impl_by adt None = None
impl_by adt (Some body) = Some (adt, body)

abbrev made_by : ℕ → ℕ → List Datum → Option ℕ → Option (ℕ × ℕ) → Datum
made_by adt variant parts serial None = Aggregate variant None (data_from parts)
made_by adt variant parts serial (Some of) = Aggregate variant serial (data_from parts)

built_is : (setting : Setting) (to : EffectSite) (adt variant : ℕ) (parts : List Datum) (w : State) (body : Option ℕ) → option_map_or (λ (adt : Adt). adt.drop_body) (slice_get setting.items.adts adt) None ≡ body →
    built setting to (OfVariant adt variant) parts w ≡ made_event setting adt to (made_by adt variant parts (Some w.serial) (impl_by adt body)) (impl_by adt body) w
built_is setting to adt variant parts w None e = rw e refl
built_is setting to adt variant parts w (Some body) e = rw e refl

module _ (setting : Setting) (to : EffectSite) (adt variant : ℕ) (parts : List Datum) (old : World) (body : Option ℕ)
    (is : option_map_or (λ (adt : Adt). adt.drop_body) (slice_get setting.items.adts adt) None ≡ body) where
  pub unnumbered_made : body ≡ None → (outcome : Outcome) (new : World) → Does (put setting to (Aggregate variant None (data_from parts))) old outcome new →
      Does (built setting to (OfVariant adt variant) parts) old outcome new
  unnumbered_made e outcome new h before = ap seen (built_is setting to adt variant parts (state_of before old) None (is ∙ e)) ∙ h before

  pub numbered_made : (some : ℕ) → body ≡ Some some → (drawn new : World) (outcome : Outcome) (serial : ℕ) → serial ≡ old.serial →
      ((before : Trace) → state_of before drawn ≡ numbered_next (state_of before old)) →
      Does (stored_and_told setting to (Aggregate variant (Some serial) (data_from parts)) (Event.Make adt serial)) drawn outcome new →
      Does (built setting to (OfVariant adt variant) parts) old outcome new
  numbered_made some e drawn new outcome serial same next h before =
      ap seen (built_is setting to adt variant parts (state_of before old) (Some some) (is ∙ e))
      ∙ ap (λ n. seen (stored_and_told setting to (Aggregate variant (Some n) (data_from parts)) (Event.Make adt n) (numbered_next (state_of before old)))) (sym same)
      ∙ ap (λ w. seen (stored_and_told setting to (Aggregate variant (Some serial) (data_from parts)) (Event.Make adt serial) w)) (sym (next before)) ∙ h before

pub none_there : (o : Option ℕ) → is_some o ≡ false → o ≡ None
none_there None e = refl
none_there (Some n) e = absurd (true≢false e)

pub some_there : (o : Option ℕ) → is_some o ≡ true → (n : ℕ) × (o ≡ Some n)
some_there None e = absurd (true≢false (sym e))
some_there (Some n) e = (n, refl)
