-- Operands, in any run of the graph.
use Rattle.std.proofs.Common.{◌≡◌, ℕ, Bool, true, false, List, [], ◌∷◌, ◌++◌, map, All, Option, Some, None, Result, Ok, Err, IfOk, OnOk, MatchOption, refl, ap, sym, subst, ◌∙◌, ◌+◌, ◌<◌, suc, length, drop, get_or, arith, append_assoc, append-nil}
use Rattle.std.proofs.Math.Seq.{drop-cons}
use Rattle.std.proofs.lemmas.List.{map-append}
use Rattle.std.proofs.lemmas.List.Elements.{All-push}
use Rattle.std.specs.Option.{option_map, option_map_or}
use Rattle.cfg_graph.specs.declared.graph.Graph.{Graph}
use Rattle.cfg_graph.specs.declared.place.Place.{Place}
use Rattle.cfg_meaning.specs.Actions.{site_of, operand_of, operands_of}
use Rattle.cfg_meaning.specs.Programs.{setting_of}
use Rattle.machine_store.specs.Standing.{with_activations}
use Rattle.machine_steps.specs.Worlds.{copied_at, moved_at, Evaluates, EvaluatesAll}
use Rattle.machine_store.proofs.SameReach.{reach_same}
use Rattle.machine_store.proofs.Stands.{Stands, reach_stands, ReachesStanding}
use Rattle.store_model.proofs.Values.Wholeness.{is_whole-iff_IsWhole}
use Rattle.store_model.specs.Concrete.Effects.{whole_at, evaluate_operand, evaluate_operands}
use Rattle.cfg_graph.specs.declared.place.Operand.{Operand}
use Rattle.cfg_graph.specs.declared.place.Operand.TheVariants.{Copied, Moved, Number, Truth, Unit}
use Rattle.store_model.specs.Concrete.Location.{Setting, Located, Reached, Reaches, CutOff, Nowhere, reach, stored_at}
use Rattle.store_model.specs.Concrete.State.{State}
use Rattle.store_model.specs.Effects.{EffectSite}
use Rattle.store_model.specs.Values.Datum as a_datum
use Rattle.store_model.specs.Values.Datum.{Datum, Gone, datum_of}
use Rattle.store_model.specs.declared.value.Value.{Value}
use Rattle.store_model.specs.Values.Wholeness.{IsWhole, is_whole}

pub whole_same : (strict : Bool) (graph : Graph) (w : State) (site : EffectSite) → whole_at (setting_of strict graph) w site ≡ whole_at (setting_of true graph) (with_activations w.activations) site
whole_same strict graph w site = rw (reach_same strict graph w site.place) refl

-- what stands whole at a place is whole, and stands there
module _ (setting : Setting) (w : State) (site : EffectSite) (s : Located) (is : whole_at setting w site ≡ Some s) where
  found_whole : (r : Reached) → reach setting w site.place ≡ r → ReachesStanding w.activations r → IsWhole s.value × Stands w.activations s
  found_whole CutOff e h = absurd (let k : None ≡ Some s = sym (rw e refl) ∙ is in cc)
  found_whole Nowhere e h = absurd (let k : None ≡ Some s = sym (rw e refl) ∙ is in cc)
  found_whole (Reaches found) e h = go (is_whole found.value) refl
    where
      go : (b : Bool) → is_whole found.value ≡ b → IsWhole s.value × Stands w.activations s
      go false d = absurd (let k : None ≡ Some s = sym (rw (e, d) refl) ∙ is in cc)
      go true d =
          let k : Some found ≡ Some s = sym (rw (e, d) refl) ∙ is in
          let same : found ≡ s = cc in
          subst (λ s. IsWhole s.value × Stands w.activations s) same ((is_whole-iff_IsWhole found.value).0 d, h)

  pub whole_found : IsWhole s.value × Stands w.activations s
  whole_found = found_whole (reach setting w site.place) refl (reach_stands setting w site.place)

module _ (strict : Bool) (graph : Graph) (place : Place) (w : State) where
  pub copied_none : whole_at (setting_of true graph) (with_activations w.activations) (site_of 0 place) ≡ None → evaluate_operand (setting_of strict graph) (copied_at place) w ≡ None
  copied_none e = ap (λ o. option_map_or (λ s. Some (s.value, w)) o None) (whole_same strict graph w (site_of 0 place) ∙ e)

  pub moved_none : whole_at (setting_of true graph) (with_activations w.activations) (site_of 0 place) ≡ None → evaluate_operand (setting_of strict graph) (moved_at place) w ≡ None
  moved_none e = ap (λ o. option_map_or (λ s. Some (s.value, stored_at s.address Gone w)) o None) (whole_same strict graph w (site_of 0 place) ∙ e)

  module _ (s : Located) (is : whole_at (setting_of true graph) (with_activations w.activations) (site_of 0 place) ≡ Some s) where
    pub place_whole : IsWhole s.value × Stands w.activations s
    place_whole = whole_found (setting_of strict graph) w (site_of 0 place) s (whole_same strict graph w (site_of 0 place) ∙ is)

    pub copied_some : (value : Datum) → value ≡ s.value → IsWhole value × (evaluate_operand (setting_of strict graph) (copied_at place) w ≡ Some (value, w))
    copied_some value e = (
      subst IsWhole (sym e) place_whole.0,
      ap (λ o. option_map_or (λ s. Some (s.value, w)) o None) (whole_same strict graph w (site_of 0 place) ∙ is) ∙ ap (λ v. Some (v, w)) (sym e),
    )

    pub moved_some : (value : Datum) → value ≡ s.value → IsWhole value × (evaluate_operand (setting_of strict graph) (moved_at place) w ≡ Some (value, stored_at s.address Gone w))
    moved_some value e = (
      subst IsWhole (sym e) place_whole.0,
      ap (λ o. option_map_or (λ s. Some (s.value, stored_at s.address Gone w)) o None) (whole_same strict graph w (site_of 0 place) ∙ is) ∙ ap (λ v. Some (v, stored_at s.address Gone w)) (sym e),
    )

pub if_ok_both : {T E : Type 0} (r : Result T E) (P R : T → Type 0) (Q : Type 0) → IfOk r P → OnOk r Q → ((x : T) → P x → Q → R x) → IfOk r R
if_ok_both (Ok x) P R Q p q f = f x p q
if_ok_both (Err e) P R Q p q f = tt

-- what was taken of a whole place
pub taken_whole : (strict : Bool) (graph : Graph) (place : Place) (w after : State) (s : Located) →
    whole_at (setting_of true graph) (with_activations w.activations) (site_of 0 place) ≡ Some s → stored_at s.address Gone w ≡ after →
    (taken : Option Value) → option_map datum_of taken ≡ Some s.value →
    MatchOption taken ((evaluate_operand (setting_of strict graph) (moved_at place) w ≡ None) × (after ≡ w))
    (λ value. IsWhole (datum_of value) × (evaluate_operand (setting_of strict graph) (moved_at place) w ≡ Some (datum_of value, after)))
taken_whole strict graph place w after s is stored None e = absurd (cc)
taken_whole strict graph place w after s is stored (Some value) e =
    let same : datum_of value ≡ s.value = cc in
    let h = moved_some strict graph place w s is (datum_of value) same in
    (h.0, h.1 ∙ ap (λ v. Some (datum_of value, v)) stored)

-- these operands gave these values, and those are left
abbrev with_rest : List Datum → Option (List Datum × State) → Option (List Datum × State)
with_rest values o = option_map_or (λ (rest : List Datum × State). Some (values ++ rest.0, rest.1)) o None

pub record EvaluatedSoFar (setting : Setting) (operands : List Operand) (w : State) (values : List Value) (left : List Operand) (now : State) : Type 0 where
  pub whole : All (λ value. IsWhole (datum_of value)) values
  pub told : now.trace ≡ w.trace
  pub gave : evaluate_operands setting (operands_of 0 operands) w ≡ with_rest (map datum_of values) (evaluate_operands setting (operands_of 0 left) now)

-- an operand that copies leaves the same state
pub evaluates_copied : (setting : Setting) (place : Place) (w : State) (taken : Option Value) →
    MatchOption taken (evaluate_operand setting (copied_at place) w ≡ None) (λ value. IsWhole (datum_of value) × (evaluate_operand setting (copied_at place) w ≡ Some (datum_of value, w))) →
    Evaluates setting (Copied place) w taken w
evaluates_copied setting place w None h = (h, refl)
evaluates_copied setting place w (Some value) h = h

-- one operand more
operand_gave : (setting : Setting) (operand : Operand) (left : List Operand) (now after : State) (value : Value) → evaluate_operand setting (operand_of 0 operand) now ≡ Some (datum_of value, after) →
    evaluate_operands setting (operands_of 0 (operand ∷ left)) now ≡ with_rest (datum_of value ∷ []) (evaluate_operands setting (operands_of 0 left) after)
operand_gave setting operand left now after value e = rw e refl

rests_join : (before : List Datum) (value : Datum) (o : Option (List Datum × State)) → with_rest before (with_rest (value ∷ []) o) ≡ with_rest (before ++ value ∷ []) o
rests_join before value None = refl
rests_join before value (Some rest) = ap (λ l. Some (l, rest.1)) (sym (append_assoc before (value ∷ []) rest.0))

second_of : (a b : Datum) (w after : State) → ◌≡◌ {A = Option (Datum × State)} (Some (a, w)) (Some (b, after)) → w ≡ after
second_of a b w after e = ap (λ (o : Option (Datum × State)). option_map_or {U = State} (λ (p : Datum × State). p.1) o w) e

found_same_trace : (now after : State) (value : Datum) (o : Option Located) (f : Located → State) → ((s : Located) → (f s).trace ≡ now.trace) →
    option_map_or {U = Option (Datum × State)} (λ s. Some (s.value, f s)) o None ≡ Some (value, after) → after.trace ≡ now.trace
found_same_trace now after value None f same e = absurd (cc)
found_same_trace now after value (Some s) f same e = ap (λ w. w.trace) (sym (second_of s.value value (f s) after e)) ∙ same s

pub operand_same_trace : (setting : Setting) (operand : Operand) (now after : State) (value : Datum) → evaluate_operand setting (operand_of 0 operand) now ≡ Some (value, after) → after.trace ≡ now.trace
operand_same_trace setting (Copied place) now after value e = found_same_trace now after value (whole_at setting now (site_of 0 place)) (λ s. now) (λ s. refl) e
operand_same_trace setting (Moved place) now after value e =
    found_same_trace now after value (whole_at setting now (site_of 0 place)) (λ s. stored_at s.address Gone now) (λ s. refl) e
operand_same_trace setting (Number number kind) now after value e = ap (λ w. w.trace) (sym (second_of (a_datum.Number number) value now after e))
operand_same_trace setting (Truth truth) now after value e = ap (λ w. w.trace) (sym (second_of (a_datum.Truth truth) value now after e))
operand_same_trace setting Unit now after value e = ap (λ w. w.trace) (sym (second_of a_datum.UnitValue value now after e))

module _ (setting : Setting) (operands : List Operand) (w : State) (values : List Value) where
  pub none_left : (operand : Operand) (rest : List Operand) (now after : State) → EvaluatedSoFar setting operands w values (operand ∷ rest) now → Evaluates setting operand now None after →
      (evaluate_operands setting (operands_of 0 operands) w ≡ None) × (after.trace ≡ w.trace)
  none_left operand rest now after so_far h =
      let none : evaluate_operands setting (operands_of 0 (operand ∷ rest)) now ≡ None = rw h.0 refl in
      (so_far.gave ∙ ap (with_rest (map datum_of values)) none, ap (λ w. w.trace) h.1 ∙ so_far.told)

  pub one_more : (operand : Operand) (rest : List Operand) (now after : State) (value : Value) → EvaluatedSoFar setting operands w values (operand ∷ rest) now →
      Evaluates setting operand now (Some value) after → EvaluatedSoFar setting operands w (values ++ value ∷ []) rest after
  one_more operand rest now after value so_far h = record {
    whole = All-push (λ value. IsWhole (datum_of value)) values value so_far.whole h.0;
    told = operand_same_trace setting operand now after (datum_of value) h.1 ∙ so_far.told;
    gave = so_far.gave ∙ ap (with_rest (map datum_of values)) (operand_gave setting operand rest now after value h.1)
        ∙ rests_join (map datum_of values) (datum_of value) (evaluate_operands setting (operands_of 0 rest) after)
        ∙ ap (λ l. with_rest l (evaluate_operands setting (operands_of 0 rest) after)) (sym (map-append datum_of values (value ∷ [])));
  }

  pub all_done : (now : State) → EvaluatedSoFar setting operands w values [] now → EvaluatesAll setting operands w (Some values) now
  all_done now so_far = (so_far.whole, so_far.gave ∙ ap (λ l. Some (l, now)) (append-nil (map datum_of values)))

-- the next one of those that are left
pub next_left : {A : Type 0} (list : List A) (n : ℕ) (x : A) → n < length list → x ≡ get_or list n x → drop n list ≡ x ∷ drop (n + 1) list
next_left list n x within is = drop-cons list n x within ∙ ap (λ y. y ∷ drop (suc n) list) (sym is) ∙ ap (λ m. x ∷ drop m list) (let e : suc n ≡ n + 1 = omega arith in e)
