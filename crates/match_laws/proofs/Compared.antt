-- A comparison of what stands at a place with a literal, as a test: it is made in a local that holds nothing, and taken out
-- of it again, so the state is the same behind it.
use Rattle.std.proofs.Common.{◌≡◌, ℕ, ℤ, ◌==◌, Bool, true, false, List, [], ◌∷◌, length, Option, Some, None, if◌then◌else◌, refl, ap, sym, ◌∙◌, subst}
use Rattle.std.specs.Prelude.{option_and_then}
use Rattle.std.specs.Option.{option_map_or}
use Rattle.std.proofs.lemmas.Bool.Decides.{Decides-eqb}
use Rattle.mir_base.specs.declared.operator.Cmp.{Cmp}
use Rattle.mir_base.specs.Trace.{Trace}
use Rattle.mir_ty.specs.declared.ty.TyId.{TyId}
use Rattle.mir_ty.specs.ItemTable.{ItemTable, type_at}
use Rattle.store_model.specs.Values.Datum.{Datum, Gone, Truth}
use Rattle.store_model.specs.Effects as effects
use Rattle.store_model.specs.Effects.{EffectSite, Operand, Stuck, Out, Go, Choice, Yes, No, Neither, halting_if}
use Rattle.store_model.specs.Places.Place.{Place, whole_local}
use Rattle.store_model.specs.Places.TypeForms.{is_never}
use Rattle.store_model.specs.Concrete.Effects.{act, acted, compared, put, put_if, choose, chosen_truth, evaluate_operand, whole, whole_at, or_stuck, never_at}
use Rattle.store_model.specs.Concrete.Location.{Setting, OfType, Located, Reached, Reaches, CutOff, Nowhere, on_reached, reach_of, located_root, root_address, along, reach, stored_at}
use Rattle.store_model.specs.Concrete.State.{State, Activation, Bodies, Cells, cell, with_cell}
use Rattle.soundness_values.specs.Frames.{SameCells, Alike, one_runs}
use Rattle.soundness_values.proofs.Standings.{cell_changed, cell_other, changed_again, alike_itself}
use Rattle.match_laws.specs.Matches.{Same, Answers}

same_key : (n : ℕ) → (n == n) ≡ true
same_key n = (Decides-eqb n n).1 refl

-- a local into which a value came, and from which it was taken
abbrev pub with_none : ℕ → Datum → Cells → Cells
with_none key value held = with_cell key Gone (with_cell key value held)

-- what held nothing holds nothing again
pub emptied : (key : ℕ) (value : Datum) (held : Cells) → cell key held ≡ Gone →
    SameCells held (with_none key value held)
emptied key value held e other = by (other == key) refl ∙ sym (changed_again key value Gone held other)
  where
    by : (b : Bool) → (other == key) ≡ b → cell other held ≡ cell other (with_cell key Gone held)
    by true k =
        let is : other ≡ key = (Decides-eqb other key).0 k in
        subst (λ n. cell n held ≡ cell n (with_cell key Gone held)) (sym is) (e ∙ sym (cell_changed key Gone held))
    by false k = sym (cell_other key other Gone held k)

module _ (setting : Setting) (run : Bodies) (asked : List ℤ) (ticks serial body : ℕ) (older : List Activation)
    (trace : Trace) (key : ℕ) (id : TyId) (typed : setting.local_ty body key ≡ Some id)
    (made : is_never (type_at setting.items id) ≡ false) where
  -- the state in which the youngest body's locals hold this
  abbrev W : Cells → State
  W held = record {
    asked = asked;
    ticks = ticks;
    serial = serial;
    activations = (record { body = body; cells = held }) ∷ older;
    trace = trace;
  }

  abbrev root : Cells → Located
  root held = record { address = root_address (length older) key; dynamic = OfType id; value = cell key held }

  abbrev pub own : EffectSite → EffectSite
  own site = record site { place = whole_local key }

  stored : (d : Datum) (held : Cells) → stored_at (root_address (length older) key) d (W held)
      ≡ W (with_cell key d held)
  stored d held = ap (λ b. record (W held) {
    activations = if b then (record { body = body; cells = with_cell key d held }) ∷ older
        else (record { body = body; cells = held }) ∷ Rattle.store_model.specs.Concrete.State.with_cell_at
        (length older) key d older;
  }) (same_key (length older))

  reached : (held : Cells) → reach setting (W held) (whole_local key) ≡ Reaches (root held)
  reached held =
      ap (λ o. on_reached (reach_of (located_root (length older) key held o)) (along setting (W held) held []) CutOff
      Nowhere) typed

  put_there : (site : EffectSite) (d : Datum) (held : Cells) → put setting (own site) d (W held)
      ≡ Go (W (with_cell key d held))
  put_there site d held =
      ap (λ r. on_reached r (λ s. Go (stored_at s.address d (W held))) (effects.Halts Stuck (W held))
      (effects.Halts Stuck (W held))) (reached held)
      ∙ ap Go (stored d held)

  not_never : (site : EffectSite) (held : Cells) → never_at setting (W held) (own site) ≡ false
  not_never site held = ap (λ o. is_never (option_and_then (type_at setting.items) (option_and_then (λ i. Some i) o)))
      typed ∙ made

  pub truth_taken : (site : EffectSite) (t : Bool) (held : Cells) →
      choose setting (effects.IsTrue (effects.Moved (own site))) (W (with_cell key (Truth t) held))
      ≡ (if t then Yes (W (with_cell key Gone (with_cell key (Truth t) held)))
      else No (W (with_cell key Gone (with_cell key (Truth t) held))))
  truth_taken site t held = ap (λ r. chosen_truth setting (option_map_or (λ (s : Located). Some (s.value, stored_at s.address Gone now))
      (on_reached r (whole setting) None None) None) now) (reached (with_cell key (Truth t) held))
      ∙ ap (λ d. chosen_truth setting (option_map_or (λ (s : Located). Some (s.value, stored_at s.address Gone now))
      (whole setting (record (root (with_cell key (Truth t) held)) { value = d })) None) now)
      (cell_changed key (Truth t) held) ∙ by t
    where
      now : State
      now = W (with_cell key (Truth t) held)

      by : (b : Bool) → chosen_truth setting (Some (Truth b, stored_at (root_address (length older) key) Gone now)) now
          ≡ (if b then Yes (W (with_cell key Gone (with_cell key (Truth t) held)))
          else No (W (with_cell key Gone (with_cell key (Truth t) held))))
      by true = ap Yes (stored Gone (with_cell key (Truth t) held))
      by false = ap No (stored Gone (with_cell key (Truth t) held))

  -- what is compared is put into the local
  module _ (site base : EffectSite) (literal : Operand) (d : Datum)
      (is : (w : State) → evaluate_operand setting literal w ≡ Some (d, w)) (s : Located) (t : Bool)
      (answer : compared Cmp.Eq s.value d ≡ Some t) (held : Cells) (there : whole_at setting (W held) base ≡ Some s)
    where
      abbrev pub action : effects.Action
      action = effects.Compare (own site) Cmp.Eq (effects.Copied base) literal

      pub acts : act setting run action (W held) ≡ Go (W (with_cell key (Truth t) held))
      acts =
          ap (λ b. halting_if b Stuck (acted setting run action (W held))) (not_never site held)
          ∙ ap (λ o. or_stuck {A = Datum × State} (option_map_or (λ (x : Located). Some (x.value, W held)) o None)
          (λ one. or_stuck (evaluate_operand setting literal one.1)
          (λ other. put_if setting (own site) (option_map_or (λ b. Some (Truth b)) (compared Cmp.Eq one.0 other.0) None)
          other.1) one.1) (W held)) there
          ∙ ap (λ o. or_stuck {A = Datum × State} o
          (λ other. put_if setting (own site) (option_map_or (λ b. Some (Truth b)) (compared Cmp.Eq s.value other.0) None)
          other.1) (W held)) (is (W held))
          ∙ ap (λ o. put_if setting (own site) (option_map_or (λ b. Some (Truth b)) o None) (W held)) answer
          ∙ put_there site (Truth t) held
