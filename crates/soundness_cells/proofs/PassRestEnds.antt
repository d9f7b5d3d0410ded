-- What is left of the tests of drops, conditions and results where the first test holds: of a place that is replaced or
-- looked at what has to be known of it, and that it may be changed; of a result that it is whole.
use Rattle.std.proofs.Common.{◌≡◌, is_some, ℕ, ◌&&◌, ◌||◌, not, Bool, true, false, List, [], Option, Some, None, refl, ap, sym, subst}
use Rattle.std.specs.Prelude.{option_and_then}
use Rattle.std.specs.Option.{option_map_or}
use Rattle.std.specs.Cmp.Derive.{both_true}
use Rattle.std.proofs.lemmas.Bool.{false≢true}
use Rattle.mir_ty.specs.declared.ty.Ty.{Ty}
use Rattle.mir_ty.specs.declared.ty.TyId.{TyId}
use Rattle.mir_ty.specs.ItemTable.{ItemTable, type_at}
use Rattle.store_model.specs.Abstract.Presence.{Presence, all_present}
use Rattle.store_model.specs.Abstract.Effects.{presence}
use Rattle.store_model.specs.Effects as effects
use Rattle.store_model.specs.Effects.{EffectSite, Operand, Mode}
use Rattle.mir_ty.specs.Facts.{needs_drop}
use Rattle.src_meaning.specs.Locals.OfBody.{local_ty}
use Rattle.store_model.specs.Places.Place.{Place, whole_local, ty_along, is_reference}
use Rattle.store_model.specs.Places.TypeForms.{is_bool}
use Rattle.soundness_values.proofs.Checks as checks
use Rattle.soundness_values.proofs.Checks.{no_steps}
use Rattle.soundness_values.proofs.Facts.{Facts}
use Rattle.soundness_cells.proofs.PassCellTests as tests
use Rattle.soundness_cells.proofs.PassCellTests.{alone}
use Rattle.soundness_cells.proofs.PassCellTypes.{left_of, right_of, is_false, dropped_no_reference}
use Rattle.soundness_cells.proofs.PassSure.{known_place}
use Rattle.soundness_cells.proofs.PassRest as acts
use Rattle.soundness_cells.proofs.PassRest.{whole_is}
use Rattle.soundness_values.proofs.Running.{sure_in}

module _ (items : ItemTable) (local_ty : ℕ → Option TyId) (is_target : ℕ → Bool)
    (own : (l : ℕ) (id : TyId) → local_ty l ≡ Some id → is_reference (type_at items id) ≡ false → is_target l ≡ false)
  where
    abbrev Cells : Type 0
    Cells = List (ℕ × Presence)

    abbrev T : Option TyId → Option Ty
    T o = option_and_then (type_at items) (option_and_then (ty_along items []) o)

    abbrev known : Facts → Place → Bool
    known = known_place items local_ty is_target

    abbrev form_of : Operand → Option Ty
    form_of = checks.form_of items local_ty is_target

    -- what needs dropping stands in no reference
    dropped_whole : (mode : Mode) (facts : Facts) (l : ℕ) → checks.needs items local_ty is_target (whole_local l) ≡ true →
        facts.refilled ≡ None → checks.may_drop items local_ty is_target mode facts (whole_local l) ≡ true
    dropped_whole mode facts l h e = both_true (ap checks.is_none e) (both_true (by (local_ty l) refl h) refl)
      where
        by : (o : Option TyId) → local_ty l ≡ o →
            option_map_or (needs_drop items) (option_and_then (ty_along items []) o) false ≡ true →
            sure_in items local_ty is_target facts (whole_local l) o ≡ true
        by None e h = absurd (false≢true h)
        by (Some id) e h =
            acts.whole_sure items local_ty is_target own facts l id e (is_false (is_reference (type_at items id)) (dropped_no_reference items id h))

    -- an entry that needs dropping may be dropped
    pub drops_left : (mode : Mode) (facts : Facts) (place : Place) → no_steps place.steps ≡ true →
        checks.needs items local_ty is_target place ≡ true → facts.refilled ≡ None →
        checks.may_drop items local_ty is_target mode facts place ≡ true
    drops_left mode facts place n h e =
        let w = whole_is place n in
        subst (λ p. checks.may_drop items local_ty is_target mode facts p ≡ true) (sym w)
        (dropped_whole mode facts place.local (subst (λ p. checks.needs items local_ty is_target p ≡ true) w h) e)

    -- a value in a whole local is no reference
    pub plain_value : (place : Place) → no_steps place.steps ≡ true →
        tests.value_at items local_ty is_target place ≡ true → tests.plain_local items local_ty is_target place ≡ true
    plain_value place n h = by (local_ty place.local)
        (subst (λ p. tests.value_at items local_ty is_target p ≡ true) (whole_is place n) h)
      where
        by : (o : Option TyId) → (tests.leads_in items local_ty is_target (whole_local place.local) o
            && (not (is_reference (T o)) && not (Rattle.store_model.specs.Places.TypeForms.is_dyn (T o)))) ≡ true →
            option_map_or (tests.no_reference items) o false ≡ true
        by None h = absurd (false≢true h)
        by (Some id) h = left_of (not (is_reference (type_at items id))) _
            (right_of (tests.leads_in items local_ty is_target (whole_local place.local) (Some id)) _ h)

    -- so may one that holds no reference, which needs it or not
    pub plain_dropped : (mode : Mode) (facts : Facts) (place : Place) → no_steps place.steps ≡ true →
        tests.plain_local items local_ty is_target place ≡ true → facts.refilled ≡ None →
        checks.may_drop items local_ty is_target mode facts place ≡ true
    plain_dropped mode facts place n h e =
        let w = whole_is place n in
        subst (λ p. checks.may_drop items local_ty is_target mode facts p ≡ true) (sym w)
        (both_true (ap checks.is_none e) (both_true (by (local_ty place.local) refl h) refl))
      where
        by : (o : Option TyId) → local_ty place.local ≡ o → option_map_or (tests.no_reference items) o false ≡ true →
            sure_in items local_ty is_target facts (whole_local place.local) o ≡ true
        by None k h = absurd (false≢true h)
        by (Some id) k h = acts.whole_sure items local_ty is_target own facts place.local id k
            (is_false (is_reference (type_at items id)) h)

    -- a test of a truth needs no more
    pub truth_left : (facts : Facts) (operand : Operand) →
        tests.cells_test items local_ty is_target (effects.IsTrue operand) ≡ true → facts.refilled ≡ None →
        checks.may_choose items local_ty is_target facts (effects.IsTrue operand) ≡ true
    truth_left facts operand h e =
        both_true (ap checks.is_none e) (acts.taken_and items local_ty is_target own facts operand (is_bool (form_of operand)) h)

    -- of a test of a variant it is left what has to be known of the place
    pub variant_left : (facts : Facts) (site : EffectSite) (variant : ℕ) →
        tests.cells_test items local_ty is_target (effects.HasVariant site variant) ≡ true → facts.refilled ≡ None →
        known facts site.place ≡ true →
        checks.may_choose items local_ty is_target facts (effects.HasVariant site variant) ≡ true
    variant_left facts site variant h e k =
        let leads = tests.leads items local_ty is_target site.place in
        both_true (ap checks.is_none e) (both_true
        (acts.place_sure items local_ty is_target own facts site.place (left_of leads _ h) k) (right_of leads _ h))

    -- of a place of which the value is replaced, what has to be known of it, and that it may be changed
    pub replaced_left : (mode : Mode) (facts : Facts) (place : Place) →
        tests.cells_drop items local_ty is_target mode place ≡ true → no_steps place.steps ≡ false →
        facts.refilled ≡ None → known facts place ≡ true →
        checks.may_change items local_ty is_target place ≡ true →
        checks.may_drop items local_ty is_target mode facts place ≡ true
    replaced_left mode facts place h inside e k c =
        let t = by (no_steps place.steps) (tests.plain_local items local_ty is_target place)
        (checks.is_normal items local_ty is_target mode)
        (tests.leads items local_ty is_target place) (checks.is_value items local_ty is_target place)
        (checks.may_change items local_ty is_target place) (checks.needs items local_ty is_target place) inside c h in
        both_true (ap checks.is_none e)
        (both_true (acts.place_sure items local_ty is_target own facts place t.0 k) t.1)
      where
        by : (s p n l v m d : Bool) → s ≡ false → m ≡ true → ((s && p) || (n && ((l && v) && d))) ≡ true →
            (l ≡ true) × ((s || (n && ((v && m) && d))) ≡ true)
        by true p n l v m d is e h = absurd (false≢true (sym is))
        by false p true true true true true is e h = (refl, refl)
        by false p false l v m d is e h = absurd (false≢true h)
        by false p true false v m d is e h = absurd (false≢true h)
        by false p true true false m d is e h = absurd (false≢true h)
        by false p true true true false d is e h = absurd (false≢true e)
        by false p true true true true false is e h = absurd (false≢true h)

    -- of a result it is left that it is whole
    pub gives_left : (facts : Facts) (cells : Cells) (place : Place) →
        tests.cells_give items local_ty is_target place ≡ true → facts.refilled ≡ None →
        all_present (presence place.local cells) ≡ true →
        checks.may_give items local_ty is_target facts cells place ≡ true
    gives_left facts cells place h e full =
        let w = whole_is place (left_of (no_steps place.steps) _ h) in
        both_true (ap checks.is_none e) (both_true (left_of (no_steps place.steps) _ h)
        (subst (λ p. (not (is_target place.local) && (all_present (presence place.local cells)
        && is_some (checks.id_of items local_ty is_target p))) ≡ true) (sym w)
        (by (local_ty place.local) refl (right_of (no_steps place.steps) _ h))))
      where
        by : (o : Option TyId) → local_ty place.local ≡ o → option_map_or (alone items) o false ≡ true →
            (not (is_target place.local) && (all_present (presence place.local cells)
            && is_some (option_and_then (ty_along items []) o))) ≡ true
        by None k h = absurd (false≢true h)
        by (Some id) k h = both_true (acts.local_free items local_ty is_target own place.local id k (acts.no_name items local_ty is_target own id h)) (both_true full refl)
