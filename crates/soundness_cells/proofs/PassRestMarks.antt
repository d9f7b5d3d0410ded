-- What it means that a marked run fails by a test that is left, where the other tests hold: a place that is copied, moved,
-- borrowed, looked at or replaced is not known to lead on, may not be moved or changed; a borrow goes to no cell apart; a
-- call is not in order; a result is not whole; or a test of protected parameters fails. No other effect fails so.
use Rattle.std.proofs.Common.{◌≡◌, ℕ, ◌==◌, ◌&&◌, ◌||◌, not, Bool, true, false, List, [], ◌∷◌, Option, Some, None, refl}
use Rattle.std.specs.Prelude.{slice_get}
use Rattle.std.specs.Option.{option_map_or}
use Rattle.std.specs.Cmp.{first_so, second_so}
use Rattle.std.specs.Cmp.Derive.{both_true}
use Rattle.std.proofs.lemmas.Bool.{false≢true}
use Rattle.std.proofs.lemmas.Bool.Decides.{Decides-eqb}
use Rattle.std.proofs.lemmas.Option.{same_Some}
use Rattle.mir_ty.specs.declared.def.Sig.{Sig}
use Rattle.mir_ty.specs.declared.ty.TyId.{TyId}
use Rattle.mir_ty.specs.ItemTable.{ItemTable}
use Rattle.store_model.specs.Abstract.Effects.{AbstractState, presence}
use Rattle.store_model.specs.Abstract.Presence.{Presence, all_present}
use Rattle.store_model.specs.Effects as effects
use Rattle.store_model.specs.Effects.{EffectSite, Action, Mode}
use Rattle.store_model.specs.Places.Place.{Step, Place}
use Rattle.src_meaning.specs.Locals.OfBody.{local_ty}
use Rattle.typed_tree.specs.Tree.{BodyTree}
use Rattle.soundness_values.proofs.AlsoTests.{Also}
use Rattle.soundness_values.proofs.CheckedBodies.{is_reference_param}
use Rattle.soundness_values.proofs.Checks as checks
use Rattle.soundness_values.proofs.Checks.{is_none, no_steps}
use Rattle.soundness_values.proofs.Facts.{Facts, same_place, takes_index}
use Rattle.soundness_cells.proofs.PassAllTests.{rest_mark, rest_marks}
use Rattle.soundness_cells.proofs.PassCellTests as tests
use Rattle.soundness_cells.proofs.PassCellTests.{unless_within, cells_act, cells_test}
use Rattle.soundness_cells.proofs.PassEmpty.{finds_nothing, empty_at}
use Rattle.soundness_cells.proofs.PassRefilled.{none_waits, refills_it}
use Rattle.soundness_cells.proofs.PassRest.{clear_cell, rest_act, place_sure, rest_holds, own_local}
use Rattle.soundness_cells.proofs.PassRestCalls.{left_call, calls_hold}
use Rattle.soundness_cells.proofs.PassRestEnds.{truth_left, variant_left, drops_left, replaced_left, gives_left}
use Rattle.soundness_cells.proofs.PassSure.{known_place}

-- the mark is of what is left only where all other tests hold
not_left : (all own cells calm empty : Bool) → (own ≡ true → all ≡ true) →
    ((cells && (calm && empty)) ≡ true → own ≡ true) → rest_mark all own cells calm empty ≡ Some 5 → ⊥
not_left true own cells calm empty a o h = let never : ⊥ = cc in never
not_left false true cells calm empty a o h = absurd (false≢true (a refl))
not_left false false true true true a o h = absurd (false≢true (o refl))
not_left false false false calm empty a o h = absurd (false≢true ((Decides-eqb 2 5).1 (same_Some 2 5 h)))
not_left false false true false empty a o h = absurd (false≢true ((Decides-eqb 2 5).1 (same_Some 2 5 h)))
not_left false false true true false a o h = absurd (false≢true ((Decides-eqb 2 5).1 (same_Some 2 5 h)))

whole : (steps : List Step) (test : Bool) → no_steps steps ≡ true → unless_within steps test ≡ true →
    (no_steps steps && test) ≡ true
whole [] test n h = h
whole (step ∷ steps) test n h = absurd (false≢true n)

either : (steps : List Step) (test : Bool) → unless_within steps test ≡ true → (no_steps steps || test) ≡ true →
    test ≡ true
either [] test h k = h
either (step ∷ steps) test h k = k

of_not : (a b : Bool) → a ≡ true → (not a || b) ≡ true → b ≡ true
of_not true b e h = h
of_not false b e h = absurd (false≢true e)

none_is : (o : Option Place) → is_none o ≡ true → o ≡ None
none_is None h = refl
none_is (Some place) h = absurd (false≢true h)

calm_in : (cells : Bool) (facts : Facts) → (cells && (is_none facts.refilled && true)) ≡ true → facts.refilled ≡ None
calm_in cells facts h = none_is facts.refilled
    (first_so (is_none facts.refilled) true (second_so cells (is_none facts.refilled && true) h))

module _ (items : ItemTable) (body : BodyTree) where
  abbrev Cells : Type 0
  Cells = List (ℕ × Presence)

  abbrev known : Facts → Place → Bool
  known = known_place items (local_ty items body) (is_reference_param items body)

  abbrev may_change : Place → Bool
  may_change = checks.may_change items (local_ty items body) (is_reference_param items body)

  abbrev may_move : Place → Bool
  may_move = checks.may_move items (local_ty items body) (is_reference_param items body)

  abbrev is_empty : Cells → Place → Bool
  is_empty = checks.is_empty items (local_ty items body) (is_reference_param items body)

  abbrev rest : Facts → Cells → Action → Bool
  rest = rest_act items (local_ty items body) (is_reference_param items body) (own_local items body)

  -- what is left of an action
  abbrev pub left_act : Facts → Cells → Action → Bool
  left_act facts cells (effects.Put to (effects.Copied site)) = known facts site.place
  left_act facts cells (effects.Put to (effects.Moved site)) =
      (known (checks.after_operand items (local_ty items body) (is_reference_param items body) (effects.Moved site) facts)
      to.place && (may_change to.place && (no_steps to.place.steps || is_empty cells to.place)))
      && (known facts site.place && may_move site.place)
  left_act facts cells (effects.Put to from) = true
  left_act facts cells (effects.Compare to operator (effects.Copied site) right) = known facts site.place
  left_act facts cells (effects.Compare to operator (effects.Moved site) right) = true
  left_act facts cells (effects.Not to operand) = true
  left_act facts cells (effects.Build to kind parts) = true
  left_act facts cells (effects.NewBox to content) = true
  left_act facts cells (effects.Unsize to trait_no operand) = true
  left_act facts cells (effects.Compute to operator left right) = true
  left_act facts cells (effects.Negate to operand) = true
  left_act facts cells (effects.Ask to) = true
  left_act facts cells (effects.Call to callee args) = option_map_or (λ (sig : Sig). left_call items (local_ty items body)
      (is_reference_param items body) (own_local items body) facts cells sig.params args)
      (slice_get items.bodies callee) false
  left_act facts cells (effects.CallVirtual to trait_no method args) = option_map_or (λ (head : List TyId × TyId).
      left_call items (local_ty items body) (is_reference_param items body) (own_local items body) facts cells head.0
      args) (checks.head_of items (local_ty items body) (is_reference_param items body) trait_no method) false
  left_act facts cells action = rest facts cells action

  cleared : (cells : Cells) (place : Place) (more : Bool) →
      (tests.target items (local_ty items body) (is_reference_param items body) place && more) ≡ true →
      empty_at items body cells place ≡ true →
      clear_cell items (local_ty items body) (is_reference_param items body) (own_local items body) cells place ≡ true
  cleared cells place more h e = whole place.steps (is_empty cells place)
      (first_so (no_steps place.steps) _
      (first_so (tests.target items (local_ty items body) (is_reference_param items body) place) more h)) e

  twice : (cells : Cells) (place : Place) (test more : Bool) →
      ((tests.target items (local_ty items body) (is_reference_param items body) place && test) && more) ≡ true →
      empty_at items body cells place ≡ true →
      clear_cell items (local_ty items body) (is_reference_param items body) (own_local items body) cells place ≡ true
  twice cells place test more h e = cleared cells place test
      (first_so (tests.target items (local_ty items body) (is_reference_param items body) place && test) more h) e

  left_rest : (facts : Facts) (cells : Cells) (action : Action) →
      cells_act items (local_ty items body) (is_reference_param items body) action ≡ true →
      finds_nothing items body cells action ≡ true → left_act facts cells action ≡ true →
      rest facts cells action ≡ true
  left_rest facts cells (effects.Put to (effects.Copied site)) h e k =
      both_true (cleared cells to.place _ h e) k
  left_rest facts cells (effects.Put to (effects.Moved site)) h e k =
      let value = tests.value_at items (local_ty items body) (is_reference_param items body) in
      let typed = second_so (value site.place) _ (second_so (value to.place) _ h) in
      let after = checks.after_operand items (local_ty items body) (is_reference_param items body) (effects.Moved site)
      facts in
      let into = known after to.place && (may_change to.place && (no_steps to.place.steps || is_empty cells to.place)) in
      let place = first_so into _ k in
      both_true (both_true (first_so (known after to.place) _ place)
      (both_true (first_so (may_change to.place) _ (second_so (known after to.place) _ place))
      (either to.place.steps (is_empty cells to.place) (of_not _ _ typed e)
      (second_so (may_change to.place) _ (second_so (known after to.place) _ place)))))
      (second_so into _ k)
  left_rest facts cells (effects.Put to (effects.Number value kind)) h e k = cleared cells to.place _ h e
  left_rest facts cells (effects.Put to (effects.Truth value)) h e k = cleared cells to.place _ h e
  left_rest facts cells (effects.Put to effects.UnitValue) h e k = cleared cells to.place _ h e
  left_rest facts cells (effects.Compare to operator (effects.Copied site) right) h e k =
      both_true (twice cells to.place _ _ h e) k
  left_rest facts cells (effects.Compare to operator (effects.Moved site) right) h e k = twice cells to.place _ _ h e
  left_rest facts cells (effects.Compare to operator left right) h e k = k
  left_rest facts cells (effects.Not to operand) h e k = twice cells to.place _ _ h e
  left_rest facts cells (effects.Build to kind parts) h e k = cleared cells to.place _ h e
  left_rest facts cells (effects.NewBox to content) h e k = cleared cells to.place _ h e
  left_rest facts cells (effects.Unsize to trait_no operand) h e k = cleared cells to.place _ h e
  left_rest facts cells (effects.Compute to operator left right) h e k = twice cells to.place _ _ h e
  left_rest facts cells (effects.Negate to operand) h e k = twice cells to.place _ _ h e
  left_rest facts cells (effects.Ask to) h e k = cleared cells to.place _ h e
  left_rest facts cells (effects.Call to callee args) h e k = by (slice_get items.bodies callee) h k
    where
      by : (o : Option Sig) → option_map_or (λ (sig : Sig). tests.called items (local_ty items body)
          (is_reference_param items body) to sig.params sig.result args) o false ≡ true →
          option_map_or (λ (sig : Sig). left_call items (local_ty items body) (is_reference_param items body)
          (own_local items body) facts cells sig.params args) o false ≡ true →
          option_map_or (λ (sig : Sig). checks.calls_well items (local_ty items body) (is_reference_param items body)
          facts cells to sig.params sig.result args) o false ≡ true
      by None h k = absurd (false≢true h)
      by (Some sig) h k = calls_hold items (local_ty items body) (is_reference_param items body) (own_local items body)
          facts cells to sig.params sig.result args h (twice cells to.place _ _ h e) k
  left_rest facts cells (effects.CallVirtual to trait_no method args) h e k =
      by (checks.head_of items (local_ty items body) (is_reference_param items body) trait_no method) h k
    where
      by : (o : Option (List TyId × TyId)) → option_map_or (λ (head : List TyId × TyId). tests.called items
          (local_ty items body) (is_reference_param items body) to head.0 head.1 args) o false ≡ true →
          option_map_or (λ (head : List TyId × TyId). left_call items (local_ty items body)
          (is_reference_param items body) (own_local items body) facts cells head.0 args) o false ≡ true →
          option_map_or (λ (head : List TyId × TyId). checks.calls_well items (local_ty items body)
          (is_reference_param items body) facts cells to head.0 head.1 args) o false ≡ true
      by None h k = absurd (false≢true h)
      by (Some head) h k = calls_hold items (local_ty items body) (is_reference_param items body)
          (own_local items body) facts cells to head.0 head.1 args h (twice cells to.place _ _ h e) k
  left_rest facts cells action h e k = k

  -- of the value that comes to a place which waits for it
  abbrev pub left_refill : Facts → Place → Action → Bool
  left_refill facts hole (effects.Put to (effects.Moved site)) =
      (not (site.place.local == hole.local)
      && (not (takes_index site.place.local hole.steps) && not (takes_index hole.local hole.steps)))
      && ((known facts to.place && may_change to.place)
      && (no_steps site.place.steps && (known facts site.place && may_move site.place)))
  left_refill facts hole action = true

  refill_holds : (facts : Facts) (hole : Place) (action : Action) →
      cells_act items (local_ty items body) (is_reference_param items body) action ≡ true →
      refills_it hole action ≡ true → left_refill facts hole action ≡ true →
      checks.refills items (local_ty items body) (is_reference_param items body) facts hole action ≡ true
  refill_holds facts hole (effects.Put to (effects.Moved site)) h e k =
      let value = tests.value_at items (local_ty items body) (is_reference_param items body) in
      let leads = tests.leads items (local_ty items body) (is_reference_param items body) in
      let sure = place_sure items (local_ty items body) (is_reference_param items body) (own_local items body) facts in
      let to_value = first_so (value to.place) _ h in
      let from_value = first_so (value site.place) _ (second_so (value to.place) _ h) in
      let apart = not (site.place.local == hole.local)
      && (not (takes_index site.place.local hole.steps) && not (takes_index hole.local hole.steps)) in
      let into = known facts to.place && may_change to.place in
      let places = second_so apart _ k in
      let from = second_so (no_steps site.place.steps) _ (second_so into _ places) in
      both_true (four (same_place to.place hole) _ _ e (first_so apart _ k))
      (both_true (both_true (sure to.place (first_so (leads to.place) _ to_value)
      (first_so (known facts to.place) _ (first_so into _ places)))
      (both_true (second_so (leads to.place) _ to_value) (second_so (known facts to.place) _ (first_so into _ places))))
      (both_true (both_true (first_so (no_steps site.place.steps) _ (second_so into _ places))
      (both_true (sure site.place (first_so (leads site.place) _ from_value) (first_so (known facts site.place) _ from))
      (both_true (second_so (leads site.place) _ from_value) (second_so (known facts site.place) _ from))))
      (second_so (value site.place) _ (second_so (value to.place) _ h))))
    where
      four : (a b c : Bool) → a ≡ true → (b && c) ≡ true → ((a && b) && c) ≡ true
      four true b c e h = h
      four false b c e h = absurd (false≢true e)
  refill_holds facts hole action h e k = absurd (false≢true e)

  abbrev pub left_now : Facts → Cells → Action → Bool
  left_now facts cells action = checks.unless_refilled facts.refilled (left_act facts cells action)
      (λ hole. left_refill facts hole action)

  act_holds : (facts : Facts) (cells : Cells) (action : Action) (o : Option Place) →
      cells_act items (local_ty items body) (is_reference_param items body) action ≡ true →
      none_waits o action ≡ true → finds_nothing items body cells action ≡ true →
      checks.unless_refilled o (left_act facts cells action) (λ hole. left_refill facts hole action) ≡ true →
      checks.unless_refilled o (checks.acts_well items (local_ty items body) (is_reference_param items body) facts cells
      action)
      (λ hole. checks.refills items (local_ty items body) (is_reference_param items body) facts hole action) ≡ true
  act_holds facts cells action None h w e k =
      rest_holds items (local_ty items body) (is_reference_param items body) (own_local items body) facts cells action h
      (left_rest facts cells action h e k)
  act_holds facts cells action (Some hole) h w e k = refill_holds facts hole action h w k

  module _ (also : Also) where
    pub act_unmarked : (action : Action) (w : AbstractState) (facts : Facts) →
        also.act facts action ≡ true → left_now facts w.cells action ≡ true →
        (rest_marks items body also).acting action w facts ≡ Some 5 → ⊥
    act_unmarked action w facts more k =
        let cells = cells_act items (local_ty items body) (is_reference_param items body) action in
        let waits = none_waits facts.refilled action in
        let finds = finds_nothing items body w.cells action in
        not_left _ _ cells waits finds (λ own. both_true more own)
        (λ h. act_holds facts w.cells action facts.refilled (first_so cells (waits && finds) h)
        (first_so waits finds (second_so cells (waits && finds) h))
        (second_so waits finds (second_so cells (waits && finds) h)) k)

    -- a condition never fails so
    pub truth_unmarked : (operand : effects.Operand) (w : AbstractState) (facts : Facts) →
        (rest_marks items body also).choosing (effects.IsTrue operand) w facts ≡ Some 5 → ⊥
    truth_unmarked operand w facts =
        let cells = cells_test items (local_ty items body) (is_reference_param items body) (effects.IsTrue operand) in
        not_left _ _ cells (is_none facts.refilled) true (λ own. own)
        (λ h. truth_left items (local_ty items body) (is_reference_param items body) (own_local items body) facts operand
        (first_so cells (is_none facts.refilled && true) h) (calm_in cells facts h))

    pub variant_unmarked : (site : EffectSite) (variant : ℕ) (w : AbstractState) (facts : Facts) →
        known facts site.place ≡ true →
        (rest_marks items body also).choosing (effects.HasVariant site variant) w facts ≡ Some 5 → ⊥
    variant_unmarked site variant w facts k =
        let cells = cells_test items (local_ty items body) (is_reference_param items body)
        (effects.HasVariant site variant) in
        not_left _ _ cells (is_none facts.refilled) true (λ own. own)
        (λ h. variant_left items (local_ty items body) (is_reference_param items body) (own_local items body) facts site
        variant (first_so cells (is_none facts.refilled && true) h)
        (calm_in cells facts h) k)

    -- an entry that needs dropping
    pub entry_unmarked : (mode : Mode) (site : EffectSite) (w : AbstractState) (facts : Facts) →
        also.drop site.place ≡ true → no_steps site.place.steps ≡ true →
        checks.needs items (local_ty items body) (is_reference_param items body) site.place ≡ true →
        (rest_marks items body also).dropping mode site w facts ≡ Some 5 → ⊥
    entry_unmarked mode site w facts more n needs =
        let cells = tests.cells_drop items (local_ty items body) (is_reference_param items body) mode site.place in
        not_left _ _ cells (is_none facts.refilled) true (λ own. both_true more own)
        (λ h. drops_left items (local_ty items body) (is_reference_param items body) (own_local items body) mode facts
        site.place n needs
        (calm_in cells facts h))

    -- a place of which the value is replaced
    pub replaced_unmarked : (mode : Mode) (site : EffectSite) (w : AbstractState) (facts : Facts) →
        also.drop site.place ≡ true → no_steps site.place.steps ≡ false → known facts site.place ≡ true →
        may_change site.place ≡ true → (rest_marks items body also).dropping mode site w facts ≡ Some 5 → ⊥
    replaced_unmarked mode site w facts more inside k c =
        let cells = tests.cells_drop items (local_ty items body) (is_reference_param items body) mode site.place in
        not_left _ _ cells (is_none facts.refilled) true (λ own. both_true more own)
        (λ h. replaced_left items (local_ty items body) (is_reference_param items body) (own_local items body) mode facts
        site.place (first_so cells (is_none facts.refilled && true) h) inside
        (calm_in cells facts h) k c)

    pub given_unmarked : (site : EffectSite) (w : AbstractState) (facts : Facts) →
        all_present (presence site.place.local w.cells) ≡ true →
        (rest_marks items body also).giving site w facts ≡ Some 5 → ⊥
    given_unmarked site w facts full =
        let cells = tests.cells_give items (local_ty items body) (is_reference_param items body) site.place in
        not_left _ _ cells (is_none facts.refilled) true (λ own. own)
        (λ h. gives_left items (local_ty items body) (is_reference_param items body) (own_local items body) facts w.cells
        site.place (first_so cells (is_none facts.refilled && true) h)
        (calm_in cells facts h) full)
