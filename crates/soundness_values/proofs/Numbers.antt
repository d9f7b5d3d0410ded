-- Checked operators and asked numbers of a checked run follow those of a free run: they take the choice 0 where they
-- give a number, and 1 where they panic.
use Rattle.std.proofs.Common.{◌≡◌, ℕ, ℤ, ◌&&◌, Bool, true, false, List, [], ◌∷◌, Option, Some, None, refl, ap, sym, ◌∙◌, subst}
use Rattle.std.specs.Prelude.{option_and_then, neg_ℤ}
use Rattle.std.proofs.lemmas.Bool.{false≢true}
use Rattle.mir_base.specs.declared.int_kind.IntKind.{IntKind}
use Rattle.mir_base.specs.declared.operator.Math.{Math}
use Rattle.mir_base.specs.declared.trace.Event.{Event}
use Rattle.mir_base.specs.declared.trace.Why.{Why}
use Rattle.mir_ty.specs.declared.ty.Ty.{Ty}
use Rattle.mir_ty.specs.declared.ty.TyId.{TyId}
use Rattle.mir_ty.specs.ItemTable.{ItemTable, type_at}
use Rattle.store_model.proofs.Effects.Following.{Relation}
use Rattle.store_model.specs.declared.address.Addr.{Addr}
use Rattle.store_model.specs.Values.Datum.{Number}
use Rattle.store_model.specs.Effects as effects
use Rattle.store_model.specs.Effects.{EffectSite, Operand, Stuck, Unreachable, halting_if}
use Rattle.store_model.specs.Abstract.Effects as free
use Rattle.store_model.specs.Abstract.Effects.{AbstractState}
use Rattle.store_model.specs.Abstract.Presence.{Presence}
use Rattle.store_model.specs.Places.Place.{place_ty}
use Rattle.store_model.specs.Places.TypeForms.{is_never, is_int, int_kind, same_int}
use Rattle.store_model.specs.Concrete.Effects as values
use Rattle.store_model.specs.Concrete.Effects.{Computed, computed, if_within, act}
use Rattle.store_model.specs.Concrete.Location.{Setting}
use Rattle.store_model.specs.Concrete.State.{State, Bodies}
use Rattle.soundness_values.proofs.Doing.{FollowsOut, unwinds, out_after}
use Rattle.soundness_values.proofs.Facts.{Facts, without}
use Rattle.soundness_values.proofs.Dropped.{feeding}
use Rattle.soundness_values.proofs.Known.{Target}
use Rattle.soundness_values.proofs.Running.{sure_place, Passed, Runs}
use Rattle.soundness_values.proofs.Changing.{runs_alike, runs_without}
use Rattle.soundness_values.proofs.Checks.{ty_of, form_of, is_value, may_change, may_store, stores_as, takes_well, after_operand, acts_well}
use Rattle.soundness_values.proofs.Standings.{alike_itself}
use Rattle.soundness_values.proofs.Taking.{first, second, rel, operand_follows}
use Rattle.soundness_values.proofs.Acting.{int_is, operand_number, number_value, value_form, concrete_ty_is, two_stores}
use Rattle.soundness_values.proofs.Actions.{follows_told, Stores, stores_well, FormedAt, formed_at, puts}
use Rattle.soundness_values.proofs.Reckoning.{Reckoned, gives, panics, reckoned, reckoned_within}

module _ (setting : Setting) (number : ℕ) (targets : List Target) (uniques : List Addr) (base : State)
    (is_target : ℕ → Bool) (passed : Passed setting number targets uniques base is_target) where
  abbrev items : ItemTable
  items = setting.items

  abbrev local_ty : ℕ → Option TyId
  local_ty key = setting.local_ty number key

  abbrev R : State → List (ℕ × Presence) → Facts → Type 0
  R = Runs setting number targets uniques base is_target

  abbrev rels : Facts → Relation State AbstractState
  rels = rel setting number targets uniques base is_target passed

  abbrev after : Operand → Facts → Facts
  after = after_operand items local_ty is_target

  abbrev takes : Facts → Operand → Bool
  takes = takes_well items local_ty is_target

  abbrev form : Operand → Option Ty
  form = form_of items local_ty is_target

  -- one integer type
  int_form : (o t : Option Ty) → same_int o t ≡ true →
      (kind : IntKind) × ((o ≡ Some (Ty.Int kind)) × (is_int kind t ≡ true))
  int_form (Some (Ty.Int kind)) t h = (kind, (refl, h))
  int_form None t h = absurd (false≢true h)
  int_form (Some other) t h = absurd (false≢true h)

  same_kind_of : (kind other : IntKind) (o : Option Ty) → o ≡ Some (Ty.Int kind) → is_int other o ≡ true →
      kind ≡ other
  same_kind_of kind other o e h =
      kinds (sym e ∙ int_is setting number targets uniques base is_target passed other o h)
    where
      kinds : Some (Ty.Int kind) ≡ Some (Ty.Int other) → kind ≡ other
      kinds x = cc

  module _ (run : Bodies) (w : State) (cells : List (ℕ × Presence)) (facts : Facts) (runs : R w cells facts) where
    pub operand_ty_is : (operand : Operand) → values.ty_of_operand setting w operand ≡ form operand
    operand_ty_is (effects.Copied site) = concrete_ty_is setting number targets uniques base is_target passed w cells
        facts runs site
    operand_ty_is (effects.Moved site) = concrete_ty_is setting number targets uniques base is_target passed w cells
        facts runs site
    operand_ty_is (effects.Number value kind) = refl
    operand_ty_is (effects.Truth value) = refl
    operand_ty_is effects.UnitValue = refl

    -- what is computed comes to its place, or it panics
    computed_follows : (known : Facts) (to : EffectSite) (end : TyId) (kind : IntKind) →
        place_ty items local_ty to.place ≡ Some end → type_at items end ≡ Some (Ty.Int kind) →
        sure_place items local_ty is_target known to.place ≡ true →
        (is_value items local_ty is_target to.place && may_change items local_ty is_target to.place) ≡ true →
        (c : Computed) → Reckoned kind c → (v : State) (cells' : List (ℕ × Presence)) → R v cells' known →
        FollowsOut (rels (without to.place known)) tt (values.put_computed setting to c v)
        (λ t. free.computed_by_choice items local_ty to (feeding t cells'))
    computed_follows known to end kind e is_ty s changes _ (gives n fit) v cells' r =
        out_after (rels (without to.place known)) (false ∷ []) _ (λ rest. refl)
        (puts setting number targets uniques base is_target passed run w cells facts runs known to end e s changes
        (Number n) v cells' (refl, (kind, ap int_kind is_ty, fit)) r)
    computed_follows known to end kind e is_ty s changes _ (panics why) v cells' r =
        unwinds tt (values.panics setting why v) cells' (true ∷ []) _
        (runs_without setting number targets uniques base is_target passed to.place (values.panics setting why v)
        cells' known (runs_alike setting number targets uniques base is_target passed v
        (values.panics setting why v) cells' known r (alike_itself v.activations))) (λ rest. refl)

    pub compute_acts : (to : EffectSite) (operator : Math) (left right : Operand) →
        acts_well items local_ty is_target facts cells (effects.Compute to operator left right) ≡ true →
        FollowsOut (rels (without to.place (after right (after left facts)))) tt
        (act setting run (effects.Compute to operator left right) w)
        (λ t. free.act items local_ty (effects.Compute to operator left right) (feeding t cells))
    compute_acts to operator left right h =
        let known = after right (after left facts) in
        let stores = first (stores_as items local_ty is_target known cells to (same_int (form left))) _ h in
        let st = stores_well setting number targets uniques base is_target passed known cells to.place
        (first (may_store items local_ty is_target known cells to.place) _ stores) in
        let rest = second (stores_as items local_ty is_target known cells to (same_int (form left))) _ h in
        let more = second (takes facts left) _ rest in
        let to_int = int_form (form left) (ty_of items local_ty is_target to.place)
        (second (may_store items local_ty is_target known cells to.place) _ stores) in
        let right_int = int_form (form left) (form right) (second (takes (after left facts) right) _ more) in
        let one : right_int.0 ≡ to_int.0 = kinds (sym right_int.1.0 ∙ to_int.1.0) in
        let at = formed_at setting number targets uniques base is_target passed run w cells facts runs to
        (Ty.Int to_int.0) (int_is setting number targets uniques base is_target passed to_int.0
        (ty_of items local_ty is_target to.place) to_int.1.1) in
        two_stores setting number targets uniques base is_target passed w cells facts runs
        (without to.place known) to at.end at.is_at (ap is_never at.is_ty) left right
        (first (takes facts left) _ rest) (first (takes (after left facts) right) _ more)
        (values.compute setting to operator (int_kind (values.ty_of_operand setting w left)))
        (free.computed_by_choice items local_ty to)
        (λ a b v cells' x y r.
        let n = number_value setting number targets uniques base is_target passed a to_int.0
        (value_form setting number targets uniques base is_target passed left a
        (Ty.Int to_int.0) x to_int.1.0) in
        let m = operand_number setting number targets uniques base is_target passed right b to_int.0 y
        (subst (λ k. is_int k (form right) ≡ true) one right_int.1.1) in
        subst (λ o. FollowsOut (rels (without to.place known)) tt o
        (λ t. free.computed_by_choice items local_ty to (feeding t cells')))
        (sym (ap (λ o. values.compute setting to operator o a b v) (ap int_kind (operand_ty_is left ∙ to_int.1.0))
        ∙ ap (λ d. values.compute setting to operator (Some to_int.0) d b v) n.1.0
        ∙ ap (λ d. values.compute setting to operator (Some to_int.0) (Number n.0) d v) m.1.0))
        (computed_follows known to at.end to_int.0 at.is_at at.is_ty st.sure st.changes
        (computed operator to_int.0 n.0 m.0) (reckoned operator to_int.0 n.0 m.0 n.1.1) v cells' r))
      where
        kinds : {a b : IntKind} → Some (Ty.Int a) ≡ Some (Ty.Int b) → a ≡ b
        kinds x = cc

    pub negate_acts : (to : EffectSite) (operand : Operand) → acts_well items local_ty is_target facts cells
        (effects.Negate to operand) ≡ true →
        FollowsOut (rels (without to.place (after operand facts))) tt (act setting run (effects.Negate to operand) w)
        (λ t. free.act items local_ty (effects.Negate to operand) (feeding t cells))
    negate_acts to operand h =
        let known = after operand facts in
        let stores = first (stores_as items local_ty is_target known cells to (same_int (form operand))) _ h in
        let st = stores_well setting number targets uniques base is_target passed known cells to.place
        (first (may_store items local_ty is_target known cells to.place) _ stores) in
        let rest = second (stores_as items local_ty is_target known cells to (same_int (form operand))) _ h in
        let to_int = int_form (form operand) (ty_of items local_ty is_target to.place)
        (second (may_store items local_ty is_target known cells to.place) _ stores) in
        let at = formed_at setting number targets uniques base is_target passed run w cells facts runs to
        (Ty.Int to_int.0) (int_is setting number targets uniques base is_target passed to_int.0
        (ty_of items local_ty is_target to.place) to_int.1.1) in
        subst (λ b. FollowsOut (rels (without to.place known)) tt
        (halting_if b Stuck (values.with_operand setting operand w
        (values.negate setting to (int_kind (values.ty_of_operand setting w operand)))))
        (λ t. free.act items local_ty (effects.Negate to operand) (feeding t cells)))
        (sym (ap is_never (concrete_ty_is setting number targets uniques base is_target passed w cells facts runs to
        ∙ ap (option_and_then (type_at items)) at.is_at) ∙ ap is_never at.is_ty))
        (out_after (rels (without to.place known)) [] _
        (λ rest. ap (λ b. halting_if b Unreachable
        (free.operands_used items local_ty (operand ∷ []) (free.computed_by_choice items local_ty to)
        (feeding rest cells))) (ap (λ x. is_never (option_and_then (type_at items) x)) at.is_at
        ∙ ap is_never at.is_ty))
        (operand_follows setting number targets uniques base is_target passed w cells facts runs
        (without to.place known) operand w
        (values.negate setting to (int_kind (values.ty_of_operand setting w operand)))
        (free.operands_used items local_ty [] (free.computed_by_choice items local_ty to))
        (first (takes facts operand) _ rest)
        (λ d v cells' x r.
        let n = number_value setting number targets uniques base is_target passed d to_int.0
        (value_form setting number targets uniques base is_target passed operand d
        (Ty.Int to_int.0) x to_int.1.0) in
        subst (λ o. FollowsOut (rels (without to.place known)) tt o
        (λ t. free.computed_by_choice items local_ty to (feeding t cells')))
        (sym (ap (λ o. values.negate setting to o d v) (ap int_kind (operand_ty_is operand ∙ to_int.1.0))
        ∙ ap (λ y. values.negate setting to (Some to_int.0) y v) n.1.0))
        (computed_follows known to at.end to_int.0 at.is_at at.is_ty st.sure st.changes
        (if_within to_int.0 (neg_ℤ n.0)) (reckoned_within to_int.0 (neg_ℤ n.0)) v cells' r))))

    -- a number that is asked may be any
    pub ask_acts : (to : EffectSite) → acts_well items local_ty is_target facts cells (effects.Ask to) ≡ true →
        FollowsOut (rels (without to.place facts)) tt (act setting run (effects.Ask to) w)
        (λ t. free.act items local_ty (effects.Ask to) (feeding t cells))
    ask_acts to h =
        let st = stores_well setting number targets uniques base is_target passed facts cells to.place
        (first (may_store items local_ty is_target facts cells to.place) _ h) in
        let at = formed_at setting number targets uniques base is_target passed run w cells facts runs to
        (Ty.Int IntKind.I32)
        (int_is setting number targets uniques base is_target passed IntKind.I32
        (ty_of items local_ty is_target to.place)
        (second (may_store items local_ty is_target facts cells to.place) _ h)) in
        subst (λ b. FollowsOut (rels (without to.place facts)) tt
        (halting_if b Stuck (values.asked setting to w.asked w))
        (λ t. free.act items local_ty (effects.Ask to) (feeding t cells)))
        (sym (ap is_never (concrete_ty_is setting number targets uniques base is_target passed w cells facts runs to
        ∙ ap (option_and_then (type_at items)) at.is_at) ∙ ap is_never at.is_ty))
        (out_after (rels (without to.place facts)) [] _
        (λ rest. ap (λ b. halting_if b Unreachable
        (free.computed_by_choice items local_ty to (feeding rest cells)))
        (ap (λ x. is_never (option_and_then (type_at items) x)) at.is_at ∙ ap is_never at.is_ty))
        (by at st w.asked))
      where
        by : (at : FormedAt setting number targets uniques base is_target passed run w cells facts runs to
            (Ty.Int IntKind.I32)) → Stores setting number targets uniques base is_target passed facts cells
            to.place → (asked : List ℤ) → FollowsOut (rels (without to.place facts)) tt
            (values.asked setting to asked w) (λ t. free.computed_by_choice items local_ty to (feeding t cells))
        by at st [] = unwinds tt (values.panics setting Why.Ask w) cells (true ∷ []) _
            (runs_without setting number targets uniques base is_target passed to.place
            (values.panics setting Why.Ask w) cells facts
            (runs_alike setting number targets uniques base is_target passed w (values.panics setting Why.Ask w)
            cells facts runs (alike_itself w.activations))) (λ rest. refl)
        by at st (n ∷ rest) =
            follows_told setting number targets uniques base is_target passed (without to.place facts)
            (Event.Asked n)
            (out_after (rels (without to.place facts)) (false ∷ []) _ (λ rest. refl)
            (puts setting number targets uniques base is_target passed run w cells facts runs facts to at.end
            at.is_at st.sure st.changes (Number n) (record w { asked = rest }) cells
            (refl, (IntKind.I32, ap int_kind at.is_ty, refl))
            (runs_alike setting number targets uniques base is_target passed w (record w { asked = rest }) cells
            facts runs (alike_itself w.activations))))
