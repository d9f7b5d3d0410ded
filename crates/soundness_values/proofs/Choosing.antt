-- Conditions of a checked run follow those of a free run: they take the choice 1 where they hold. What tests and
-- bounds tell is known then.
use Rattle.std.proofs.Common.{◌≡◌, ◌⊎◌, inl, inr, ℕ, not, Bool, true, false, List, [], ◌∷◌, Option, Some, None, refl, ap, sym, ◌∙◌, subst}
use Rattle.std.specs.Prelude.{option_and_then}
use Rattle.std.specs.Option.{option_map_or}
use Rattle.std.proofs.lemmas.Bool.{false≢true}
use Rattle.std.proofs.Math.Path.{fun_ext}
use Rattle.mir_ty.specs.declared.ty.Ty.{Ty}
use Rattle.mir_ty.specs.declared.ty.TyId.{TyId}
use Rattle.mir_ty.specs.ItemTable.{ItemTable, type_at}
use Rattle.store_model.proofs.Effects.Following.{Relation}
use Rattle.store_model.specs.declared.address.Addr.{Addr}
use Rattle.store_model.specs.Values.Datum.{Datum, Data, Gone, Number, Truth, UnitValue, Aggregate, Box, Address}
use Rattle.store_model.specs.Values.Access.{value_at}
use Rattle.store_model.specs.Effects as effects
use Rattle.store_model.specs.Effects.{Operand, Halt, Stuck, BadUse, Out, Go, Unwind, Halts, on_go, Choice, Yes, No, Neither}
use Rattle.store_model.specs.Abstract.Effects as free
use Rattle.store_model.specs.Abstract.Effects.{AbstractState, presence, may_test, watched_at}
use Rattle.store_model.specs.Abstract.Presence.{Presence, is_present, itself_gone, presence_along}
use Rattle.store_model.specs.Places.Place.{Place, is_enum}
use Rattle.store_model.specs.Concrete.Effects as values
use Rattle.store_model.specs.Concrete.Location.{Setting, DynamicType, concrete_ty, Located, Reaches, reach}
use Rattle.store_model.specs.Concrete.State.{State, cell}
use Rattle.soundness_values.proofs.Doing.{FollowsOut, goes_on, unwinds, refused, lapsed, FollowsChoice, takes, declines, lapsed_choice, refused_choice}
use Rattle.soundness_values.proofs.Facts.{Facts}
use Rattle.soundness_values.proofs.Dropped.{feeding}
use Rattle.soundness_values.proofs.Known.{Target}
use Rattle.soundness_values.proofs.Running.{sure_place, Passed, Runs, BoundedHolds, VariantStands, own_variant, behind_variant, Lies, in_local, behind, lies}
use Rattle.soundness_values.proofs.Forms.{IsAggregate, aggregate_of, enum_parts}
use Rattle.soundness_values.proofs.Along.{containers_along, IsFound, as_type, as_object}
use Rattle.soundness_values.proofs.Reaching.{stands, own_watched}
use Rattle.soundness_values.proofs.Watching.{test_own}
use Rattle.soundness_values.proofs.Ways.{whole_along, has_index, fits_at_end, whole_at_end, present_along, way_value}
use Rattle.store_model.specs.Places.TypeForms.{is_bool, is_dyn}
use Rattle.soundness_values.proofs.Checks.{ty_of, form_of, takes_well, after_operand, with_bounded, with_variant}
use Rattle.soundness_values.proofs.Taking.{rel, operand_follows}
use Rattle.soundness_values.proofs.Acting.{operand_truth}

module _ (setting : Setting) (number : ℕ) (targets : List Target) (uniques : List Addr) (base : State)
    (is_target : ℕ → Bool) (passed : Passed setting number targets uniques base is_target) where
  abbrev R : State → List (ℕ × Presence) → Facts → Type 0
  R = Runs setting number targets uniques base is_target

  -- facts that are found are known
  pub also_bounded : (w : State) (cells : List (ℕ × Presence)) (facts : Facts) (local count : ℕ)
      (r : R w cells facts) → BoundedHolds setting number targets uniques base is_target r.known.held
      (local, count) → R w cells (with_bounded local count facts)
  also_bounded w cells facts local count r h = record {
    known = r.known;
    holding = record { bounded = (h, r.holding.bounded); variants = r.holding.variants; naming = r.holding.naming };
    sealed = r.sealed;
  }

  pub also_variant : (w : State) (cells : List (ℕ × Presence)) (facts : Facts) (place : _) (variant : ℕ)
      (r : R w cells facts) → VariantStands setting number targets uniques base is_target w r.known.held place
      variant → R w cells (with_variant place variant facts)
  also_variant w cells facts place variant r h = record {
    known = r.known;
    holding = record { bounded = r.holding.bounded; variants = (h, r.holding.variants); naming = r.holding.naming };
    sealed = r.sealed;
  }

  abbrev items : ItemTable
  items = setting.items

  abbrev local_ty : ℕ → Option TyId
  local_ty key = setting.local_ty number key

  abbrev rels : Facts → Relation State AbstractState
  rels = rel setting number targets uniques base is_target passed

  -- ---- a condition, as an outcome that goes on where it holds and unwinds where it does not

  abbrev decoded : {W : Type 0} → Out W → Choice W
  decoded (Go w) = Yes w
  decoded (Unwind w) = No w
  decoded (Halts halt w) = Neither halt w

  abbrev coded : State → Datum → State → Out State
  coded w (Truth true) v = Go v
  coded w (Truth false) v = Unwind v
  coded w d v = Halts Stuck w

  abbrev coded_next : AbstractState → Out AbstractState
  coded_next u = free.next_choice u.choices u Unwind Go

  follows_decoded : (goal : Facts) {o : Out State} {g : List Bool → Out AbstractState} →
      FollowsOut (rels goal) tt o g → FollowsChoice (rels goal) tt (decoded o) (λ t. decoded (g t))
  follows_decoded goal (goes_on n w c l g k d) = takes n w c l _ k (λ rest. ap decoded (d rest))
  follows_decoded goal (unwinds n w c l g k d) = declines n w c l _ k (λ rest. ap decoded (d rest))
  follows_decoded goal (lapsed n halt w g k) = lapsed_choice n halt w _ k
  follows_decoded goal (refused n o halt c l g k d) = refused_choice n _ halt c l _ k (λ rest. ap decoded (d rest))

  coded_is : (w : State) (o : Option (Datum × State)) → decoded (values.or_stuck o (λ t. coded w t.0 t.1) w)
      ≡ values.chosen_truth setting o w
  coded_is w None = refl
  coded_is w (Some (Truth true, v)) = refl
  coded_is w (Some (Truth false, v)) = refl
  coded_is w (Some (Gone, v)) = refl
  coded_is w (Some (Number n, v)) = refl
  coded_is w (Some (UnitValue, v)) = refl
  coded_is w (Some (Aggregate x s p, v)) = refl
  coded_is w (Some (Box s i d, v)) = refl
  coded_is w (Some (Address a, v)) = refl

  next_is : (choices : List Bool) (u : AbstractState) → decoded (free.next_choice choices u Unwind Go)
      ≡ free.chosen_next choices u
  next_is [] u = refl
  next_is (false ∷ rest) u = refl
  next_is (true ∷ rest) u = refl

  when_is : (c : Bool) (halt : Halt) (next : AbstractState → Out AbstractState) (u : AbstractState) →
      decoded (on_go (next u) coded_next) ≡ free.choice_after (next u) →
      decoded (on_go (free.when c halt next u) coded_next) ≡ free.choice_after (free.when c halt next u)
  when_is true halt next u h = h
  when_is false halt next u h = refl

  unless_is : (c : Bool) (u : AbstractState) → decoded (on_go (free.unless_never items local_ty c u) coded_next)
      ≡ free.choice_after (free.unless_never items local_ty c u)
  unless_is true u = refl
  unless_is false u = next_is u.choices u

  used_is : (operand : Operand) (u : AbstractState) →
      decoded (on_go (free.operand_used items local_ty operand u) coded_next) ≡ free.choice_after
      (free.operand_used items local_ty operand u)
  used_is (effects.Copied site) u =
      when_is (free.may_use (free.watched_at items local_ty site) (free.presence site.place.local u.cells))
      (BadUse site)
      (free.unless_never items local_ty (free.never_at items local_ty site)) u
      (unless_is (free.never_at items local_ty site) u)
  used_is (effects.Moved site) u =
      when_is (free.may_use (free.watched_at items local_ty site) (free.presence site.place.local u.cells))
      (BadUse site)
      (λ v. Go (free.after items local_ty true site v)) u (next_is u.choices (free.after items local_ty true site u))
  used_is (effects.Number value kind) u = next_is u.choices u
  used_is (effects.Truth value) u = next_is u.choices u
  used_is effects.UnitValue u = next_is u.choices u

  module _ (w : State) (cells : List (ℕ × Presence)) (facts : Facts) (runs : R w cells facts) where
    -- a condition takes the choice 1 where it holds, and 0 where it does not
    pub truth_chosen : (operand : Operand) → takes_well items local_ty is_target facts operand ≡ true →
        is_bool (form_of items local_ty is_target operand) ≡ true →
        FollowsChoice (rels (after_operand items local_ty is_target operand facts)) tt
        (values.choose setting (effects.IsTrue operand) w)
        (λ t. free.choose items local_ty (effects.IsTrue operand) (feeding t cells))
    truth_chosen operand h b =
        subst (λ c. FollowsChoice (rels (after_operand items local_ty is_target operand facts)) tt c
        (λ t. free.choose items local_ty (effects.IsTrue operand) (feeding t cells)))
        (coded_is w (values.evaluate_operand setting operand w))
        (subst (λ (g : List Bool → Choice AbstractState). FollowsChoice
        (rels (after_operand items local_ty is_target operand facts)) tt
        (decoded (values.or_stuck (values.evaluate_operand setting operand w) (λ t. coded w t.0 t.1) w)) g)
        (fun_ext (λ t. used_is operand (feeding t cells)))
        (follows_decoded (after_operand items local_ty is_target operand facts)
        (operand_follows setting number targets uniques base is_target passed w cells facts runs
        (after_operand items local_ty is_target operand facts) operand w (coded w) coded_next h
        (λ d v cells' value r. by d v cells' r
        (operand_truth setting number targets uniques base is_target passed operand d value b)))))
      where
        by : (d : Datum) (v : State) (cells' : List (ℕ × Presence)) →
            R v cells' (after_operand items local_ty is_target operand facts) → (truth : Bool) × (d ≡ Truth truth) →
            FollowsOut (rels (after_operand items local_ty is_target operand facts)) tt (coded w d v)
            (λ t. coded_next (feeding t cells'))
        by d v cells' r (true, e) =
            subst (λ x. FollowsOut (rels (after_operand items local_ty is_target operand facts)) tt (coded w x v)
            (λ t. coded_next (feeding t cells'))) (sym e) (goes_on tt v cells' (true ∷ []) _ r (λ rest. refl))
        by d v cells' r (false, e) =
            subst (λ x. FollowsOut (rels (after_operand items local_ty is_target operand facts)) tt (coded w x v)
            (λ t. coded_next (feeding t cells'))) (sym e) (unwinds tt v cells' (false ∷ []) _ r (λ rest. refl))

    -- ---- the variant that stands at a place

    pub record Variant (place : Place) : Type 0 where
      pub standing : Located
      pub reached : reach setting w place ≡ Reaches standing
      pub active : ℕ
      pub serial : Option ℕ
      pub parts : Data
      pub is_it : standing.value ≡ Aggregate active serial parts
      pub stood : VariantStands setting number targets uniques base is_target w runs.known.held place active

    enum_ty : (o : Option Ty) → option_map_or (is_enum items) o false ≡ true → (n : ℕ) × (o ≡ Some (Ty.Adt n))
    enum_ty (Some (Ty.Adt n)) h = (n, refl)
    enum_ty None h = absurd (false≢true h)
    enum_ty (Some other) h = absurd (false≢true h)

    concrete_enum : (end : TyId) (f : DynamicType) (n : ℕ) → IsFound items end f →
        type_at items end ≡ Some (Ty.Adt n) → concrete_ty items f ≡ Some (Ty.Adt n)
    concrete_enum end f n (as_type _ e _) t = e ∙ t
    concrete_enum end f n (as_object impl_no h i) t = absurd (false≢true (sym (ap is_dyn t) ∙ h))

    not_true : (b : Bool) → b ≡ false → not b ≡ true
    not_true b e = ap not e

    module _ (place : Place) (s : sure_place items local_ty is_target facts place ≡ true) (node : ℕ)
        (enum : option_map_or (is_enum items) (ty_of items local_ty is_target place) false ≡ true)
        (there : may_test (watched_at items local_ty (record { node = node; place = place }))
        (presence place.local cells) ≡ true) where
      own_test : is_target place.local ≡ false → (containers_along place.steps (presence place.local cells) ≡ true)
          × (((has_index place.steps ≡ false)
          × (itself_gone (presence_along place.steps (presence place.local cells)) ≡ false))
          ⊎ (whole_along place.steps (presence place.local cells) ≡ true))
      own_test own = test_own place.steps (presence place.local cells)
          (sym (ap (λ x. may_test x (presence place.local cells))
          (own_watched setting number targets uniques base is_target passed w cells facts runs place s node own))
          ∙ there)

      lies_there : Lies setting number targets uniques base is_target passed w cells facts runs place
      lies_there = lies setting number targets uniques base is_target passed w cells facts runs place s
          (λ own. (own_test own).0)

      pub variant_found : Variant place
      unfolding stands
      variant_found = by lies_there
        where
          made : (l : Lies setting number targets uniques base is_target passed w cells facts runs place)
              (a : IsAggregate (stands setting number targets uniques base is_target passed w cells facts runs place
              l).standing.value) →
              VariantStands setting number targets uniques base is_target w runs.known.held place a.variant →
              Variant place
          made l a v =
              let st = stands setting number targets uniques base is_target passed w cells facts runs place l in
              record {
                standing = st.standing;
                reached = st.reached;
                active = a.variant;
                serial = a.serial;
                parts =
                    a.parts;
                is_it = a.is_it;
                stood = v;
              }

          of_enum : (l : Lies setting number targets uniques base is_target passed w cells facts runs place) →
              (n : ℕ) × (concrete_ty items
              (stands setting number targets uniques base is_target passed w cells facts runs place
              l).standing.dynamic ≡ Some (Ty.Adt n))
          of_enum l =
              let st = stands setting number targets uniques base is_target passed w cells facts runs place l in
              let e = enum_ty (type_at items st.end)
              (subst (λ o. option_map_or (is_enum items) (option_and_then (type_at items) o) false ≡ true)
              st.end_is enum) in
              (e.0, concrete_enum st.end st.standing.dynamic e.0 st.as_end e.1)

          by : Lies setting number targets uniques base is_target passed w cells facts runs place → Variant place
          by (in_local id typed none own sure lead) = made (in_local id typed none own sure lead) found
              (own_variant own (record {
                serial = found.serial;
                parts = found.parts;
                there =
                    ap (λ p. value_at p (cell place.local runs.known.held)) (sym lead.path_is)
                    ∙ way_value items lead.way ∙ ap (λ (x : Datum). Some x) found.is_it;
              }))
            where
              adt : (n : ℕ) × (concrete_ty items lead.dynamic ≡ Some (Ty.Adt n))
              adt = of_enum (in_local id typed none own sure lead)

              aggregate : ((has_index place.steps ≡ false)
                  × (itself_gone (presence_along place.steps (presence place.local cells)) ≡ false))
                  ⊎ (whole_along place.steps (presence place.local cells) ≡ true) → IsAggregate lead.inner
              aggregate (inl h) = aggregate_of items lead.inner lead.dynamic
                  (presence_along place.steps (presence place.local cells)) (Ty.Adt adt.0) adt.1
                  (enum_parts items adt.0) (not_true _ h.1)
                  (fits_at_end items (presence place.local cells) lead.way h.0
                  (runs.known.fits place.local id typed))
              aggregate (inr h) = aggregate_of items lead.inner lead.dynamic is_present (Ty.Adt adt.0) adt.1
                  (enum_parts items adt.0) refl
                  (whole_at_end items (presence place.local cells) lead.way h (runs.known.fits place.local id typed))

              found : IsAggregate lead.inner
              found = aggregate (own_test own).1
          by (behind n t at same steps is sure lead) = made (behind n t at same steps is sure lead) found
              (behind_variant n t at same steps is (runs.known.stands n t at).standing
              (runs.known.stands n t at).stands
              (record {
                serial = found.serial;
                parts = found.parts;
                there =
                    ap (λ p. value_at p (runs.known.stands n t at).standing.value) (sym lead.path_is)
                    ∙ way_value items lead.way ∙ ap (λ (x : Datum). Some x) found.is_it;
              }))
            where
              adt : (n : ℕ) × (concrete_ty items lead.dynamic ≡ Some (Ty.Adt n))
              adt = of_enum (behind n t at same steps is sure lead)

              found : IsAggregate lead.inner
              found = aggregate_of items lead.inner lead.dynamic is_present (Ty.Adt adt.0) adt.1
                  (enum_parts items adt.0) refl
                  (whole_at_end items is_present lead.way (present_along items steps is_present refl)
                  (runs.known.stands n t at).whole)
