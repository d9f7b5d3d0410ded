-- Tests of variants, bounds and results of a checked run: the variant that is tested is known where the test holds, and
-- the number that is bounded where it is below the length.
use Rattle.std.proofs.Common.{◌≡◌, ℕ, pos, negsuc, ℤ, ◌<◌, ◌==◌, ◌&&◌, not, Bool, true, false, List, [], ◌∷◌, length, Option, Some, None, is_some, refl, ap, sym, ◌∙◌, subst}
use Rattle.std.specs.Prelude.{option_and_then, int_lt}
use Rattle.std.specs.Option.{option_map_or}
use Rattle.std.proofs.lemmas.Bool.{false≢true, ltb-true}
use Rattle.std.proofs.lemmas.Bool.Decides.{Decides-eqb}
use Rattle.mir_base.specs.declared.int_kind.IntKind.{IntKind}
use Rattle.mir_base.specs.declared.trace.Why.{Why}
use Rattle.mir_ty.specs.declared.ty.TyId.{TyId}
use Rattle.mir_ty.specs.ItemTable.{ItemTable, type_at}
use Rattle.store_model.proofs.Effects.Following.{Relation}
use Rattle.store_model.specs.declared.address.Addr.{Addr}
use Rattle.store_model.specs.Values.Datum.{Datum, Number}
use Rattle.store_model.specs.Values.Wholeness.{is_whole}
use Rattle.store_model.specs.Effects as effects
use Rattle.store_model.specs.Effects.{EffectSite, Stuck, BadUse, Go, Choice, Neither}
use Rattle.store_model.specs.Abstract.Effects as free
use Rattle.store_model.specs.Abstract.Effects.{AbstractState, presence, may_test, watched_at}
use Rattle.store_model.specs.Abstract.Presence.{Presence, all_present}
use Rattle.store_model.specs.Places.Place.{Step, Place, is_enum, whole_local}
use Rattle.store_model.specs.Places.TypeForms.{is_int, int_kind}
use Rattle.store_model.specs.Concrete.Effects as values
use Rattle.store_model.specs.Concrete.Effects.{act, whole_at, whole}
use Rattle.store_model.specs.Concrete.Location.{Setting, OfType, Located, on_reached, reach}
use Rattle.store_model.specs.Concrete.State.{State, Bodies, cell}
use Rattle.soundness_values.proofs.Doing.{FollowsOut, goes_on, unwinds, FollowsChoice, takes, declines, refused_choice}
use Rattle.soundness_values.specs.Typed.{number_fits}
use Rattle.soundness_values.proofs.Checked.{chosen_with}
use Rattle.soundness_values.proofs.Checks.{id_of, ty_of, is_none, no_steps, with_bounded, with_variant, takes_well, acts_well, may_give}
use Rattle.soundness_values.proofs.Choosing.{also_bounded, also_variant, Variant, variant_found}
use Rattle.soundness_values.proofs.Dropped.{feeding}
use Rattle.soundness_values.proofs.Facts.{Facts}
use Rattle.soundness_values.proofs.Fits.{Fits, whole_if_present}
use Rattle.soundness_values.proofs.Known.{Target}
use Rattle.soundness_values.proofs.Reaching.{from_root}
use Rattle.soundness_values.proofs.Relating.{Kept, checked_rel}
use Rattle.soundness_values.proofs.Running.{sure_place, sure_in, Passed, Runs, VariantStands}
use Rattle.soundness_values.proofs.Changing.{runs_alike, known_held}
use Rattle.soundness_values.proofs.Standings.{alike_itself}
use Rattle.soundness_values.proofs.Taking.{first, second, rel, operand_follows}
use Rattle.soundness_values.proofs.Acting.{int_is, operand_number}

-- a number that is no less than 0
pub not_negative : (value : ℤ) → number_fits IntKind.Usize value ≡ true → (n : ℕ) × (value ≡ pos n)
not_negative (pos n) h = (n, refl)
not_negative (negsuc n) h = absurd (false≢true h)

pub none_of : (steps : List Step) → no_steps steps ≡ true → steps ≡ []
none_of [] h = refl
none_of (step ∷ steps) h = absurd (false≢true h)

pub whole_place : (place : Place) → no_steps place.steps ≡ true → place ≡ whole_local place.local
whole_place place h = ap (λ s. record { local = place.local; steps = s }) (none_of place.steps h)

module _ (setting : Setting) (number : ℕ) (targets : List Target) (uniques : List Addr) (base : State)
    (is_target : ℕ → Bool) (passed : Passed setting number targets uniques base is_target) where
  abbrev items : ItemTable
  items = setting.items

  abbrev local_ty : ℕ → Option TyId
  local_ty key = setting.local_ty number key

  abbrev R : State → List (ℕ × Presence) → Facts → Type 0
  R = Runs setting number targets uniques base is_target

  abbrev rels : Facts → Relation State AbstractState
  rels = rel setting number targets uniques base is_target passed

  -- a place that is sure is of a local that has a type
  pub sure_typed : (facts : Facts) (place : Place) → sure_place items local_ty is_target facts place ≡ true →
      (id : TyId) × (local_ty place.local ≡ Some id)
  sure_typed facts place s = by (local_ty place.local) refl s
    where
      by : (o : Option TyId) → local_ty place.local ≡ o → sure_in items local_ty is_target facts place o ≡ true →
          (id : TyId) × (local_ty place.local ≡ Some id)
      by None e h = absurd (false≢true h)
      by (Some id) e h = (id, e)

  module _ (w : State) (cells : List (ℕ × Presence)) (facts : Facts) (runs : R w cells facts) where
    abbrev root : (local : ℕ) (id : TyId) → Located
    root local id = record {
      address = record { depth = length runs.known.older; key = (record { 0 = local }); path = [] };
      dynamic = OfType id;
      value = cell local runs.known.held;
    }

    -- ---- a variant is tested

    module _ (said : State → Kept → Type 0) (halted : State → Type 0) (site : EffectSite) (variant : ℕ)
        (taken declined : Facts) where
      pub variant_chosen : sure_place items local_ty is_target facts site.place ≡ true →
          option_map_or (is_enum items) (ty_of items local_ty is_target site.place) false ≡ true →
          (R w cells (with_variant site.place variant facts) → said w (cells, taken)) →
          (R w cells facts → said w (cells, declined)) →
          FollowsChoice (checked_rel said halted) tt (values.choose setting (effects.HasVariant site variant) w)
          (λ t. chosen_with taken declined (free.choose items local_ty (effects.HasVariant site variant)
          (feeding t cells)))
      variant_chosen s enum if_so if_not = by
          (may_test (watched_at items local_ty site) (presence site.place.local cells))
          refl
        where
          freely : List Bool → Bool → Choice AbstractState
          freely t b = free.choice_after (free.when b (BadUse site) Go (feeding t cells))

          found : Variant setting number targets uniques base is_target passed w cells facts runs site.place →
              may_test (watched_at items local_ty site) (presence site.place.local cells) ≡ true →
              FollowsChoice (checked_rel said halted) tt
              (values.choose setting (effects.HasVariant site variant) w)
              (λ t. chosen_with taken declined (free.choose items local_ty (effects.HasVariant site variant)
              (feeding t cells)))
          found v e =
              subst (λ o. FollowsChoice (checked_rel said halted) tt o
              (λ t. chosen_with taken declined (free.choose items local_ty (effects.HasVariant site variant)
              (feeding t cells))))
              (sym (ap (λ r. on_reached r (λ x. values.variant_tested setting variant x.value w)
              (Neither Stuck w) (Neither Stuck w)) v.reached
              ∙ ap (λ d. values.variant_tested setting variant d w) v.is_it))
              (by_variant (variant == v.active) refl)
            where
              by_variant : (b : Bool) → (variant == v.active) ≡ b →
                  FollowsChoice (checked_rel said halted) tt (values.chosen_if setting b w)
                  (λ t. chosen_with taken declined (free.choose items local_ty (effects.HasVariant site variant)
                  (feeding t cells)))
              by_variant true same = takes tt w (cells, taken) (true ∷ []) _
                  (if_so (also_variant setting number targets uniques base is_target passed w cells facts site.place
                  variant runs (subst (λ n. VariantStands setting number targets uniques base is_target w
                  runs.known.held site.place n) (sym ((Decides-eqb variant v.active).0 same)) v.stood)))
                  (λ rest. ap (λ b. chosen_with taken declined (freely (true ∷ rest) b)) e)
              by_variant false same = declines tt w (cells, declined) (false ∷ []) _ (if_not runs)
                  (λ rest. ap (λ b. chosen_with taken declined (freely (false ∷ rest) b)) e)

          by : (b : Bool) → may_test (watched_at items local_ty site) (presence site.place.local cells) ≡ b →
              FollowsChoice (checked_rel said halted) tt (values.choose setting (effects.HasVariant site variant) w)
              (λ t. chosen_with taken declined (free.choose items local_ty (effects.HasVariant site variant)
              (feeding t cells)))
          by false e = refused_choice tt _ (BadUse site) (cells, declined) [] _ tt
              (λ rest. ap (λ b. chosen_with taken declined (freely rest b)) e)
          by true e = found (variant_found setting number targets uniques base is_target passed w cells facts runs
              site.place s site.node enum e) e

    -- ---- bounds

    module _ (run : Bodies) (site : EffectSite) (length_is : ℕ)
        (h : acts_well items local_ty is_target facts cells (effects.Bounds (effects.Copied site) length_is) ≡ true)
      where
        is_usize : is_int IntKind.Usize (ty_of items local_ty is_target site.place) ≡ true
        is_usize = second (no_steps site.place.steps && takes_well items local_ty is_target facts (effects.Copied site))
            (is_int IntKind.Usize (ty_of items local_ty is_target site.place)) h

        rest : (no_steps site.place.steps && takes_well items local_ty is_target facts (effects.Copied site)) ≡ true
        rest = first (no_steps site.place.steps && takes_well items local_ty is_target facts (effects.Copied site))
            (is_int IntKind.Usize (ty_of items local_ty is_target site.place)) h

        in_a_local : site.place ≡ whole_local site.place.local
        in_a_local = whole_place site.place
            (first (no_steps site.place.steps) (takes_well items local_ty is_target facts (effects.Copied site)) rest)

        takes_it : takes_well items local_ty is_target facts (effects.Copied site) ≡ true
        takes_it = second (no_steps site.place.steps) (takes_well items local_ty is_target facts (effects.Copied site))
            rest

        pub bounds_acts : FollowsOut (rels facts) tt
            (act setting run (effects.Bounds (effects.Copied site) length_is) w)
            (λ t. free.act items local_ty (effects.Bounds (effects.Copied site) length_is) (feeding t cells))
        bounds_acts =
            operand_follows setting number targets uniques base is_target passed w cells facts runs facts
            (effects.Copied site) w (values.bounded setting length_is)
            (λ u. free.panics_by_choice u Go) takes_it
            (λ d v cells' value r. by d v cells' r
            (operand_number setting number targets uniques base is_target passed (effects.Copied site) d IntKind.Usize
            value is_usize))
          where
            on : (b : Bool) (v : State) (cells' : List (ℕ × Presence)) → R v cells' facts →
                FollowsOut (rels facts) tt (values.within_bounds setting b v)
                (λ t. free.panics_by_choice (feeding t cells') Go)
            on true v cells' r = goes_on tt v cells' (false ∷ []) _ r (λ rest. refl)
            on false v cells' r = unwinds tt (values.panics setting Why.Index v) cells' (true ∷ []) _
                (runs_alike setting number targets uniques base is_target passed v
                (values.panics setting Why.Index v) cells' facts r (alike_itself v.activations)) (λ rest. refl)

            by : (d : Datum) (v : State) (cells' : List (ℕ × Presence)) → R v cells' facts →
                (value : ℤ) × ((d ≡ Number value) × (number_fits IntKind.Usize value ≡ true)) →
                FollowsOut (rels facts) tt (values.bounded setting length_is d v)
                (λ t. free.panics_by_choice (feeding t cells') Go)
            by d v cells' r n = subst (λ x. FollowsOut (rels facts) tt (values.bounded setting length_is x v)
                (λ t. free.panics_by_choice (feeding t cells') Go)) (sym n.1.0)
                (on (int_lt n.0 (pos length_is)) v cells' r)

        -- where it goes on, the number is below the length
        module _ (v : State) (id : TyId) (typed : local_ty site.place.local ≡ Some id) where
          abbrev Below : Datum → Type 0
          Below d = (w ≡ v) × ((n : ℕ) × ((d ≡ Number (pos n)) × (n < length_is)))

          of_number : (x : ℤ) → values.within_bounds setting (int_lt x (pos length_is)) w ≡ Go v →
              (n : ℕ) × (x ≡ pos n) → Below (Number x)
          of_number x e n = by (int_lt x (pos length_is)) refl e
            where
              same_state : Go w ≡ Go v → w ≡ v
              same_state k = cc

              by : (b : Bool) → int_lt x (pos length_is) ≡ b → values.within_bounds setting b w ≡ Go v →
                  Below (Number x)
              by true l k = (
                same_state k,
                (n.0, (ap Number n.1, ltb-true n.0 length_is (subst (λ y. int_lt y (pos length_is) ≡ true) n.1 l))),
              )
              by false l k = absurd (let never : ⊥ = cc in never)

          kind_is : int_kind (type_at items id) ≡ Some IntKind.Usize
          kind_is = ap int_kind (int_is setting number targets uniques base is_target passed IntKind.Usize
              (type_at items id) (subst (λ o. is_int IntKind.Usize (option_and_then (type_at items)
              (option_and_then (λ i. Some i) o)) ≡ true) typed
              (subst (λ p. is_int IntKind.Usize (ty_of items local_ty is_target p) ≡ true) in_a_local is_usize)))

          by_value : (p : Presence) (d : Datum) → Fits items (OfType id) p d → (b : Bool) →
              values.or_stuck {A = Datum × State} (option_map_or (λ (s : Located). Some (s.value, w))
              (values.if_so b (record (root site.place.local id) { value = d })) None)
              (λ t. values.bounded setting length_is t.0 t.1) w ≡ Go v → Below d
          by_value p d fit false e = absurd (let never : ⊥ = cc in never)
          by_value p (Number x) fit true e = of_number x e
              (not_negative x (subst (λ k. number_fits k x ≡ true) (some_kind (sym fit.1.1 ∙ kind_is)) fit.1.2))
            where
              some_kind : {a b : IntKind} → Some a ≡ Some b → a ≡ b
              some_kind k = cc
          by_value p other fit true e = absurd (let never : ⊥ = cc in never)

          reached_it : whole_at setting w site ≡ whole setting (root site.place.local id)
          reached_it = ap (λ r. on_reached r (whole setting) None None) (ap (λ p. reach setting w p) in_a_local
              ∙ from_root setting number targets uniques base is_target passed w cells facts runs
              (whole_local site.place.local) id typed)

        pub bounds_known : (v : State) (c : List (ℕ × Presence)) →
            act setting run (effects.Bounds (effects.Copied site) length_is) w ≡ Go v → R v c facts →
            R v c (with_bounded site.place.local length_is facts)
        bounds_known v c e r =
            let id = sure_typed facts site.place (first (sure_place items local_ty is_target facts site.place) _
            takes_it) in
            let below = by_value v id.0 id.1 (presence site.place.local cells)
            (cell site.place.local runs.known.held) (runs.known.fits site.place.local id.0 id.1)
            (is_whole (cell site.place.local runs.known.held))
            (sym (ap (λ o. values.or_stuck {A = Datum × State}
            (option_map_or (λ (s : Located). Some (s.value, w)) o None)
            (λ t. values.bounded setting length_is t.0 t.1) w) (reached_it v id.0 id.1)) ∙ e) in
            let same : cell site.place.local r.known.held ≡ cell site.place.local runs.known.held =
            ap (cell site.place.local) (known_held setting number targets uniques base is_target passed v c r.known
            runs.known.held runs.known.older
            (ap (λ (x : State). x.activations) (sym below.0) ∙ runs.known.is_there)).0 in
            also_bounded setting number targets uniques base is_target passed v c facts site.place.local length_is r
            (below.1.0, (same ∙ below.1.1.0, below.1.1.1))

    -- ---- the result

    pub gives_whole : (run : Bodies) (site : EffectSite) →
        may_give items local_ty is_target facts cells site.place ≡ true → values.give setting run site w ≡ Go w
    gives_whole run site h =
        let in_local = second (is_none facts.refilled) _ h in
        let more = second (no_steps site.place.steps) _ in_local in
        let last = second (not (is_target site.place.local)) _ more in
        let whole_place_is = whole_place site.place (first (no_steps site.place.steps) _ in_local) in
        let id = typed (local_ty site.place.local) (subst (λ p. is_some (id_of items local_ty is_target p) ≡ true)
        whole_place_is (second (all_present (presence site.place.local cells)) _ last)) in
        ap (λ o. values.or_stuck o (λ s. Go w) w) (ap (λ r. on_reached r (whole setting) None None)
        (ap (λ p. reach setting w p) whole_place_is
        ∙ from_root setting number targets uniques base is_target passed w cells facts runs
        (whole_local site.place.local) id.0 id.1)
        ∙ ap (λ b. values.if_so b (root site.place.local id.0))
        (whole_if_present items (cell site.place.local runs.known.held) (OfType id.0)
        (presence site.place.local cells) (first (all_present (presence site.place.local cells)) _ last)
        (runs.known.fits site.place.local id.0 id.1)))
      where
        typed : (o : Option TyId) → is_some (option_and_then (λ (i : TyId). Some i) o) ≡ true →
            (id : TyId) × (o ≡ Some id)
        typed None k = absurd (false≢true k)
        typed (Some id) k = (id, refl)
