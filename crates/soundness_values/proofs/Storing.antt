-- Stores of a checked run: a whole value of the type of a place that is sure comes to it, and what is known goes on
-- to hold. So each follows that of a free run, which takes no choice.
use Rattle.std.proofs.Common.{◌≡◌, ◌⊎◌, inl, inr, ℕ, ◌==◌, ◌&&◌, ◌||◌, not, Bool, true, false, List, [], ◌∷◌, ◌++◌, length, Option, Some, None, is_some, refl, ap, sym, ◌∙◌, subst}
use Rattle.std.specs.Prelude.{slice_get, option_and_then}
use Rattle.std.specs.Option.{option_map_or}
use Rattle.std.proofs.lemmas.Bool.{false≢true}
use Rattle.std.proofs.lemmas.Bool.Decides.{Decides-eqb}
use Rattle.std.proofs.lemmas.Option.{none-some}
use Rattle.mir_ty.specs.declared.ty.Ty.{Ty}
use Rattle.mir_ty.specs.declared.ty.TyId.{TyId}
use Rattle.mir_ty.specs.ItemTable.{ItemTable, type_at}
use Rattle.store_model.proofs.Effects.Following.{Relation}
use Rattle.store_model.specs.declared.address.Addr.{Addr}
use Rattle.store_model.specs.Values.Datum.{Datum, Gone}
use Rattle.store_model.specs.Values.Access.{replaced}
use Rattle.store_model.specs.Values.Wholeness.{is_whole}
use Rattle.store_model.specs.Effects.{EffectSite, Halt, Stuck, BadStore, Out, Go, Halts}
use Rattle.store_model.specs.Abstract.Effects as free
use Rattle.store_model.specs.Abstract.Effects.{AbstractState, presence, with_presence, may_store, when, watched_at, acted}
use Rattle.store_model.specs.Abstract.Presence.{Presence, known, none_named, is_present, after_action}
use Rattle.store_model.specs.Places.Place as places
use Rattle.store_model.specs.Places.Place.{Place, place_ty, is_reference}
use Rattle.store_model.specs.Places.TypeForms.{is_dyn, referent}
use Rattle.store_model.specs.Concrete.Effects.{put}
use Rattle.store_model.specs.Concrete.Location.{Setting, DynamicType, OfType, concrete_ty, Located, stored_at, on_reached}
use Rattle.store_model.specs.Concrete.State.{State, cell}
use Rattle.soundness_values.proofs.Doing.{FollowsOut, goes_on, refused}
use Rattle.soundness_values.proofs.Fits.{Fits, whole_if_present}
use Rattle.soundness_values.proofs.Sealed.{Sealed}
use Rattle.soundness_values.proofs.Resealed.{sealed_stored}
use Rattle.soundness_values.proofs.LocalPresence.{presence_changed, presence_other}
use Rattle.soundness_values.proofs.Ways.{has_index, fits_changed, whole_along}
use Rattle.soundness_values.proofs.Kept.{fits_kept}
use Rattle.soundness_values.proofs.Along.{path_at, IsFound, as_type, as_object}
use Rattle.soundness_values.proofs.Leading.{Leads}
use Rattle.soundness_values.proofs.Watching.{watched_own, store_own, acted_whole, acted_element}
use Rattle.soundness_values.proofs.FoundAlike.{fits_alike}
use Rattle.soundness_values.proofs.Facts.{Facts, without}
use Rattle.soundness_values.proofs.Behind.{names_it}
use Rattle.soundness_values.proofs.Dropped.{feeding}
use Rattle.soundness_values.proofs.Known.{Target, Known}
use Rattle.soundness_values.proofs.Running.{sure_place, Passed, Runs, Lies, in_local, behind}
use Rattle.soundness_values.proofs.Reaching.{Stands, stands, stored, own_watched, watched_so}
use Rattle.soundness_values.proofs.Changing.{own_changed}
use Rattle.soundness_values.proofs.ChangingBehind.{behind_changed}
use Rattle.soundness_values.proofs.Checks.{id_of, ty_of, is_value, may_change, is_unique, is_empty}
use Rattle.soundness_values.proofs.Checks as checks
use Rattle.soundness_values.proofs.Taking.{first, second, not_so, rel}

module _ (setting : Setting) (number : ℕ) (targets : List Target) (uniques : List Addr) (base : State)
    (is_target : ℕ → Bool) (passed : Passed setting number targets uniques base is_target) where
  abbrev items : ItemTable
  items = setting.items

  abbrev local_ty : ℕ → Option TyId
  local_ty key = setting.local_ty number key

  abbrev R : State → List (ℕ × Presence) → Facts → Type 0
  R = Runs setting number targets uniques base is_target

  abbrev S : Facts → Place → Bool
  S = sure_place items local_ty is_target

  abbrev L : (w : State) (cells : List (ℕ × Presence)) (facts : Facts) → R w cells facts → Place → Type 0
  L = Lies setting number targets uniques base is_target passed

  -- what is present is the same, however it is listed
  pub runs_listed : (w : State) (cells cells' : List (ℕ × Presence)) (facts : Facts) →
      ((key : ℕ) → presence key cells' ≡ presence key cells) → R w cells facts → R w cells' facts
  runs_listed w cells cells' facts same r = record {
    known = record {
      held = r.known.held;
      older = r.known.older;
      is_there = r.known.is_there;
      fits = λ key id e. subst (λ p. Fits items (OfType id) p (cell key r.known.held)) (sym (same key))
          (r.known.fits key id e);
      named = r.known.named;
      is_older = r.known.is_older;
      stands = r.known.stands;
      values = r.known.values;
      many = r.known.many;
      frame = r.known.frame;
    };
    holding = r.holding;
    sealed = r.sealed;
  }

  pub same_presence : (local : ℕ) (change : Presence → Presence) (cells : List (ℕ × Presence)) →
      change (presence local cells) ≡ presence local cells → (key : ℕ) →
      presence key (with_presence local change cells) ≡ presence key cells
  same_presence local change cells e key = by (key == local) refl
    where
      by : (b : Bool) → (key == local) ≡ b → presence key (with_presence local change cells) ≡ presence key cells
      by true k =
          let same : key ≡ local = (Decides-eqb key local).0 k in
          subst (λ n. presence n (with_presence local change cells) ≡ presence n cells) (sym same)
          (presence_changed local change cells ∙ e)
      by false k = presence_other local key change cells k

  pub names_unique : (t : Target) (id : TyId) → type_at items id ≡ Some (names_it t.unique t.to) →
      is_unique items local_ty is_target (Some id) ≡ true → t.unique ≡ true
  names_unique t id e h = by t.unique e
    where
      by : (b : Bool) → type_at items id ≡ Some (names_it b t.to) → b ≡ true
      by true k = refl
      by false k = absurd (false≢true (sym (ap (λ o. is_some (referent true o)) k) ∙ h))

  module _ (w : State) (cells : List (ℕ × Presence)) (facts : Facts) (runs : R w cells facts) (place : Place)
      (s : S facts place ≡ true) (changes : may_change items local_ty is_target place ≡ true) (node : ℕ)
      (d : Datum) where
    -- a whole value that fits what is found there is stored
    pub now_stored : (l : L w cells facts runs place) →
        (is_target place.local ≡ false →
        (has_index place.steps ≡ false) ⊎ (whole_along place.steps (presence place.local cells) ≡ true)) →
        Fits items (stands setting number targets uniques base is_target passed w cells facts runs place
        l).standing.dynamic is_present d →
        R (stored_at (stands setting number targets uniques base is_target passed w cells facts runs place
        l).standing.address d w)
        (with_presence place.local
        (acted false (watched_at items local_ty (record { node = node; place = place }))) cells)
        (without place facts)
    unfolding stands
    now_stored (in_local id typed none own sure lead) whole fit =
        subst (λ p. R (stored_at
        (record { depth = length runs.known.older; key = (record { 0 = place.local }); path = p }) d w)
        (with_presence place.local
        (acted false (watched_at items local_ty (record { node = node; place = place }))) cells)
        (without place facts)) (sym lead.path_is)
        (own_changed setting number targets uniques base is_target passed w cells facts runs place own id typed d
        (acted false (watched_at items local_ty (record { node = node; place = place })))
        (subst (λ x. Fits items (OfType id) (acted false x (presence place.local cells))
        (replaced (path_at runs.known.held place.steps) d (cell place.local runs.known.held)))
        (sym (own_watched setting number targets uniques base is_target passed w cells facts runs place s node
        own))
        (subst (λ p. Fits items (OfType id) (acted false (watched_own place.steps) (presence place.local cells))
        (replaced p d (cell place.local runs.known.held))) lead.path_is (by (whole own))))
        (sealed_stored (path_at runs.known.held place.steps) d (cell place.local runs.known.held)
        (whole_if_present items d lead.dynamic is_present refl fit) (runs.sealed place.local)))
      where
        by_index : whole_along place.steps (presence place.local cells) ≡ true → (b : Bool) →
            has_index place.steps ≡ b →
            Fits items (OfType id) (acted false (watched_own place.steps) (presence place.local cells))
            (replaced lead.path d (cell place.local runs.known.held))
        by_index h true e = subst (λ q. Fits items (OfType id) q
            (replaced lead.path d (cell place.local runs.known.held)))
            (sym (acted_element false place.steps (presence place.local cells) e))
            (fits_kept items (presence place.local cells) d lead.way (runs.known.fits place.local id typed) h fit)
        by_index h false e =
            subst (λ q. Fits items (OfType id) q (replaced lead.path d (cell place.local runs.known.held)))
            (sym (acted_whole false place.steps (presence place.local cells) e))
            (fits_changed items false (presence place.local cells) d lead.way e
            (runs.known.fits place.local id typed) fit)

        by : (has_index place.steps ≡ false) ⊎ (whole_along place.steps (presence place.local cells) ≡ true) →
            Fits items (OfType id) (acted false (watched_own place.steps) (presence place.local cells))
            (replaced lead.path d (cell place.local runs.known.held))
        by (inl e) = subst (λ q. Fits items (OfType id) q (replaced lead.path d (cell place.local runs.known.held)))
            (sym (acted_whole false place.steps (presence place.local cells) e))
            (fits_changed items false (presence place.local cells) d lead.way e
            (runs.known.fits place.local id typed) fit)
        by (inr h) = by_index h (has_index place.steps) refl
    now_stored (behind n t at same steps is sure lead) whole fit =
        let ty = passed.typed n t at in
        let is_tgt : is_target place.local ≡ true = subst (λ l. is_target l ≡ true) same (passed.is_param n t at) in
        let uniq : is_unique items local_ty is_target (local_ty place.local) ≡ true =
        or_second (is_target place.local) _ changes is_tgt in
        let unique : t.unique ≡ true =
        names_unique t ty.0 ty.1.1
        (subst (λ o. is_unique items local_ty is_target o ≡ true) (ap local_ty (sym same) ∙ ty.1.0) uniq) in
        runs_listed (stored_at
        (record (runs.known.stands n t at).standing.address
        { path = (runs.known.stands n t at).standing.address.path ++ lead.path }) d w) cells
        (with_presence place.local (acted false (watched_at items local_ty (record { node = node; place = place })))
        cells) (without place facts)
        (same_presence place.local (acted false (watched_at items local_ty (record { node = node; place = place })))
        cells (unchanged (watched_so setting number targets uniques base is_target passed w cells facts runs
        place (behind n t at same steps is sure lead) node) is_tgt))
        (behind_changed setting number targets uniques base is_target passed w cells facts runs n t at unique place
        same steps is lead.dynamic lead.inner d lead.path lead.path_is lead.way fit)
      where
        or_second : (a b : Bool) → (not a || b) ≡ true → a ≡ true → b ≡ true
        or_second true b h k = h
        or_second false b h k = absurd (false≢true k)

        unchanged : (watched_at items local_ty (record { node = node; place = place }) ≡ watched_own place.steps)
            × (is_target place.local ≡ false)
            ⊎ (watched_at items local_ty (record { node = node; place = place })
            ≡ record { steps = []; reach = places.ThroughReference }) →
            is_target place.local ≡ true →
            acted false (watched_at items local_ty (record { node = node; place = place }))
            (presence place.local cells) ≡ presence place.local cells
        unchanged (inl x) k = absurd (false≢true (sym x.1 ∙ k))
        unchanged (inr x) k = ap (λ r. acted false r (presence place.local cells)) x

  -- a value of no `dyn` type is found as what stands there is
  pub as_found : (end : TyId) (f : DynamicType) (d : Datum) → IsFound items end f →
      is_dyn (type_at items end) ≡ false → Fits items (OfType end) is_present d → Fits items f is_present d
  as_found end f d (as_type _ e _) plain k = fits_alike items d (OfType end) f is_present (sym e) k
  as_found end f d (as_object impl_no h i) plain k = absurd (false≢true (sym plain ∙ h))

  module _ (w : State) (cells : List (ℕ × Presence)) (facts : Facts) (runs : R w cells facts) where
    pub put_follows : (to : EffectSite) (end : TyId) (d : Datum) → S facts to.place ≡ true →
        (is_value items local_ty is_target to.place && may_change items local_ty is_target to.place) ≡ true →
        place_ty items local_ty to.place ≡ Some end →
        Fits items (OfType end) is_present d →
        FollowsOut (rel setting number targets uniques base is_target passed (without to.place facts)) tt
        (put setting to d w) (λ t. free.store items local_ty to (feeding t cells))
    put_follows to end d s v end_is fit =
        by (may_store (watched_at items local_ty to) (presence to.place.local cells)) refl
      where
        some_same : {a b : TyId} → Some a ≡ Some b → a ≡ b
        some_same x = cc

        by : (b : Bool) → may_store (watched_at items local_ty to) (presence to.place.local cells) ≡ b →
            FollowsOut (rel setting number targets uniques base is_target passed (without to.place facts)) tt
            (put setting to d w) (λ t. free.store items local_ty to (feeding t cells))
        by false e = refused tt _ (BadStore to) cells [] _ tt
            (λ rest. ap (λ b. when b (BadStore to) (λ u. Go (free.after items local_ty false to u))
            (feeding rest cells)) e)
        by true e =
            let l = stored setting number targets uniques base is_target passed w cells facts runs to.place s to.node
            e in
            let st = stands setting number targets uniques base is_target passed w cells facts runs to.place l in
            let plain : is_dyn (type_at items st.end) ≡ false =
            sym (ap (λ o. is_dyn (option_and_then (type_at items) o)) st.end_is)
            ∙ not_so (is_dyn (ty_of items local_ty is_target to.place))
            (second (not (is_reference (ty_of items local_ty is_target to.place))) _
            (first (is_value items local_ty is_target to.place) _ v)) in
            let one : end ≡ st.end = some_same (sym end_is ∙ st.end_is) in
            let found : Fits items st.standing.dynamic is_present d =
            as_found st.end st.standing.dynamic d st.as_end plain
            (subst (λ i. Fits items (OfType i) is_present d) one fit) in
            subst (λ o. FollowsOut
            (rel setting number targets uniques base is_target passed (without to.place facts)) tt o
            (λ t. free.store items local_ty to (feeding t cells)))
            (sym (ap (λ r. on_reached r (λ x. Go (stored_at x.address d w)) (Halts Stuck w) (Halts Stuck w))
            st.reached))
            (goes_on tt (stored_at st.standing.address d w)
            (with_presence to.place.local (acted false (watched_at items local_ty to)) cells) [] _
            (now_stored w cells facts runs to.place s (second (is_value items local_ty is_target to.place) _ v)
            to.node d l
            (λ own. (store_own to.place.steps (presence to.place.local cells)
            (sym (ap (λ x. may_store x (presence to.place.local cells))
            (own_watched setting number targets uniques base is_target passed w cells facts runs to.place s
            to.node own)) ∙ e)).1) found)
            (λ rest. ap (λ b. when b (BadStore to) (λ u. Go (free.after items local_ty false to u))
            (feeding rest cells)) e))
