-- An assignment drops what stands at its place, and stores its value there at once: the drop leaves the place empty,
-- and where it is filled all is known again as if nothing had been dropped.
use Rattle.std.proofs.Common.{◌≡◌, ◌≢◌, ℕ, suc, ◌==◌, ◌&&◌, not, Bool, true, false, List, [], length, Option, Some, None, if◌then◌else◌, refl, ap, sym, ◌∙◌, subst}
use Rattle.std.specs.Prelude.{slice_get, option_and_then}
use Rattle.std.specs.Option.{option_map_or}
use Rattle.std.proofs.lemmas.Bool.{false≢true}
use Rattle.std.proofs.lemmas.Bool.Decides.{Decides-eqb}
use Rattle.mir_ty.specs.declared.ty.TyId.{TyId}
use Rattle.mir_ty.specs.ItemTable.{ItemTable, type_at}
use Rattle.store_model.proofs.Effects.Following.{Relation}
use Rattle.store_model.specs.declared.address.Addr.{Addr}
use Rattle.store_model.specs.Values.Datum.{Datum, Gone}
use Rattle.store_model.specs.Values.Access.{replaced}
use Rattle.store_model.specs.Values.Wholeness.{is_whole}
use Rattle.store_model.specs.Effects as effects
use Rattle.store_model.specs.Effects.{EffectSite, Stuck, BadUse, BadStore, Unreachable, Out, Go, Halts, on_go, halting_if}
use Rattle.store_model.specs.Abstract.Effects as free
use Rattle.store_model.specs.Abstract.Effects.{AbstractState, presence, with_presence, may_use, may_store, watched_at, acted}
use Rattle.store_model.specs.Abstract.Presence.{Presence, is_present, all_present}
use Rattle.store_model.specs.Places.Place.{Place, place_ty, whole_local, is_reference}
use Rattle.store_model.specs.Places.TypeForms.{same_id, is_never, is_dyn}
use Rattle.store_model.specs.Concrete.Effects as values
use Rattle.store_model.specs.Concrete.Effects.{act, put, whole, whole_at}
use Rattle.store_model.specs.Concrete.Location.{Setting, OfType, Located, Reaches, CutOff, Nowhere, reach, reach_of, on_reached, in_youngest, located_root, along, stored_at, root_of, named_by}
use Rattle.store_model.specs.Concrete.State.{State, Bodies, Activation, cell}
use Rattle.soundness_values.proofs.Doing.{FollowsOut, goes_on, refused}
use Rattle.soundness_values.specs.Frames.{Apart, Alike, other_depth, other_local}
use Rattle.soundness_values.proofs.Facts.{Facts, without, without_swapped}
use Rattle.soundness_values.proofs.Fits.{Fits, whole_if_present, present_if_whole}
use Rattle.soundness_values.proofs.Frames.{stored_apart}
use Rattle.soundness_values.proofs.Known.{Target}
use Rattle.soundness_values.proofs.Dropped.{feeding}
use Rattle.soundness_values.proofs.Along.{containers_along}
use Rattle.soundness_values.proofs.Apart.{not_same, located_apart}
use Rattle.soundness_values.proofs.LocalPresence.{presence_changed, presence_other}
use Rattle.soundness_values.proofs.Reached.{address_of, reached_stands}
use Rattle.soundness_values.proofs.Running.{sure_place, sure_in, sure_from, Passed, Runs, Lies, in_local, behind, lies}
use Rattle.soundness_values.proofs.Reaching.{Stands, stands, own_watched}
use Rattle.soundness_values.proofs.Changing.{runs_alike}
use Rattle.soundness_values.proofs.Checks.{id_of, ty_of, is_value, may_move, refills}
use Rattle.soundness_values.proofs.Standings.{alike_after, changed_length, stored_alike, stored_twice}
use Rattle.soundness_values.proofs.Storing.{as_found, now_stored, runs_listed}
use Rattle.soundness_values.proofs.Taking.{first, second, not_so, rel, never_fits, taken}
use Rattle.soundness_values.proofs.Acting.{same_ids}
use Rattle.soundness_values.proofs.Testing.{sure_typed}
use Rattle.soundness_values.proofs.Watching.{use_own}
use Rattle.soundness_values.proofs.Ways.{has_index, whole_along}
use Rattle.soundness_values.proofs.Emptied.{filled_again, Hole, Head, head_of, reached_empty}
use Rattle.soundness_values.proofs.RefillTests as tests
use Rattle.soundness_values.proofs.RefillTests.{Told}

module _ (setting : Setting) (number : ℕ) (targets : List Target) (uniques : List Addr) (base : State)
    (is_target : ℕ → Bool) (passed : Passed setting number targets uniques base is_target) where
  abbrev items : ItemTable
  items = setting.items

  abbrev local_ty : ℕ → Option TyId
  local_ty key = setting.local_ty number key

  abbrev R : State → List (ℕ × Presence) → Facts → Type 0
  R = Runs setting number targets uniques base is_target

  abbrev rels : Facts → Relation State AbstractState
  rels = rel setting number targets uniques base is_target passed

  abbrev H : State → List (ℕ × Presence) → Facts → Place → Type 0
  H = Hole setting number targets uniques base is_target passed

  abbrev S : Facts → Place → Bool
  S = sure_place items local_ty is_target

  -- whatever is to be refilled
  pub runs_refilled : (w : State) (cells : List (ℕ × Presence)) (facts : Facts) (o : Option Place) → R w cells facts →
      R w cells (record facts { refilled = o })
  runs_refilled w cells facts o r = record {
    known = r.known;
    holding = record { bounded = r.holding.bounded; variants = r.holding.variants; naming = r.holding.naming };
    sealed = r.sealed;
  }

  -- a whole local is sure, whatever the facts are
  local_sure : (facts more : Facts) (place : Place) → place.steps ≡ [] → S facts place ≡ true → S more place ≡ true
  local_sure facts more place none s =
      subst (λ (p : Place). S more p ≡ true) (ap (λ t. record { local = place.local; steps = t }) (sym none))
      (by (local_ty place.local) refl (subst (λ (p : Place). S facts p ≡ true)
      (ap (λ t. record { local = place.local; steps = t }) none) s))
    where
      at_place : Place
      at_place = record { local = place.local; steps = [] }

      by_named : (id : TyId) (o : Option TyId) → sure_from items local_ty is_target facts at_place id o ≡ true →
          sure_from items local_ty is_target more at_place id o ≡ true
      by_named id None h = h
      by_named id (Some to) h = absurd (false≢true (sym (and_false (is_target place.local)) ∙ h))
        where
          and_false : (b : Bool) → (b && false) ≡ false
          and_false true = refl
          and_false false = refl

      by : (o : Option TyId) → local_ty place.local ≡ o → S facts at_place ≡ true → S more at_place ≡ true
      by None e h = absurd (false≢true (sym (ap (sure_in items local_ty is_target facts at_place) e) ∙ h))
      by (Some id) e h = ap (sure_in items local_ty is_target more at_place) e
          ∙ by_named id (named_by (type_at items id))
          (sym (ap (sure_in items local_ty is_target facts at_place) e) ∙ h)

  module _ (w : State) (cells : List (ℕ × Presence)) (facts : Facts) (hole : Place) (h : H w cells facts hole)
      (run : Bodies) (to site : EffectSite)
      (test : refills items local_ty is_target facts hole (effects.Put to (effects.Moved site)) ≡ true) where
    -- ---- what the test tells

    abbrev told : Told setting number targets uniques base is_target passed facts hole to site test
    told = tests.told setting number targets uniques base is_target passed facts hole to site test

    abbrev local : ℕ
    local = site.place.local

    sure_local : S facts site.place ≡ true
    sure_local = first (S facts site.place) _ told.takes

    moves : may_move items local_ty is_target site.place ≡ true
    moves = second (is_value items local_ty is_target site.place) _ (second (S facts site.place) _ told.takes)

    own : is_target local ≡ false
    own = not_so (is_target local) (first (not (is_target local)) (not (has_index site.place.steps))
        (first (not (is_target local) && not (has_index site.place.steps)) _ moves))

    in_whole : site.place ≡ whole_local local
    in_whole = ap (λ s. record { local = local; steps = s }) told.in_local

    typed : (id : TyId) × (local_ty local ≡ Some id)
    typed = sure_typed setting number targets uniques base is_target passed facts site.place sure_local

    -- ---- where the place lies, before and now

    lies_before : Lies setting number targets uniques base is_target passed h.before h.cells_before facts h.runs hole
    lies_before = lies setting number targets uniques base is_target passed h.before h.cells_before facts h.runs hole
        told.sure (λ o. (h.may o).0)

    abbrev at : Stands setting number targets uniques base is_target passed h.before h.cells_before facts h.runs hole
    at = stands setting number targets uniques base is_target passed h.before h.cells_before facts h.runs hole
        lies_before

    same_standing : at.standing ≡ h.standing
    same_standing = one (sym at.reached ∙ h.reached)
      where
        one : {a b : Located} → Reaches a ≡ Reaches b → a ≡ b
        one k = cc

    there : Alike w.activations (stored_at at.standing.address Gone h.before).activations
    there = subst (λ (s : Located). Alike w.activations (stored_at s.address Gone h.before).activations)
        (sym same_standing) h.emptied

    hd : Head setting number targets uniques base is_target passed h.before h.cells_before facts h.runs hole
        lies_before w
    hd = head_of setting number targets uniques base is_target passed h.before h.cells_before facts h.runs hole
        lies_before w there

    abbrev al : Addr
    al = record { depth = length hd.older; key = (record { 0 = local }); path = [] }

    abbrev d : Datum
    d = cell local hd.held

    abbrev u : State
    u = stored_at al Gone w

    differ : hole.local ≢ local
    differ e = false≢true (sym told.other ∙ (Decides-eqb local hole.local).1 (sym e))

    swap : {a b : Addr} → Apart a b → Apart b a → Apart a b × Apart b a
    swap x y = (x, y)

    are_apart : Apart at.standing.address al × Apart al at.standing.address
    unfolding stands
    are_apart = by lies_before
      where
        by : (l : Lies setting number targets uniques base is_target passed h.before h.cells_before facts h.runs hole) →
            Apart (stands setting number targets uniques base is_target passed h.before h.cells_before facts h.runs
            hole l).standing.address al
            × Apart al (stands setting number targets uniques base is_target passed h.before h.cells_before facts
            h.runs hole l).standing.address
        by (in_local id ty none o sure lead) = (
          other_local _ _ differ,
          other_local _ _ (λ e. differ (sym e)),
        )
        by (behind n t t_at same steps is sure lead) =
            let s = h.runs.known.stands n t t_at in
            let deep : s.standing.address.depth ≢ length hd.older =
            λ e. h.runs.known.is_older n t t_at
            (sym (ap (λ (x : Addr). x.depth) (address_of setting h.before t.address s.standing s.stands)) ∙ e
            ∙ hd.as_deep) in
            (other_depth _ _ deep, other_depth _ _ (λ e. deep (sym e)))

    -- ---- the value

    present_there : presence local cells ≡ presence local h.cells_before
    present_there = ap (presence local) h.cells_are ∙ presence_other hole.local local
        (acted true (watched_at items local_ty (record { node = 0; place = hole }))) h.cells_before told.other

    whole_local_there : may_use (watched_at items local_ty site) (presence local cells) ≡ true →
        all_present (presence local h.cells_before) ≡ true
    whole_local_there e =
        let took = use_own site.place.steps (presence local h.cells_before)
        (sym (ap (λ x. may_use x (presence local h.cells_before))
        (own_watched setting number targets uniques base is_target passed h.before h.cells_before facts h.runs
        site.place sure_local site.node own))
        ∙ sym (ap (may_use (watched_at items local_ty site)) present_there) ∙ e) in
        subst (λ s. whole_along s (presence local h.cells_before) ≡ true) told.in_local took.1

    value_same : d ≡ cell local h.runs.known.held
    value_same = hd.others local told.other

    module _ (used : all_present (presence local h.cells_before) ≡ true) where
      is_it_whole : is_whole d ≡ true
      is_it_whole = subst (λ x. is_whole x ≡ true) (sym value_same)
          (whole_if_present items (cell local h.runs.known.held) (OfType typed.0) (presence local h.cells_before) used
          (h.runs.known.fits local typed.0 typed.1))

      fit_local : Fits items (OfType typed.0) is_present d
      fit_local = subst (Fits items (OfType typed.0) is_present) (sym value_same)
          (present_if_whole items (cell local h.runs.known.held) (OfType typed.0) (presence local h.cells_before)
          (subst (λ x. is_whole x ≡ true) value_same is_it_whole) (h.runs.known.fits local typed.0 typed.1))

      end_typed : told.end ≡ typed.0
      end_typed = same_ids setting number targets uniques base is_target passed told.end typed.0
          (subst (λ o. option_map_or (same_id told.end) o false ≡ true)
          (ap (id_of items local_ty is_target) in_whole ∙ ap (option_and_then (λ (i : TyId). Some i)) typed.1)
          told.of_end)

      fit_end : Fits items (OfType told.end) is_present d
      fit_end = subst (λ i. Fits items (OfType i) is_present d) (sym end_typed) fit_local

      at_end : at.end ≡ told.end
      at_end = one (sym at.end_is ∙ told.end_is)
        where
          one : {a b : TyId} → Some a ≡ Some b → a ≡ b
          one k = cc

      fit_found : Fits items at.standing.dynamic is_present d
      fit_found = as_found setting number targets uniques base is_target passed at.end at.standing.dynamic d at.as_end
          (sym (ap (λ o. is_dyn (option_and_then (type_at items) o)) at.end_is)
          ∙ not_so (is_dyn (ty_of items local_ty is_target hole))
          (second (not (is_reference (ty_of items local_ty is_target hole))) _ told.value))
          (subst (λ i. Fits items (OfType i) is_present d) (sym at_end) fit_end)

      -- ---- what is known then

      abbrev v1 : State
      v1 = stored_at at.standing.address d h.before

      abbrev cells1 : List (ℕ × Presence)
      cells1 = with_presence hole.local (acted false (watched_at items local_ty
          (record { node = 0; place = hole }))) h.cells_before

      stored_first : R v1 cells1 (without hole facts)
      stored_first = now_stored setting number targets uniques base is_target passed h.before h.cells_before facts
          h.runs hole told.sure told.changes 0 d lies_before (λ o. (h.may o).1) fit_found

      sure_then : S (without hole facts) site.place ≡ true
      sure_then = local_sure facts (without hole facts) site.place told.in_local sure_local

      lies_then : Lies setting number targets uniques base is_target passed v1 cells1 (without hole facts) stored_first
          site.place
      lies_then = lies setting number targets uniques base is_target passed v1 cells1 (without hole facts) stored_first
          site.place sure_then (λ o. subst (λ s. containers_along s (presence local cells1) ≡ true)
          (sym told.in_local) refl)

      abbrev at_then : Stands setting number targets uniques base is_target passed v1 cells1 (without hole facts)
          stored_first
          site.place
      at_then = stands setting number targets uniques base is_target passed v1 cells1 (without hole facts) stored_first
          site.place lies_then

      one_less : {a b : ℕ} → suc a ≡ suc b → a ≡ b
      one_less k = cc

      deep_then : length stored_first.known.older ≡ length hd.older
      deep_then = one_less (sym (ap length stored_first.known.is_there)
          ∙ changed_length at.standing.address.depth at.standing.address.key.0
          (replaced at.standing.address.path d (root_of at.standing.address h.before)) h.before.activations
          ∙ ap length h.runs.known.is_there) ∙ sym hd.as_deep

      address_then : at_then.standing.address ≡ al
      address_then = one (sym at_then.reached ∙ ap (reach setting v1) in_whole
          ∙ ap (in_youngest setting v1 (whole_local local)) stored_first.known.is_there
          ∙ ap (λ o. on_reached (reach_of (located_root (length stored_first.known.older) local
          stored_first.known.held o)) (along setting v1 stored_first.known.held []) CutOff Nowhere) typed.1)
          ∙ ap (λ n. record { depth = n; key = (record { 0 = local }); path = [] }) deep_then
        where
          one : {a b : Located} → Reaches a ≡ Reaches b → a.address ≡ b.address
          one k = cc

      taken_then : R (stored_at al Gone v1)
          (with_presence local (acted true (watched_at items local_ty site)) cells1)
          (without site.place (without hole facts))
      taken_then = subst (λ x. R (stored_at x Gone v1)
          (with_presence local (acted true (watched_at items local_ty site)) cells1)
          (without site.place (without hole facts))) address_then
          (taken setting number targets uniques base is_target passed v1 cells1 (without hole facts) stored_first site
          sure_then moves lies_then)

      -- the states are alike
      abbrev filled : State
      filled = stored_at at.standing.address d u

      are_alike : Alike filled.activations (stored_at al Gone v1).activations
      are_alike =
          alike_after (stored_alike setting u (stored_at al Gone (stored_at at.standing.address Gone h.before))
          at.standing.address d (stored_alike setting w (stored_at at.standing.address Gone h.before) al Gone there)) _
          (alike_after (stored_alike setting (stored_at al Gone (stored_at at.standing.address Gone h.before))
          (stored_at at.standing.address Gone (stored_at al Gone h.before)) at.standing.address d
          (stored_apart setting h.before al at.standing.address Gone Gone are_apart.1)) _
          (alike_after (stored_twice setting (stored_at al Gone h.before) at.standing.address at.standing Gone d
          (located_apart setting h.before at.standing.address al Gone are_apart.0
          ∙ reached_stands setting h.before hole at.standing at.reached)) _
          (stored_apart setting h.before at.standing.address al d Gone are_apart.0)))

      abbrev cells_moved : List (ℕ × Presence)
      cells_moved = with_presence local (acted true (watched_at items local_ty site)) cells

      abbrev cells_filled : List (ℕ × Presence)
      cells_filled = with_presence hole.local (acted false (watched_at items local_ty
          (record { node = to.node; place = hole }))) cells_moved

      other_back : (hole.local == local) ≡ false
      other_back = not_same hole.local local differ

      -- and so is what is present
      present_same : (key : ℕ) → presence key cells_filled ≡ presence key
          (with_presence local (acted true (watched_at items local_ty site)) cells1)
      present_same key = by (key == hole.local) refl (key == local) refl
        where
          taking : Presence → Presence
          taking = acted true (watched_at items local_ty site)

          emptying : Presence → Presence
          emptying = acted true (watched_at items local_ty (record { node = 0; place = hole }))

          filling : Presence → Presence
          filling = acted false (watched_at items local_ty (record { node = 0; place = hole }))

          of_hole : presence hole.local cells_filled ≡ presence hole.local (with_presence local taking cells1)
          of_hole =
              presence_changed hole.local filling cells_moved
              ∙ ap filling (presence_other local hole.local taking cells other_back
              ∙ ap (presence hole.local) h.cells_are ∙ presence_changed hole.local emptying h.cells_before)
              ∙ filled_again (watched_at items local_ty (record { node = 0; place = hole }))
              (presence hole.local h.cells_before)
              ∙ sym (presence_other local hole.local taking cells1 other_back
              ∙ presence_changed hole.local filling h.cells_before)

          of_local : presence local cells_filled ≡ presence local (with_presence local taking cells1)
          of_local =
              presence_other hole.local local filling cells_moved told.other ∙ presence_changed local taking cells
              ∙ ap taking (present_there ∙ sym (presence_other hole.local local filling h.cells_before told.other))
              ∙ sym (presence_changed local taking cells1)

          by : (a : Bool) → (key == hole.local) ≡ a → (b : Bool) → (key == local) ≡ b →
              presence key cells_filled ≡ presence key (with_presence local taking cells1)
          by true e b k = subst (λ n. presence n cells_filled ≡ presence n (with_presence local taking cells1))
              (sym ((Decides-eqb key hole.local).0 e)) of_hole
          by false e true k = subst (λ n. presence n cells_filled ≡ presence n (with_presence local taking cells1))
              (sym ((Decides-eqb key local).0 k)) of_local
          by false e false k =
              presence_other hole.local key filling cells_moved e ∙ presence_other local key taking cells k
              ∙ ap (presence key) h.cells_are ∙ presence_other hole.local key emptying h.cells_before e
              ∙ sym (presence_other local key taking cells1 k
              ∙ presence_other hole.local key filling h.cells_before e)

      abbrev goal : Facts
      goal = record (without hole (without site.place facts)) { refilled = None }

      known_then : R filled cells_filled goal
      known_then =
          runs_refilled filled cells_filled (without hole (without site.place facts)) None
          (subst (R filled cells_filled) (without_swapped site.place hole facts)
          (runs_listed setting number targets uniques base is_target passed filled
          (with_presence local (acted true (watched_at items local_ty site)) cells1) cells_filled
          (without site.place (without hole facts)) present_same
          (runs_alike setting number targets uniques base is_target passed (stored_at al Gone v1) filled
          (with_presence local (acted true (watched_at items local_ty site)) cells1)
          (without site.place (without hole facts)) taken_then are_alike)))

      -- ---- the effect

      evaluated : whole_at setting w site ≡ Some (record { address = al; dynamic = OfType typed.0; value = d })
      evaluated = ap (λ r. on_reached r (whole setting) None None)
          (ap (reach setting w) in_whole ∙ ap (in_youngest setting w (whole_local local)) hd.is_there
          ∙ ap (λ o. on_reached (reach_of (located_root (length hd.older) local hd.held o))
          (along setting w hd.held []) CutOff Nowhere) typed.1)
          ∙ ap (λ b. values.if_so b (record { address = al; dynamic = OfType typed.0; value = d })) is_it_whole

      put_there : put setting to d u ≡ Go filled
      unfolding hd
      put_there = ap (λ r. on_reached r (λ s. Go (stored_at s.address d u)) (Halts Stuck u) (Halts Stuck u))
          (ap (reach setting u) told.here
          ∙ reached_empty setting number targets uniques base is_target passed h.before h.cells_before facts h.runs hole
          w local told.other own told.no_index told.own_index lies_before there)

      not_never : is_never (type_at items told.end) ≡ false
      not_never = never_fits setting number targets uniques base is_target passed told.end d fit_end

      never_w : values.never_at setting w to ≡ false
      never_w = ap (λ (l : List Activation). is_never (option_and_then (type_at items)
          (place_ty items (λ x. option_and_then (λ body. setting.local_ty body x)
          (option_map_or (λ (a : Activation). Some a.body) (slice_get l 0) None)) to.place))) hd.is_there
          ∙ ap (λ p. is_never (ty_of items local_ty is_target p)) told.here
          ∙ ap (λ o. is_never (option_and_then (type_at items) o)) told.end_is ∙ not_never

      never_free : free.never_at items local_ty to ≡ false
      never_free = ap (λ p. is_never (ty_of items local_ty is_target p)) told.here
          ∙ ap (λ o. is_never (option_and_then (type_at items) o)) told.end_is ∙ not_never

      done : act setting run (effects.Put to (effects.Moved site)) w ≡ Go filled
      done = ap (λ b. halting_if b Stuck (values.with_operand setting (effects.Moved site) w (put setting to))) never_w
          ∙ ap (λ o. values.or_stuck {A = Datum × State} (option_map_or (λ (s : Located).
          Some (s.value, stored_at s.address Gone w)) o None) (λ x. put setting to x.0 x.1) w) evaluated
          ∙ put_there

    -- the place is filled: what is known is as if nothing had been dropped
    pub refill_acts : FollowsOut (rels (record (without hole (without site.place facts)) { refilled = None })) tt
        (act setting run (effects.Put to (effects.Moved site)) w)
        (λ t. free.act items local_ty (effects.Put to (effects.Moved site)) (feeding t cells))
    refill_acts = by_use (may_use (watched_at items local_ty site) (presence local cells)) refl
      where
        goal_is : Facts
        goal_is = record (without hole (without site.place facts)) { refilled = None }

        freely : Bool → Bool → List Bool → Out AbstractState
        freely n a t = halting_if n Unreachable (on_go (free.when a (BadUse site)
            (λ v. Go (free.after items local_ty true site v)) (feeding t cells)) (free.store items local_ty to))

        stores : (t : List Bool) → Bool → Out AbstractState
        stores t b = free.when b (BadStore to) (λ x. Go (free.after items local_ty false to x))
            (feeding t (with_presence local (acted true (watched_at items local_ty site)) cells))

        comes_to_store : all_present (presence local h.cells_before) ≡ true →
            may_use (watched_at items local_ty site) (presence local cells) ≡ true → (t : List Bool) →
            free.act items local_ty (effects.Put to (effects.Moved site)) (feeding t cells)
            ≡ stores t (may_store (watched_at items local_ty to) (presence to.place.local
            (with_presence local (acted true (watched_at items local_ty site)) cells)))
        comes_to_store took e t =
            ap (λ n. freely n (may_use (watched_at items local_ty site) (presence local cells)) t) (never_free took)
            ∙ ap (λ a. freely false a t) e

        by_store : may_use (watched_at items local_ty site) (presence local cells) ≡ true → (b : Bool) →
            may_store (watched_at items local_ty to) (presence to.place.local
            (with_presence local (acted true (watched_at items local_ty site)) cells)) ≡ b →
            FollowsOut (rels (record (without hole (without site.place facts)) { refilled = None })) tt
            (act setting run (effects.Put to (effects.Moved site)) w)
            (λ t. free.act items local_ty (effects.Put to (effects.Moved site)) (feeding t cells))
        by_store e false k =
            let took = whole_local_there e in
            refused tt _ (BadStore to) (with_presence local (acted true (watched_at items local_ty site)) cells) [] _ tt
            (λ rest. comes_to_store took e rest ∙ ap (stores rest) k)
        by_store e true k =
            let took = whole_local_there e in
            subst (λ o. FollowsOut (rels (record (without hole (without site.place facts)) { refilled = None })) tt o
            (λ t. free.act items local_ty (effects.Put to (effects.Moved site)) (feeding t cells))) (sym (done took))
            (goes_on tt (filled took) (cells_filled took) [] _ (known_then took)
            (λ rest. comes_to_store took e rest ∙ ap (stores rest) k
            ∙ ap (λ p. Go (feeding rest (with_presence p.local (acted false (watched_at items local_ty
            (record { node = to.node; place = p }))) (cells_moved took)))) told.here))

        by_use : (a : Bool) → may_use (watched_at items local_ty site) (presence local cells) ≡ a →
            FollowsOut (rels (record (without hole (without site.place facts)) { refilled = None })) tt
            (act setting run (effects.Put to (effects.Moved site)) w)
            (λ t. free.act items local_ty (effects.Put to (effects.Moved site)) (feeding t cells))
        by_use false e = refused tt _ (BadUse site) cells [] _ tt
            (λ rest. halted_anyhow (free.never_at items local_ty to) (BadUse site) (feeding rest cells)
            (λ v. free.when (may_store (watched_at items local_ty to) (presence to.place.local v.cells)) (BadStore to)
            (λ x. Go (free.after items local_ty false to x)) v) _ e)
          where
            halted_anyhow : (n : Bool) (halt : effects.Halt) (v : AbstractState)
                (next : AbstractState → Out AbstractState) (a : Bool) → a ≡ false →
                halting_if n Unreachable (on_go (free.when a halt (λ x. Go (free.after items local_ty true site x)) v)
                next) ≡ Halts halt v
            halted_anyhow true halt v next true k = absurd (false≢true (sym k))
            halted_anyhow true halt v next false k = refl
            halted_anyhow false halt v next true k = absurd (false≢true (sym k))
            halted_anyhow false halt v next false k = refl
        by_use true e = by_store e (may_store (watched_at items local_ty to) (presence to.place.local
            (with_presence local (acted true (watched_at items local_ty site)) cells))) refl
