-- Stores and the account of numbers: what is stored where nothing with a number stands has landed. And operands that are
-- taken one after the other, whose numbers are in flight then.
use Rattle.std.proofs.Common.{◌≡◌, ◌⊎◌, inl, inr, ℕ, ◌<◌, ◌&&◌, ◌||◌, not, Bool, true, false, List, [], ◌∷◌, ◌++◌, length, Option, Some, refl, ap, sym, ◌∙◌, subst}
use Rattle.std.specs.Prelude.{slice_get, option_and_then}
use Rattle.std.specs.Option.{option_map_or}
use Rattle.std.proofs.lemmas.Bool.{false≢true}
use Rattle.std.proofs.lemmas.Option.{none-some}
use Rattle.mir_base.specs.declared.trace.Event.{Event}
use Rattle.mir_base.specs.Once.{times}
use Rattle.mir_ty.specs.declared.ty.TyId.{TyId}
use Rattle.mir_ty.specs.Facts.{needs_drop}
use Rattle.mir_ty.specs.ItemTable.{ItemTable, type_at}
use Rattle.store_model.specs.declared.address.Addr.{Addr}
use Rattle.store_model.specs.declared.address.At.{At}
use Rattle.store_model.specs.Values.Datum.{Datum, Gone, Aggregate}
use Rattle.store_model.specs.Values.Wholeness.{serials}
use Rattle.store_model.specs.Effects.{EffectSite, Stuck, Go, Halts}
use Rattle.store_model.specs.Abstract.Effects as free
use Rattle.store_model.specs.Abstract.Effects.{presence, may_store, watched_at}
use Rattle.store_model.specs.Abstract.Presence.{Presence, itself_gone, presence_along}
use Rattle.store_model.specs.Places.Place.{Place, is_reference}
use Rattle.store_model.specs.Places.TypeForms.{is_dyn}
use Rattle.store_model.specs.Concrete.Effects.{put}
use Rattle.store_model.specs.Concrete.Location.{Setting, DynamicType, Located, located_at, on_reached, stored_at}
use Rattle.store_model.specs.Concrete.State.{State, with_event}
use Rattle.soundness_values.specs.Frames.{Apart}
use Rattle.soundness_values.proofs.Along.{IsFound, as_type, as_object}
use Rattle.soundness_values.proofs.Behind.{head_serial}
use Rattle.soundness_values.proofs.Checks.{ty_of, needs, is_value, may_move, may_change, is_unique}
use Rattle.soundness_values.proofs.CountedTakes.{Fine, fine_when, own_spared, Counted}
use Rattle.soundness_values.proofs.Counts.{in_value}
use Rattle.soundness_values.proofs.Dropped.{feeding}
use Rattle.soundness_values.proofs.Dropping.{may_be_dropped}
use Rattle.soundness_values.proofs.Facts.{Facts, Each, each_more}
use Rattle.soundness_values.proofs.Fits.{Fits}
use Rattle.soundness_values.proofs.Forgotten as flights
use Rattle.soundness_values.proofs.Forgotten.{InFlight}
use Rattle.soundness_values.proofs.Frames.{apart_below}
use Rattle.soundness_values.proofs.Guards.{Below, Spares, spares_apart, spares_below, HeadIs, HeadsStand, heads_kept, heads_alike}
use Rattle.soundness_values.proofs.Known.{Target}
use Rattle.soundness_values.proofs.NumbersHeld.{gone_fits}
use Rattle.soundness_values.proofs.Quiet.{Quiet, quiet, no_numbers}
use Rattle.soundness_values.proofs.Reached.{address_of, reached_stands}
use Rattle.soundness_values.proofs.Reaching.{Stands, stands, own_watched, stored}
use Rattle.soundness_values.proofs.Running.{sure_place, Passed, Runs, Lies, in_local, behind}
use Rattle.soundness_values.proofs.Standings.{alike_itself, alike_located}
use Rattle.soundness_values.proofs.Storing.{names_unique}
use Rattle.soundness_values.proofs.Taking.{first, second, not_so}
use Rattle.soundness_values.proofs.Watching.{store_own}
use Rattle.soundness_values.proofs.Ways.{has_index, whole_along, fits_at_end}

-- a place where a number stays lies apart from what a `&mut` parameter names, or above it
pub data Spaced (a b : Addr) : Type 0 where
  spaced_apart : Apart a b → Spaced a b
  spaced_below : Below a b → Spaced a b

abbrev pub AllSpaced : List (Addr × ℕ) → List Target → Type 0
AllSpaced guards targets = (n : ℕ) (t : Target) → slice_get targets n ≡ Some t → t.unique ≡ true →
    Each (λ (g : Addr × ℕ). Spaced g.0 t.address) guards

-- a place that is not the one itself is strictly below it
pub spared_if : (a b : Addr) → Spaced a b → (b ≡ a → ⊥) → Spares a b
spared_if a b (spaced_apart h) f = spares_apart h
spared_if a b (spaced_below ([], e)) f = absurd (f (e ∙ ap (λ p. record { depth = a.depth; key = a.key; path = p })
    (no_more a.path)))
  where
    no_more : (p : List At) → p ++ [] ≡ p
    no_more [] = refl
    no_more (i ∷ p) = ap (λ l. i ∷ l) (no_more p)
spared_if a b (spaced_below (step ∷ rest, e)) f = spares_below step rest e

module _ (setting : Setting) (number : ℕ) (targets : List Target) (uniques : List Addr) (base : State)
    (is_target : ℕ → Bool) (passed : Passed setting number targets uniques base is_target) where
  abbrev items : ItemTable
  items = setting.items

  abbrev local_ty : ℕ → Option TyId
  local_ty key = setting.local_ty number key

  abbrev R : State → List (ℕ × Presence) → Facts → Type 0
  R = Runs setting number targets uniques base is_target

  abbrev S : Facts → Place → Bool
  S = sure_place items local_ty is_target

  abbrev L : (w : State) (cells : List (ℕ × Presence)) (facts : Facts) → R w cells facts → Place → Type 0
  L = Lies setting number targets uniques base is_target passed

  module _ (size : ℕ → ℕ) (sized : (body key : ℕ) (id : TyId) → setting.local_ty body key ≡ Some id → key < size body)
      (loose : setting.strict ≡ false) (dropping : List ℕ) (guards : List (Addr × ℕ))
      (deep : Each (λ (g : Addr × ℕ). g.0.depth < length base.activations) guards)
      (spaced : AllSpaced guards targets) where
    abbrev C : List ℕ → State → Type 0
    C = Counted setting number targets uniques base is_target passed size sized dropping guards deep

    -- ---- where a place that may be changed lies

    module _ (w : State) (cells : List (ℕ × Presence)) (facts : Facts) (runs : R w cells facts) (place : Place) where
      abbrev at : L w cells facts runs place → Located
      at l = (stands setting number targets uniques base is_target passed w cells facts runs place l).standing

      pub spaced_there : (l : L w cells facts runs place) → may_change items local_ty is_target place ≡ true →
          Each (λ (g : Addr × ℕ). Spaced g.0 (at l).address) guards
      unfolding stands
      spaced_there (in_local id typed none own sure lead) changes =
          each_more (λ (g : Addr × ℕ). Spares g.0 (at (in_local id typed none own sure lead)).address)
          (λ (g : Addr × ℕ). Spaced g.0 (at (in_local id typed none own sure lead)).address)
          guards (λ g s. as_spaced g.0 s)
          (own_spared setting number targets uniques base is_target passed size sized dropping guards deep w cells facts
          runs (at (in_local id typed none own sure lead)).address refl)
        where
          as_spaced : (a : Addr) → Spares a (at (in_local id typed none own sure lead)).address →
              Spaced a (at (in_local id typed none own sure lead)).address
          as_spaced a (spares_apart h) = spaced_apart h
          as_spaced a (spares_below step rest e) = spaced_below (step ∷ rest, e)
      spaced_there (behind n t is_at same steps is sure lead) changes =
          let ty = passed.typed n t is_at in
          let is_tgt : is_target place.local ≡ true =
          subst (λ l. is_target l ≡ true) same (passed.is_param n t is_at) in
          let unique : t.unique ≡ true =
          names_unique setting number targets uniques base is_target passed t ty.0 ty.1.1
          (subst (λ o. is_unique items local_ty is_target o ≡ true) (ap local_ty (sym same) ∙ ty.1.0)
          (or_second (is_target place.local) _ changes is_tgt)) in
          let named : (runs.known.stands n t is_at).standing.address ≡ t.address =
          address_of setting w t.address (runs.known.stands n t is_at).standing (runs.known.stands n t is_at).stands in
          subst (λ (a : Addr). Each (λ (g : Addr × ℕ). Spaced g.0 (record a { path = a.path ++ lead.path })) guards)
          (sym named)
          (each_more (λ (g : Addr × ℕ). Spaced g.0 t.address)
          (λ (g : Addr × ℕ). Spaced g.0 (record t.address { path = t.address.path ++ lead.path })) guards
          (λ g s. further g.0 s) (spaced n t is_at unique))
        where
          or_second : (a b : Bool) → (not a || b) ≡ true → a ≡ true → b ≡ true
          or_second true b h k = h
          or_second false b h k = absurd (false≢true k)

          longer : (p q r : List At) → (p ++ q) ++ r ≡ p ++ (q ++ r)
          longer [] q r = refl
          longer (i ∷ p) q r = ap (λ l. i ∷ l) (longer p q r)

          further : (a : Addr) → Spaced a t.address →
              Spaced a (record t.address { path = t.address.path ++ lead.path })
          further a (spaced_apart h) = spaced_apart (apart_below setting a t.address lead.path h)
          further a (spaced_below (rest, e)) = spaced_below (
            rest ++ lead.path,
            ap (λ (b : Addr). record b { path = b.path ++ lead.path }) e
                ∙ ap (λ p. record { depth = a.depth; key = a.key; path = p }) (longer a.path rest lead.path),
          )

      -- where what stands there has no number at its head, the places are spared
      pub spared_there : (l : L w cells facts runs place) → may_change items local_ty is_target place ≡ true →
          ((k : ℕ) → head_serial (at l).value ≡ Some k → ⊥) → HeadsStand setting guards w →
          Each (λ (g : Addr × ℕ). Spares g.0 (at l).address) guards
      spared_there l changes none heads = by guards (spaced_there l changes) heads
        where
          st : Stands setting number targets uniques base is_target passed w cells facts runs place
          st = stands setting number targets uniques base is_target passed w cells facts runs place l

          some_same : {a b : Located} → Some a ≡ Some b → a ≡ b
          some_same x = cc

          differs : (a : Addr) (k : ℕ) → HeadIs setting w a k → (st.standing.address ≡ a → ⊥)
          differs a k h e =
              let one : st.standing ≡ h.standing =
              some_same (sym (reached_stands setting w place st.standing st.reached)
              ∙ ap (located_at setting w) e ∙ h.stands) in
              none k (ap (λ (s : Located). head_serial s.value) one ∙ h.head)

          by : (gs : List (Addr × ℕ)) → Each (λ (g : Addr × ℕ). Spaced g.0 st.standing.address) gs →
              HeadsStand setting gs w → Each (λ (g : Addr × ℕ). Spares g.0 st.standing.address) gs
          by [] s h = tt
          by (g ∷ gs) s h = (spared_if g.0 st.standing.address s.0 (differs g.0 g.1 h.0), by gs s.1 h.1)

    -- ---- a store

    -- nothing with a number stands at a place that is empty by the tests
    module _ (w : State) (cells : List (ℕ × Presence)) (facts : Facts) (runs : R w cells facts) (place : Place)
        (l : L w cells facts runs place)
        (whole : is_target place.local ≡ false →
        (has_index place.steps ≡ false) ⊎ (whole_along place.steps (presence place.local cells) ≡ true)) where
      abbrev old : Datum
      old = (stands setting number targets uniques base is_target passed w cells facts runs place l).standing.value

      is_quiet : (end : TyId) (f : DynamicType) (p : Presence) → IsFound items end f →
          is_dyn (type_at items end) ≡ false → needs_drop items end ≡ false → Fits items f p old → Quiet items old
      is_quiet end f p (as_type _ e _) plain free_of fit = quiet items old f end p e free_of fit
      is_quiet end _ p (as_object impl_no h i) plain free_of fit = absurd (false≢true (sym plain ∙ h))

      pub quiet_there : is_dyn (ty_of items local_ty is_target place) ≡ false →
          needs items local_ty is_target place ≡ false → Quiet items old
      quiet_there plain free_of =
          let st = stands setting number targets uniques base is_target passed w cells facts runs place l in
          let d = may_be_dropped setting number targets uniques base is_target passed size sized loose w cells facts
          runs place l whole in
          is_quiet st.end st.standing.dynamic d.presence_there st.as_end
          (sym (ap (λ o. is_dyn (option_and_then (type_at items) o)) st.end_is) ∙ plain)
          (sym (ap (λ o. option_map_or (needs_drop items) o false) st.end_is) ∙ free_of) d.fit

      pub gone_there : is_target place.local ≡ false → has_index place.steps ≡ false →
          itself_gone (presence_along place.steps (presence place.local cells)) ≡ true → old ≡ Gone
      unfolding stands
      gone_there own no_index gone = by l
        where
          by : (l : L w cells facts runs place) →
              (stands setting number targets uniques base is_target passed w cells facts runs place l).standing.value
              ≡ Gone
          by (in_local id typed none o sure lead) =
              gone_fits items lead.inner lead.dynamic (presence_along place.steps (presence place.local cells)) gone
              (fits_at_end items (presence place.local cells) lead.way no_index
              (runs.known.fits place.local id typed))
          by (behind n t is_at same steps is sure lead) =
              absurd (false≢true (sym own ∙ subst (λ x. is_target x ≡ true) same (passed.is_param n t is_at)))

    -- a value lands at a place that is empty by the tests
    module _ (w : State) (cells : List (ℕ × Presence)) (facts : Facts) (runs : R w cells facts) (to : EffectSite)
        (s : S facts to.place ≡ true)
        (changes : (is_value items local_ty is_target to.place && may_change items local_ty is_target to.place) ≡ true)
        (empty : (needs items local_ty is_target to.place ≡ false) ⊎ ((may_move items local_ty is_target to.place ≡ true)
        × (itself_gone (presence_along to.place.steps (presence to.place.local cells)) ≡ true))) where
      -- where it lands
      pub record Landed (d : Datum) (u : State) : Type 0 where
        pub standing : Located
        pub there : located_at setting w standing.address ≡ Some standing
        pub now : u ≡ stored_at standing.address d w
        pub none : (k : ℕ) → in_value k standing.value ≡ 0
        pub spared : Each (λ (g : Addr × ℕ). Spares g.0 standing.address) guards

      pub landed : (d : Datum) (t : List Bool) → Fine (free.store items local_ty to (feeding t cells)) →
          HeadsStand setting guards w → (u : State) → put setting to d w ≡ Go u → Landed d u
      landed d t f heads u e =
          let may = fine_when (may_store (watched_at items local_ty to) (presence to.place.local cells)) _ _ _ f in
          let l = stored setting number targets uniques base is_target passed w cells facts runs to.place s to.node may in
          lands l (λ own. (store_own to.place.steps (presence to.place.local cells)
          (sym (ap (λ x. may_store x (presence to.place.local cells))
          (own_watched setting number targets uniques base is_target passed w cells facts runs to.place s to.node own))
          ∙ may)).1)
        where
          go_same : {a b : State} → Go a ≡ Go b → a ≡ b
          go_same x = cc

          quiet_head : (d : Datum) (k : ℕ) → Quiet items d → head_serial d ≡ Some k → ⊥
          quiet_head (Aggregate v x parts) k q h = none-some k (sym q.0 ∙ h)
          quiet_head other k q h = none-some k h

          plain : is_dyn (ty_of items local_ty is_target to.place) ≡ false
          plain = not_so (is_dyn (ty_of items local_ty is_target to.place))
              (second (not (is_reference (ty_of items local_ty is_target to.place))) _
              (first (is_value items local_ty is_target to.place) _ changes))

          no_numbers_in : (x : Datum) → (Quiet items x) ⊎ (x ≡ Gone) → (k : ℕ) → in_value k x ≡ 0
          no_numbers_in x (inl q) k = ap (times k) (no_numbers items x q)
          no_numbers_in x (inr g) k = ap (in_value k) g

          no_head : (x : Datum) → (Quiet items x) ⊎ (x ≡ Gone) → (k : ℕ) → head_serial x ≡ Some k → ⊥
          no_head x (inl q) k h = quiet_head x k q h
          no_head x (inr g) k h = none-some k (sym (ap head_serial g) ∙ h)

          lands : (l : L w cells facts runs to.place) → (is_target to.place.local ≡ false →
              (has_index to.place.steps ≡ false) ⊎ (whole_along to.place.steps (presence to.place.local cells) ≡ true)) →
              Landed d u
          lands l whole =
              let st = stands setting number targets uniques base is_target passed w cells facts runs to.place l in
              record {
                standing = st.standing;
                there = reached_stands setting w to.place st.standing st.reached;
                now = sym (go_same (sym (ap (λ r. on_reached r (λ x. Go (stored_at x.address d w)) (Halts Stuck w)
                    (Halts Stuck w)) st.reached) ∙ e));
                none = no_numbers_in st.standing.value (shape empty);
                spared = spared_there w cells facts runs to.place l
                    (second (is_value items local_ty is_target to.place) _ changes)
                    (no_head st.standing.value (shape empty)) heads;
              }
            where
              old_value : Datum
              old_value = (stands setting number targets uniques base is_target passed w cells facts runs to.place
                  l).standing.value

              shape : (needs items local_ty is_target to.place ≡ false)
                  ⊎ ((may_move items local_ty is_target to.place ≡ true)
                  × (itself_gone (presence_along to.place.steps (presence to.place.local cells)) ≡ true)) →
                  (Quiet items old_value) ⊎ (old_value ≡ Gone)
              shape (inl free_of) = inl (quiet_there w cells facts runs to.place l whole plain free_of)
              shape (inr x) =
                  let alone = first (not (is_target to.place.local) && not (has_index to.place.steps)) _ x.0 in
                  inr (gone_there w cells facts runs to.place l whole
                  (not_so (is_target to.place.local) (first (not (is_target to.place.local)) _ alone))
                  (not_so (has_index to.place.steps) (second (not (is_target to.place.local)) _ alone)) x.1)

      pub puts_counted : (d : Datum) (flying : List ℕ) (t : List Bool) →
          Fine (free.store items local_ty to (feeding t cells)) → C (serials d ++ flying) w → (u : State) →
          put setting to d w ≡ Go u → C flying u
      puts_counted d flying t f c u e =
          let x = landed d t f c.heads u e in
          subst (C flying) (sym x.now) (record {
            flow = flights.put size setting sized flying dropping w x.standing d x.there x.none c.flow;
            heads = heads_kept setting guards w x.standing.address d x.spared c.heads;
          })

      -- where the event that tells of it comes after
      pub puts_told : (event : Event) (d : Datum) (flying : List ℕ) (t : List Bool) →
          Fine (free.store items local_ty to (feeding t cells)) → HeadsStand setting guards w →
          InFlight size (serials d ++ flying) dropping (with_event event w) → (u : State) →
          put setting to d w ≡ Go u → C flying (with_event event u)
      puts_told event d flying t f heads flow u e =
          let x = landed d t f heads u e in
          let there : located_at setting (with_event event w) x.standing.address ≡ Some x.standing =
          alike_located setting (with_event event w) w (alike_itself w.activations) x.standing.address ∙ x.there in
          subst (λ y. C flying (with_event event y)) (sym x.now) (record {
            flow = flights.put size setting sized flying dropping (with_event event w) x.standing d there x.none flow;
            heads = heads_alike setting guards (stored_at x.standing.address d w)
                (with_event event (stored_at x.standing.address d w))
                (alike_itself (stored_at x.standing.address d w).activations)
                (heads_kept setting guards w x.standing.address d x.spared heads);
          })
