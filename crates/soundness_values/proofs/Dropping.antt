-- Drops of a checked run: an entry of a scope is gone then, and a place that is assigned is empty until it is filled;
-- what needs no dropping never panics. So each follows that of a free run.
use Rattle.std.proofs.Common.{◌≡◌, ◌⊎◌, inl, inr, ℕ, zero, suc, ◌<◌, ◌==◌, ◌||◌, not, Bool, true, false, List, [], ◌∷◌, length, Option, Some, None, is_some, refl, ap, sym, ◌∙◌, subst, arith}
use Rattle.std.specs.Prelude.{slice_get, option_and_then}
use Rattle.std.specs.Option.{option_map_or}
use Rattle.std.proofs.lemmas.Bool.{false≢true}
use Rattle.std.proofs.lemmas.Bool.Decides.{Decides-eqb}
use Rattle.std.proofs.lemmas.Option.{none-some}
use Rattle.mir_ty.proofs.LeastRelations.{needs_drop-rules}
use Rattle.mir_ty.specs.declared.def.ImplDef.{ImplDef}
use Rattle.mir_ty.specs.declared.ty.Ty.{Ty}
use Rattle.mir_ty.specs.declared.ty.TyId.{TyId}
use Rattle.mir_ty.specs.Facts.{needs_drop, ty_has_drop_impl, NeedsDrop, a_box, a_dyn, an_impl, a_part}
use Rattle.mir_ty.specs.ItemTable.{ItemTable, type_at}
use Rattle.mir_ty.specs.Parts.{parts_of}
use Rattle.store_model.proofs.Effects.Following.{Relation}
use Rattle.store_model.specs.declared.address.Addr.{Addr}
use Rattle.store_model.specs.declared.address.At.{At}
use Rattle.store_model.specs.Values.Datum as data_of
use Rattle.store_model.specs.Values.Datum.{Datum, Data, Gone, no_part}
use Rattle.store_model.specs.Values.Access.{part_at}
use Rattle.store_model.specs.Values.Wholeness.{is_whole}
use Rattle.store_model.specs.Effects.{EffectSite, Mode, Halt, Aborted, OutOfTicks, Stuck, BadStore, Out, Go, Unwind, Halts}
use Rattle.store_model.specs.Abstract.Effects as free
use Rattle.store_model.specs.Abstract.Effects.{AbstractState, presence, with_presence, may_store, watched_at, acted}
use Rattle.store_model.specs.Abstract.Presence.{Presence, is_present, presence_along}
use Rattle.store_model.specs.Places.Place.{Step, Place, place_ty, whole_local}
use Rattle.store_model.specs.Places.TypeForms.{is_dyn}
use Rattle.store_model.specs.Concrete.Effects as values
use Rattle.store_model.specs.Concrete.Effects.{dropped_if, nothing_if}
use Rattle.store_model.specs.Concrete.Drops.{Begins, still_of, drop_at}
use Rattle.store_model.specs.Concrete.Location.{Setting, DynamicType, OfType, OfObject, adt_ty, concrete_ty, on_reached, stored_at}
use Rattle.store_model.specs.Concrete.State.{State, Bodies}
use Rattle.soundness_values.proofs.Doing.{FollowsOut, goes_on, unwinds, lapsed, refused}
use Rattle.soundness_values.specs.Frames.{Alike}
use Rattle.soundness_values.specs.Typed.{is_found, is_impl_for}
use Rattle.soundness_values.proofs.Facts.{Facts, without}
use Rattle.soundness_values.proofs.Fits.{Fits, whole_if_present}
use Rattle.soundness_values.proofs.Known.{Target}
use Rattle.soundness_values.proofs.Counts.{held_stored}
use Rattle.soundness_values.proofs.Dropped.{feeding}
use Rattle.soundness_values.proofs.Checked.{Checking, with_facts}
use Rattle.soundness_values.proofs.Relating.{Kept, checked_rel}
use Rattle.soundness_values.proofs.LadderEnds as ladder
use Rattle.soundness_values.proofs.FoundAlike.{of_found}
use Rattle.soundness_values.proofs.LadderEnds.{Room, MayEnd, Told, Done, goes, panics, ends, DropsKeep}
use Rattle.soundness_values.proofs.Ladder.{dropping_done}
use Rattle.soundness_values.proofs.Along.{containers_along, IsFound, as_type, as_object}
use Rattle.soundness_values.proofs.Quiet.{quiet, GoesOn, quietly, no_step, drops_quietly}
use Rattle.soundness_values.proofs.Reached.{reached_stands}
use Rattle.soundness_values.proofs.Running.{sure_place, Passed, Runs, Lies, in_local, behind, lies}
use Rattle.soundness_values.proofs.Reaching.{stands, stands_whole, own_watched, stored}
use Rattle.soundness_values.proofs.Changing.{own_changed, runs_alike, runs_without}
use Rattle.soundness_values.proofs.Checks.{needs, no_steps}
use Rattle.soundness_values.proofs.Sealed.{Sealed, AllSealed, sealed_if_whole}
use Rattle.soundness_values.proofs.StillTyped.{still_itself}
use Rattle.soundness_values.proofs.Taking.{first, rel}
use Rattle.soundness_values.proofs.Watching.{store_own}
use Rattle.soundness_values.proofs.Ways.{Way, ends, to_part, to_field, to_content, to_element, has_index, whole_along, fits_at_end, whole_at_end}
use Rattle.soundness_values.proofs.Ways as ways
use Rattle.soundness_values.proofs.Emptied.{Hole}
use Rattle.soundness_values.proofs.Refilling.{runs_refilled}

-- a part of a value in which nothing is half taken is so too
part_sealed_there : (parts : Data) (n : ℕ) (inner : Datum) → part_at n parts ≡ Some inner → AllSealed parts →
    Sealed inner
part_sealed_there no_part n inner e h = absurd (none-some inner e)
part_sealed_there (data_of.a_part first rest) zero inner e h = let same : first ≡ inner = cc in subst Sealed same h.0
part_sealed_there (data_of.a_part first rest) (suc n) inner e h = part_sealed_there rest n inner e h.1

pub sealed_there : {items : ItemTable} {steps : List Step} {path : List At} {f f' : DynamicType} {d d' : Datum} →
    Way items steps path f d f' d' → Sealed d → Sealed d'
sealed_there (ways.ends f d) h = h
sealed_there (to_part steps path found variant serial parts n inner f f' d' enum is_part is_found way) h =
    sealed_there way (part_sealed_there parts n inner is_part h.1)
sealed_there (to_field steps path found variant serial parts n inner f f' d' enum is_part is_found way) h =
    sealed_there way (part_sealed_there parts n inner is_part h.1)
sealed_there (to_content steps path found serial impl_no inside f f' d' is_found way) h = sealed_there way h
sealed_there (to_element steps path found variant serial parts i n inner f f' d' is_part is_found way) h =
    sealed_there way (part_sealed_there parts n inner is_part h.1)

-- at the end of no steps it is found as before
found_there : {items : ItemTable} {steps : List Step} {path : List At} {f f' : DynamicType} {d d' : Datum} →
    Way items steps path f d f' d' → no_steps steps ≡ true → f' ≡ f
found_there (ways.ends f d) h = refl
found_there (to_part steps path found variant serial parts n inner f f' d' enum is_part is_found way) h =
    absurd (false≢true h)
found_there (to_field steps path found variant serial parts n inner f f' d' enum is_part is_found way) h =
    absurd (false≢true h)
found_there (to_content steps path found serial impl_no inside f f' d' is_found way) h = absurd (false≢true h)
found_there (to_element steps path found variant serial parts i n inner f f' d' is_part is_found way) h =
    absurd (false≢true h)

-- nothing is kept while values are dropped, but what the ladder itself says
abbrev pub nothing_kept : (setting : Setting) (size : ℕ → ℕ) → ladder.Kept setting size
nothing_kept setting size = record {
  good = λ dropping w. Unit {0};
  halted = λ w. Unit {0};
  at_halt = λ dropping w g. tt;
  goes = λ dropping w s e m g. tt;
  frees = λ dropping w s serial impl_no is e m g. tt;
}

-- what needs dropping has a type
typed_if_needs : (items : ItemTable) (id : TyId) → needs_drop items id ≡ true → type_at items id ≡ None → ⊥
typed_if_needs items id e none = by ((needs_drop-rules items id).0 e)
  where
    by : NeedsDrop items id → ⊥
    by (a_box h) = none-some _ (sym none ∙ h)
    by (a_dyn h) = none-some _ (sym none ∙ h)
    by (an_impl h) = false≢true (sym (ap (λ o. option_map_or (ty_has_drop_impl items) o false) none) ∙ h)
    by (a_part variant n h later) = none-some _ (sym (ap (option_and_then (λ ty. slice_get (parts_of items ty variant)
        n)) none) ∙ h)

module _ (setting : Setting) (number : ℕ) (targets : List Target) (uniques : List Addr) (base : State)
    (is_target : ℕ → Bool) (passed : Passed setting number targets uniques base is_target) (size : ℕ → ℕ)
    (sized : (body key : ℕ) (id : TyId) → setting.local_ty body key ≡ Some id → key < size body)
    (loose : setting.strict ≡ false) where
  abbrev items : ItemTable
  items = setting.items

  abbrev local_ty : ℕ → Option TyId
  local_ty key = setting.local_ty number key

  abbrev R : State → List (ℕ × Presence) → Facts → Type 0
  R = Runs setting number targets uniques base is_target

  abbrev rels : Facts → Relation State AbstractState
  rels = rel setting number targets uniques base is_target passed

  abbrev S : Facts → Place → Bool
  S = sure_place items local_ty is_target

  still_found : (end : TyId) (f : DynamicType) → IsFound items end f → (type_at items end ≡ None → ⊥) →
      still_of items f f ≡ true
  still_found end f (as_type _ e _) h = still_itself items f (λ x. h (sym e ∙ x))
  still_found end _ (as_object impl_no h i) k = by (slice_get items.impls impl_no) refl
      (by_trait (type_at items end) h i)
    where
      by_trait : (o : Option Ty) → is_dyn o ≡ true → is_impl_for items o (Some impl_no) ≡ true →
          is_some (slice_get items.impls impl_no) ≡ true
      by_trait (Some (Ty.Dyn n)) h i = known_impl (slice_get items.impls impl_no) n i
        where
          known_impl : (o : Option ImplDef) (n : ℕ) → option_map_or (λ (impl : ImplDef). impl.trait_no == n) o false
              ≡ true → is_some o ≡ true
          known_impl None n x = absurd (false≢true x)
          known_impl (Some impl) n x = refl
      by_trait o h i = absurd (false≢true h)

      by : (o : Option ImplDef) → slice_get items.impls impl_no ≡ o → is_some o ≡ true →
          still_of items (OfObject end impl_no) (OfObject end impl_no) ≡ true
      by None e x = absurd (false≢true x)
      by (Some impl) e x = still_itself items (OfObject end impl_no)
          (λ y. none-some (Ty.Adt impl.adt) (sym y
          ∙ ap (λ (o : Option ImplDef). adt_ty (option_map_or (λ (i : ImplDef). Some i.adt) o None)) e))

  module _ (w : State) (cells : List (ℕ × Presence)) (facts : Facts) (runs : R w cells facts) (place : Place) where
    -- what stands at a place that may be dropped
    pub record Dropped (l : Lies setting number targets uniques base is_target passed w cells facts runs place) :
        Type 0 where
      pub presence_there : Presence
      pub fit : Fits items (stands setting number targets uniques base is_target passed w cells facts runs place
          l).standing.dynamic presence_there (stands setting number targets uniques base is_target passed w cells facts
          runs place l).standing.value
      pub seal : Sealed (stands setting number targets uniques base is_target passed w cells facts runs place
          l).standing.value

    pub may_be_dropped : (l : Lies setting number targets uniques base is_target passed w cells facts runs place) →
        (is_target place.local ≡ false →
        (has_index place.steps ≡ false) ⊎ (whole_along place.steps (presence place.local cells) ≡ true)) → Dropped l
    unfolding stands
    may_be_dropped (in_local id typed none own sure lead) h = by (h own)
      where
        by : (has_index place.steps ≡ false) ⊎ (whole_along place.steps (presence place.local cells) ≡ true) →
            Dropped (in_local id typed none own sure lead)
        by (inl no_index) = record {
          presence_there = presence_along place.steps (presence place.local cells);
          fit = fits_at_end items (presence place.local cells) lead.way no_index
              (runs.known.fits place.local id typed);
          seal = sealed_there lead.way (runs.sealed place.local);
        }
        by (inr whole) = record {
          presence_there = is_present;
          fit = whole_at_end items (presence place.local cells) lead.way whole
              (runs.known.fits place.local id typed);
          seal = sealed_there lead.way (runs.sealed place.local);
        }
    may_be_dropped (behind n t at same steps is sure lead) h =
        let fit = stands_whole setting number targets uniques base is_target passed w cells facts runs place
        (behind n t at same steps is sure lead) (λ own. absurd (false≢true
        (sym own ∙ subst (λ x. is_target x ≡ true) same (passed.is_param n t at)))) in
        record {
          presence_there = is_present;
          fit = fit;
          seal = sealed_if_whole lead.inner (whole_if_present items lead.inner lead.dynamic is_present refl fit);
        }

    -- its numbers are held
    pub room_there : (l : Lies setting number targets uniques base is_target passed w cells facts runs place) →
        Room size [] w (stands setting number targets uniques base is_target passed w cells facts runs place
        l).standing.value
    room_there l k =
        let st = stands setting number targets uniques base is_target passed w cells facts runs place l in
        let change = held_stored size k setting sized w st.standing.address st.standing Gone
        (reached_stands setting w place st.standing st.reached) in
        omega arith

    -- the drop on values is the ladder at that place
    pub drop_is : (run : Bodies) (fuel : ℕ) (mode : Mode) (node : ℕ)
        (l : Lies setting number targets uniques base is_target passed w cells facts runs place) →
        values.drop setting run fuel mode (record { node = node; place = place }) w
        ≡ drop_at setting run fuel Begins (stands setting number targets uniques base is_target passed w cells facts
        runs place l).standing mode w
    drop_is run fuel mode node l =
        let st = stands setting number targets uniques base is_target passed w cells facts runs place l in
        ap (λ r. on_reached r (λ s. dropped_if setting run fuel (not setting.strict || is_whole s.value) mode s w)
        (nothing_if setting run setting.strict w) (Halts Stuck w)) st.reached
        ∙ ap (λ b. dropped_if setting run fuel (not b || is_whole st.standing.value) mode st.standing w) loose

    module _ (run : Bodies) (kept : ladder.Kept setting size) (keeps : DropsKeep setting size sized kept run) (fuel : ℕ)
        (mode : Mode) (dropping : List ℕ)
        (l : Lies setting number targets uniques base is_target passed w cells facts runs place) (d : Dropped l)
        (still : Told setting size sized kept (stands setting number targets uniques base is_target passed w cells facts
        runs place l).standing.dynamic) where
      pub ladder_done : Room size dropping w (stands setting number targets uniques base is_target passed w cells facts
          runs place l).standing.value → kept.good dropping w →
          Done setting size sized kept dropping w (stands setting number targets uniques base is_target passed w cells
          facts runs place l).standing.address mode
          (drop_at setting run fuel Begins (stands setting number targets uniques base is_target passed w cells facts
          runs place l).standing mode w)
      ladder_done room good =
          let st = stands setting number targets uniques base is_target passed w cells facts runs place l in
          (dropping_done setting size sized kept run keeps fuel).0 dropping w st.standing d.presence_there mode
          (reached_stands setting w place st.standing st.reached) d.fit d.seal still room good

  -- ---- an entry of a scope

  module _ (run : Bodies) (keeps : DropsKeep setting size sized (nothing_kept setting size) run) (fuel : ℕ)
      (mode : Mode) (w : State) (cells : List (ℕ × Presence)) (facts : Facts) (runs : R w cells facts) where
    lapses_so : (halt : Halt) (v : State) (g : List Bool → Out AbstractState) (goal : Facts) →
        MayEnd halt → FollowsOut (rels goal) tt (Halts halt v) g
    lapses_so Aborted v g goal h = lapsed tt Aborted v g tt
    lapses_so OutOfTicks v g goal h = lapsed tt OutOfTicks v g tt
    lapses_so other v g goal h = absurd h

    module _ (node key : ℕ) (s : S facts (whole_local key) ≡ true) where
      abbrev site : EffectSite
      site = record { node = node; place = whole_local key }

      abbrev goal : Facts
      goal = without (whole_local key) facts

      abbrev gone : List (ℕ × Presence)
      gone = with_presence key (acted true (watched_at items local_ty site)) cells

      abbrev freely : Bool → List Bool → Out AbstractState
      freely b t = free.dropped items local_ty b mode site (feeding t cells)

      not_panic : (v : State) (o : Out State) → GoesOn setting run w o → o ≡ Unwind v → ⊥
      not_panic v _ (quietly u t) e = let never : ⊥ = cc in never
      not_panic v _ (no_step u) e = let never : ⊥ = cc in never

      module _ (id : TyId) (typed : local_ty key ≡ Some id) (own : is_target key ≡ false) (path : List At)
          (path_is : path ≡ []) where
        abbrev there : Addr
        there = record { depth = length runs.known.older; key = (record { 0 = key }); path = path }

        now_gone : (v : State) → Alike v.activations (stored_at there Gone w).activations → R v gone goal
        now_gone v j = runs_alike setting number targets uniques base is_target passed
            (stored_at (record { depth = length runs.known.older; key = (record { 0 = key }); path = [] }) Gone w) v
            gone goal
            (own_changed setting number targets uniques base is_target passed w cells facts runs (whole_local key) own
            id typed Gone (acted true (watched_at items local_ty site)) refl tt)
            (subst (λ p. Alike v.activations (stored_at (record {
              depth = length runs.known.older;
              key = (record { 0 = key });
              path = p;
            }) Gone w).activations) path_is j)

        by_done : (b : Bool) → needs items local_ty is_target (whole_local key) ≡ b → (o : Out State) →
            (b ≡ false → (GoesOn setting run w o) ⊎ (o ≡ Halts OutOfTicks w)) →
            Done setting size sized (nothing_kept setting size) [] w there mode o →
            FollowsOut (rels goal) tt o (λ t. free.drop items local_ty mode site (feeding t cells))
        by_done true n o q (goes v j g) = goes_on tt v gone (false ∷ []) _ (now_gone v j)
            (λ rest. ap (λ b. freely b (false ∷ rest)) n)
        by_done true n o q (panics v e j g) = unwinds tt v gone (true ∷ []) _ (now_gone v j)
            (λ rest. ap (λ b. freely b (true ∷ rest)) n ∙ ap (λ m. free.unwound items local_ty m (feeding rest gone)) e)
        by_done false n o q (goes v j g) = goes_on tt v gone [] _ (now_gone v j) (λ rest. ap (λ b. freely b rest) n)
        by_done false n o q (panics v e j g) = never (q refl)
          where
            never : (GoesOn setting run w (Unwind v)) ⊎ (Unwind v ≡ Halts OutOfTicks w) →
                FollowsOut (rels goal) tt (Unwind v) (λ t. free.drop items local_ty mode site (feeding t cells))
            never (inl x) = absurd (not_panic v (Unwind v) x refl)
            never (inr x) = absurd (let no : ⊥ = cc in no)
        by_done b n o q (ends halt v h g) = lapses_so halt v _ goal h

      pub entry_drops : FollowsOut (rels goal) tt (values.drop setting run fuel mode site w)
          (λ t. free.drop items local_ty mode site (feeding t cells))
      unfolding stands
      entry_drops = by (lies setting number targets uniques base is_target passed w cells facts runs (whole_local key) s
          (λ o. refl))
        where
          by : Lies setting number targets uniques base is_target passed w cells facts runs (whole_local key) →
              FollowsOut (rels goal) tt (values.drop setting run fuel mode site w)
              (λ t. free.drop items local_ty mode site (feeding t cells))
          by (behind n t at same steps is sure lead) = absurd (let no : ⊥ = cc in no)
          by (in_local id typed none own sure lead) =
              let l : Lies setting number targets uniques base is_target passed w cells facts runs (whole_local key) =
              in_local id typed none own sure lead in
              let d = may_be_dropped w cells facts runs (whole_local key) l (λ o. inl refl) in
              let found : lead.dynamic ≡ OfType id = found_there lead.way refl in
              let still : still_of items lead.dynamic lead.dynamic ≡ true =
              subst (λ f. still_of items f f ≡ true) (sym found) (still_itself_type id) in
              subst (λ o. FollowsOut (rels goal) tt o (λ t. free.drop items local_ty mode site (feeding t cells)))
              (sym (drop_is w cells facts runs (whole_local key) run fuel mode node l))
              (by_done id typed own lead.path lead.path_is (needs items local_ty is_target (whole_local key)) refl
              (drop_at setting run fuel Begins (stands setting number targets uniques base is_target passed w cells
              facts runs (whole_local key) l).standing mode w)
              (λ n. drops_quietly setting run fuel (stands setting number targets uniques base is_target passed w cells
              facts runs (whole_local key) l).standing d.presence_there mode w
              (reached_stands setting w (whole_local key) (stands setting number targets uniques base is_target passed w
              cells facts runs (whole_local key) l).standing
              (stands setting number targets uniques base is_target passed
              w cells facts runs (whole_local key) l).reached) still
              (quiet items lead.inner lead.dynamic id d.presence_there (ap (concrete_ty items) found)
              (subst (λ o. option_map_or (needs_drop items) (option_and_then (λ (i : TyId). Some i) o) false ≡ false)
              typed n) d.fit) d.fit)
              (ladder_done w cells facts runs (whole_local key) run (nothing_kept setting size) keeps fuel mode [] l d
              (still, subst (λ f. is_found items f ≡ true) (sym found) refl) (room_there w cells facts runs
              (whole_local key) l) tt))
            where
              still_itself_type : (id : TyId) → still_of items (OfType id) (OfType id) ≡ true
              still_itself_type id = (Decides-eqb id.0 id.0).1 refl

    -- ---- a place that is assigned

    module _ (said : State → Kept → Type 0) (halted : State → Type 0) (site : EffectSite)
        (s : S facts site.place ≡ true) (n : needs items local_ty is_target site.place ≡ true) where
      abbrev after : Facts
      after = record (without site.place facts) { refilled = Some site.place }

      abbrev emptied_cells : List (ℕ × Presence)
      emptied_cells = with_presence site.place.local (acted true (watched_at items local_ty site)) cells

      abbrev H : State → Type 0
      H v = Hole setting number targets uniques base is_target passed v emptied_cells after site.place

      assigned_lapses : (halt : Halt) (v : State) (g : List Bool → Out (Checking Facts)) → MayEnd halt → halted v →
          FollowsOut (checked_rel said halted) tt (Halts halt v) g
      assigned_lapses Aborted v g h k = lapsed tt Aborted v g k
      assigned_lapses OutOfTicks v g h k = lapsed tt OutOfTicks v g k
      assigned_lapses other v g h k = absurd h

      still_assigned : (end : TyId) → place_ty items local_ty site.place ≡ Some end → (type_at items end ≡ None → ⊥)
      still_assigned end e = typed_if_needs items end
          (subst (λ o. option_map_or (needs_drop items) o false ≡ true) e n)

      pub assigned_drops : ((v : State) → values.drop setting run fuel mode site w ≡ Go v → H v →
          said v (emptied_cells, after)) →
          ((v : State) → values.drop setting run fuel mode site w ≡ Unwind v → H v → said v (emptied_cells, after)) →
          ((halt : Halt) (v : State) → values.drop setting run fuel mode site w ≡ Halts halt v → MayEnd halt →
          halted v) →
          FollowsOut (checked_rel said halted) tt (values.drop setting run fuel mode site w)
          (λ t. with_facts after after (free.drop items local_ty mode site (feeding t cells)))
      assigned_drops went wound ended = by
          (may_store (watched_at items local_ty site) (presence site.place.local cells))
          refl
        where
          freely : Bool → Bool → List Bool → Out (Checking Facts)
          freely b c t = with_facts after after (free.when b (BadStore site) (free.dropped items local_ty c mode site)
              (feeding t cells))

          on : may_store (watched_at items local_ty site) (presence site.place.local cells) ≡ true →
              (l : Lies setting number targets uniques base is_target passed w cells facts runs site.place) →
              (is_target site.place.local ≡ false →
              (containers_along site.place.steps (presence site.place.local cells) ≡ true)
              × ((has_index site.place.steps ≡ false)
              ⊎ (whole_along site.place.steps (presence site.place.local cells) ≡ true))) →
              (o : Out State) → values.drop setting run fuel mode site w ≡ o →
              Done setting size sized (nothing_kept setting size) [] w
              (stands setting number targets uniques base is_target passed w cells facts runs site.place
              l).standing.address mode o →
              FollowsOut (checked_rel said halted) tt o
              (λ t. with_facts after after (free.drop items local_ty mode site (feeding t cells)))
          on e l may o is (goes v j g) =
              goes_on tt v (emptied_cells, after) (false ∷ []) _ (went v is (hole v j))
              (λ rest. ap (λ b. freely b (needs items local_ty is_target site.place) (false ∷ rest)) e
              ∙ ap (λ c. freely true c (false ∷ rest)) n)
            where
              hole : (v : State) → Alike v.activations (stored_at (stands setting number targets uniques base is_target
                  passed w cells facts runs site.place l).standing.address Gone w).activations → H v
              hole v j =
                  let st = stands setting number targets uniques base is_target passed w cells facts runs site.place
                  l in
                  record {
                    before = w;
                    cells_before = cells;
                    runs = runs_refilled setting number targets uniques base is_target passed w cells
                        (without site.place facts) (Some site.place)
                        (runs_without setting number targets uniques base is_target passed site.place w cells facts
                        runs);
                    standing = st.standing;
                    reached = st.reached;
                    may = may;
                    emptied = j;
                    cells_are = refl;
                  }
          on e l may o is (panics v m j g) =
              unwinds tt v (emptied_cells, after) (true ∷ []) _ (wound v is (hole v j))
              (λ rest. ap (λ b. freely b (needs items local_ty is_target site.place) (true ∷ rest)) e
              ∙ ap (λ c. freely true c (true ∷ rest)) n
              ∙ ap (λ x. with_facts after after (free.unwound items local_ty x (feeding rest emptied_cells))) m)
            where
              hole : (v : State) → Alike v.activations (stored_at (stands setting number targets uniques base is_target
                  passed w cells facts runs site.place l).standing.address Gone w).activations → H v
              hole v j =
                  let st = stands setting number targets uniques base is_target passed w cells facts runs site.place
                  l in
                  record {
                    before = w;
                    cells_before = cells;
                    runs = runs_refilled setting number targets uniques base is_target passed w cells
                        (without site.place facts) (Some site.place)
                        (runs_without setting number targets uniques base is_target passed site.place w cells facts
                        runs);
                    standing = st.standing;
                    reached = st.reached;
                    may = may;
                    emptied = j;
                    cells_are = refl;
                  }
          on e l may o is (ends halt v h g) = assigned_lapses halt v _ h (ended halt v is h)

          ready : may_store (watched_at items local_ty site) (presence site.place.local cells) ≡ true →
              is_target site.place.local ≡ false →
              (containers_along site.place.steps (presence site.place.local cells) ≡ true)
              × ((has_index site.place.steps ≡ false)
              ⊎ (whole_along site.place.steps (presence site.place.local cells) ≡ true))
          ready e own = store_own site.place.steps (presence site.place.local cells)
              (sym (ap (λ x. may_store x (presence site.place.local cells))
              (own_watched setting number targets uniques base is_target passed w cells facts runs site.place s
              site.node
              own)) ∙ e)

          by : (b : Bool) → may_store (watched_at items local_ty site) (presence site.place.local cells) ≡ b →
              FollowsOut (checked_rel said halted) tt (values.drop setting run fuel mode site w)
              (λ t. with_facts after after (free.drop items local_ty mode site (feeding t cells)))
          by false e = refused tt _ (BadStore site) (cells, after) [] _ tt
              (λ rest. ap (λ b. freely b (needs items local_ty is_target site.place) rest) e)
          by true e =
              let l = stored setting number targets uniques base is_target passed w cells facts runs site.place s
              site.node e in
              let st = stands setting number targets uniques base is_target passed w cells facts runs site.place l in
              on e l (ready e) _ refl
              (subst (Done setting size sized (nothing_kept setting size) [] w st.standing.address mode)
              (sym (drop_is w cells facts runs site.place run fuel mode site.node l))
              (ladder_done w cells facts runs site.place run (nothing_kept setting size) keeps fuel mode [] l
              (may_be_dropped w cells facts runs site.place l (λ own. (ready e own).1)) (
                still_found st.end st.standing.dynamic st.as_end (still_assigned st.end st.end_is),
                (of_found items st.end st.standing.dynamic st.as_end).1,
              )
              (room_there w cells facts runs site.place l) tt))
