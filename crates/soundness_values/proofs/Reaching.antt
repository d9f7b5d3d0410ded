-- What stands at a place that is sure to lead on, and what the tests of a free run say of it.
use Rattle.std.proofs.Common.{◌≡◌, ◌⊎◌, inl, inr, ℕ, ◌&&◌, not, Bool, true, false, List, [], ◌∷◌, ◌++◌, length, Option, Some, None, refl, ap, sym, ◌∙◌}
use Rattle.std.specs.Prelude.{option_and_then}
use Rattle.std.proofs.lemmas.Bool.{false≢true}
use Rattle.mir_ty.specs.declared.ty.TyId.{TyId}
use Rattle.mir_ty.specs.ItemTable.{ItemTable, type_at}
use Rattle.store_model.specs.declared.address.Addr.{Addr}
use Rattle.store_model.specs.Effects.{EffectSite}
use Rattle.store_model.specs.Abstract.Effects.{presence, may_use, may_store, watched_at}
use Rattle.store_model.specs.Abstract.Presence.{Presence, is_present}
use Rattle.store_model.specs.Places.Place.{Step, ToContent, Place, ty_along, place_ty, step_ty, is_reference, content_of, ThroughReference, watched, watched_content}
use Rattle.store_model.specs.Concrete.Effects.{whole_at, whole}
use Rattle.store_model.specs.Concrete.Location.{Setting, OfType, Located, Reaches, CutOff, Nowhere, reach, reach_of, on_reached, in_youngest, located_root, along, named_by}
use Rattle.store_model.specs.Concrete.State.{State, Activation, cell}
use Rattle.soundness_values.proofs.Fits.{Fits, whole_if_present}
use Rattle.soundness_values.proofs.Ways.{reached_by_way, whole_along, whole_at_end, present_along}
use Rattle.soundness_values.proofs.Along.{containers_along, IsFound}
use Rattle.soundness_values.proofs.Watching.{watched_own, use_own, store_own, watched_sure}
use Rattle.soundness_values.proofs.Facts.{Facts, bounded_by, variant_at}
use Rattle.soundness_values.proofs.Known.{Target}
use Rattle.soundness_values.proofs.Behind.{names_it, reach_behind}
use Rattle.soundness_values.proofs.Running.{sure_place, sure_in, sure_from, Passed, Runs, Lies, in_local, behind, lies}

module _ (setting : Setting) (number : ℕ) (targets : List Target) (uniques : List Addr) (base : State)
    (is_target : ℕ → Bool) (passed : Passed setting number targets uniques base is_target) where
  abbrev items : ItemTable
  items = setting.items

  abbrev local_ty : ℕ → Option TyId
  local_ty key = setting.local_ty number key

  abbrev R : State → List (ℕ × Presence) → Facts → Type 0
  R = Runs setting number targets uniques base is_target

  abbrev sure : Facts → Place → Bool
  sure = sure_place items local_ty is_target

  abbrev L : (w : State) (cells : List (ℕ × Presence)) (facts : Facts) → R w cells facts → Place → Type 0
  L = Lies setting number targets uniques base is_target passed

  module _ (w : State) (cells : List (ℕ × Presence)) (facts : Facts) (runs : R w cells facts) (place : Place) where
    -- what is reached there
    pub record Stands : Type 0 where
      pub standing : Located
      pub reached : reach setting w place ≡ Reaches standing
      pub end : TyId
      pub end_is : place_ty items local_ty place ≡ Some end
      pub as_end : IsFound items end standing.dynamic

    head : Activation
    head = record { body = number; cells = runs.known.held }

    own_root : (id : TyId) → Located
    own_root id = record {
      address =
          record { depth = length runs.known.older; key = (record { 0 = place.local }); path = [] };
      dynamic =
          OfType id;
      value = cell place.local runs.known.held;
    }

    pub from_root : (id : TyId) → local_ty place.local ≡ Some id →
        reach setting w place ≡ along setting w runs.known.held place.steps
        (record {
          address = record {
            depth = length runs.known.older;
            key = (record { 0 = place.local });
            path =
                [];
          };
          dynamic = OfType id;
          value = cell place.local runs.known.held;
        })
    from_root id typed =
        ap (in_youngest setting w place) runs.known.is_there
        ∙ ap (λ o. on_reached (reach_of (located_root (length runs.known.older) place.local runs.known.held o))
        (along setting w runs.known.held place.steps) CutOff Nowhere) typed

    pub same_place : (t : Target) (steps : List Step) → t.local ≡ place.local → place.steps ≡ ToContent ∷ steps →
        place ≡ record { local = t.local; steps = ToContent ∷ steps }
    same_place t steps same is = ap (λ s. record { local = place.local; steps = s }) is
        ∙ ap (λ l. record { local = l; steps = ToContent ∷ steps }) (sym same)

    pub content_named : (b : Bool) (to : TyId) → content_of (names_it b to) ≡ Some to
    content_named true to = refl
    content_named false to = refl

    named_is : (b : Bool) (to : TyId) → is_reference (Some (names_it b to)) ≡ true
    named_is true to = refl
    named_is false to = refl

    unfoldable pub stands : L w cells facts runs place → Stands
    stands (in_local id typed none own sure lead) = record {
      standing = record {
        address = record {
          depth = length runs.known.older;
          key = (record { 0 = place.local });
          path =
              lead.path;
        };
        dynamic = lead.dynamic;
        value = lead.inner;
      };
      reached = from_root id typed ∙ reached_by_way setting w runs.known.held
          (record { depth = length runs.known.older; key = (record { 0 = place.local }); path = [] }) lead.way
          lead.indexed;
      end = lead.end;
      end_is = ap (option_and_then (ty_along items place.steps)) typed ∙ lead.end_is;
      as_end = lead.as_end;
    }
    stands (behind n t at same steps is sure lead) =
        let st = runs.known.stands n t at in
        let ty = passed.typed n t at in
        let one : place ≡ record { local = t.local; steps = ToContent ∷ steps } = same_place t steps same is in
        record {
          standing = record {
            address = record (st.standing.address) { path = st.standing.address.path ++ lead.path };
            dynamic = lead.dynamic;
            value = lead.inner;
          };
          reached = ap (reach setting w) one ∙ reach_behind setting number targets uniques base w cells runs.known n
              t
              at ty.0 steps ty.1.0 ty.1.1
              ∙ reached_by_way setting w runs.known.held st.standing.address lead.way lead.indexed;
          end = lead.end;
          end_is = ap (place_ty items local_ty) one ∙ ap (option_and_then (ty_along items (ToContent ∷ steps)))
              ty.1.0
              ∙ ap (λ o. option_and_then (ty_along items steps) (option_and_then (step_ty items ToContent) o)) ty.1.1
              ∙ ap (option_and_then (ty_along items steps)) (content_named t.unique t.to) ∙ lead.end_is;
          as_end = lead.as_end;
        }

    -- how it is watched
    pub watched_so : (l : L w cells facts runs place) → (node : ℕ) →
        (watched_at items local_ty (record { node = node; place = place }) ≡ watched_own place.steps)
        × (is_target place.local ≡ false)
        ⊎ (watched_at items local_ty (record { node = node; place = place })
        ≡ record { steps = []; reach = ThroughReference })
    watched_so (in_local id typed none own sure lead) node =
        inl (
          ap (λ o. watched items o place.steps) typed ∙ watched_sure items (bounded_by facts)
              (variant_at facts place.local []) [] place.steps id sure,
          own,
        )
    watched_so (behind n t at same steps is sure lead) node =
        let ty = passed.typed n t at in
        inr (ap (λ (p : Place). watched items (local_ty p.local) p.steps) (same_place t steps same is)
        ∙ ap (λ o. watched items o (ToContent ∷ steps)) ty.1.0
        ∙ ap (λ o. watched_content (is_reference o) (watched items (option_and_then content_of o) steps)) ty.1.1
        ∙ ap (λ b. watched_content b
        (watched items (option_and_then content_of (Some (names_it t.unique t.to))) steps))
        (named_is t.unique t.to))

    -- what is whole, or is behind a reference, stands there whole
    pub stands_whole : (l : L w cells facts runs place) →
        (is_target place.local ≡ false → whole_along place.steps (presence place.local cells) ≡ true) →
        Fits items (stands l).standing.dynamic is_present (stands l).standing.value
    unfolding stands
    stands_whole (in_local id typed none own s lead) h = whole_at_end items (presence place.local cells) lead.way
        (h own) (runs.known.fits place.local id typed)
    stands_whole (behind n t at same steps is s lead) h = whole_at_end items is_present lead.way
        (present_along items steps is_present refl) (runs.known.stands n t at).whole

  -- ---- uses

  abbrev site_at : ℕ → Place → EffectSite
  site_at node place = record { node = node; place = place }

  module _ (w : State) (cells : List (ℕ × Presence)) (facts : Facts) (runs : R w cells facts) (place : Place)
      (s : sure facts place ≡ true) where
    -- by the form of the question: it is asked of a local, or of what is behind a reference
    own_or_behind : (id : TyId) → local_ty place.local ≡ Some id → (named_by (type_at items id) ≡ None)
        × (sure_from items local_ty is_target facts place id None ≡ true) ⊎ (is_target place.local ≡ true)
    own_or_behind id e = by (named_by (type_at items id)) refl
        (sym (ap (sure_in items local_ty is_target facts place) e) ∙ s)
      where
        first : (a b : Bool) → (a && b) ≡ true → a ≡ true
        first true b h = refl
        first false b h = absurd (false≢true h)

        by : (o : Option TyId) → named_by (type_at items id) ≡ o →
            sure_from items local_ty is_target facts place id o
            ≡ true → (named_by (type_at items id) ≡ None)
            × (sure_from items local_ty is_target facts place id None ≡ true) ⊎ (is_target place.local ≡ true)
        by None d h = inl (d, h)
        by (Some to) d h = inr (first (is_target place.local) _ h)

    pub own_watched : (node : ℕ) → is_target place.local ≡ false → watched_at items local_ty (site_at node place)
        ≡ watched_own place.steps
    own_watched node own = by (local_ty place.local) refl s
      where
        second : (a b : Bool) → (a && b) ≡ true → b ≡ true
        second true b h = h
        second false b h = absurd (false≢true h)

        by_kind : (id : TyId) → local_ty place.local ≡ Some id → (named_by (type_at items id) ≡ None)
            × (sure_from items local_ty is_target facts place id None ≡ true) ⊎ (is_target place.local ≡ true) →
            watched_at items local_ty (site_at node place) ≡ watched_own place.steps
        by_kind id e (inl h) = ap (λ o. watched items o place.steps) e ∙ watched_sure items (bounded_by facts)
            (variant_at facts place.local []) [] place.steps id (second (not (is_target place.local)) _ h.1)
        by_kind id e (inr h) = absurd (false≢true (sym own ∙ h))

        by : (o : Option TyId) → local_ty place.local ≡ o → sure_in items local_ty is_target facts place o ≡ true →
            watched_at items local_ty (site_at node place) ≡ watched_own place.steps
        by None e h = absurd (false≢true h)
        by (Some id) e h = by_kind id e (own_or_behind id e)

    -- what may be used stands there whole
    pub record Used : Type 0 where
      pub lies : L w cells facts runs place
      pub at : Stands w cells facts runs place
      pub same : (stands w cells facts runs place lies).standing ≡ at.standing
      pub fits : Fits items at.standing.dynamic is_present at.standing.value
      pub is_used : whole_at setting w (site_at 0 place) ≡ Some at.standing

    pub used : (node : ℕ) → may_use (watched_at items local_ty (site_at node place)) (presence place.local cells)
        ≡ true → Used
    used node u =
        let all : is_target place.local ≡ false → (containers_along place.steps (presence place.local cells) ≡ true)
        × (whole_along place.steps (presence place.local cells) ≡ true) =
        λ own. use_own place.steps (presence place.local cells)
        (sym (ap (λ x. may_use x (presence place.local cells)) (own_watched node own)) ∙ u) in
        let l = lies setting number targets uniques base is_target passed w cells facts runs place s
        (λ own. (all own).0) in
        let st = stands w cells facts runs place l in
        let fit = stands_whole w cells facts runs place l (λ own. (all own).1) in
        record {
          lies = l;
          at = st;
          same = refl;
          fits = fit;
          is_used = ap (λ r. on_reached r (whole setting) None None) st.reached ∙ ap (λ b. if_it b st.standing)
              (whole_if_present items st.standing.value st.standing.dynamic is_present refl fit);
        }
      where
        if_it : Bool → Located → Option Located
        if_it true s = Some s
        if_it false s = None

    -- what may be stored into, or dropped, is reached
    pub stored : (node : ℕ) → may_store (watched_at items local_ty (site_at node place)) (presence place.local cells)
        ≡ true → L w cells facts runs place
    stored node u = lies setting number targets uniques base is_target passed w cells facts runs place s
        (λ own. (store_own place.steps (presence place.local cells)
        (sym (ap (λ x. may_store x (presence place.local cells)) (own_watched node own)) ∙ u)).0)
