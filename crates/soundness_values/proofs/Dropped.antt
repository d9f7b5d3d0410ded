-- The drop of an entry of a scope, on values, follows that of a free run: it takes the choice 0 where it goes on and
-- 1 where it panics, and the entry is gone then.
use Rattle.std.proofs.Common.{◌≡◌, ℕ, ◌<◌, ◌==◌, ◌||◌, not, Bool, true, false, List, [], ◌∷◌, length, Option, Some, refl, ap, sym, ◌∙◌, subst}
use Rattle.std.specs.Prelude.{slice_get, option_and_then}
use Rattle.std.specs.Option.{option_map_or}
use Rattle.std.proofs.lemmas.Bool.Decides.{Decides-eqb}
use Rattle.mir_ty.specs.declared.ty.TyId.{TyId}
use Rattle.mir_ty.specs.Facts.{needs_drop}
use Rattle.mir_ty.specs.ItemTable.{ItemTable}
use Rattle.store_model.proofs.Effects.Following.{Relation, FollowsOut, goes_on, unwinds, lapsed}
use Rattle.store_model.specs.declared.address.Addr.{Addr}
use Rattle.store_model.specs.Values.Datum.{Gone}
use Rattle.store_model.specs.Values.Wholeness.{is_whole}
use Rattle.store_model.specs.Effects.{EffectSite, Mode, Halt, Aborted, OutOfTicks, Stuck, StuckAt, BadUse, NoChoice, Infeasible, Unreachable, BadStore, Out, Halts}
use Rattle.store_model.specs.Abstract.Effects as free
use Rattle.store_model.specs.Abstract.Effects.{AbstractState, presence, with_presence}
use Rattle.store_model.specs.Abstract.Presence.{Presence, known, none_named}
use Rattle.store_model.specs.Places.Place.{whole_local}
use Rattle.store_model.specs.Concrete.Effects as values
use Rattle.store_model.specs.Concrete.Effects.{dropped_if, nothing_if}
use Rattle.store_model.specs.Concrete.Drops.{Begins, drop_at, still_of}
use Rattle.store_model.specs.Concrete.Location.{Setting, OfType, Located, located_at, stored_at, Reaches, CutOff, Nowhere, reach, reach_of, on_reached, in_youngest, located_root, along}
use Rattle.store_model.specs.Concrete.State.{State, Activation, Cells, cell, with_cell, with_cell_at, Bodies}
use Rattle.soundness_values.proofs.Feeding.{fed}
use Rattle.soundness_values.proofs.Fits.{Fits}
use Rattle.soundness_values.proofs.Standings.{cell_changed, cell_other, Alike}
use Rattle.soundness_values.proofs.Reached.{reached_stands}
use Rattle.soundness_values.proofs.Apart.{located_apart}
use Rattle.soundness_values.proofs.Frames.{at_head}
use Rattle.soundness_values.proofs.LocalPresence.{presence_changed, presence_other}
use Rattle.soundness_values.proofs.LadderEnds.{Room, Kept, Done, goes, panics, ends, DropsKeep}
use Rattle.soundness_values.proofs.Ladder.{dropping_done}
use Rattle.soundness_values.proofs.Sealed.{Sealed}
use Rattle.soundness_values.proofs.Known.{Target, Known, known_alike}
use Rattle.soundness_values.specs.Frames.{other_depth}

-- a run may end at any point
abbrev pub Lapses : (State → Type 0) → Halt → State → Type 0
Lapses halted Aborted w = halted w
Lapses halted OutOfTicks w = halted w
Lapses halted halt w = ⊥

abbrev pub feeding : List Bool → List (ℕ × Presence) → AbstractState
feeding choices cells = record { cells = cells; choices = choices }

module _ (setting : Setting) (size : ℕ → ℕ)
    (sized : (body key : ℕ) (id : TyId) → setting.local_ty body key ≡ Some id →
    key < size body) (keeping : Kept setting size) (number : ℕ)
    (targets : List Target) (uniques : List Addr) (base : State) (dropping : List ℕ) where
  abbrev items : ItemTable
  items = setting.items

  -- the locals of the body, where nothing is half taken from a value with a `Drop` impl, and the account
  pub record Runs (w : State) (cells : List (ℕ × Presence)) : Type 0 where
    pub known : Known setting number targets uniques base w cells
    pub sealed : (key : ℕ) → Sealed (cell key known.held)
    pub room : (key : ℕ) → Room size dropping w (cell key known.held)
    pub good : keeping.good dropping w

  abbrev pub rel : Relation State AbstractState
  rel = fed (List (ℕ × Presence)) feeding Runs (Lapses keeping.halted)

  abbrev pub local_ty : ℕ → Option TyId
  local_ty key = setting.local_ty number key

  module _ (node key : ℕ) (id : TyId) (is_typed : setting.local_ty number key ≡ Some id)
      (needs : needs_drop items id ≡ true)
      (no_target : (n : ℕ) (t : Target) → slice_get targets n ≡ Some t → (t.local == key) ≡ false) where
    abbrev site : EffectSite
    site = record { node = node; place = whole_local key }

    abbrev standing : Cells → List Activation → Located
    standing held older =
        record {
          address = record { depth = length older; key = (record { 0 = key }); path = [] };
          dynamic =
              OfType id;
          value = cell key held;
        }

    reached : (w : State) (held : Cells) (older : List Activation) →
        w.activations ≡ (record { body = number; cells = held }) ∷ older → reach setting w site.place ≡ Reaches
        (standing held older)
    reached w held older e =
        ap (in_youngest setting w site.place) e
        ∙ ap (λ o. on_reached (reach_of (located_root (length older) key held o)) (along setting w held []) CutOff
        Nowhere) is_typed

    emptied : List (ℕ × Presence) → List (ℕ × Presence)
    emptied cells = with_presence key (λ p. known true none_named) cells

    -- the local is gone
    now_gone : (w : State) (cells : List (ℕ × Presence)) (k : Known setting number targets uniques base w cells) →
        Known setting number targets uniques base (stored_at (standing k.held k.older).address Gone w)
        (with_presence key (λ p. known true none_named) cells)
    now_gone w cells k = record {
      held = with_cell key Gone k.held;
      older = k.older;
      is_there = there;
      fits = λ other i e. fitting other i e (other == key) refl;
      named = λ n t e. cell_other key t.local Gone k.held (no_target n t e) ∙ k.named n t e;
      is_older = k.is_older;
      stands = λ n t e. let s = k.stands n t e in record {
        standing = s.standing;
        stands = located_apart setting w t.address (standing k.held k.older).address Gone
            (other_depth t.address (standing k.held k.older).address (k.is_older n t e)) ∙ s.stands;
        of_type = s.of_type;
        by_impl = s.by_impl;
        whole = s.whole;
      };
      values = k.values;
      many = k.many;
      frame = k.frame;
    }
      where
        same_depth : (length k.older == length k.older) ≡ true
        same_depth = (Decides-eqb (length k.older) (length k.older)).1 refl

        there : (stored_at (standing k.held k.older).address Gone w).activations
            ≡ (record { body = number; cells = with_cell key Gone k.held }) ∷ k.older
        there = ap (with_cell_at (length k.older) key Gone) k.is_there ∙ at_head (length k.older) key Gone
            (record { body = number; cells = k.held }) k.older same_depth

        fitting : (other : ℕ) (i : TyId) → setting.local_ty number other ≡ Some i → (b : Bool) → (other == key) ≡ b →
            Fits items (OfType i) (presence other (with_presence key (λ p. known true none_named) cells))
            (cell other (with_cell key Gone k.held))
        fitting other i e true same =
            let is_it : other ≡ key = (Decides-eqb other key).0 same in
            subst (λ n. Fits items (OfType i) (presence n (with_presence key (λ p. known true none_named) cells))
            (cell n (with_cell key Gone k.held))) (sym is_it)
            (subst (λ d. Fits items (OfType i) (presence key (with_presence key (λ p. known true none_named) cells))
            d)
            (sym (cell_changed key Gone k.held))
            (subst (λ p. Fits items (OfType i) p Gone)
            (sym (presence_changed key (λ p. known true none_named) cells))
            refl))
        fitting other i e false differs =
            subst (λ d. Fits items (OfType i) (presence other (with_presence key (λ p. known true none_named) cells))
            d)
            (sym (cell_other key other Gone k.held differs))
            (subst (λ p. Fits items (OfType i) p (cell other k.held))
            (sym (presence_other key other (λ p. known true none_named) cells differs)) (k.fits other i e))

    module _ (run : Bodies) (keeps : DropsKeep setting size sized keeping run) (loose : setting.strict ≡ false)
        (after : (w v : State) (cells : List (ℕ × Presence)) (r : Runs w cells) →
        Alike v.activations (stored_at (standing r.known.held r.known.older).address Gone w).activations →
        keeping.good dropping v →
        (k : Known setting number targets uniques base v (with_presence key (λ p. known true none_named) cells)) →
        ((other : ℕ) → Sealed (cell other k.held)) × ((other : ℕ) → Room size dropping v (cell other k.held))) where
      -- the drop of an entry whose type needs dropping
      pub entry_drops : (fuel : ℕ) (mode : Mode) (n : Unit {0}) (w : State) (cells : List (ℕ × Presence)) →
          Runs w cells →
          FollowsOut rel n (values.drop setting run fuel mode site w)
          (λ t. free.drop items local_ty mode site (feeding t cells))
      entry_drops fuel mode n w cells r =
          subst (λ o. FollowsOut rel n o (λ t. free.drop items local_ty mode site (feeding t cells))) (sym concrete)
          (by _ done)
        where
          s : Located
          s = standing r.known.held r.known.older

          at_it : located_at setting w s.address ≡ Some s
          at_it = reached_stands setting w site.place s (reached w r.known.held r.known.older r.known.is_there)

          concrete : values.drop setting run fuel mode site w ≡ drop_at setting run fuel Begins s mode w
          concrete =
              ap (λ x. on_reached x
              (λ u. dropped_if setting run fuel (not setting.strict || is_whole u.value) mode u w)
              (nothing_if setting run setting.strict w) (Halts Stuck w))
              (reached w r.known.held r.known.older r.known.is_there)
              ∙ ap (λ b. dropped_if setting run fuel (not b || is_whole s.value) mode s w) loose

          still : still_of items (OfType id) (OfType id) ≡ true
          still = (Decides-eqb id.0 id.0).1 refl

          done : Done setting size sized keeping dropping w s.address mode (drop_at setting run fuel Begins s mode w)
          done = (dropping_done setting size sized keeping run keeps fuel).0 dropping w s
              (presence key cells) mode at_it (r.known.fits key id is_typed) (r.sealed key) (still, refl) (r.room key)
              r.good

          freely : (t : List Bool) → free.drop items local_ty mode site (feeding t cells) ≡ free.dropped items
              local_ty
              true mode site (feeding t cells)
          freely t = ap (λ b. free.dropped items local_ty b mode site (feeding t cells))
              (ap (λ o. option_map_or (needs_drop items) (option_and_then (λ i. Some i) o) false) is_typed ∙ needs)

          runs : (v : State) → Alike v.activations (stored_at s.address Gone w).activations →
              keeping.good dropping v →
              Runs v (with_presence key (λ p. known true none_named) cells)
          runs v j g =
              let k = known_alike setting number targets uniques base (stored_at s.address Gone w) v
              (with_presence key (λ p. known true none_named) cells) (now_gone w cells r.known) j in
              let rest = after w v cells r j g k in
              record { known = k; sealed = rest.0; room = rest.1; good = g }

          by : (o : Out State) → Done setting size sized keeping dropping w s.address mode o →
              FollowsOut rel n o (λ t. free.drop items local_ty mode site (feeding t cells))
          by o (goes v j g) = goes_on n v (with_presence key (λ p. known true none_named) cells) (false ∷ []) _
              (runs v j g) (λ rest. freely (false ∷ rest))
          by o (panics v e j g) =
              unwinds n v (with_presence key (λ p. known true none_named) cells) (true ∷ []) _ (runs v j g)
              (λ rest. freely (true ∷ rest)
              ∙ ap (λ m. free.unwound items local_ty m
              (feeding rest (with_presence key (λ p. known true none_named) cells))) e)
          by o (ends Aborted v h g) = lapsed n Aborted v _ g
          by o (ends OutOfTicks v h g) = lapsed n OutOfTicks v _ g
          by o (ends Stuck v h g) = absurd h
          by o (ends (StuckAt b c) v h g) = absurd h
          by o (ends (BadUse at) v h g) = absurd h
          by o (ends (BadStore at) v h g) = absurd h
          by o (ends NoChoice v h g) = absurd h
          by o (ends Infeasible v h g) = absurd h
          by o (ends Unreachable v h g) = absurd h
