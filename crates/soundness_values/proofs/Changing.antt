-- What is known of a body that runs after another value came to a place of one of its locals: the facts that the change
-- does not hit hold still.
use Rattle.std.proofs.Common.{◌≡◌, ◌≢◌, ℕ, ◌==◌, ◌&&◌, not, Bool, true, false, List, [], ◌∷◌, ◌++◌, length, Some, if◌then◌else◌, refl, ap, sym, ◌∙◌, subst}
use Rattle.std.specs.Prelude.{slice_get}
use Rattle.std.specs.Option.{option_map_or}
use Rattle.std.proofs.lemmas.Bool.{false≢true}
use Rattle.std.proofs.lemmas.Bool.Decides.{Decides-eqb}
use Rattle.mir_ty.specs.declared.ty.TyId.{TyId}
use Rattle.mir_ty.specs.ItemTable.{ItemTable}
use Rattle.store_model.specs.declared.address.Addr.{Addr}
use Rattle.store_model.specs.Values.Datum.{Datum, Gone, Address}
use Rattle.store_model.specs.Values.Access.{replaced}
use Rattle.store_model.specs.Abstract.Effects.{presence, with_presence}
use Rattle.store_model.specs.Abstract.Presence.{Presence}
use Rattle.store_model.specs.Places.Place.{Step, ToContent, Place}
use Rattle.store_model.specs.Concrete.Location.{Setting, OfType, located_at, stored_at, root_of}
use Rattle.store_model.specs.Concrete.State.{State, Activation, Cells, cell, with_cell, at_depth, with_cell_at}
use Rattle.soundness_values.specs.Frames.{Alike, SameCells, other_depth}
use Rattle.soundness_values.proofs.Fits.{Fits}
use Rattle.soundness_values.proofs.Sealed.{Sealed}
use Rattle.soundness_values.proofs.LocalPresence.{presence_changed, presence_other}
use Rattle.soundness_values.proofs.Standings.{cell_changed, cell_other, alike_located, alike_length, alike_after}
use Rattle.soundness_values.proofs.Apart.{located_apart}
use Rattle.soundness_values.proofs.Along.{path_at}
use Rattle.soundness_values.proofs.Facts.{Naming, Facts, hits, takes_index, stays, without, each_kept, each_more, OfVariant, variant_stays, path_kept, path_same}
use Rattle.soundness_values.proofs.Frames.{at_head}
use Rattle.soundness_values.proofs.Known.{Target, Known, same_head}
use Rattle.soundness_values.proofs.Running.{Passed, BoundedHolds, VariantStands, own_variant, behind_variant, NamingHolds, own_named, behind_named, Holding, Runs}

pub not_so : (b : Bool) → not b ≡ true → b ≡ false
not_so true h = absurd (false≢true h)
not_so false h = refl

pub first : (a b : Bool) → (a && b) ≡ true → a ≡ true
first true b h = refl
first false b h = absurd (false≢true h)

second : (a b : Bool) → (a && b) ≡ true → b ≡ true
second true b h = h
second false b h = absurd (false≢true h)

differs : (n m : ℕ) → (n == m) ≡ false → (m == n) ≡ false
differs n m h = by (m == n) refl
  where
    by : (b : Bool) → (m == n) ≡ b → b ≡ false
    by false e = refl
    by true e = absurd (false≢true (sym h ∙ (Decides-eqb n m).1 (sym ((Decides-eqb m n).0 e))))

module _ (setting : Setting) (number : ℕ) (targets : List Target) (uniques : List Addr) (base : State)
    (is_target : ℕ → Bool) (passed : Passed setting number targets uniques base is_target) where
  abbrev items : ItemTable
  items = setting.items

  abbrev R : State → List (ℕ × Presence) → Facts → Type 0
  R = Runs setting number targets uniques base is_target

  abbrev V : State → Cells → Place → ℕ → Type 0
  V = VariantStands setting number targets uniques base is_target

  abbrev N : ℕ → Cells → Naming → Type 0
  N = NamingHolds setting number targets uniques base is_target

  abbrev H : State → ℕ → Cells → Facts → Type 0
  H = Holding setting number targets uniques base is_target

  -- ---- in a local

  module _ (w : State) (depth : ℕ) (held : Cells) (facts : Facts) (holding : H w depth held facts) (changed : Place)
      (own : is_target changed.local ≡ false) (new : Datum) (w' : State)
      (same_targets : (n : ℕ) (t : Target) → slice_get targets n ≡ Some t →
      located_at setting w' t.address ≡ located_at setting w t.address) where
    abbrev after : Cells
    after = with_cell changed.local (replaced (path_at held changed.steps) new (cell changed.local held)) held

    others : (key : ℕ) → (key == changed.local) ≡ false → cell key after ≡ cell key held
    others key h = cell_other changed.local key (replaced (path_at held changed.steps) new (cell changed.local held))
        held h

    bounded_kept : (b : ℕ × ℕ) → not (b.0 == changed.local) ≡ true →
        BoundedHolds setting number targets uniques base is_target held b →
        BoundedHolds setting number targets uniques base is_target after b
    bounded_kept b e h = (h.0, (others b.0 (not_so (b.0 == changed.local) e) ∙ h.1.0, h.1.1))

    path_stays : (place : Place) → stays changed place ≡ true → path_at after place.steps ≡ path_at held place.steps
    path_stays place e = path_kept changed.local after held place.steps
        (not_so (takes_index changed.local place.steps)
        (second (not (changed.local == place.local && hits changed.steps place.steps))
        (not (takes_index changed.local place.steps)) e)) others

    variant_kept : (v : Place × ℕ) → stays changed v.0 ≡ true → V w held v.0 v.1 → V w' after v.0 v.1
    variant_kept v e (own_variant o h) =
        own_variant o (subst (λ p. OfVariant v.1 p (cell v.0.local after)) (sym (path_stays v.0 e))
        (by (changed.local == v.0.local) refl
        (not_so (changed.local == v.0.local && hits changed.steps v.0.steps)
        (first (not (changed.local == v.0.local && hits changed.steps v.0.steps))
        (not (takes_index changed.local v.0.steps)) e))))
      where
        by : (b : Bool) → (changed.local == v.0.local) ≡ b → (b && hits changed.steps v.0.steps) ≡ false →
            OfVariant v.1 (path_at held v.0.steps) (cell v.0.local after)
        by false k x = subst (OfVariant v.1 (path_at held v.0.steps))
            (sym (others v.0.local (differs changed.local v.0.local k))) h
        by true k x =
            let same : changed.local ≡ v.0.local = (Decides-eqb changed.local v.0.local).0 k in
            subst (λ l. OfVariant v.1 (path_at held v.0.steps) (cell l after)) same
            (subst (OfVariant v.1 (path_at held v.0.steps))
            (sym (cell_changed changed.local
            (replaced (path_at held changed.steps) new (cell changed.local held)) held))
            (variant_stays held new changed.steps v.0.steps v.1 (cell changed.local held) x
            (subst (λ l. OfVariant v.1 (path_at held v.0.steps) (cell l held)) (sym same) h)))
    variant_kept v e (behind_variant n t at same steps is s stands h) =
        behind_variant n t at same steps is s (same_targets n t at ∙ stands)
        (subst (λ p. OfVariant v.1 p s.value) (sym (rest_path v steps is e)) h)
      where
        rest_path : (v : Place × ℕ) (steps : List Step) → v.0.steps ≡ ToContent ∷ steps → stays changed v.0 ≡ true →
            path_at after steps ≡ path_at held steps
        rest_path v steps is e =
            path_kept changed.local after held steps
            (sym (ap (takes_index changed.local) is) ∙ not_so (takes_index changed.local v.0.steps)
            (second (not (changed.local == v.0.local && hits changed.steps v.0.steps))
            (not (takes_index changed.local v.0.steps)) e)) others

    naming_kept : (n : Naming) → (not (n.local == changed.local) && not (takes_index changed.local n.place.steps))
        ≡ true → N depth held n → N depth after n
    naming_kept n e (own_named o h) =
        own_named o (others n.local
        (not_so (n.local == changed.local)
        (first (not (n.local == changed.local)) (not (takes_index changed.local n.place.steps)) e)) ∙ h
        ∙ ap (λ p. Address (record { depth = depth; key = (record { 0 = n.place.local }); path = p }))
        (sym (path_kept changed.local after held n.place.steps
        (not_so (takes_index changed.local n.place.steps)
        (second (not (n.local == changed.local)) (not (takes_index changed.local n.place.steps)) e)) others)))
    naming_kept n e (behind_named m t at same steps is h) =
        behind_named m t at same steps is
        (others n.local (not_so (n.local == changed.local)
        (first (not (n.local == changed.local)) (not (takes_index changed.local n.place.steps)) e)) ∙ h
        ∙ ap (λ p. Address (record t.address { path = t.address.path ++ p }))
        (sym (path_kept changed.local after held steps
        (sym (ap (takes_index changed.local) is) ∙ not_so (takes_index changed.local n.place.steps)
        (second (not (n.local == changed.local)) (not (takes_index changed.local n.place.steps)) e)) others)))

    pub own_holding : H w' depth after (without changed facts)
    own_holding = record {
      bounded = each_kept (BoundedHolds setting number targets uniques base is_target held)
          (BoundedHolds setting number targets uniques base is_target after) (λ b. not (b.0 == changed.local))
          facts.bounded bounded_kept holding.bounded;
      variants = each_kept (λ (v : Place × ℕ). V w held v.0 v.1) (λ (v : Place × ℕ). V w' after v.0 v.1)
          (λ (v : Place × ℕ). stays changed v.0) facts.variants variant_kept holding.variants;
      naming = each_kept (N depth held) (N depth after)
          (λ n. not (n.local == changed.local) && not (takes_index changed.local n.place.steps)) facts.naming
          naming_kept holding.naming;
    }

  module _ (w : State) (cells : List (ℕ × Presence)) (facts : Facts) (runs : R w cells facts) (changed : Place)
      (own : is_target changed.local ≡ false) (id : TyId)
      (typed : setting.local_ty number changed.local ≡ Some id) (new : Datum) (change : Presence → Presence) where
    abbrev root_now : Datum
    root_now = replaced (path_at runs.known.held changed.steps) new (cell changed.local runs.known.held)

    abbrev pub own_at : Addr
    own_at = record {
      depth = length runs.known.older;
      key = (record { 0 = changed.local });
      path =
          path_at runs.known.held changed.steps;
    }

    not_target : (n : ℕ) (t : Target) → slice_get targets n ≡ Some t → (t.local == changed.local) ≡ false
    not_target n t at = by (t.local == changed.local) refl
      where
        by : (b : Bool) → (t.local == changed.local) ≡ b → b ≡ false
        by false e = refl
        by true e = absurd (false≢true
            (sym own ∙ subst (λ l. is_target l ≡ true) ((Decides-eqb t.local changed.local).0 e)
            (passed.is_param n t at)))

    targets_apart : (n : ℕ) (t : Target) → slice_get targets n ≡ Some t →
        located_at setting (stored_at own_at new w) t.address ≡ located_at setting w t.address
    targets_apart n t at = located_apart setting w t.address own_at new
        (other_depth t.address own_at (runs.known.is_older n t at))

    same_depth : (length runs.known.older == length runs.known.older) ≡ true
    same_depth = (Decides-eqb (length runs.known.older) (length runs.known.older)).1 refl

    root : root_of own_at w ≡ cell changed.local runs.known.held
    root =
        ap (λ l. option_map_or (λ (x : Activation). cell changed.local x.cells)
        (at_depth (length runs.known.older) l) Gone) runs.known.is_there
        ∙ ap (λ b. option_map_or (λ (x : Activation). cell changed.local x.cells)
        (if b then Some (record { body = number; cells = runs.known.held }) else at_depth
        (length runs.known.older) runs.known.older) Gone) same_depth

    pub own_there : (stored_at own_at new w).activations
        ≡ (record { body = number; cells = with_cell changed.local root_now runs.known.held }) ∷ runs.known.older
    own_there =
        ap (λ r. with_cell_at (length runs.known.older) changed.local
        (replaced (path_at runs.known.held changed.steps) new r) w.activations) root
        ∙ ap (with_cell_at (length runs.known.older) changed.local root_now) runs.known.is_there
        ∙ at_head (length runs.known.older) changed.local root_now
        (record { body = number; cells = runs.known.held }) runs.known.older same_depth

    module _ (fit : Fits items (OfType id) (change (presence changed.local cells)) root_now)
        (seal : Sealed root_now) where
      fitting : (key : ℕ) (i : TyId) → setting.local_ty number key ≡ Some i → (b : Bool) →
          (key == changed.local) ≡ b →
          Fits items (OfType i) (presence key (with_presence changed.local change cells))
          (cell key (with_cell changed.local root_now runs.known.held))
      fitting key i e true same =
          let is_it : key ≡ changed.local = (Decides-eqb key changed.local).0 same in
          let one : id ≡ i = let at_it = typed in cc in
          subst (λ n. Fits items (OfType i) (presence n (with_presence changed.local change cells))
          (cell n (with_cell changed.local root_now runs.known.held))) (sym is_it)
          (subst (λ v. Fits items (OfType i) (presence changed.local (with_presence changed.local change cells)) v)
          (sym (cell_changed changed.local root_now runs.known.held))
          (subst (λ q. Fits items (OfType i) q root_now) (sym (presence_changed changed.local change cells))
          (subst (λ j. Fits items (OfType j) (change (presence changed.local cells)) root_now) one fit)))
      fitting key i e false differs =
          subst (λ v. Fits items (OfType i) (presence key (with_presence changed.local change cells)) v)
          (sym (cell_other changed.local key root_now runs.known.held differs))
          (subst (λ q. Fits items (OfType i) q (cell key runs.known.held))
          (sym (presence_other changed.local key change cells differs)) (runs.known.fits key i e))

      sealing : (key : ℕ) (b : Bool) → (key == changed.local) ≡ b →
          Sealed (cell key (with_cell changed.local root_now runs.known.held))
      sealing key true same = subst (λ n. Sealed (cell n (with_cell changed.local root_now runs.known.held)))
          (sym ((Decides-eqb key changed.local).0 same))
          (subst Sealed (sym (cell_changed changed.local root_now runs.known.held)) seal)
      sealing key false differs = subst Sealed (sym (cell_other changed.local key root_now runs.known.held differs))
          (runs.sealed key)

      -- another value came to a place of a local
      pub own_changed : R (stored_at own_at new w) (with_presence changed.local change cells) (without changed facts)
      own_changed = record {
        known = record {
          held = with_cell changed.local root_now runs.known.held;
          older = runs.known.older;
          is_there = own_there;
          fits = λ key i e. fitting key i e (key == changed.local) refl;
          named = λ n t e. cell_other changed.local t.local root_now runs.known.held (not_target n t e)
              ∙ runs.known.named n t e;
          is_older = runs.known.is_older;
          stands = λ n t e. let s = runs.known.stands n t e in
              record {
                standing = s.standing;
                stands = targets_apart n t e ∙ s.stands;
                of_type = s.of_type;
                by_impl =
                    s.by_impl;
                whole = s.whole;
              };
          values = runs.known.values;
          many = runs.known.many;
          frame = runs.known.frame;
        };
        holding = own_holding w (length runs.known.older) runs.known.held facts runs.holding changed own new
            (stored_at own_at new w) targets_apart;
        sealed = λ key. sealing key (key == changed.local) refl;
      }

  -- ---- states that hold the same

  module _ (w v : State) (depth : ℕ) (held held' : Cells) (facts : Facts) (same : SameCells held' held)
      (located : (a : Addr) → located_at setting v a ≡ located_at setting w a) where
    pub holding_alike : H w depth held facts → H v depth held' facts
    holding_alike h = record {
      bounded = each_more (BoundedHolds setting number targets uniques base is_target held)
          (BoundedHolds setting number targets uniques base is_target held') facts.bounded
          (λ b k. (k.0, (same b.0 ∙ k.1.0, k.1.1))) h.bounded;
      variants = each_more (λ (x : Place × ℕ). V w held x.0 x.1) (λ (x : Place × ℕ). V v held' x.0 x.1)
          facts.variants variant_alike h.variants;
      naming = each_more (N depth held) (N depth held') facts.naming naming_alike h.naming;
    }
      where
        variant_alike : (x : Place × ℕ) → V w held x.0 x.1 → V v held' x.0 x.1
        variant_alike x (own_variant o k) =
            own_variant o (subst (λ p. OfVariant x.1 p (cell x.0.local held'))
            (sym (path_same held' held x.0.steps same))
            (subst (OfVariant x.1 (path_at held x.0.steps)) (sym (same x.0.local)) k))
        variant_alike x (behind_variant n t at is_local steps is s stands k) =
            behind_variant n t at is_local steps is s (located t.address ∙ stands)
            (subst (λ p. OfVariant x.1 p s.value) (sym (path_same held' held steps same)) k)

        naming_alike : (n : Naming) → N depth held n → N depth held' n
        naming_alike n (own_named o k) =
            own_named o (same n.local ∙ k
            ∙ ap (λ p. Address (record { depth = depth; key = (record { 0 = n.place.local }); path = p }))
            (sym (path_same held' held n.place.steps same)))
        naming_alike n (behind_named m t at is_local steps is k) = behind_named m t at is_local steps is
            (same n.local ∙ k ∙ ap (λ p. Address (record t.address { path = t.address.path ++ p }))
            (sym (path_same held' held steps same)))

  -- the same of a body that runs
  pub runs_alike : (w v : State) (cells : List (ℕ × Presence)) (facts : Facts) → R w cells facts →
      Alike v.activations w.activations → R v cells facts
  runs_alike w v cells facts r h =
      let a = same_head setting number h number r.known.held r.known.older r.known.is_there in
      record {
        known = record {
          held = a.0;
          older = a.1.0;
          is_there = a.1.1.0;
          fits = λ key id e. subst (λ d. Fits items (OfType id) (presence key cells) d) (sym (a.1.1.1.0 key))
              (r.known.fits key id e);
          named = λ n t e. a.1.1.1.0 t.local ∙ r.known.named n t e;
          is_older = λ n t e same. r.known.is_older n t e (same ∙ alike_length a.1.1.1.1);
          stands = λ n t e. let s = r.known.stands n t e in
              record {
                standing = s.standing;
                stands = alike_located setting v w h t.address ∙ s.stands;
                of_type =
                    s.of_type;
                by_impl = s.by_impl;
                whole = s.whole;
              };
          values = r.known.values;
          many = r.known.many;
          frame = alike_after a.1.1.1.1 _ r.known.frame;
        };
        holding = subst (λ n. H v n a.0 facts) (sym (alike_length a.1.1.1.1))
            (holding_alike w v (length r.known.older) r.known.held a.0 facts a.1.1.1.0 (alike_located setting v w h)
            r.holding);
        sealed = λ key. subst Sealed (sym (a.1.1.1.0 key)) (r.sealed key);
      }

  -- fewer facts are known
  pub runs_without : (changed : Place) (w : State) (cells : List (ℕ × Presence)) (facts : Facts) → R w cells facts →
      R w cells (without changed facts)
  runs_without changed w cells facts r = record {
    known = r.known;
    holding = record {
      bounded = each_kept (BoundedHolds setting number targets uniques base is_target r.known.held)
          (BoundedHolds setting number targets uniques base is_target r.known.held) (λ b. not (b.0 == changed.local))
          facts.bounded (λ b e h. h) r.holding.bounded;
      variants = each_kept (λ (v : Place × ℕ). V w r.known.held v.0 v.1)
          (λ (v : Place × ℕ). V w r.known.held v.0 v.1) (λ (v : Place × ℕ). stays changed v.0) facts.variants
          (λ v e h. h) r.holding.variants;
      naming = each_kept (N (length r.known.older) r.known.held) (N (length r.known.older) r.known.held)
          (λ n. not (n.local == changed.local) && not (takes_index changed.local n.place.steps)) facts.naming
          (λ n e h. h) r.holding.naming;
    };
    sealed = r.sealed;
  }

  pub known_held : (v : State) (cells : List (ℕ × Presence)) (k : Known setting number targets uniques base v cells)
      (h : Cells) (o : List Activation) → v.activations ≡ (record { body = number; cells = h }) ∷ o →
      (k.held ≡ h) × (k.older ≡ o)
  known_held v cells k h o e = (cells_same (sym k.is_there ∙ e), older_same (sym k.is_there ∙ e))
    where
      head_cells : List Activation → Cells
      head_cells [] = []
      head_cells (a ∷ l) = a.cells

      rest_of : List Activation → List Activation
      rest_of [] = []
      rest_of (a ∷ l) = l

      cells_same : (record { body = number; cells = k.held }) ∷ k.older ≡ (record { body = number; cells = h }) ∷ o →
          k.held ≡ h
      cells_same x = ap head_cells x

      older_same : (record { body = number; cells = k.held }) ∷ k.older ≡ (record { body = number; cells = h }) ∷ o →
          k.older ≡ o
      older_same x = ap rest_of x
