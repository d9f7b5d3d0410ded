-- What is known of a body that runs after another value came to a place behind one of its references: the facts that
-- the change does not hit hold still.
use Rattle.std.proofs.Common.{◌≡◌, ◌≢◌, ℕ, zero, suc, ◌==◌, ◌&&◌, not, Bool, true, false, List, [], ◌∷◌, ◌++◌, length, Some, refl, ap, sym, ◌∙◌, subst, arith}
use Rattle.std.specs.Prelude.{slice_get}
use Rattle.std.proofs.lemmas.Bool.{false≢true}
use Rattle.std.proofs.lemmas.Bool.Decides.{Decides-eqb}
use Rattle.std.proofs.lemmas.Option.{none-some}
use Rattle.mir_ty.specs.ItemTable.{ItemTable}
use Rattle.store_model.specs.declared.address.Addr.{Addr}
use Rattle.store_model.specs.declared.address.At.{At}
use Rattle.store_model.specs.Values.Datum.{Datum}
use Rattle.store_model.specs.Values.Access.{replaced}
use Rattle.store_model.specs.Abstract.Presence.{Presence, is_present}
use Rattle.store_model.specs.Places.Place.{Step, ToContent, Place}
use Rattle.store_model.specs.Concrete.Location.{Setting, DynamicType, Located, located_at, stored_at, root_of}
use Rattle.store_model.specs.Concrete.State.{State, Activation, Cells, cell, with_cell_at}
use Rattle.soundness_values.proofs.Fits.{Fits}
use Rattle.soundness_values.proofs.Sealed.{Sealed}
use Rattle.soundness_values.proofs.Standings.{changed_length, stored_located}
use Rattle.soundness_values.proofs.Apart.{not_same, located_apart}
use Rattle.soundness_values.proofs.Ways.{Way, present_along}
use Rattle.soundness_values.proofs.Along.{path_at}
use Rattle.soundness_values.proofs.Reached.{address_of}
use Rattle.soundness_values.proofs.Facts.{Naming, Facts, hits, takes_index, stays, without, each_kept, OfVariant, variant_stays}
use Rattle.soundness_values.proofs.Frames.{at_older, stored_along, apart_below}
use Rattle.soundness_values.proofs.Known.{Target, StandsFor, Known, behind_write}
use Rattle.soundness_values.proofs.Running.{Passed, BoundedHolds, VariantStands, own_variant, behind_variant, NamingHolds, Holding, Runs}
use Rattle.soundness_values.proofs.Changing.{not_so, first, known_held}

module _ (setting : Setting) (number : ℕ) (targets : List Target) (uniques : List Addr) (base : State)
    (is_target : ℕ → Bool) (passed : Passed setting number targets uniques base is_target) where
  abbrev items : ItemTable
  items = setting.items

  abbrev R : State → List (ℕ × Presence) → Facts → Type 0
  R = Runs setting number targets uniques base is_target

  abbrev V : State → Cells → Place → ℕ → Type 0
  V = VariantStands setting number targets uniques base is_target

  abbrev N : ℕ → Cells → Naming → Type 0
  N = NamingHolds setting number targets uniques base is_target

  abbrev H : State → ℕ → Cells → Facts → Type 0
  H = Holding setting number targets uniques base is_target

  some_entry : {A : Type 0} (list : List A) (m : ℕ) (a : A) → slice_get list m ≡ Some a → (values : List Datum) →
      length values ≡ length list → (d : Datum) × (slice_get values m ≡ Some d)
  some_entry [] m a e values l = absurd (none-some a e)
  some_entry (x ∷ list) m a e [] l = absurd (let never : ⊥ = omega arith in never)
  some_entry (x ∷ list) zero a e (d ∷ values) l = (d, refl)
  some_entry (x ∷ list) (suc m) a e (d ∷ values) l = some_entry list m a e values
      (let z : length values ≡ length list = cc in z)

  module _ (w : State) (cells : List (ℕ × Presence)) (facts : Facts) (runs : R w cells facts) (n : ℕ) (t : Target)
      (at : slice_get targets n ≡ Some t) (unique : t.unique ≡ true) (changed : Place)
      (same : t.local ≡ changed.local) (steps : List Step) (is : changed.steps ≡ ToContent ∷ steps)
      (f : DynamicType) (inner new : Datum) (path : List At) (path_is : path ≡ path_at runs.known.held steps)
      (way : Way items steps path (runs.known.stands n t at).standing.dynamic
      (runs.known.stands n t at).standing.value f inner) (fit : Fits items f is_present new) where
    abbrev st : StandsFor setting number t w
    st = runs.known.stands n t at

    abbrev pub behind_at : Addr
    behind_at = record (st.standing.address) { path = st.standing.address.path ++ path }

    abbrev target_at : Addr
    target_at = record t.address { path = t.address.path ++ path }

    there_is : st.standing.address ≡ t.address
    there_is = address_of setting w t.address st.standing st.stands

    same_at : behind_at ≡ target_at
    same_at = ap (λ (a : Addr). record a { path = a.path ++ path }) there_is

    now : Known setting number targets uniques base (stored_at target_at new w) cells
    now =
        let p = passed.position n t at unique in
        let old = some_entry uniques p.0 t.address p.1 runs.known.values runs.known.many in
        let first = passed.stood n t at in
        behind_write setting number targets uniques base passed.apart w cells runs.known n p.0 t path f new
        (record {
          is_target = at;
          is_unique = p.1;
          old = old.0;
          has_value = old.1;
          steps = steps;
          inner =
              inner;
          way = way;
          present = present_along items steps is_present refl;
          at_first = first.0;
          stood =
              first.1;
        })
        (λ j u e d. passed.alone n j t u at e d unique) fit

    not_here : (t.address.depth == length runs.known.older) ≡ false
    not_here = not_same t.address.depth (length runs.known.older) (runs.known.is_older n t at)

    older_now : List Activation
    older_now = with_cell_at t.address.depth t.address.key.0
        (replaced (t.address.path ++ path) new (root_of target_at w)) runs.known.older

    there_behind : (stored_at target_at new w).activations ≡ (record { body = number; cells = runs.known.held })
        ∷ older_now
    unfolding older_now
    there_behind =
        ap (with_cell_at t.address.depth t.address.key.0
        (replaced (t.address.path ++ path) new (root_of target_at w))) runs.known.is_there
        ∙ at_older t.address.depth t.address.key.0 (replaced (t.address.path ++ path) new (root_of target_at w))
        (record { body = number; cells = runs.known.held }) runs.known.older not_here

    as_deep : length older_now ≡ length runs.known.older
    unfolding older_now
    as_deep = changed_length t.address.depth t.address.key.0
        (replaced (t.address.path ++ path) new (root_of target_at w)) runs.known.older

    value_now : located_at setting (stored_at target_at new w) t.address ≡ Some
        (record (st.standing) { value = replaced path new st.standing.value })
    value_now =
        ap (λ (x : State). located_at setting x t.address)
        (stored_along setting w t.address st.standing path new st.stands)
        ∙ stored_located setting w t.address st.standing (replaced path new st.standing.value) st.stands

    variant_behind : (v : Place × ℕ) → stays changed v.0 ≡ true → V w runs.known.held v.0 v.1 →
        V (stored_at target_at new w) runs.known.held v.0 v.1
    variant_behind v e (own_variant o h) = own_variant o h
    variant_behind v e (behind_variant m u u_at u_same rest u_is s stands h) = by (m == n) refl
      where
        some_target : {a b : Target} → Some a ≡ Some b → a ≡ b
        some_target x = cc

        some_located : {a b : Located} → Some a ≡ Some b → a ≡ b
        some_located x = cc

        hit : t.local ≡ u.local → hits steps rest ≡ false
        hit k = sym (ap (λ (x : List Step). hits x v.0.steps) is
            ∙ ap (λ (x : List Step). hits (ToContent ∷ steps) x) u_is)
            ∙ not_both (changed.local == v.0.local) (hits changed.steps v.0.steps)
            (not_so (changed.local == v.0.local && hits changed.steps v.0.steps)
            (first (not (changed.local == v.0.local && hits changed.steps v.0.steps))
            (not (takes_index changed.local v.0.steps)) e))
            ((Decides-eqb changed.local v.0.local).1 (sym same ∙ k ∙ u_same))
          where
            not_both : (a b : Bool) → (a && b) ≡ false → a ≡ true → b ≡ false
            not_both true b h k = h
            not_both false b h k = absurd (false≢true k)

        by : (b : Bool) → (m == n) ≡ b → V (stored_at target_at new w) runs.known.held v.0 v.1
        by true k =
            let one : u ≡ t = some_target (sym u_at ∙ ap (slice_get targets) ((Decides-eqb m n).0 k) ∙ at) in
            let s_is : s ≡ st.standing =
            some_located (sym stands ∙ ap (λ (x : Target). located_at setting w x.address) one ∙ st.stands) in
            let stood : OfVariant v.1 (path_at runs.known.held rest) st.standing.value =
            subst (λ (x : Located). OfVariant v.1 (path_at runs.known.held rest) x.value) s_is h in
            behind_variant m u u_at u_same rest u_is
            (record (st.standing) { value = replaced path new st.standing.value })
            (ap (λ (x : Target). located_at setting (stored_at target_at new w) x.address) one ∙ value_now)
            (subst (λ p. OfVariant v.1 (path_at runs.known.held rest) (replaced p new st.standing.value))
            (sym path_is) (variant_stays runs.known.held new steps rest v.1 st.standing.value
            (hit (ap (λ (x : Target). x.local) (sym one))) stood))
        by false k =
            behind_variant m u u_at u_same rest u_is s
            (located_apart setting w u.address target_at new
            (apart_below setting u.address t.address path (passed.alone n m t u at u_at k unique)) ∙ stands) h

    -- another whole value came to a place behind a `&mut` reference
    pub behind_changed : R (stored_at behind_at new w) cells (without changed facts)
    behind_changed = subst (λ a. R (stored_at a new w) cells (without changed facts)) (sym same_at) (record {
      known = now;
      holding =
          let k = known_held setting number targets uniques base is_target passed (stored_at target_at new w) cells now
          runs.known.held older_now there_behind in
          subst (λ c. H (stored_at target_at new w) (length now.older) c (without changed facts)) (sym k.0)
          (subst (λ m. H (stored_at target_at new w) m runs.known.held (without changed facts))
          (sym (ap length k.1 ∙ as_deep)) (record {
            bounded = each_kept (BoundedHolds setting number targets uniques base is_target runs.known.held)
                (BoundedHolds setting number targets uniques base is_target runs.known.held)
                (λ b. not (b.0 == changed.local)) facts.bounded (λ b e h. h) runs.holding.bounded;
            variants = each_kept (λ (v : Place × ℕ). V w runs.known.held v.0 v.1)
                (λ (v : Place × ℕ). V (stored_at target_at new w) runs.known.held v.0 v.1)
                (λ (v : Place × ℕ). stays changed v.0) facts.variants variant_behind runs.holding.variants;
            naming = each_kept (N (length runs.known.older) runs.known.held)
                (N (length runs.known.older) runs.known.held)
                (λ x. not (x.local == changed.local) && not (takes_index changed.local x.place.steps)) facts.naming
                (λ x e h. h) runs.holding.naming;
          }));
      sealed = λ key. let k = known_held setting number targets uniques base is_target passed
          (stored_at target_at new w)
          cells now runs.known.held older_now there_behind in subst (λ c. Sealed (cell key c)) (sym k.0)
          (runs.sealed key);
    })
