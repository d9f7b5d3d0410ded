-- A drop keeps the account of numbers, at any place that is dropped: an entry of a scope, or a place that is assigned. No
-- place where a number stays is dropped, since nothing comes to exactly what a protected parameter names.
use Rattle.std.proofs.Common.{◌≡◌, ℕ, ◌<◌, ◌≤◌, ◌==◌, ◌&&◌, ◌||◌, not, Bool, true, false, List, [], ◌∷◌, ◌++◌, length, Option, Some, None, refl, ap, sym, ◌∙◌, subst, arith}
use Rattle.std.specs.Prelude.{slice_get}
use Rattle.std.specs.Option.{option_map_or}
use Rattle.std.proofs.lemmas.Bool.{false≢true}
use Rattle.std.proofs.lemmas.Bool.Decides.{Decides-eqb}
use Rattle.std.proofs.lemmas.Option.{none-some}
use Rattle.mir_base.specs.Once.{times, IsAtMostOnce}
use Rattle.mir_ty.specs.declared.def.ImplDef.{ImplDef}
use Rattle.mir_ty.specs.declared.ty.Ty.{Ty}
use Rattle.mir_ty.specs.declared.ty.TyId.{TyId}
use Rattle.mir_ty.specs.ItemTable.{ItemTable, type_at}
use Rattle.store_model.specs.declared.address.Addr.{Addr}
use Rattle.store_model.specs.declared.address.At.{At}
use Rattle.store_model.specs.Values.Datum.{Gone}
use Rattle.store_model.specs.Effects.{EffectSite, Mode, Halt, Out, Go, Unwind, Halts}
use Rattle.store_model.specs.Abstract.Effects.{presence, may_store, watched_at}
use Rattle.store_model.specs.Abstract.Presence.{Presence}
use Rattle.store_model.specs.Places.Place.{Step, ToContent, Place}
use Rattle.store_model.specs.Places.TypeForms.{is_dyn}
use Rattle.store_model.specs.Concrete.Effects as values
use Rattle.store_model.specs.Concrete.Location.{Setting, DynamicType, OfType, OfObject, adt_ty, Located, stored_at}
use Rattle.store_model.specs.Concrete.Drops.{still_of}
use Rattle.store_model.specs.Concrete.State.{State, Bodies}
use Rattle.soundness_values.specs.Frames.{Alike}
use Rattle.soundness_values.specs.Typed.{is_impl_for, is_found}
use Rattle.soundness_values.proofs.Along.{path_at}
use Rattle.soundness_values.proofs.Checks.{is_unique, may_change}
use Rattle.soundness_values.proofs.CountedContract.{still_held}
use Rattle.soundness_values.proofs.CountedStores.{Spaced, spaced_apart, spaced_below, AllSpaced}
use Rattle.soundness_values.proofs.CountedTakes.{own_spared, Counted}
use Rattle.soundness_values.proofs.Counts.{in_value, held_stored}
use Rattle.soundness_values.proofs.Dropping.{may_be_dropped, drop_is, ladder_done}
use Rattle.soundness_values.proofs.DropsCounted.{Covers, Guarded, guarded}
use Rattle.soundness_values.proofs.Facts.{Facts, Each}
use Rattle.soundness_values.proofs.FoundAlike.{of_found}
use Rattle.soundness_values.proofs.Frames.{apart_below}
use Rattle.soundness_values.proofs.Guards.{Spares, spares_apart, spares_below, heads_kept, heads_alike}
use Rattle.soundness_values.proofs.Known.{Target}
use Rattle.soundness_values.proofs.LadderEnds.{Room, Done, goes, panics, ends, DropsKeep}
use Rattle.soundness_values.proofs.Reached.{address_of, reached_stands}
use Rattle.soundness_values.proofs.Reaching.{stands, own_watched, stored}
use Rattle.soundness_values.proofs.Running.{sure_place, Passed, Runs, Lies, in_local, behind}
use Rattle.soundness_values.proofs.StillTyped.{still_itself}
use Rattle.soundness_values.proofs.Storing.{names_unique}
use Rattle.soundness_values.proofs.Tally.{accounted, counted}
use Rattle.soundness_values.proofs.Watching.{store_own}

-- exactly what a reference names
abbrev pub is_content : List Step → Bool
is_content (ToContent ∷ []) = true
is_content steps = false

-- what is found is still what it was found as
pub still_so : (items : ItemTable) (f : DynamicType) → is_found items f ≡ true → still_of items f f ≡ true
still_so items (OfType id) h = (Decides-eqb id.0 id.0).1 refl
still_so items (OfObject id impl_no) h = by (type_at items id) h
  where
    of_impl : (n : ℕ) (o : Option ImplDef) → slice_get items.impls impl_no ≡ o →
        option_map_or (λ (impl : ImplDef). impl.trait_no == n) o false ≡ true →
        still_of items (OfObject id impl_no) (OfObject id impl_no) ≡ true
    of_impl n None e k = absurd (false≢true k)
    of_impl n (Some impl) e k = still_itself items (OfObject id impl_no)
        (λ y. none-some (Ty.Adt impl.adt) (sym y
        ∙ ap (λ (o : Option ImplDef). adt_ty (option_map_or (λ (i : ImplDef). Some i.adt) o None)) e))

    by : (o : Option Ty) → (is_dyn o && is_impl_for items o (Some impl_no)) ≡ true →
        still_of items (OfObject id impl_no) (OfObject id impl_no) ≡ true
    by (Some (Ty.Dyn n)) k = of_impl n (slice_get items.impls impl_no) refl k
    by None k = absurd (false≢true k)
    by (Some other) k = absurd (false≢true k)

no_more : (p : List At) → p ++ [] ≡ p
no_more [] = refl
no_more (i ∷ p) = ap (λ l. i ∷ l) (no_more p)

longer : (p q r : List At) → (p ++ q) ++ r ≡ p ++ (q ++ r)
longer [] q r = refl
longer (i ∷ p) q r = ap (λ l. i ∷ l) (longer p q r)

module _ (setting : Setting) (number : ℕ) (targets : List Target) (uniques : List Addr) (base : State)
    (is_target : ℕ → Bool) (passed : Passed setting number targets uniques base is_target) (size : ℕ → ℕ)
    (sized : (body key : ℕ) (id : TyId) → setting.local_ty body key ≡ Some id → key < size body)
    (loose : setting.strict ≡ false) (protects : ℕ → ℕ → Bool) (dropping : List ℕ) (guards : List (Addr × ℕ))
    (deep : Each (λ (g : Addr × ℕ). g.0.depth < length base.activations) guards) (spaced : AllSpaced guards targets)
    (exact : (m : ℕ) (t : Target) → slice_get targets m ≡ Some t → t.unique ≡ true →
    Each (λ (g : Addr × ℕ). t.address ≡ g.0 → protects number t.local ≡ true) guards)
    (at_most : (k : ℕ) → times k dropping ≤ 1) (covered : Covers dropping guards) where
  abbrev items : ItemTable
  items = setting.items

  abbrev local_ty : ℕ → Option TyId
  local_ty key = setting.local_ty number key

  abbrev R : State → List (ℕ × Presence) → Facts → Type 0
  R = Runs setting number targets uniques base is_target

  abbrev C : List ℕ → State → Type 0
  C = Counted setting number targets uniques base is_target passed size sized dropping guards deep

  -- nothing comes to exactly what a protected parameter names
  abbrev pub MayFall : Place → Type 0
  MayFall place = is_target place.local ≡ true → (may_change items local_ty is_target place ≡ true)
      × (not (is_content place.steps && protects number place.local) ≡ true)

  module _ (w : State) (cells : List (ℕ × Presence)) (facts : Facts) (runs : R w cells facts) (place : Place) where
    abbrev L : Type 0
    L = Lies setting number targets uniques base is_target passed w cells facts runs place

    abbrev at : L → Located
    at l = (stands setting number targets uniques base is_target passed w cells facts runs place l).standing

    -- a place that falls is strictly below, or apart from, each where a number stays
    pub falls_apart : (l : L) → MayFall place → Each (λ (g : Addr × ℕ). Spares g.0 (at l).address) guards
    unfolding stands
    falls_apart (in_local id typed none own sure lead) may =
        own_spared setting number targets uniques base is_target passed size sized dropping guards deep w cells facts runs
        (at (in_local id typed none own sure lead)).address refl
    falls_apart (behind n t is_at same steps is sure lead) may =
        let ty = passed.typed n t is_at in
        let is_tgt : is_target place.local ≡ true =
        subst (λ l. is_target l ≡ true) same (passed.is_param n t is_at) in
        let unique : t.unique ≡ true =
        names_unique setting number targets uniques base is_target passed t ty.0 ty.1.1
        (subst (λ o. is_unique items local_ty is_target o ≡ true) (ap local_ty (sym same) ∙ ty.1.0)
        (or_second (is_target place.local) _ (may is_tgt).0 is_tgt)) in
        let named : (runs.known.stands n t is_at).standing.address ≡ t.address =
        address_of setting w t.address (runs.known.stands n t is_at).standing (runs.known.stands n t is_at).stands in
        subst (λ (a : Addr). Each (λ (g : Addr × ℕ). Spares g.0 (record a { path = a.path ++ lead.path })) guards)
        (sym named)
        (all_of guards (spaced n t is_at unique) (exact n t is_at unique)
        (λ e p. not_content e (subst (λ q. q ≡ []) lead.path_is p) (may is_tgt).1))
      where
        or_second : (a b : Bool) → (not a || b) ≡ true → a ≡ true → b ≡ true
        or_second true b h k = h
        or_second false b h k = absurd (false≢true k)

        ends_there : (steps : List Step) → path_at runs.known.held steps ≡ [] → steps ≡ []
        ends_there [] e = refl
        ends_there (s ∷ steps) e = absurd (let never : ⊥ = cc in never)

        not_content : protects number t.local ≡ true → path_at runs.known.held steps ≡ [] →
            not (is_content place.steps && protects number place.local) ≡ true → ⊥
        not_content e p h = false≢true
            (sym (ap (λ l. not (is_content l && protects number place.local))
            (is ∙ ap (λ l. ToContent ∷ l) (ends_there steps p))
            ∙ ap (λ b. not b) (ap (protects number) (sym same) ∙ e)) ∙ h)

        one : (a : Addr) → Spaced a t.address → (t.address ≡ a → protects number t.local ≡ true) →
            (protects number t.local ≡ true → lead.path ≡ [] → ⊥) → (path : List At) → lead.path ≡ path →
            Spares a (record t.address { path = t.address.path ++ lead.path })
        one a (spaced_apart h) x f path e = spares_apart (apart_below setting a t.address lead.path h)
        one a (spaced_below (step ∷ rest, s)) x f path e = spares_below step (rest ++ lead.path)
            (ap (λ (b : Addr). record b { path = b.path ++ lead.path }) s
            ∙ ap (λ p. record { depth = a.depth; key = a.key; path = p }) (longer a.path (step ∷ rest) lead.path))
        one a (spaced_below ([], s)) x f [] e = absurd (f (x (s
            ∙ ap (λ p. record { depth = a.depth; key = a.key; path = p }) (no_more a.path))) e)
        one a (spaced_below ([], s)) x f (step ∷ rest) e = spares_below step rest
            (ap (λ (b : Addr). record b { path = b.path ++ lead.path }) s
            ∙ ap (λ p. record { depth = a.depth; key = a.key; path = p })
            (longer a.path [] lead.path ∙ ap (λ q. a.path ++ q) e))

        all_of : (gs : List (Addr × ℕ)) → Each (λ (g : Addr × ℕ). Spaced g.0 t.address) gs →
            Each (λ (g : Addr × ℕ). t.address ≡ g.0 → protects number t.local ≡ true) gs →
            (protects number t.local ≡ true → lead.path ≡ [] → ⊥) →
            Each (λ (g : Addr × ℕ). Spares g.0 (record t.address { path = t.address.path ++ lead.path })) gs
        all_of [] s x f = tt
        all_of (g ∷ gs) s x f = (one g.0 s.0 x.0 f lead.path refl, all_of gs s.1 x.1 f)

  module _ (run : Bodies) (keeps : DropsKeep setting size sized (guarded setting size sized) run) (fuel : ℕ) (mode : Mode)
      (w : State) (cells : List (ℕ × Presence)) (facts : Facts) (runs : R w cells facts) (site : EffectSite)
      (sure : sure_place items local_ty is_target facts site.place ≡ true)
      (may : may_store (watched_at items local_ty site) (presence site.place.local cells) ≡ true)
      (falls : MayFall site.place) (c : C [] w) where
    lies_there : Lies setting number targets uniques base is_target passed w cells facts runs site.place
    lies_there = stored setting number targets uniques base is_target passed w cells facts runs site.place sure site.node
        may

    spares_there : Each (λ (g : Addr × ℕ). Spares g.0 (stands setting number targets uniques base is_target passed w cells
        facts runs site.place lies_there).standing.address) guards
    spares_there = falls_apart w cells facts runs site.place lies_there falls

    -- the numbers whose `Drop` bodies run are held outside of it
    room : Room size dropping w (stands setting number targets uniques base is_target passed w cells facts runs site.place
        lies_there).standing.value
    room k =
        let st = stands setting number targets uniques base is_target passed w cells facts runs site.place lies_there in
        let change = held_stored size k setting sized w st.standing.address st.standing Gone
        (reached_stands setting w site.place st.standing st.reached) in
        let left = still_held setting size sized protects dropping guards (stored_at st.standing.address Gone w) at_most
        covered (heads_kept setting guards w st.standing.address Gone spares_there c.heads) k in
        let none : in_value k Gone ≡ 0 = refl in
        omega arith

    good : Guarded setting size sized dropping w
    good = record {
      account = accounted size dropping w (still_held setting size sized protects dropping guards w at_most covered c.heads)
          c.flow;
      guards = guards;
      covers = covered;
      heads = c.heads;
    }

    falls_so : Done setting size sized (guarded setting size sized) dropping w
        (stands setting number targets uniques base is_target passed w cells facts runs site.place
        lies_there).standing.address mode (values.drop setting run fuel mode site w)
    falls_so =
        let st = stands setting number targets uniques base is_target passed w cells facts runs site.place lies_there in
        let found = (of_found items st.end st.standing.dynamic st.as_end).1 in
        subst (Done setting size sized (guarded setting size sized) dropping w st.standing.address mode)
        (sym (drop_is setting number targets uniques base is_target passed size sized loose w cells facts runs site.place run
        fuel mode site.node lies_there))
        (ladder_done setting number targets uniques base is_target passed size sized loose w cells facts runs site.place run
        (guarded setting size sized) keeps fuel mode dropping lies_there
        (may_be_dropped setting number targets uniques base is_target passed size sized loose w cells facts runs site.place
        lies_there (λ own. (store_own site.place.steps (presence site.place.local cells)
        (sym (ap (λ x. may_store x (presence site.place.local cells))
        (own_watched setting number targets uniques base is_target passed w cells facts runs site.place sure site.node own))
        ∙ may)).1))
        (still_so items st.standing.dynamic found, found) room good)

    after : (v : State) → Alike v.activations (stored_at (stands setting number targets uniques base is_target passed w cells
        facts runs site.place lies_there).standing.address Gone w).activations →
        Guarded setting size sized dropping v → C [] v
    after v j g =
        let st = stands setting number targets uniques base is_target passed w cells facts runs site.place lies_there in
        record {
          flow = counted size dropping v g.account;
          heads = heads_alike setting guards (stored_at st.standing.address Gone w) v j
              (heads_kept setting guards w st.standing.address Gone spares_there c.heads);
        }

    -- what is counted after a drop, however it ends
    pub drop_goes : (v : State) → values.drop setting run fuel mode site w ≡ Go v → C [] v
    drop_goes v e = by (values.drop setting run fuel mode site w) falls_so e
      where
        go_same : {a b : State} → Go a ≡ Go b → a ≡ b
        go_same x = cc

        by : (o : Out State) → Done setting size sized (guarded setting size sized) dropping w
            (stands setting number targets uniques base is_target passed w cells facts runs site.place
            lies_there).standing.address mode o → o ≡ Go v → C [] v
        by _ (goes u j g) x = subst (C []) (go_same x) (after u j g)
        by _ (panics u m j g) x = absurd (let never : ⊥ = cc in never)
        by _ (ends halt u m h) x = absurd (let never : ⊥ = cc in never)

    pub drop_winds : (v : State) → values.drop setting run fuel mode site w ≡ Unwind v → C [] v
    drop_winds v e = by (values.drop setting run fuel mode site w) falls_so e
      where
        wind_same : {a b : State} → Unwind a ≡ Unwind b → a ≡ b
        wind_same x = cc

        by : (o : Out State) → Done setting size sized (guarded setting size sized) dropping w
            (stands setting number targets uniques base is_target passed w cells facts runs site.place
            lies_there).standing.address mode o → o ≡ Unwind v → C [] v
        by _ (goes u j g) x = absurd (let never : ⊥ = cc in never)
        by _ (panics u m j g) x = subst (C []) (wind_same x) (after u j g)
        by _ (ends halt u m h) x = absurd (let never : ⊥ = cc in never)

    pub drop_ends : (halt : Halt) (v : State) → values.drop setting run fuel mode site w ≡ Halts halt v →
        IsAtMostOnce v.trace
    drop_ends halt v e = by (values.drop setting run fuel mode site w) falls_so e
      where
        halt_same : {h k : Halt} {a b : State} → Halts h a ≡ Halts k b → a ≡ b
        halt_same x = cc

        by : (o : Out State) → Done setting size sized (guarded setting size sized) dropping w
            (stands setting number targets uniques base is_target passed w cells facts runs site.place
            lies_there).standing.address mode o → o ≡ Halts halt v → IsAtMostOnce v.trace
        by _ (goes u j g) x = absurd (let never : ⊥ = cc in never)
        by _ (panics u m j g) x = absurd (let never : ⊥ = cc in never)
        by _ (ends h u m once) x = subst (λ (y : State). IsAtMostOnce y.trace) (halt_same x) once
