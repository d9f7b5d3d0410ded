-- References that are made in a local, and a place that was emptied and is filled: both keep the account of numbers.
use Rattle.std.proofs.Common.{◌≡◌, ℕ, ◌<◌, ◌&&◌, not, Bool, true, false, List, [], ◌∷◌, length, Option, Some, None, refl, ap, sym, ◌∙◌, subst}
use Rattle.std.specs.Prelude.{option_and_then}
use Rattle.std.specs.Option.{option_map_or}
use Rattle.std.proofs.lemmas.Bool.{false≢true}
use Rattle.std.proofs.lemmas.Option.{none-some}
use Rattle.mir_base.specs.Once.{times}
use Rattle.mir_ty.specs.declared.ty.TyId.{TyId}
use Rattle.mir_ty.specs.ItemTable.{ItemTable, type_at}
use Rattle.store_model.specs.declared.address.Addr.{Addr}
use Rattle.store_model.specs.Values.Datum.{Datum, Gone, Address}
use Rattle.store_model.specs.Values.Wholeness.{is_whole}
use Rattle.store_model.specs.Effects as effects
use Rattle.store_model.specs.Effects.{EffectSite, Operand, AggregateKind, OfTuple, OfArray, OfVariant, OfClosure, Action, Stuck, Unreachable, Out, Go, Unwind, Halts, on_go, halting_if}
use Rattle.store_model.specs.Abstract.Effects.{presence}
use Rattle.store_model.specs.Abstract.Presence.{Presence}
use Rattle.store_model.specs.Places.Place.{Place, whole_local, is_reference}
use Rattle.store_model.specs.Places.TypeForms.{same_id, referent}
use Rattle.store_model.specs.Concrete.Effects as values
use Rattle.store_model.specs.Concrete.Effects.{act, or_stuck, evaluate_operand, evaluate_operands, with_operand, with_two_operands, with_operands, put, put_if, tell_after, compared, made, with_impl, whole_at, forgotten, forgotten_parts, made_forgotten, if_typed}
use Rattle.store_model.specs.Concrete.Location.{Setting, OfType, Located, located_at, Reaches, CutOff, Nowhere, reach, reach_of, in_youngest, located_root, along, on_reached, stored_at}
use Rattle.store_model.specs.Concrete.State.{State, Bodies, cell}
use Rattle.soundness_values.specs.Frames.{Alike}
use Rattle.soundness_values.proofs.Checks as checks
use Rattle.soundness_values.proofs.Checks.{may_store, takes_well, take_well, after_operand, after_operands, acts_well, part_types}
use Rattle.soundness_values.proofs.CountedActs.{went_past}
use Rattle.soundness_values.proofs.CountedPairs.{reference_quiet}
use Rattle.soundness_values.proofs.Behind.{head_serial}
use Rattle.soundness_values.proofs.CountedStores.{AllSpaced, Spaced, spared_if, spaced_there}
use Rattle.soundness_values.proofs.CountedTakes.{Counted, own_spared}
use Rattle.soundness_values.proofs.Emptied.{Hole, Head, head_of, reached_empty}
use Rattle.soundness_values.proofs.Facts.{Facts, Each}
use Rattle.soundness_values.proofs.Forgotten as flights
use Rattle.soundness_values.proofs.Forgotten.{InFlight}
use Rattle.soundness_values.proofs.Guards.{Spares, HeadIs, HeadsStand, heads_kept}
use Rattle.soundness_values.proofs.Known.{Target}
use Rattle.soundness_values.proofs.Borrowing.{reference_is}
use Rattle.soundness_values.proofs.Reached.{reached_stands}
use Rattle.soundness_values.proofs.Reaching.{stands, from_root}
use Rattle.soundness_values.proofs.RefillTests as tests
use Rattle.soundness_values.proofs.RefillTests.{Told}
use Rattle.soundness_values.proofs.Running.{sure_place, Passed, Runs, Lies, lies}
use Rattle.soundness_values.proofs.Taking.{first, second, not_so}
use Rattle.soundness_values.proofs.Testing.{whole_place, sure_typed}
use Rattle.soundness_values.proofs.Ways.{has_index}

module _ (setting : Setting) (number : ℕ) (targets : List Target) (uniques : List Addr) (base : State)
    (is_target : ℕ → Bool) (passed : Passed setting number targets uniques base is_target) (size : ℕ → ℕ)
    (sized : (body key : ℕ) (id : TyId) → setting.local_ty body key ≡ Some id → key < size body)
    (loose : setting.strict ≡ false) (dropping : List ℕ) (guards : List (Addr × ℕ))
    (deep : Each (λ (g : Addr × ℕ). g.0.depth < length base.activations) guards)
    (spaced : AllSpaced guards targets) where
  abbrev items : ItemTable
  items = setting.items

  abbrev local_ty : ℕ → Option TyId
  local_ty key = setting.local_ty number key

  abbrev R : State → List (ℕ × Presence) → Facts → Type 0
  R = Runs setting number targets uniques base is_target

  abbrev C : List ℕ → State → Type 0
  C = Counted setting number targets uniques base is_target passed size sized dropping guards deep

  abbrev takes : Facts → Operand → Bool
  takes = takes_well items local_ty is_target

  abbrev after : Operand → Facts → Facts
  after = after_operand items local_ty is_target

  module _ (w : State) (cells : List (ℕ × Presence)) (facts : Facts) (runs : R w cells facts) (run : Bodies) where
    -- a reference comes to a local that holds one, or none
    pub borrow_counted : (to : EffectSite) (unique : Bool) (from : EffectSite) →
        acts_well items local_ty is_target facts cells (effects.Borrow to unique from) ≡ true → C [] w → (u : State) →
        act setting run (effects.Borrow to unique from) w ≡ Go u → C [] u
    borrow_counted to unique from h c u e =
        at_place (whole_place to.place (first (checks.no_steps to.place.steps) _
        (first (checks.no_steps to.place.steps && not (is_target to.place.local)) _ h))) h
        (went_past (effects.stores_where (values.never_at setting w) (effects.Borrow to unique from)) _ u e)
      where
        some_of : {A : Type 0} (o : Option A) (t : A → Bool) → option_map_or t o false ≡ true →
            (a : A) × ((o ≡ Some a) × (t a ≡ true))
        some_of None t k = absurd (false≢true k)
        some_of (Some a) t k = (a, (refl, k))

        typed_of : (o : Option TyId) → is_reference (option_and_then (type_at items)
            (option_and_then (λ (i : TyId). Some i) o)) ≡ true →
            (id : TyId) × ((o ≡ Some id) × (is_reference (type_at items id) ≡ true))
        typed_of None k = absurd (false≢true k)
        typed_of (Some id) k = (id, (refl, k))

        go_same : {a b : State} → Go a ≡ Go b → a ≡ b
        go_same x = cc

        at_local : (node local : ℕ) (id : TyId) → local_ty local ≡ Some id → is_reference (type_at items id) ≡ true →
            (a : Addr) → put setting (record { node = node; place = whole_local local }) (Address a) w ≡ Go u → C [] u
        at_local node local id typed reference a x =
            let root : Located = record {
              address = record { depth = length runs.known.older; key = (record { 0 = local }); path = [] };
              dynamic = OfType id;
              value = cell local runs.known.held;
            } in
            let reached : reach setting w (whole_local local) ≡ Reaches root =
            from_root setting number targets uniques base is_target passed w cells facts runs (whole_local local) id typed in
            let now : u ≡ stored_at root.address (Address a) w =
            sym (go_same (sym (ap (λ r. on_reached r (λ y. Go (stored_at y.address (Address a) w)) (Halts Stuck w)
            (Halts Stuck w)) reached) ∙ x)) in
            subst (C []) (sym now) (record {
              flow = flights.put size setting sized [] dropping w root (Address a)
                  (reached_stands setting w (whole_local local) root reached)
                  (λ k. ap (times k) (reference_quiet items (cell local runs.known.held) id (presence local cells) reference
                  (runs.known.fits local id typed))) c.flow;
              heads = heads_kept setting guards w root.address (Address a)
                  (own_spared setting number targets uniques base is_target passed size sized dropping guards deep w cells
                  facts runs root.address refl) c.heads;
            })

        at_whole : (node local : ℕ) → acts_well items local_ty is_target facts cells
            (effects.Borrow (record { node = node; place = whole_local local }) unique from) ≡ true →
            or_stuck (whole_at setting w from) (λ (s : Located).
            put setting (record { node = node; place = whole_local local }) (Address s.address) w) w ≡ Go u → C [] u
        at_whole node local k x =
            let rest = second (not (is_target local)) _ k in
            let ids = some_of (checks.id_of items local_ty is_target from.place)
            (λ id. option_map_or (same_id id)
            (referent unique (checks.ty_of items local_ty is_target (whole_local local))) false)
            (first (option_map_or (λ id. option_map_or (same_id id)
            (referent unique (checks.ty_of items local_ty is_target (whole_local local))) false)
            (checks.id_of items local_ty is_target from.place) false) _ rest) in
            let typed = typed_of (local_ty local)
            (reference_is setting number targets uniques base is_target passed unique
            (checks.ty_of items local_ty is_target (whole_local local)) ids.0 ids.1.1) in
            by (whole_at setting w from) (λ a y. at_local node local typed.0 typed.1.0 typed.1.1 a y) x
          where
            by : (o : Option Located) → ((a : Addr) →
                put setting (record { node = node; place = whole_local local }) (Address a) w ≡ Go u → C [] u) →
                or_stuck o (λ (s : Located). put setting (record { node = node; place = whole_local local })
                (Address s.address) w) w ≡ Go u → C [] u
            by None f y = absurd (let never : ⊥ = cc in never)
            by (Some s) f y = f s.address y

        at_place : to.place ≡ whole_local to.place.local → acts_well items local_ty is_target facts cells
            (effects.Borrow to unique from) ≡ true →
            or_stuck (whole_at setting w from) (λ (s : Located). put setting to (Address s.address) w) w ≡ Go u → C [] u
        at_place is = subst (λ q. acts_well items local_ty is_target facts cells
            (effects.Borrow (record { node = to.node; place = q }) unique from) ≡ true →
            or_stuck (whole_at setting w from) (λ (s : Located). put setting (record { node = to.node; place = q })
            (Address s.address) w) w ≡ Go u → C [] u) (sym is) (at_whole to.node to.place.local)

  -- ---- a place that was emptied

  module _ (w : State) (cells : List (ℕ × Presence)) (facts : Facts) (hole : Place)
      (h : Hole setting number targets uniques base is_target passed w cells facts hole) (run : Bodies)
      (to site : EffectSite)
      (test : checks.refills items local_ty is_target facts hole (effects.Put to (effects.Moved site)) ≡ true) where
    abbrev told_so : Told setting number targets uniques base is_target passed facts hole to site test
    told_so = tests.told setting number targets uniques base is_target passed facts hole to site test

    abbrev local : ℕ
    local = site.place.local

    moves : checks.may_move items local_ty is_target site.place ≡ true
    moves = second (checks.is_value items local_ty is_target site.place) _
        (second (sure_place items local_ty is_target facts site.place) _ told_so.takes)

    own : is_target local ≡ false
    own = not_so (is_target local) (first (not (is_target local)) _
        (first (not (is_target local) && not (has_index site.place.steps)) _ moves))

    typed : (id : TyId) × (local_ty local ≡ Some id)
    typed = sure_typed setting number targets uniques base is_target passed facts site.place
        (first (sure_place items local_ty is_target facts site.place) _ told_so.takes)

    in_whole : site.place ≡ whole_local local
    in_whole = ap (λ s. record { local = local; steps = s }) told_so.in_local

    lies_before : Lies setting number targets uniques base is_target passed h.before h.cells_before facts h.runs hole
    lies_before = lies setting number targets uniques base is_target passed h.before h.cells_before facts h.runs hole
        told_so.sure (λ o. (h.may o).0)

    abbrev at : Located
    at = (stands setting number targets uniques base is_target passed h.before h.cells_before facts h.runs hole
        lies_before).standing

    there : Alike w.activations (stored_at (stands setting number targets uniques base is_target passed h.before
        h.cells_before facts h.runs hole lies_before).standing.address Gone h.before).activations
    there =
        let st = stands setting number targets uniques base is_target passed h.before h.cells_before facts h.runs hole
        lies_before in
        subst (λ (s : Located). Alike w.activations (stored_at s.address Gone h.before).activations)
        (sym (one (sym st.reached ∙ h.reached))) h.emptied
      where
        one : {a b : Located} → Reaches a ≡ Reaches b → a ≡ b
        one k = cc

    abbrev hd : Head setting number targets uniques base is_target passed h.before h.cells_before facts h.runs hole
        lies_before w
    hd = head_of setting number targets uniques base is_target passed h.before h.cells_before facts h.runs hole lies_before
        w there

    abbrev root : Located
    root = record {
      address = record { depth = length hd.older; key = (record { 0 = local }); path = [] };
      dynamic = OfType typed.0;
      value = cell local hd.held;
    }

    reached_root : reach setting w site.place ≡ Reaches root
    reached_root = ap (reach setting w) in_whole ∙ ap (in_youngest setting w (whole_local local)) hd.is_there
        ∙ ap (λ o. on_reached (reach_of (located_root (length hd.older) local hd.held o))
        (along setting w hd.held []) CutOff Nowhere) typed.1

    abbrev moved : State
    moved = stored_at root.address Gone w

    reached_hole : reach setting moved hole ≡ Reaches (record at { value = Gone })
    reached_hole = reached_empty setting number targets uniques base is_target passed h.before h.cells_before facts h.runs
        hole w local told_so.other own told_so.no_index told_so.own_index lies_before there

    -- nothing stays at the head of what is gone
    head_differs : (a : Addr) (k : ℕ) → HeadIs setting moved a k → at.address ≡ a → ⊥
    head_differs a k x e =
        let now = reached_stands setting moved hole (record at { value = Gone }) reached_hole in
        let one : record at { value = Gone } ≡ x.standing = some_same (sym now ∙ ap (located_at setting moved) e ∙ x.stands)
        in
        none-some k (ap (λ (s : Located). head_serial s.value) one ∙ x.head)
      where
        some_same : {a b : Located} → Some a ≡ Some b → a ≡ b
        some_same z = cc

    spared_hole : (gs : List (Addr × ℕ)) → Each (λ (g : Addr × ℕ). Spaced g.0 at.address) gs →
        HeadsStand setting gs moved → Each (λ (g : Addr × ℕ). Spares g.0 at.address) gs
    spared_hole [] s x = tt
    spared_hole (g ∷ gs) s x = (spared_if g.0 at.address s.0 (head_differs g.0 g.1 x.0), spared_hole gs s.1 x.1)

    filled : C [] w → C [] (stored_at at.address root.value moved)
    filled c =
        let heads_moved = heads_kept setting guards w root.address Gone
        (own_spared setting number targets uniques base is_target passed size sized dropping guards deep h.before
        h.cells_before facts h.runs root.address hd.as_deep) c.heads in
        record {
          flow = flights.put size setting sized [] dropping moved (record at { value = Gone }) root.value
              (reached_stands setting moved hole (record at { value = Gone }) reached_hole) (λ k. refl)
              (flights.taken size setting sized [] dropping w root
              (reached_stands setting w site.place root reached_root) c.flow);
          heads = heads_kept setting guards moved at.address root.value
              (spared_hole guards
              (spaced_there setting number targets uniques base is_target passed size sized loose dropping guards deep spaced
              h.before h.cells_before facts h.runs hole lies_before told_so.changes) heads_moved) heads_moved;
        }

    pub refill_counted : C [] w → (u : State) → act setting run (effects.Put to (effects.Moved site)) w ≡ Go u → C [] u
    refill_counted c u e =
        by (is_whole root.value)
        (sym (ap (λ r. or_stuck {A = Datum × State} (option_map_or (λ (s : Located). Some (
          s.value,
          stored_at s.address Gone w,
        )) (on_reached r (values.whole setting) None None) None) (λ x. put setting to x.0 x.1) w)
        reached_root)
        ∙ went_past (effects.stores_where (values.never_at setting w) (effects.Put to (effects.Moved site))) _ u e)
      where
        go_same : {a b : State} → Go a ≡ Go b → a ≡ b
        go_same x = cc

        by : (b : Bool) → or_stuck {A = Datum × State} (option_map_or (λ (s : Located). Some (
          s.value,
          stored_at s.address Gone w,
        )) (values.if_so b root) None) (λ x. put setting to x.0 x.1) w ≡ Go u → C [] u
        by false x = absurd (let never : ⊥ = cc in never)
        by true x = subst (C []) (go_same (sym (ap (λ r. on_reached r (λ s. Go (stored_at s.address root.value moved))
            (Halts Stuck moved) (Halts Stuck moved)) (ap (reach setting moved) told_so.here ∙ reached_hole)) ∙ x))
            (filled c)
