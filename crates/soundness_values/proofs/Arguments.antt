-- All arguments of a call in a checked run, one after another: each is a whole value of the type of its parameter, or a
-- reference to a place that is known.
use Rattle.std.proofs.Common.{◌≡◌, ◌≢◌, ℕ, ◌&&◌, not, Bool, true, false, List, [], ◌∷◌, ◌++◌, length, Option, Some, None, is_some, refl, ap, sym, ◌∙◌, subst}
use Rattle.std.specs.Prelude.{option_and_then}
use Rattle.std.proofs.lemmas.Bool.{false≢true}
use Rattle.mir_ty.specs.declared.ty.Ty.{Ty}
use Rattle.mir_ty.specs.declared.ty.TyId.{TyId}
use Rattle.mir_ty.specs.ItemTable.{ItemTable, type_at}
use Rattle.store_model.proofs.Effects.Following.{Relation}
use Rattle.store_model.specs.declared.address.Addr.{Addr}
use Rattle.store_model.specs.Values.Datum.{Datum, Number, Truth, UnitValue, Address}
use Rattle.store_model.specs.Effects as effects
use Rattle.store_model.specs.Effects.{Operand, Out, on_go}
use Rattle.store_model.specs.Abstract.Effects.{AbstractState, operand_used, operands_used}
use Rattle.store_model.specs.Abstract.Presence.{Presence, is_present}
use Rattle.store_model.specs.Places.Place.{Place, whole_local}
use Rattle.store_model.specs.Concrete.Effects as values
use Rattle.store_model.specs.Concrete.Effects.{or_stuck, evaluate_operand, evaluate_operands}
use Rattle.store_model.specs.Concrete.Location.{Setting, OfType, named_by}
use Rattle.store_model.specs.Concrete.State.{State, Activation, Cells, cell}
use Rattle.soundness_values.proofs.Doing.{FollowsOut}
use Rattle.soundness_values.proofs.Fits.{Fits}
use Rattle.soundness_values.proofs.Facts.{Naming, Facts, Each, takes_index}
use Rattle.soundness_values.proofs.Known.{Target}
use Rattle.soundness_values.proofs.Behind.{names_it}
use Rattle.soundness_values.proofs.Dropped.{feeding}
use Rattle.soundness_values.proofs.Running.{sure_place, Passed, Runs, own_place}
use Rattle.soundness_values.proofs.Changing.{known_held}
use Rattle.soundness_values.proofs.Checks.{id_of, is_of, takes_well, after_operand, after_operands, no_steps, naming_of, names_well, names_well_if_any, passes_reference, passes_as, passes, listed, named_by_one, named_by_all}
use Rattle.soundness_values.proofs.Taking.{first, second, not_so, rel}
use Rattle.soundness_values.proofs.Acting.{value_is}
use Rattle.soundness_values.proofs.Building.{one_then_all}
use Rattle.soundness_values.proofs.Testing.{whole_place}
use Rattle.soundness_values.proofs.Passing.{moves_one, moves_any, path_unmoved, or_false, NamesAt, own_names, behind_names, Moves, stays_so, operand_moves, reference_moves}

module _ (setting : Setting) (number : ℕ) (targets : List Target) (uniques : List Addr) (base : State)
    (is_target : ℕ → Bool) (passed : Passed setting number targets uniques base is_target) where
  abbrev items : ItemTable
  items = setting.items

  abbrev local_ty : ℕ → Option TyId
  local_ty key = setting.local_ty number key

  abbrev R : State → List (ℕ × Presence) → Facts → Type 0
  R = Runs setting number targets uniques base is_target

  abbrev rels : Facts → Relation State AbstractState
  rels = rel setting number targets uniques base is_target passed

  abbrev takes : Facts → Operand → Bool
  takes = takes_well items local_ty is_target

  abbrev after : Operand → Facts → Facts
  after = after_operand items local_ty is_target

  abbrev S : Facts → Place → Bool
  S = sure_place items local_ty is_target

  -- ---- all arguments

  -- a place that is named is not moved, nor is a local that is an index on the way to it
  pub record Untouched (args : List Operand) (n : Naming) : Type 0 where
    pub local_stays : moves_any args n.place.local ≡ false
    pub index_stays : (key : ℕ) → takes_index key n.place.steps ≡ true → moves_any args key ≡ false

  -- values and references, each for its parameter, with what they name
  pub data Args (last : Facts) (start : List (ℕ × Presence)) (depth : ℕ) (held : Cells) : List TyId → List Naming →
      List Datum → Type 0 where
    no_arg : Args last start depth held [] [] []
    a_value : (id : TyId) (ids : List TyId) (more names : List Naming) (d : Datum) (ds : List Datum) →
        named_by (type_at items id) ≡ None → Fits items (OfType id) is_present d →
        Args last start depth held ids names ds → Args last start depth held (id ∷ ids) (more ++ names) (d ∷ ds)
    a_name : (id : TyId) (ids : List TyId) (unique : Bool) (to : TyId) (n : Naming) (names : List Naming) (d : Datum)
        (ds : List Datum) → type_at items id ≡ Some (names_it unique to) →
        names_well items local_ty is_target last start unique to n ≡ true → NamesAt setting number targets uniques base
        is_target passed depth held n.place d →
        Args last start depth held ids names ds → Args last start depth held (id ∷ ids) (n ∷ names) (d ∷ ds)

  each_front : {A : Type 0} (holds : A → Type 0) (a b : List A) → Each holds (a ++ b) → Each holds a
  each_front holds [] b h = tt
  each_front holds (x ∷ a) b h = (h.0, each_front holds a b h.1)

  each_back : {A : Type 0} (holds : A → Type 0) (a b : List A) → Each holds (a ++ b) → Each holds b
  each_back holds [] b h = h
  each_back holds (x ∷ a) b h = each_back holds a b h.1

  each_less : (operand : Operand) (operands : List Operand) (names : List Naming) →
      Each (Untouched (operand ∷ operands)) names → Each (Untouched operands) names
  each_less operand operands [] h = tt
  each_less operand operands (n ∷ names) h = (
    record {
      local_stays = (or_false (moves_one operand n.place.local) _ h.0.local_stays).1;
      index_stays = λ key k. (or_false (moves_one operand key) _ (h.0.index_stays key k)).1;
    },
    each_less operand operands names h.1,
  )

  -- a name is at its place still, after others were moved
  pub names_still : (depth : ℕ) (held held' : Cells) (place : Place) (d : Datum) →
      ((key : ℕ) → takes_index key place.steps ≡ true → cell key held' ≡ cell key held) →
      NamesAt setting number targets uniques base is_target passed depth held place d → NamesAt setting number targets
      uniques base is_target passed depth held' place d
  names_still depth held held' place d same (own_names o e) = own_names o (e
      ∙ ap (λ p. Address (own_place setting number targets uniques base is_target depth place.local p))
      (sym (path_unmoved held' held place.steps same)))
  names_still depth held held' place d same (behind_names n t at is_local steps is e) =
      behind_names n t at is_local steps is (e
      ∙ ap (λ p. Address (record t.address { path = t.address.path ++ p }))
      (sym (path_unmoved held' held steps (λ key h. same key (ap (takes_index key) is ∙ h)))))

  abbrev pub all_names : Facts → List Operand → List Naming
  all_names facts args = named_by_all items local_ty is_target facts args

  -- one argument, whatever comes after it
  abbrev NextArg : (last : Facts) (start : List (ℕ × Presence)) (operand : Operand) (operands : List Operand)
      (id : TyId) (ids : List TyId) (facts : Facts) (depth : ℕ) (held : Cells) → Datum → Type 0
  NextArg last start operand operands id ids facts depth held d =
      (now : Cells) (names : List Naming) (ds : List Datum) →
      ((key : ℕ) → moves_any (operand ∷ operands) key ≡ false → cell key now ≡ cell key held) →
      Args last start depth now ids names ds →
      Args last start depth now (id ∷ ids) (named_by_one items local_ty is_target facts operand ++ names) (d ∷ ds)

  module _ (goal last : Facts) (start : List (ℕ × Presence)) (operands : List Operand) (id : TyId) (ids : List TyId)
      (facts : Facts) (w w0 : State) (cells : List (ℕ × Presence)) (next : Datum → State → Out State)
      (more : AbstractState → Out AbstractState) (r : R w cells facts) where
    abbrev Then : Operand → Type 0
    Then operand = (d : Datum) (v : State) (cells' : List (ℕ × Presence)) → R v cells' (after operand facts) →
        Moves setting number targets uniques base is_target passed (moves_one operand) r.known.held r.known.older cells
        v cells' →
        NextArg last start operand operands id ids facts (length r.known.older) r.known.held d →
        FollowsOut (rels goal) tt (next d v) (λ t. more (feeding t cells'))

    abbrev Followed : Operand → Type 0
    Followed operand = FollowsOut (rels goal) tt
        (or_stuck {A = Datum × State} (evaluate_operand setting operand w) (λ t. next t.0 t.1) w0)
        (λ t. on_go (operand_used items local_ty operand (feeding t cells)) more)

    by_its_value : (operand : Operand) → named_by (type_at items id) ≡ None →
        (takes facts operand && is_of items local_ty is_target operand id) ≡ true → Then operand → Followed operand
    by_its_value operand none h f =
        operand_moves setting number targets uniques base is_target passed w cells facts r goal operand w0 next more
        (first (takes facts operand) _ h)
        (λ d v cells' value q m. f d v cells' q m
        (λ now names ds same args. a_value id ids (named_by_one items local_ty is_target facts operand) names d ds none
        (value_is setting number targets uniques base is_target passed operand d id value
        (second (takes facts operand) _ h)) args))

    by_its_name : (operand : Operand) (unique : Bool) (to : TyId) → type_at items id ≡ Some (names_it unique to) →
        passes_reference items local_ty is_target last facts start unique to operand ≡ true →
        Each (Untouched (operand ∷ operands)) (named_by_one items local_ty is_target facts operand) → Then operand →
        Followed operand
    by_its_name (effects.Copied site) unique to e h u f = absurd (false≢true h)
    by_its_name (effects.Number value kind) unique to e h u f = absurd (false≢true h)
    by_its_name (effects.Truth value) unique to e h u f = absurd (false≢true h)
    by_its_name effects.UnitValue unique to e h u f = absurd (false≢true h)
    by_its_name (effects.Moved site) unique to e h u f =
        in_whole (whole_place site.place (first (no_steps site.place.steps) _ here)) h u f
      where
        here : (no_steps site.place.steps && (not (is_target site.place.local)
            && is_some (id_of items local_ty is_target site.place))) ≡ true
        here = first (no_steps site.place.steps && (not (is_target site.place.local)
            && is_some (id_of items local_ty is_target site.place))) _ h

        id_there : (o : Option TyId) → is_some (option_and_then (λ (i : TyId). Some i) o) ≡ true →
            (i : TyId) × (o ≡ Some i)
        id_there None k = absurd (false≢true k)
        id_there (Some i) k = (i, refl)

        well_there : (o : Option Naming) → names_well_if_any items local_ty is_target last start unique to o ≡ true →
            (n : Naming) × ((o ≡ Some n) × (names_well items local_ty is_target last start unique to n ≡ true))
        well_there None k = absurd (false≢true k)
        well_there (Some n) k = (n, (refl, k))

        at_whole : (node local : ℕ) → passes_reference items local_ty is_target last facts start unique to
            (effects.Moved (record { node = node; place = whole_local local })) ≡ true →
            Each (Untouched (effects.Moved (record { node = node; place = whole_local local }) ∷ operands))
            (named_by_one items local_ty is_target facts
            (effects.Moved (record { node = node; place = whole_local local }))) →
            Then (effects.Moved (record { node = node; place = whole_local local })) →
            Followed (effects.Moved (record { node = node; place = whole_local local }))
        at_whole node local h u f =
            let tested = first (not (is_target local) && is_some (option_and_then (λ (i : TyId). Some i)
            (local_ty local))) _ h in
            let typed = id_there (local_ty local) (second (not (is_target local)) _ tested) in
            let n = well_there (naming_of items local_ty is_target local facts)
            (second (not (is_target local) && is_some (option_and_then (λ (i : TyId). Some i) (local_ty local))) _ h)
            in
            let is_listed : named_by_one items local_ty is_target facts
            (effects.Moved (record { node = node; place = whole_local local })) ≡ n.0 ∷ [] = ap listed n.1.0 in
            let still : Untouched (effects.Moved (record { node = node; place = whole_local local }) ∷ operands) n.0 =
            (subst (Each (Untouched (effects.Moved (record { node = node; place = whole_local local }) ∷ operands)))
            is_listed u).0 in
            reference_moves setting number targets uniques base is_target passed w cells facts r goal node local
            (not_so (is_target local)
            (first (not (is_target local)) _ tested)) typed.0 typed.1 n.0 n.1.0 w0 next more
            (λ d names q m. f d _ _ q m
            (λ now rest ds same args. subst (λ l. Args last start (length r.known.older) now (id ∷ ids) (l ++ rest)
            (d ∷ ds)) (sym is_listed)
            (a_name id ids unique to n.0 rest d ds e n.1.1
            (names_still (length r.known.older) r.known.held now n.0.place d
            (λ key k. same key (still.index_stays key k)) names) args)))

        in_whole : site.place ≡ whole_local site.place.local →
            passes_reference items local_ty is_target last facts start unique to (effects.Moved site) ≡ true →
            Each (Untouched (effects.Moved site ∷ operands))
            (named_by_one items local_ty is_target facts (effects.Moved site)) → Then (effects.Moved site) →
            Followed (effects.Moved site)
        in_whole e = subst (λ p.
            passes_reference items local_ty is_target last facts start unique to
            (effects.Moved (record { node = site.node; place = p })) ≡ true →
            Each (Untouched (effects.Moved (record { node = site.node; place = p }) ∷ operands))
            (named_by_one items local_ty is_target facts (effects.Moved (record { node = site.node; place = p }))) →
            Then (effects.Moved (record { node = site.node; place = p })) →
            Followed (effects.Moved (record { node = site.node; place = p }))) (sym e)
            (at_whole site.node site.place.local)

    one_arg : (operand : Operand) → passes_as items local_ty is_target last facts start id operand (type_at items id)
        ≡ true → Each (Untouched (operand ∷ operands)) (named_by_one items local_ty is_target facts operand) →
        Then operand → Followed operand
    one_arg operand h u f = by (type_at items id) refl h
      where
        by : (o : Option Ty) → type_at items id ≡ o →
            passes_as items local_ty is_target last facts start id operand o ≡ true → Followed operand
        by (Some (Ty.Shared to)) e k = by_its_name operand false to e k u f
        by (Some (Ty.Unique to)) e k = by_its_name operand true to e k u f
        by None e k = by_its_value operand (ap named_by e) k f
        by (Some other) e k = by_its_value operand (ap named_by e) k f

  -- the arguments follow those of a free run
  pub args_follow : (goal last : Facts) (start : List (ℕ × Presence)) (args : List Operand) (ids : List TyId)
      (facts : Facts) (w w0 : State) (cells : List (ℕ × Presence)) (next : List Datum → State → Out State)
      (more : AbstractState → Out AbstractState) → passes items local_ty is_target last facts start ids args ≡ true →
      Each (Untouched args) (all_names facts args) → (r : R w cells facts) →
      ((ds : List Datum) (v : State) (cells' : List (ℕ × Presence)) →
      R v cells' (after_operands items local_ty is_target args facts) →
      (m : Moves setting number targets uniques base is_target passed (moves_any args) r.known.held r.known.older cells
      v cells') →
      Args last start (length r.known.older) m.now ids (all_names facts args) ds →
      FollowsOut (rels goal) tt (next ds v) (λ t. more (feeding t cells'))) →
      FollowsOut (rels goal) tt
      (or_stuck {A = List Datum × State} (evaluate_operands setting args w) (λ t. next t.0 t.1) w0)
      (λ t. operands_used items local_ty args more (feeding t cells))
  args_follow goal last start [] [] facts w w0 cells next more h u r f =
      f [] w cells r (stays_so setting number targets uniques base is_target passed w cells facts r (λ key. false))
      no_arg
  args_follow goal last start [] (id ∷ ids) facts w w0 cells next more h u r f = absurd (false≢true h)
  args_follow goal last start (operand ∷ operands) [] facts w w0 cells next more h u r f = absurd (false≢true h)
  args_follow goal last start (operand ∷ operands) (id ∷ ids) facts w w0 cells next more h u r f =
      subst (λ o. FollowsOut (rels goal) tt o
      (λ t. operands_used items local_ty (operand ∷ operands) more (feeding t cells)))
      (one_then_all setting number targets uniques base is_target passed operand operands w w0 next)
      (one_arg goal last start operands id ids facts w w0 cells
      (λ d v. or_stuck {A = List Datum × State} (evaluate_operands setting operands v) (λ t. next (d ∷ t.0) t.1) w0)
      (operands_used items local_ty operands more) r operand
      (first (passes_as items local_ty is_target last facts start id operand (type_at items id)) _ h)
      (each_front (Untouched (operand ∷ operands)) (named_by_one items local_ty is_target facts operand)
      (all_names (after operand facts) operands) u)
      (λ d v cells' q m then_all. args_follow goal last start operands ids (after operand facts) v w0 cells'
      (λ values. next (d ∷ values)) more
      (second (passes_as items local_ty is_target last facts start id operand (type_at items id)) _ h)
      (each_less operand operands (all_names (after operand facts) operands)
      (each_back (Untouched (operand ∷ operands)) (named_by_one items local_ty is_target facts operand)
      (all_names (after operand facts) operands) u)) q
      (λ ds y cells'' z later args.
      let same = known_held setting number targets uniques base is_target passed v cells' q.known m.now r.known.older
      m.is_there in
      let held_same = λ (key : ℕ) (k : moves_any (operand ∷ operands) key ≡ false).
      later.held_same key (or_false (moves_one operand key) _ k).1 ∙ ap (cell key) same.0
      ∙ m.held_same key (or_false (moves_one operand key) _ k).0 in
      f (d ∷ ds) y cells'' z (record {
        now = later.now;
        is_there = later.is_there ∙ ap (λ l. (record { body = number; cells = later.now }) ∷ l) same.1;
        held_same = held_same;
        present_same = λ key k. later.present_same key (or_false (moves_one operand key) _ k).1
            ∙ m.present_same key (or_false (moves_one operand key) _ k).0;
      }) (then_all later.now (all_names (after operand facts) operands) ds held_same
      (subst (λ (l : List Activation). Args last start (length l) later.now ids
      (all_names (after operand facts) operands) ds) same.1 args)))))
