-- The arguments of a call, in a run that keeps the account of numbers: one is refused in the free run, or all are there
-- with their numbers in flight.
use Rattle.std.proofs.Common.{◌≡◌, ℕ, suc, ◌<◌, ◌&&◌, not, Bool, true, false, List, [], ◌∷◌, ◌++◌, length, Option, Some, None, is_some, refl, ap, sym, ◌∙◌, subst, arith}
use Rattle.std.specs.Prelude.{slice_get, option_and_then}
use Rattle.std.specs.Option.{option_map_or}
use Rattle.std.proofs.lemmas.Bool.{false≢true}
use Rattle.mir_base.specs.Once.{times}
use Rattle.mir_ty.specs.declared.ty.Ty.{Ty}
use Rattle.mir_ty.specs.declared.ty.TyId.{TyId}
use Rattle.mir_ty.specs.ItemTable.{ItemTable, type_at}
use Rattle.store_model.specs.declared.address.Addr.{Addr}
use Rattle.store_model.specs.Values.Datum.{Datum}
use Rattle.store_model.specs.Values.Wholeness.{serials}
use Rattle.store_model.specs.Effects as effects
use Rattle.store_model.specs.Effects.{EffectSite, Operand, BadUse, Out, Halts, on_go}
use Rattle.store_model.specs.Abstract.Effects.{AbstractState, presence, operands_used}
use Rattle.store_model.specs.Abstract.Presence.{Presence, itself_gone, presence_along}
use Rattle.store_model.specs.Places.Place.{Step, Place, whole_local}
use Rattle.store_model.specs.Concrete.Effects.{evaluate_operands}
use Rattle.store_model.specs.Concrete.Location.{Setting, named_by}
use Rattle.store_model.specs.Concrete.State.{State, Activation, Cells, cell}
use Rattle.soundness_values.proofs.Acting.{value_is}
use Rattle.soundness_values.proofs.Arguments.{Untouched, all_names, names_still}
use Rattle.soundness_values.proofs.Behind.{names_it}
use Rattle.soundness_values.proofs.Changing.{known_held}
use Rattle.soundness_values.proofs.Checks.{id_of, is_of, takes_well, after_operand, after_operands, no_steps, naming_of, names_well, names_well_if_any, passes_reference, passes_as, passes, listed, named_by_one}
use Rattle.soundness_values.proofs.CountedMarks.{Marked, no_mark, value_mark, name_mark}
use Rattle.soundness_values.proofs.CountedStores.{AllSpaced}
use Rattle.soundness_values.proofs.CountedTakes.{Counted}
use Rattle.soundness_values.proofs.Counts.{times_append}
use Rattle.soundness_values.proofs.Dropped.{feeding}
use Rattle.soundness_values.proofs.Facts.{Naming, Facts, Each}
use Rattle.soundness_values.proofs.Known.{Target}
use Rattle.soundness_values.proofs.NumbersHeld.{serials_of_args}
use Rattle.soundness_values.proofs.Passing.{moves_one, moves_any, or_false, NamesAt, Moves, stays_so}
use Rattle.soundness_values.proofs.ProtectTests.{marked_naming, marked_one, marked}
use Rattle.soundness_values.proofs.Running.{Passed, Runs}
use Rattle.soundness_values.proofs.Taking.{first, second, not_so, ValueOf}
use Rattle.soundness_values.proofs.Tally.{flying_alike}
use Rattle.soundness_values.proofs.Testing.{whole_place}
use Rattle.soundness_values.proofs.CountedArg.{ArgOut, arg_refused, arg_there, arg_as, value_out, reference_out}

each_front : {A : Type 0} (holds : A → Type 0) (a b : List A) → Each holds (a ++ b) → Each holds a
each_front holds [] b h = tt
each_front holds (x ∷ a) b h = (h.0, each_front holds a b h.1)

each_back : {A : Type 0} (holds : A → Type 0) (a b : List A) → Each holds (a ++ b) → Each holds b
each_back holds [] b h = h
each_back holds (x ∷ a) b h = each_back holds a b h.1

module _ (setting : Setting) (number : ℕ) (targets : List Target) (uniques : List Addr) (base : State)
    (is_target : ℕ → Bool) (passed : Passed setting number targets uniques base is_target) (size : ℕ → ℕ)
    (sized : (body key : ℕ) (id : TyId) → setting.local_ty body key ≡ Some id → key < size body)
    (loose : setting.strict ≡ false) (dropping : List ℕ) (guards : List (Addr × ℕ))
    (deep : Each (λ (g : Addr × ℕ). g.0.depth < length base.activations) guards)
    (spaced : AllSpaced guards targets) (protects : ℕ → ℕ → Bool)
    (exact : (m : ℕ) (t : Target) → slice_get targets m ≡ Some t → t.unique ≡ true →
    Each (λ (g : Addr × ℕ). t.address ≡ g.0 → protects number t.local ≡ true) guards) where
  abbrev items : ItemTable
  items = setting.items

  abbrev local_ty : ℕ → Option TyId
  local_ty key = setting.local_ty number key

  abbrev R : State → List (ℕ × Presence) → Facts → Type 0
  R = Runs setting number targets uniques base is_target

  abbrev C : List ℕ → State → Type 0
  C = Counted setting number targets uniques base is_target passed size sized dropping guards deep

  abbrev takes : Facts → Operand → Bool
  takes = takes_well items local_ty is_target

  abbrev after : Operand → Facts → Facts
  after = after_operand items local_ty is_target

  abbrev Stay : List Operand → Naming → Type 0
  Stay = Untouched setting number targets uniques base is_target passed

  abbrev Named : ℕ → Cells → Place → Datum → Type 0
  Named = NamesAt setting number targets uniques base is_target passed

  each_less : (operand : Operand) (operands : List Operand) (names : List Naming) →
      Each (Stay (operand ∷ operands)) names → Each (Stay operands) names
  each_less operand operands [] h = tt
  each_less operand operands (n ∷ names) h = (
    record {
      local_stays = (or_false (moves_one operand n.place.local) _ h.0.local_stays).1;
      index_stays = λ key k. (or_false (moves_one operand key) _ (h.0.index_stays key k)).1;
    },
    each_less operand operands names h.1,
  )

  module _ (last : Facts) (start : List (ℕ × Presence)) (bodies : List ℕ) where
    abbrev Marks : ℕ → Cells → ℕ → List TyId → List Naming → List Datum → Type 0
    Marks depth held = Marked setting number targets uniques base is_target passed size sized loose dropping guards deep
        spaced protects exact last start depth held bodies

    -- one argument, with those after it
    abbrev Next : (operand : Operand) (operands : List Operand) (local : ℕ) (id : TyId) (ids : List TyId)
        (facts : Facts) (depth : ℕ) (held : Cells) → Datum → Type 0
    Next operand operands local id ids facts depth held d =
        (now : Cells) (names : List Naming) (ds : List Datum) →
        ((key : ℕ) → moves_any (operand ∷ operands) key ≡ false → cell key now ≡ cell key held) →
        Marks depth now (suc local) ids names ds →
        Marks depth now local (id ∷ ids) (named_by_one items local_ty is_target facts operand ++ names) (d ∷ ds)

    module _ (operands : List Operand) (local : ℕ) (id : TyId) (ids : List TyId) (facts : Facts) (w : State)
        (cells : List (ℕ × Presence)) (r : R w cells facts) (flying : List ℕ) (c : C flying w) where
      abbrev Outs : Operand → Type 0
      Outs operand = ArgOut setting number targets uniques base is_target passed size sized loose dropping guards deep spaced protects exact w cells facts r operand flying
          (Next operand operands local id ids facts (length r.known.older) r.known.held)

      out_by_value : (operand : Operand) → named_by (type_at items id) ≡ None →
          (takes facts operand && is_of items local_ty is_target operand id) ≡ true → Outs operand
      out_by_value operand none h =
          arg_as setting number targets uniques base is_target passed size sized loose dropping guards deep spaced protects exact w cells facts r operand flying (ValueOf setting number targets uniques base is_target passed operand)
          (Next operand operands local id ids facts (length r.known.older) r.known.held)
          (λ d value now names ds same rest. value_mark local id ids (named_by_one items local_ty is_target facts operand)
          names d ds none
          (value_is setting number targets uniques base is_target passed operand d id value
          (second (takes facts operand) _ h)) rest)
          (value_out setting number targets uniques base is_target passed size sized loose dropping guards deep spaced protects exact w cells facts r operand flying (first (takes facts operand) _ h) c)

      out_by_name : (operand : Operand) (unique : Bool) (to : TyId) → type_at items id ≡ Some (names_it unique to) →
          passes_reference items local_ty is_target last facts start unique to operand ≡ true →
          Each (Stay (operand ∷ operands)) (named_by_one items local_ty is_target facts operand) →
          marked_one items protects number bodies local facts operand ≡ true → Outs operand
      out_by_name (effects.Copied site) unique to e h u m = absurd (false≢true h)
      out_by_name (effects.Number value kind) unique to e h u m = absurd (false≢true h)
      out_by_name (effects.Truth value) unique to e h u m = absurd (false≢true h)
      out_by_name effects.UnitValue unique to e h u m = absurd (false≢true h)
      out_by_name (effects.Moved site) unique to e h u m =
          in_whole (whole_place site.place (first (no_steps site.place.steps) _ here)) h u m
        where
          here : (no_steps site.place.steps && (not (is_target site.place.local)
              && is_some (id_of items local_ty is_target site.place))) ≡ true
          here = first (no_steps site.place.steps && (not (is_target site.place.local)
              && is_some (id_of items local_ty is_target site.place))) _ h

          id_there : (o : Option TyId) → is_some (option_and_then (λ (i : TyId). Some i) o) ≡ true →
              (i : TyId) × (o ≡ Some i)
          id_there None k = absurd (false≢true k)
          id_there (Some i) k = (i, refl)

          well_there : (o : Option Naming) → names_well_if_any items local_ty is_target last start unique to o ≡ true →
              (n : Naming) × ((o ≡ Some n) × (names_well items local_ty is_target last start unique to n ≡ true))
          well_there None k = absurd (false≢true k)
          well_there (Some n) k = (n, (refl, k))

          at_whole : (node key : ℕ) → passes_reference items local_ty is_target last facts start unique to
              (effects.Moved (record { node = node; place = whole_local key })) ≡ true →
              Each (Stay (effects.Moved (record { node = node; place = whole_local key }) ∷ operands))
              (named_by_one items local_ty is_target facts
              (effects.Moved (record { node = node; place = whole_local key }))) →
              marked_one items protects number bodies local facts
              (effects.Moved (record { node = node; place = whole_local key })) ≡ true →
              Outs (effects.Moved (record { node = node; place = whole_local key }))
          at_whole node key h u m =
              let tested = first (not (is_target key) && is_some (option_and_then (λ (i : TyId). Some i)
              (local_ty key))) _ h in
              let typed = id_there (local_ty key) (second (not (is_target key)) _ tested) in
              let n = well_there (naming_of items local_ty is_target key facts)
              (second (not (is_target key) && is_some (option_and_then (λ (i : TyId). Some i) (local_ty key))) _ h)
              in
              let is_listed : named_by_one items local_ty is_target facts
              (effects.Moved (record { node = node; place = whole_local key })) ≡ n.0 ∷ [] = ap listed n.1.0 in
              let still : Stay (effects.Moved (record { node = node; place = whole_local key }) ∷ operands) n.0 =
              (subst (Each (Stay (effects.Moved (record { node = node; place = whole_local key }) ∷ operands)))
              is_listed u).0 in
              arg_as setting number targets uniques base is_target passed size sized loose dropping guards deep spaced protects exact w cells facts r (effects.Moved (record { node = node; place = whole_local key })) flying
              (Named (length r.known.older) r.known.held n.0.place)
              (Next (effects.Moved (record { node = node; place = whole_local key })) operands local id ids facts
              (length r.known.older) r.known.held)
              (λ d named now rest ds same later. subst (λ l. Marks (length r.known.older) now local (id ∷ ids) (l ++ rest)
              (d ∷ ds)) (sym is_listed)
              (name_mark local id ids unique to n.0 rest d ds e n.1.1
              (names_still setting number targets uniques base is_target passed (length r.known.older) r.known.held now
              n.0.place d (λ index k. same index (still.index_stays index k)) named)
              (subst (λ o. marked_naming items protects number bodies local o ≡ true) n.1.0 m) later))
              (reference_out setting number targets uniques base is_target passed size sized loose dropping guards deep spaced protects exact w cells facts r node key (not_so (is_target key) (first (not (is_target key)) _ tested))
              typed.0 typed.1 n.0 n.1.0 flying c)

          in_whole : site.place ≡ whole_local site.place.local →
              passes_reference items local_ty is_target last facts start unique to (effects.Moved site) ≡ true →
              Each (Stay (effects.Moved site ∷ operands))
              (named_by_one items local_ty is_target facts (effects.Moved site)) →
              marked_one items protects number bodies local facts (effects.Moved site) ≡ true → Outs (effects.Moved site)
          in_whole e = subst (λ p.
              passes_reference items local_ty is_target last facts start unique to
              (effects.Moved (record { node = site.node; place = p })) ≡ true →
              Each (Stay (effects.Moved (record { node = site.node; place = p }) ∷ operands))
              (named_by_one items local_ty is_target facts (effects.Moved (record { node = site.node; place = p }))) →
              marked_one items protects number bodies local facts
              (effects.Moved (record { node = site.node; place = p })) ≡ true →
              Outs (effects.Moved (record { node = site.node; place = p }))) (sym e)
              (at_whole site.node site.place.local)

      one_out : (operand : Operand) → passes_as items local_ty is_target last facts start id operand (type_at items id)
          ≡ true → Each (Stay (operand ∷ operands)) (named_by_one items local_ty is_target facts operand) →
          marked_one items protects number bodies local facts operand ≡ true → Outs operand
      one_out operand h u m = by (type_at items id) refl h
        where
          by : (o : Option Ty) → type_at items id ≡ o →
              passes_as items local_ty is_target last facts start id operand o ≡ true → Outs operand
          by (Some (Ty.Shared to)) e k = out_by_name operand false to e k u m
          by (Some (Ty.Unique to)) e k = out_by_name operand true to e k u m
          by None e k = out_by_value operand (ap named_by e) k
          by (Some other) e k = out_by_value operand (ap named_by e) k

    -- ---- all of them

    pub data ArgsOut (w : State) (cells : List (ℕ × Presence)) (facts : Facts) (r : R w cells facts) (local : ℕ)
        (ids : List TyId) (args : List Operand) (flying : List ℕ) : Type 0 where
      args_refused : (site : EffectSite) (cells' : List (ℕ × Presence)) →
          ((t : List Bool) (more : AbstractState → Out AbstractState) →
          operands_used items local_ty args more (feeding t cells) ≡ Halts (BadUse site) (feeding t cells')) →
          ArgsOut w cells facts r local ids args flying
      args_there : (ds : List Datum) (v : State) → evaluate_operands setting args w ≡ Some (ds, v) →
          (cells' : List (ℕ × Presence)) → ((t : List Bool) (more : AbstractState → Out AbstractState) →
          operands_used items local_ty args more (feeding t cells) ≡ more (feeding t cells')) →
          R v cells' (after_operands items local_ty is_target args facts) →
          (m : Moves setting number targets uniques base is_target passed (moves_any args) r.known.held r.known.older
          cells v cells') →
          Marks (length r.known.older) m.now local ids (all_names setting number targets uniques base is_target passed
          facts args) ds → C (serials_of_args ds ++ flying) v →
          ((key : ℕ) (steps : List Step) → itself_gone (presence_along steps (presence key cells)) ≡ true →
          itself_gone (presence_along steps (presence key cells')) ≡ true) → ArgsOut w cells facts r local ids args flying

    abbrev AllOut : List Operand → List TyId → Type 0
    AllOut args ids = (facts : Facts) (w : State) (cells : List (ℕ × Presence)) (r : R w cells facts) (local : ℕ) →
        passes items local_ty is_target last facts start ids args ≡ true →
        Each (Stay args) (all_names setting number targets uniques base is_target passed facts args) →
        marked items protects number bodies local facts args ≡ true → (flying : List ℕ) → C flying w →
        ArgsOut w cells facts r local ids args flying

    -- `++` groups to the left
    regrouped : (k : ℕ) (one other flying : List ℕ) →
        times k (other ++ (one ++ flying)) ≡ times k ((one ++ other) ++ flying)
    regrouped k one other flying =
        let left = times_append k (one ++ other) flying in
        let both = times_append k one other in
        let right = times_append k other (one ++ flying) in
        let rest = times_append k one flying in
        omega arith

    pub args_out : (args : List Operand) (ids : List TyId) → AllOut args ids
    args_out [] [] facts w cells r local h u m flying c =
        args_there [] w refl cells (λ t more. refl) r
        (stays_so setting number targets uniques base is_target passed w cells facts r (λ key. false)) (no_mark local) c
        (λ key steps g. g)
    args_out [] (id ∷ ids) facts w cells r local h u m flying c = absurd (false≢true h)
    args_out (operand ∷ operands) [] facts w cells r local h u m flying c = absurd (false≢true h)
    args_out (operand ∷ operands) (id ∷ ids) facts w cells r local h u m flying c =
        by (args_out operands ids)
        (one_out operands local id ids facts w cells r flying c operand
        (first (passes_as items local_ty is_target last facts start id operand (type_at items id)) _ h)
        (each_front (Stay (operand ∷ operands)) (named_by_one items local_ty is_target facts operand)
        (all_names setting number targets uniques base is_target passed (after operand facts) operands) u)
        (first (marked_one items protects number bodies local facts operand) _ m))
      where
        by : AllOut operands ids → ArgOut setting number targets uniques base is_target passed size sized loose dropping guards deep spaced protects exact w cells facts r operand flying
            (Next operand operands local id ids facts (length r.known.older) r.known.held) →
            ArgsOut w cells facts r local (id ∷ ids) (operand ∷ operands) flying
        by again (arg_refused site e) = args_refused site cells
            (λ t more. ap (λ o. on_go o (operands_used items local_ty operands more)) (e t))
        by again (arg_there d v e k next) =
            rest (again (after operand facts) v k.cells_after k.runs_after (suc local)
            (second (passes_as items local_ty is_target last facts start id operand (type_at items id)) _ h)
            (each_less operand operands
            (all_names setting number targets uniques base is_target passed (after operand facts) operands)
            (each_back (Stay (operand ∷ operands)) (named_by_one items local_ty is_target facts operand)
            (all_names setting number targets uniques base is_target passed (after operand facts) operands) u))
            (second (marked_one items protects number bodies local facts operand) _ m) (serials d ++ flying) k.counted)
          where
            rest : ArgsOut v k.cells_after (after operand facts) k.runs_after (suc local) ids operands
                (serials d ++ flying) → ArgsOut w cells facts r local (id ∷ ids) (operand ∷ operands) flying
            rest (args_refused site cells' z) = args_refused site cells'
                (λ t more. ap (λ o. on_go o (operands_used items local_ty operands more)) (k.used_so t) ∙ z t more)
            rest (args_there ds y e' cells'' z q later marks done still) =
                let same = known_held setting number targets uniques base is_target passed v k.cells_after
                k.runs_after.known k.moves.now r.known.older k.moves.is_there in
                let held_same = λ (key : ℕ) (x : moves_any (operand ∷ operands) key ≡ false).
                later.held_same key (or_false (moves_one operand key) _ x).1 ∙ ap (cell key) same.0
                ∙ k.moves.held_same key (or_false (moves_one operand key) _ x).0 in
                args_there (d ∷ ds) y
                (ap (λ o. option_and_then (λ (one : Datum × State). option_map_or {U = Option (List Datum × State)}
                (λ (rest : List Datum × State). Some (one.0 ∷ rest.0, rest.1)) (evaluate_operands setting operands one.1)
                None) o) e
                ∙ ap (λ o. option_map_or {U = Option (List Datum × State)}
                (λ (rest : List Datum × State). Some (d ∷ rest.0, rest.1)) o None) e') cells''
                (λ t more. ap (λ o. on_go o (operands_used items local_ty operands more)) (k.used_so t) ∙ z t more) q
                (record {
                  now = later.now;
                  is_there = later.is_there ∙ ap (λ l. (record { body = number; cells = later.now }) ∷ l) same.1;
                  held_same = held_same;
                  present_same = λ key x. later.present_same key (or_false (moves_one operand key) _ x).1
                      ∙ k.moves.present_same key (or_false (moves_one operand key) _ x).0;
                })
                (next later.now (all_names setting number targets uniques base is_target passed (after operand facts)
                operands) ds held_same
                (subst (λ (l : List Activation). Marks (length l) later.now (suc local) ids
                (all_names setting number targets uniques base is_target passed (after operand facts) operands) ds) same.1
                marks))
                (record {
                  flow = flying_alike size (serials_of_args ds ++ (serials d ++ flying))
                      ((serials d ++ serials_of_args ds) ++ flying) dropping y
                      (λ n. regrouped n (serials d) (serials_of_args ds) flying) done.flow;
                  heads = done.heads;
                }) (λ key steps g. still key steps (k.still_gone key steps g))
