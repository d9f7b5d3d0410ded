-- One argument of a call, in a run that keeps the account of numbers: it is refused in the free run, or its value is there
-- with its numbers in flight.
use Rattle.std.proofs.Common.{◌≡◌, ℕ, ◌<◌, Bool, true, false, List, [], ◌++◌, length, Option, Some, None, refl, ap, sym, ◌∙◌, subst}
use Rattle.std.specs.Prelude.{slice_get}
use Rattle.std.specs.Option.{option_map_or}
use Rattle.mir_ty.specs.declared.ty.TyId.{TyId}
use Rattle.mir_ty.specs.ItemTable.{ItemTable}
use Rattle.store_model.specs.declared.address.Addr.{Addr}
use Rattle.store_model.specs.Values.Datum.{Datum, Gone, Number, Truth, UnitValue}
use Rattle.store_model.specs.Values.Wholeness.{serials, is_whole}
use Rattle.store_model.specs.Effects as effects
use Rattle.store_model.specs.Effects.{EffectSite, Operand, BadUse, Out, Go, Halts, on_go}
use Rattle.store_model.specs.Abstract.Effects as free
use Rattle.store_model.specs.Abstract.Effects.{AbstractState, presence, with_presence, may_use, when, watched_at, acted, unless_never, operand_used, operands_used}
use Rattle.store_model.specs.Abstract.Presence.{Presence, itself_gone, presence_along}
use Rattle.store_model.specs.Places.Place.{Step, Place, whole_local}
use Rattle.store_model.specs.Concrete.Effects as values
use Rattle.store_model.specs.Concrete.Effects.{whole, evaluate_operand, evaluate_operands}
use Rattle.store_model.specs.Concrete.Location.{Setting, OfType, Located, on_reached, stored_at}
use Rattle.store_model.specs.Concrete.State.{State, Cells, cell}
use Rattle.soundness_values.proofs.Changing.{own_changed}
use Rattle.soundness_values.proofs.Checks.{is_value, takes_well, after_operand, naming_of}
use Rattle.soundness_values.proofs.CountedStores.{AllSpaced}
use Rattle.soundness_values.proofs.CountedTakes.{Fine, Counted, own_spared, takes_one}
use Rattle.soundness_values.proofs.Dropped.{feeding}
use Rattle.soundness_values.proofs.Facts.{Naming, Facts, Each}
use Rattle.soundness_values.proofs.Forgotten as flights
use Rattle.soundness_values.proofs.Guards.{heads_kept}
use Rattle.soundness_values.proofs.Known.{Target}
use Rattle.soundness_values.proofs.MovedAway.{own_moves, found_naming, names_at}
use Rattle.soundness_values.proofs.Passing.{moves_one, NamesAt, own_names, behind_names, Moves}
use Rattle.soundness_values.proofs.Reached.{reached_stands}
use Rattle.soundness_values.proofs.Reaching.{from_root, used}
use Rattle.soundness_values.proofs.Running.{sure_place, Passed, Runs, NamingHolds}
use Rattle.soundness_values.proofs.StillEmpty.{gone_in_cells}
use Rattle.soundness_values.proofs.Taking as taking
use Rattle.soundness_values.proofs.Taking.{first, second, not_so, ValueOf, as_its_type, never_false}

module _ (setting : Setting) (number : ℕ) (targets : List Target) (uniques : List Addr) (base : State)
    (is_target : ℕ → Bool) (passed : Passed setting number targets uniques base is_target) (size : ℕ → ℕ)
    (sized : (body key : ℕ) (id : TyId) → setting.local_ty body key ≡ Some id → key < size body)
    (loose : setting.strict ≡ false) (dropping : List ℕ) (guards : List (Addr × ℕ))
    (deep : Each (λ (g : Addr × ℕ). g.0.depth < length base.activations) guards)
    (spaced : AllSpaced guards targets) (protects : ℕ → ℕ → Bool)
    (exact : (m : ℕ) (t : Target) → slice_get targets m ≡ Some t → t.unique ≡ true →
    Each (λ (g : Addr × ℕ). t.address ≡ g.0 → protects number t.local ≡ true) guards) where
  abbrev items : ItemTable
  items = setting.items

  abbrev local_ty : ℕ → Option TyId
  local_ty key = setting.local_ty number key

  abbrev R : State → List (ℕ × Presence) → Facts → Type 0
  R = Runs setting number targets uniques base is_target

  abbrev C : List ℕ → State → Type 0
  C = Counted setting number targets uniques base is_target passed size sized dropping guards deep

  abbrev takes : Facts → Operand → Bool
  takes = takes_well items local_ty is_target

  abbrev after : Operand → Facts → Facts
  after = after_operand items local_ty is_target

  abbrev Named : ℕ → Cells → Place → Datum → Type 0
  Named = NamesAt setting number targets uniques base is_target passed

  address_whole : (depth : ℕ) (held : Cells) (place : Place) (d : Datum) → Named depth held place d → is_whole d ≡ true
  address_whole depth held place d (own_names o e) = ap is_whole e
  address_whole depth held place d (behind_names n t at same steps is e) = ap is_whole e

  module _ (w : State) (cells : List (ℕ × Presence)) (facts : Facts) (runs : R w cells facts) where
    -- ---- one argument

    -- its value is there
    pub record Arg (operand : Operand) (flying : List ℕ) (d : Datum) (v : State) : Type 0 where
      pub cells_after : List (ℕ × Presence)
      pub used_so : (t : List Bool) → operand_used items local_ty operand (feeding t cells)
          ≡ Go (feeding t cells_after)
      pub moves : Moves setting number targets uniques base is_target passed (moves_one operand) runs.known.held
          runs.known.older cells v cells_after
      pub runs_after : R v cells_after (after operand facts)
      pub counted : C (serials d ++ flying) v
      pub still_gone : (key : ℕ) (steps : List Step) →
          itself_gone (presence_along steps (presence key cells)) ≡ true →
          itself_gone (presence_along steps (presence key cells_after)) ≡ true

    pub data ArgOut (operand : Operand) (flying : List ℕ) (holds : Datum → Type 0) : Type 0 where
      arg_refused : (site : EffectSite) → ((t : List Bool) → operand_used items local_ty operand (feeding t cells)
          ≡ Halts (BadUse site) (feeding t cells)) → ArgOut operand flying holds
      arg_there : (d : Datum) (v : State) → evaluate_operand setting operand w ≡ Some (d, v) →
          Arg operand flying d v → holds d → ArgOut operand flying holds

    pub arg_as : (operand : Operand) (flying : List ℕ) (one other : Datum → Type 0) → ((d : Datum) → one d → other d) →
        ArgOut operand flying one → ArgOut operand flying other
    arg_as operand flying one other f (arg_refused site e) = arg_refused site e
    arg_as operand flying one other f (arg_there d v e k h) = arg_there d v e k (f d h)

    abbrev Value : Operand → Datum → Type 0
    Value = ValueOf setting number targets uniques base is_target passed

    taken_out : (operand : Operand) (flying : List ℕ) → takes facts operand ≡ true → C flying w → (d : Datum)
        (v : State) → evaluate_operand setting operand w ≡ Some (d, v) →
        Fine (operand_used items local_ty operand (feeding [] cells)) → ArgOut operand flying (Value operand)
    taken_out operand flying h c d v e f =
        let k = takes_one setting number targets uniques base is_target passed size sized dropping guards deep w cells
        facts runs operand h [] f flying c d v e in
        arg_there d v e (record {
          cells_after = k.cells_after;
          used_so = k.used_so;
          moves = k.moves;
          runs_after = k.runs_after;
          counted = k.counted;
          still_gone = k.still_gone;
        }) k.value

    pub value_out : (operand : Operand) (flying : List ℕ) → takes facts operand ≡ true → C flying w →
        ArgOut operand flying (Value operand)
    value_out (effects.Number value kind) flying h c =
        taken_out (effects.Number value kind) flying h c (Number value) w refl tt
    value_out (effects.Truth value) flying h c = taken_out (effects.Truth value) flying h c (Truth value) w refl tt
    value_out effects.UnitValue flying h c = taken_out effects.UnitValue flying h c UnitValue w refl tt
    value_out (effects.Copied site) flying h c =
        by (may_use (watched_at items local_ty site) (presence site.place.local cells)) refl
      where
        by : (b : Bool) → may_use (watched_at items local_ty site) (presence site.place.local cells) ≡ b →
            ArgOut (effects.Copied site) flying (Value (effects.Copied site))
        by false m = arg_refused site (λ t. ap (λ b. when b (BadUse site)
            (unless_never items local_ty (free.never_at items local_ty site)) (feeding t cells)) m)
        by true m =
            let s = first (sure_place items local_ty is_target facts site.place) _ h in
            let is_val = first (is_value items local_ty is_target site.place) _
            (second (sure_place items local_ty is_target facts site.place) _ h) in
            let u = used setting number targets uniques base is_target passed w cells facts runs site.place s site.node m
            in
            let fit = as_its_type setting number targets uniques base is_target passed u.at.end u.at.standing u.at.as_end
            (taking.sized setting number targets uniques base is_target passed w cells facts runs site.place u.at.end
            u.at.end_is is_val) u.fits in
            let never = never_false setting number targets uniques base is_target passed w cells facts runs site u.at.end
            u.at.standing.value u.at.end_is fit in
            taken_out (effects.Copied site) flying h c u.at.standing.value w
            (ap (λ o. option_map_or (λ (x : Located). Some (x.value, w)) o None) u.is_used)
            (subst Fine (sym (ap (λ b. when b (BadUse site)
            (unless_never items local_ty (free.never_at items local_ty site)) (feeding [] cells)) m
            ∙ ap (λ b. unless_never items local_ty b (feeding [] cells)) never)) tt)
    value_out (effects.Moved site) flying h c =
        by (may_use (watched_at items local_ty site) (presence site.place.local cells)) refl
      where
        by : (b : Bool) → may_use (watched_at items local_ty site) (presence site.place.local cells) ≡ b →
            ArgOut (effects.Moved site) flying (Value (effects.Moved site))
        by false m = arg_refused site (λ t. ap (λ b. when b (BadUse site)
            (λ x. Go (free.after items local_ty true site x)) (feeding t cells)) m)
        by true m =
            let s = first (sure_place items local_ty is_target facts site.place) _ h in
            let u = used setting number targets uniques base is_target passed w cells facts runs site.place s site.node m
            in
            taken_out (effects.Moved site) flying h c u.at.standing.value (stored_at u.at.standing.address Gone w)
            (ap (λ o. option_map_or (λ (x : Located). Some (x.value, stored_at x.address Gone w)) o None) u.is_used)
            (subst Fine (sym (ap (λ b. when b (BadUse site) (λ x. Go (free.after items local_ty true site x))
            (feeding [] cells)) m)) tt)

    -- a local that holds a reference is moved
    pub reference_out : (node local : ℕ) → is_target local ≡ false → (id : TyId) → local_ty local ≡ Some id →
        (n : Naming) → naming_of items local_ty is_target local facts ≡ Some n → (flying : List ℕ) → C flying w →
        ArgOut (effects.Moved (record { node = node; place = whole_local local })) flying
        (Named (length runs.known.older) runs.known.held n.place)
    reference_out node local own id typed n naming flying c =
        by (may_use (watched_at items local_ty site) (presence local cells)) refl
      where
        site : EffectSite
        site = record { node = node; place = whole_local local }

        at_local : Addr
        at_local = record { depth = length runs.known.older; key = (record { 0 = local }); path = [] }

        names_there : Named (length runs.known.older) runs.known.held n.place (cell local runs.known.held)
        names_there =
            let f = found_naming setting number targets uniques base is_target passed (NamingHolds setting number targets
            uniques base is_target (length runs.known.older) runs.known.held) local facts.naming n naming
            runs.holding.naming in
            names_at setting number targets uniques base is_target passed (length runs.known.older) runs.known.held n
            (cell local runs.known.held) (ap (λ k. cell k runs.known.held) f.0) f.1

        root : Located
        root = record {
          address = record { depth = length runs.known.older; key = (record { 0 = local }); path = [] };
          dynamic = OfType id;
          value = cell local runs.known.held;
        }

        evaluated : evaluate_operand setting (effects.Moved (record { node = node; place = whole_local local })) w
            ≡ Some (
              cell local runs.known.held,
              stored_at (record { depth = length runs.known.older; key = (record { 0 = local }); path = [] }) Gone w,
            )
        evaluated =
            ap (λ o. option_map_or (λ (s : Located). Some (s.value, stored_at s.address Gone w)) o None)
            (ap (λ r. on_reached r (whole setting) None None)
            (from_root setting number targets uniques base is_target passed w cells facts runs (whole_local local) id
            typed)
            ∙ ap (λ b. values.if_so b (record {
              address = record { depth = length runs.known.older; key = (record { 0 = local }); path = [] };
              dynamic = OfType id;
              value = cell local runs.known.held;
            })) (address_whole (length runs.known.older) runs.known.held n.place (cell local runs.known.held)
            names_there))

        by : (b : Bool) → may_use (watched_at items local_ty (record { node = node; place = whole_local local }))
            (presence local cells) ≡ b → ArgOut (effects.Moved (record { node = node; place = whole_local local })) flying
            (Named (length runs.known.older) runs.known.held n.place)
        by false m = arg_refused (record { node = node; place = whole_local local }) (λ t. ap (λ b. when b
            (BadUse (record { node = node; place = whole_local local }))
            (λ x. Go (free.after items local_ty true (record { node = node; place = whole_local local }) x))
            (feeding t cells)) m)
        by true m = arg_there (cell local runs.known.held)
            (stored_at (record { depth = length runs.known.older; key = (record { 0 = local }); path = [] }) Gone w)
            evaluated (record {
              cells_after = with_presence local (acted true (watched_at items local_ty
                  (record { node = node; place = whole_local local }))) cells;
              used_so = λ t. ap (λ b. when b (BadUse (record { node = node; place = whole_local local }))
                  (λ x. Go (free.after items local_ty true (record { node = node; place = whole_local local }) x))
                  (feeding t cells)) m;
              moves = own_moves setting number targets uniques base is_target passed w cells facts runs local []
                  (acted true (watched_at items local_ty (record { node = node; place = whole_local local })));
              runs_after = own_changed setting number targets uniques base is_target passed w cells facts runs
                  (whole_local local) own id typed Gone
                  (acted true (watched_at items local_ty (record { node = node; place = whole_local local }))) refl tt;
              counted = record {
                flow = flights.taken size setting sized flying dropping w (record {
                  address = record { depth = length runs.known.older; key = (record { 0 = local }); path = [] };
                  dynamic = OfType id;
                  value = cell local runs.known.held;
                }) (reached_stands setting w (whole_local local) (record {
                  address = record { depth = length runs.known.older; key = (record { 0 = local }); path = [] };
                  dynamic = OfType id;
                  value = cell local runs.known.held;
                }) (from_root setting number targets uniques base is_target passed w cells facts runs (whole_local local) id
                    typed)) c.flow;
                heads = heads_kept setting guards w
                    (record { depth = length runs.known.older; key = (record { 0 = local }); path = [] }) Gone
                    (own_spared setting number targets uniques base is_target passed size sized dropping guards deep w cells
                    facts runs (record { depth = length runs.known.older; key = (record { 0 = local }); path = [] }) refl)
                    c.heads;
              };
              still_gone = λ key steps g. gone_in_cells items cells key local steps []
                  (acted true (watched_at items local_ty (record { node = node; place = whole_local local }))) refl g;
            }) names_there
