-- Operands and the account of numbers: the numbers of what is moved are in flight then, and what is copied has none. A
-- store where nothing with a number stands lands them.
use Rattle.std.proofs.Common.{◌≡◌, ℕ, ◌<◌, ◌&&◌, not, Bool, true, false, List, [], ◌∷◌, ◌++◌, length, Option, Some, None, refl, ap, sym, ◌∙◌, subst, arith}
use Rattle.std.specs.Option.{option_map_or}
use Rattle.std.proofs.lemmas.Bool.{false≢true}
use Rattle.mir_base.specs.Once.{ended_in}
use Rattle.mir_ty.specs.declared.ty.TyId.{TyId}
use Rattle.mir_ty.specs.Facts.{needs_drop}
use Rattle.mir_ty.specs.ItemTable.{ItemTable}
use Rattle.store_model.specs.declared.address.Addr.{Addr}
use Rattle.store_model.specs.Values.Datum.{Datum, Gone}
use Rattle.store_model.specs.Values.Wholeness.{serials}
use Rattle.store_model.specs.Effects as effects
use Rattle.store_model.specs.Effects.{EffectSite, Operand, Halt, Out, Go, Unwind, Halts}
use Rattle.store_model.specs.Abstract.Effects as free
use Rattle.store_model.specs.Abstract.Effects.{AbstractState, presence, with_presence, may_use, may_store, when, watched_at, acted, unless_never, operand_used}
use Rattle.store_model.specs.Abstract.Presence.{Presence, is_present, itself_gone, presence_along}
use Rattle.store_model.specs.Places.Place.{Step, Place, place_ty}
use Rattle.store_model.specs.Concrete.Effects.{whole_at, evaluate_operand, forgotten, type_of_operand}
use Rattle.store_model.specs.Concrete.Location.{Setting, OfType, Located, stored_at}
use Rattle.store_model.specs.Concrete.State.{State}
use Rattle.store_model.specs.Effects.{Stuck}
use Rattle.soundness_values.specs.Frames.{other_depth, written}
use Rattle.soundness_values.proofs.Checks.{needs, is_value, takes_well, after_operand}
use Rattle.soundness_values.proofs.ClaimParts.{some_is}
use Rattle.soundness_values.proofs.Dropped.{feeding}
use Rattle.soundness_values.proofs.Facts.{Facts, Each, each_more, without}
use Rattle.soundness_values.proofs.Fits.{Fits}
use Rattle.soundness_values.proofs.Forgotten as flights
use Rattle.soundness_values.proofs.Forgotten.{InFlight}
use Rattle.soundness_values.proofs.Guards.{Spares, spares_apart, HeadsStand, heads_kept}
use Rattle.soundness_values.proofs.Known.{Target, Known}
use Rattle.soundness_values.proofs.MovedAway.{moved_away}
use Rattle.soundness_values.proofs.Passing.{moves_one, Moves, stays_so}
use Rattle.soundness_values.proofs.Quiet.{quiet, no_numbers}
use Rattle.soundness_values.proofs.Reached.{reached_stands}
use Rattle.soundness_values.proofs.Reaching.{stands, used, own_watched}
use Rattle.soundness_values.proofs.Running.{sure_place, Passed, Runs, Lies, in_local, behind}
use Rattle.soundness_values.proofs.Standings.{alike_length, changed_length}
use Rattle.soundness_values.proofs.StillEmpty.{gone_in_cells}
use Rattle.soundness_values.proofs.Taking.{first, second, not_so, ValueOf, of_copied, of_moved, of_number, of_truth, of_unit, as_its_type, never_false}
use Rattle.soundness_values.proofs.Taking as taking
use Rattle.soundness_values.proofs.Watching.{acted_whole}
use Rattle.soundness_values.proofs.Ways.{has_index}

-- a free run that is not ended here
abbrev pub Fine : Out AbstractState → Type 0
Fine (Halts halt w) = ⊥
Fine o = Unit {0}

pub fine_when : (b : Bool) (halt : Halt) (next : AbstractState → Out AbstractState) (w : AbstractState) →
    Fine (when b halt next w) → b ≡ true
fine_when true halt next w f = refl
fine_when false halt next w f = absurd f

-- as many activations run after stores
written_length : (addresses : List Addr) (values : List Datum) (w : State) →
    length (written addresses values w).activations ≡ length w.activations
written_length [] values w = refl
written_length (a ∷ addresses) [] w = refl
written_length (a ∷ addresses) (d ∷ values) w =
    changed_length a.depth a.key.0 _ (written addresses values w).activations ∙ written_length addresses values w

pub known_older : (setting : Setting) (number : ℕ) (targets : List Target) (uniques : List Addr) (base w : State)
    (cells : List (ℕ × Presence)) (k : Known setting number targets uniques base w cells) →
    length k.older ≡ length base.activations
known_older setting number targets uniques base w cells k =
    alike_length k.frame ∙ written_length uniques k.values base

module _ (setting : Setting) (number : ℕ) (targets : List Target) (uniques : List Addr) (base : State)
    (is_target : ℕ → Bool) (passed : Passed setting number targets uniques base is_target) where
  abbrev items : ItemTable
  items = setting.items

  abbrev local_ty : ℕ → Option TyId
  local_ty key = setting.local_ty number key

  abbrev R : State → List (ℕ × Presence) → Facts → Type 0
  R = Runs setting number targets uniques base is_target

  abbrev S : Facts → Place → Bool
  S = sure_place items local_ty is_target

  abbrev L : (w : State) (cells : List (ℕ × Presence)) (facts : Facts) → R w cells facts → Place → Type 0
  L = Lies setting number targets uniques base is_target passed

  abbrev Value : Operand → Datum → Type 0
  Value = ValueOf setting number targets uniques base is_target passed

  -- the older activations are as many as when the body was called
  pub as_many_older : (w : State) (cells : List (ℕ × Presence)) (facts : Facts) (runs : R w cells facts) →
      length runs.known.older ≡ length base.activations
  as_many_older w cells facts runs = known_older setting number targets uniques base w cells runs.known

  module _ (w : State) (cells : List (ℕ × Presence)) (facts : Facts) (runs : R w cells facts) (place : Place) where
    -- a place of a local lies in the youngest activation
    pub own_depth : (l : L w cells facts runs place) → is_target place.local ≡ false →
        (stands setting number targets uniques base is_target passed w cells facts runs place l).standing.address.depth
        ≡ length runs.known.older
    unfolding stands
    own_depth (in_local id typed none own sure lead) e = refl
    own_depth (behind n t at same steps is sure lead) e =
        absurd (false≢true (sym e ∙ subst (λ l. is_target l ≡ true) same (passed.is_param n t at)))

  module _ (size : ℕ → ℕ) (sized : (body key : ℕ) (id : TyId) → setting.local_ty body key ≡ Some id → key < size body)
      (dropping : List ℕ) (guards : List (Addr × ℕ))
      (deep : Each (λ (g : Addr × ℕ). g.0.depth < length base.activations) guards) where
    -- what is counted, with some numbers in flight
    pub record Counted (flying : List ℕ) (w : State) : Type 0 where
      pub flow : InFlight size flying dropping w
      pub heads : HeadsStand setting guards w

    pub own_spared : (w : State) (cells : List (ℕ × Presence)) (facts : Facts) (runs : R w cells facts) (a : Addr) →
        a.depth ≡ length runs.known.older → Each (λ (g : Addr × ℕ). Spares g.0 a) guards
    own_spared w cells facts runs a e = each_more (λ (g : Addr × ℕ). g.0.depth < length base.activations)
        (λ (g : Addr × ℕ). Spares g.0 a) guards
        (λ g l. spares_apart (other_depth g.0 a (λ same.
        let all = as_many_older w cells facts runs in
        let never : ⊥ = omega arith in never))) deep

    -- ---- operands

    module _ (w : State) (cells : List (ℕ × Presence)) (facts : Facts) (runs : R w cells facts) where
      pub record Took (operand : Operand) (t : List Bool) (flying : List ℕ) (d : Datum) (v : State) : Type 0 where
        pub cells_after : List (ℕ × Presence)
        pub used_so : (t : List Bool) → operand_used items local_ty operand (feeding t cells)
            ≡ Go (feeding t cells_after)
        pub moves : Moves setting number targets uniques base is_target passed (moves_one operand) runs.known.held
            runs.known.older cells v cells_after
        pub runs_after : R v cells_after (after_operand items local_ty is_target operand facts)
        pub value : Value operand d
        pub counted : Counted (serials d ++ flying) v
        pub forgets_so : ended_in (option_map_or (forgotten items d) (type_of_operand setting w operand) [])
            ≡ serials d
        pub still_gone : (local : ℕ) (steps : List Step) →
            itself_gone (presence_along steps (presence local cells)) ≡ true →
            itself_gone (presence_along steps (presence local cells_after)) ≡ true

      not_needed : (place : Place) (end : TyId) → place_ty items local_ty place ≡ Some end →
          needs items local_ty is_target place ≡ false → needs_drop items end ≡ false
      not_needed place end e h = sym (ap (λ o. option_map_or (needs_drop items) o false) e) ∙ h

      forgets_it : (site : EffectSite) (s : Located) → whole_at setting w site ≡ Some s →
          Fits items s.dynamic is_present s.value →
          ended_in (option_map_or (forgotten items s.value)
          (option_map_or (λ (x : Located). Some x.dynamic) (whole_at setting w site) None) []) ≡ serials s.value
      forgets_it site s e fit =
          ap (λ o. ended_in (option_map_or (forgotten items s.value)
          (option_map_or (λ (x : Located). Some x.dynamic) o None) [])) e
          ∙ flights.forgets items s.value s.dynamic is_present fit

      pub takes_one : (operand : Operand) → takes_well items local_ty is_target facts operand ≡ true →
          (t : List Bool) → Fine (operand_used items local_ty operand (feeding t cells)) → (flying : List ℕ) →
          Counted flying w → (d : Datum) (v : State) → evaluate_operand setting operand w ≡ Some (d, v) →
          Took operand t flying d v
      takes_one (effects.Number value kind) h t f flying c d v e =
          subst (λ (x : Datum × State). Took (effects.Number value kind) t flying x.0 x.1) (some_is e) (record {
            cells_after = cells;
            used_so = λ s. refl;
            moves = stays_so setting number targets uniques base is_target passed w cells facts runs (λ key. false);
            runs_after = runs;
            value = of_number value kind h;
            counted = c;
            forgets_so = refl;
            still_gone = λ local steps g. g;
          })
      takes_one (effects.Truth value) h t f flying c d v e =
          subst (λ (x : Datum × State). Took (effects.Truth value) t flying x.0 x.1) (some_is e) (record {
            cells_after = cells;
            used_so = λ s. refl;
            moves = stays_so setting number targets uniques base is_target passed w cells facts runs (λ key. false);
            runs_after = runs;
            value = of_truth value;
            counted = c;
            forgets_so = refl;
            still_gone = λ local steps g. g;
          })
      takes_one effects.UnitValue h t f flying c d v e =
          subst (λ (x : Datum × State). Took effects.UnitValue t flying x.0 x.1) (some_is e) (record {
            cells_after = cells;
            used_so = λ s. refl;
            moves = stays_so setting number targets uniques base is_target passed w cells facts runs (λ key. false);
            runs_after = runs;
            value = of_unit;
            counted = c;
            forgets_so = refl;
            still_gone = λ local steps g. g;
          })
      takes_one (effects.Copied site) h t f flying c d v e =
          let s = first (S facts site.place) _ h in
          let more = second (S facts site.place) _ h in
          let is_val = first (is_value items local_ty is_target site.place) _ more in
          let plain = not_so (needs items local_ty is_target site.place)
          (second (is_value items local_ty is_target site.place) _ more) in
          let may = fine_when (may_use (watched_at items local_ty site) (presence site.place.local cells)) _ _ _ f in
          let u = used setting number targets uniques base is_target passed w cells facts runs site.place s site.node
          may in
          let fit = as_its_type setting number targets uniques base is_target passed u.at.end u.at.standing u.at.as_end
          (taking.sized setting number targets uniques base is_target passed w cells facts runs site.place u.at.end
          u.at.end_is is_val) u.fits in
          let never = never_false setting number targets uniques base is_target passed w cells facts runs site u.at.end
          u.at.standing.value u.at.end_is fit in
          let none : serials u.at.standing.value ≡ [] = no_numbers items u.at.standing.value
          (quiet items u.at.standing.value (OfType u.at.end) u.at.end is_present refl
          (not_needed site.place u.at.end u.at.end_is plain) fit) in
          subst (λ (x : Datum × State). Took (effects.Copied site) t flying x.0 x.1)
          (some_is (sym (ap (λ o. option_map_or (λ (x : Located). Some (x.value, w)) o None) u.is_used) ∙ e)) (record {
            cells_after = cells;
            used_so = λ z. ap (λ b. when b (effects.BadUse site)
                (unless_never items local_ty (free.never_at items local_ty site)) (feeding z cells)) may
                ∙ ap (λ b. unless_never items local_ty b (feeding z cells)) never;
            moves = stays_so setting number targets uniques base is_target passed w cells facts runs (λ key. false);
            runs_after = runs;
            value = of_copied site u.at.end u.at.standing.value u.at.end_is fit;
            counted = subst (λ l. Counted (l ++ flying) w) (sym none) c;
            forgets_so = forgets_it site u.at.standing u.is_used u.fits;
            still_gone = λ local steps g. g;
          })
      takes_one (effects.Moved site) h t f flying c d v e =
          let s = first (S facts site.place) _ h in
          let more = second (S facts site.place) _ h in
          let is_val = first (is_value items local_ty is_target site.place) _ more in
          let moves = second (is_value items local_ty is_target site.place) _ more in
          let alone = first (not (is_target site.place.local) && not (has_index site.place.steps)) _ moves in
          let own = not_so (is_target site.place.local) (first (not (is_target site.place.local)) _ alone) in
          let no_index = not_so (has_index site.place.steps) (second (not (is_target site.place.local)) _ alone) in
          let may = fine_when (may_use (watched_at items local_ty site) (presence site.place.local cells)) _ _ _ f in
          let u = used setting number targets uniques base is_target passed w cells facts runs site.place s site.node
          may in
          let fit = as_its_type setting number targets uniques base is_target passed u.at.end u.at.standing u.at.as_end
          (taking.sized setting number targets uniques base is_target passed w cells facts runs site.place u.at.end
          u.at.end_is is_val) u.fits in
          let there = reached_stands setting w site.place u.at.standing u.at.reached in
          let depth : u.at.standing.address.depth ≡ length runs.known.older =
          subst (λ (x : Located). x.address.depth ≡ length runs.known.older) u.same
          (own_depth w cells facts runs site.place u.lies own) in
          subst (λ (x : Datum × State). Took (effects.Moved site) t flying x.0 x.1)
          (some_is (sym (ap (λ o. option_map_or (λ (x : Located). Some (x.value, stored_at x.address Gone w)) o None)
          u.is_used) ∙ e)) (record {
            cells_after = with_presence site.place.local (acted true (watched_at items local_ty site)) cells;
            used_so = λ z. ap (λ b. when b (effects.BadUse site) (λ x. Go (free.after items local_ty true site x))
                (feeding z cells)) may;
            moves = subst (λ (x : Located). Moves setting number targets uniques base is_target passed
                (moves_one (effects.Moved site)) runs.known.held runs.known.older cells (stored_at x.address Gone w)
                (with_presence site.place.local (acted true (watched_at items local_ty site)) cells)) u.same
                (moved_away setting number targets uniques base is_target passed w cells facts runs site moves u.lies);
            runs_after = subst (λ (x : Located). R (stored_at x.address Gone w)
                (with_presence site.place.local (acted true (watched_at items local_ty site)) cells)
                (without site.place facts)) u.same
                (taking.taken setting number targets uniques base is_target passed w cells facts runs site s moves
                u.lies);
            value = of_moved site u.at.end u.at.standing.value u.at.end_is fit;
            counted = record {
              flow = flights.taken size setting sized flying dropping w u.at.standing there c.flow;
              heads = heads_kept setting guards w u.at.standing.address Gone
                  (own_spared w cells facts runs u.at.standing.address depth) c.heads;
            };
            forgets_so = forgets_it site u.at.standing u.is_used u.fits;
            still_gone = λ local steps g. gone_in_cells items cells local site.place.local steps site.place.steps
                (acted true (watched_at items local_ty site))
                (ap (λ x. acted true x (presence site.place.local cells))
                (own_watched setting number targets uniques base is_target passed w cells facts runs site.place s
                site.node own) ∙ acted_whole true site.place.steps (presence site.place.local cells) no_index) g;
          })
