-- What comes after operands, and a store of what was made of them, with the account of numbers.
use Rattle.std.proofs.Common.{◌≡◌, ◌⊎◌, inl, inr, ℕ, ◌<◌, ◌&&◌, ◌||◌, not, Bool, true, false, List, [], ◌∷◌, ◌++◌, length, Option, Some, None, refl, ap, ◌∙◌, subst, arith}
use Rattle.std.specs.Prelude.{option_and_then}
use Rattle.std.specs.Option.{option_map_or}
use Rattle.std.proofs.lemmas.Bool.{false≢true}
use Rattle.mir_base.specs.declared.trace.Event.{Event}
use Rattle.mir_base.specs.Once.{serial_made, serial_ended, times}
use Rattle.mir_ty.specs.declared.ty.TyId.{TyId}
use Rattle.mir_ty.specs.ItemTable.{ItemTable}
use Rattle.store_model.specs.declared.address.Addr.{Addr}
use Rattle.store_model.specs.Values.Datum.{Datum, data_from}
use Rattle.store_model.specs.Values.Wholeness.{serials, serials_of_all}
use Rattle.store_model.specs.Effects.{EffectSite, Operand, Stuck, Unreachable, Out, Go, Unwind, Halts, on_go, halting_if}
use Rattle.store_model.specs.Abstract.Effects as free
use Rattle.store_model.specs.Abstract.Effects.{AbstractState, presence, operand_used, operands_used}
use Rattle.store_model.specs.Abstract.Presence.{Presence, itself_gone, presence_along}
use Rattle.store_model.specs.Places.Place.{Step}
use Rattle.store_model.specs.Concrete.Effects.{or_stuck, evaluate_operand, evaluate_operands, with_operand, put, tell_after}
use Rattle.store_model.specs.Concrete.Location.{Setting}
use Rattle.store_model.specs.Concrete.State.{State, with_event}
use Rattle.soundness_values.proofs.Actions.{stores_well}
use Rattle.soundness_values.proofs.Checks.{needs, may_move, may_store, takes_well, take_well, after_operand, after_operands, is_of}
use Rattle.soundness_values.proofs.ClaimParts.{some_is}
use Rattle.soundness_values.proofs.CountedStores.{AllSpaced, puts_counted, puts_told}
use Rattle.soundness_values.proofs.Counts.{times_append}
use Rattle.soundness_values.proofs.CountedTakes.{Fine, Counted, Took, takes_one}
use Rattle.soundness_values.proofs.Dropped.{feeding}
use Rattle.soundness_values.proofs.Facts.{Facts, Each}
use Rattle.soundness_values.proofs.Forgotten.{InFlight}
use Rattle.soundness_values.proofs.Guards.{HeadsStand, heads_alike}
use Rattle.soundness_values.proofs.Known.{Target}
use Rattle.soundness_values.proofs.NumbersHeld.{serials_of_args}
use Rattle.soundness_values.proofs.Running.{Passed, Runs}
use Rattle.soundness_values.proofs.Standings.{alike_itself}
use Rattle.soundness_values.proofs.Taking.{first, second}
use Rattle.soundness_values.proofs.Tally.{tells, flying_alike}

-- ---- runs that go on

abbrev pub IsGo : {W : Type 0} → Out W → Type 0
IsGo (Go w) = Unit {0}
IsGo (Unwind w) = ⊥
IsGo (Halts halt w) = ⊥

pub go_fine : (o : Out AbstractState) → IsGo o → Fine o
go_fine (Go w) g = tt
go_fine (Unwind w) g = tt
go_fine (Halts halt w) g = absurd g

pub fine_first : (o : Out AbstractState) (more : AbstractState → Out AbstractState) → Fine (on_go o more) → Fine o
fine_first (Go w) more f = tt
fine_first (Unwind w) more f = tt
fine_first (Halts halt w) more f = absurd f

pub go_past : (b : Bool) (o : Out AbstractState) → IsGo (halting_if b Unreachable o) → IsGo o
go_past true (Go w) g = absurd g
go_past true (Unwind w) g = absurd g
go_past true (Halts halt w) g = absurd g
go_past false (Go w) g = tt
go_past false (Unwind w) g = absurd g
go_past false (Halts halt w) g = absurd g

pub went_past : (b : Bool) (o : Out State) (u : State) → halting_if b Stuck o ≡ Go u → o ≡ Go u
went_past true (Go w) u e = absurd (let never : ⊥ = cc in never)
went_past true (Unwind w) u e = e
went_past true (Halts halt w) u e = e
went_past false o u e = by o e
  where
    by : (o : Out State) → halting_if false Stuck o ≡ Go u → o ≡ Go u
    by (Go w) e = e
    by (Unwind w) e = e
    by (Halts halt w) e = e

pub empty_parts : (a b c : Bool) → (not a || (b && c)) ≡ true → (a ≡ false) ⊎ ((b ≡ true) × (c ≡ true))
empty_parts false b c h = inl refl
empty_parts true true c h = inr (refl, h)
empty_parts true false c h = absurd (false≢true h)

-- what is made of values has their numbers
pub serials_from : (ds : List Datum) → serials_of_all (data_from ds) ≡ serials_of_args ds
serials_from [] = refl
serials_from (d ∷ ds) = ap (λ l. serials d ++ l) (serials_from ds)

module _ (setting : Setting) (number : ℕ) (targets : List Target) (uniques : List Addr) (base : State)
    (is_target : ℕ → Bool) (passed : Passed setting number targets uniques base is_target) (size : ℕ → ℕ)
    (sized : (body key : ℕ) (id : TyId) → setting.local_ty body key ≡ Some id → key < size body)
    (loose : setting.strict ≡ false) (dropping : List ℕ) (guards : List (Addr × ℕ))
    (deep : Each (λ (g : Addr × ℕ). g.0.depth < length base.activations) guards)
    (spaced : AllSpaced guards targets) where
  abbrev items : ItemTable
  items = setting.items

  abbrev local_ty : ℕ → Option TyId
  local_ty key = setting.local_ty number key

  abbrev R : State → List (ℕ × Presence) → Facts → Type 0
  R = Runs setting number targets uniques base is_target

  abbrev C : List ℕ → State → Type 0
  C = Counted setting number targets uniques base is_target passed size sized dropping guards deep

  abbrev takes : Facts → Operand → Bool
  takes = takes_well items local_ty is_target

  abbrev after : Operand → Facts → Facts
  after = after_operand items local_ty is_target

  -- an event that tells of no number
  pub told : (flying : List ℕ) (event : Event) (w : State) → serial_made event ≡ [] → serial_ended event ≡ [] →
      C flying w → C flying (with_event event w)
  told flying event w m n c = record {
    flow = tells size flying dropping w event m n c.flow;
    heads = heads_alike setting guards w (with_event event w) (alike_itself w.activations) c.heads;
  }

  module _ (w : State) (cells : List (ℕ × Presence)) (facts : Facts) (runs : R w cells facts) where
    abbrev T : Operand → List Bool → List ℕ → Datum → State → Type 0
    T = Took setting number targets uniques base is_target passed size sized dropping guards deep w cells facts runs

    -- what comes after an operand
    pub one_then : {P : Type 0} (operand : Operand) (flying : List ℕ) (t : List Bool)
        (next : Datum → State → Out State) (u : State) → takes facts operand ≡ true →
        Fine (operand_used items local_ty operand (feeding t cells)) → C flying w →
        with_operand setting operand w next ≡ Go u →
        ((d : Datum) (v : State) → T operand t flying d v → next d v ≡ Go u → P) → P
    one_then {P = P} operand flying t next u h f c e then_so = by (evaluate_operand setting operand w) refl e
      where
        by : (o : Option (Datum × State)) → evaluate_operand setting operand w ≡ o →
            or_stuck o (λ (x : Datum × State). next x.0 x.1) w ≡ Go u → P
        by None is k = absurd (let never : ⊥ = cc in never)
        by (Some x) is k = then_so x.0 x.1
            (takes_one setting number targets uniques base is_target passed size sized dropping guards deep w cells facts
            runs operand h t f flying c x.0 x.1 is) k

    -- ---- a store of what was made

    abbrev StillGone : List (ℕ × Presence) → Type 0
    StillGone cells' = (local : ℕ) (steps : List Step) →
        itself_gone (presence_along steps (presence local cells)) ≡ true →
        itself_gone (presence_along steps (presence local cells')) ≡ true

    module _ (facts' : Facts) (to : EffectSite) (h : may_store items local_ty is_target facts' cells to.place ≡ true)
        (v : State) (cells' : List (ℕ × Presence)) (r : R v cells' facts') (still : StillGone cells') (t : List Bool)
        (g : IsGo (free.store items local_ty to (feeding t cells'))) where
      empty : (needs items local_ty is_target to.place ≡ false) ⊎ ((may_move items local_ty is_target to.place ≡ true)
          × (itself_gone (presence_along to.place.steps (presence to.place.local cells')) ≡ true))
      empty = by (empty_parts (needs items local_ty is_target to.place) (may_move items local_ty is_target to.place)
          (itself_gone (presence_along to.place.steps (presence to.place.local cells)))
          (stores_well setting number targets uniques base is_target passed facts' cells to.place h).empty)
        where
          by : (needs items local_ty is_target to.place ≡ false)
              ⊎ ((may_move items local_ty is_target to.place ≡ true)
              × (itself_gone (presence_along to.place.steps (presence to.place.local cells)) ≡ true)) →
              (needs items local_ty is_target to.place ≡ false)
              ⊎ ((may_move items local_ty is_target to.place ≡ true)
              × (itself_gone (presence_along to.place.steps (presence to.place.local cells')) ≡ true))
          by (inl x) = inl x
          by (inr x) = inr (x.0, still to.place.local to.place.steps x.1)

      pub lands_at : (d : Datum) (flying : List ℕ) → C (serials d ++ flying) v → (u : State) →
          put setting to d v ≡ Go u → C flying u
      lands_at d flying c u e =
          let st = stores_well setting number targets uniques base is_target passed facts' cells to.place h in
          puts_counted setting number targets uniques base is_target passed size sized loose dropping guards deep spaced v
          cells' facts' r to st.sure st.changes empty d flying t (go_fine _ g) c u e

      pub told_at : (event : Event) (d : Datum) (flying : List ℕ) → HeadsStand setting guards v →
          InFlight size (serials d ++ flying) dropping (with_event event v) → (u : State) →
          tell_after setting event (put setting to d v) ≡ Go u → C flying u
      told_at event d flying heads flow u e = by (put setting to d v) refl e
        where
          go_same : {a b : State} → Go a ≡ Go b → a ≡ b
          go_same x = cc

          by : (o : Out State) → put setting to d v ≡ o → tell_after setting event o ≡ Go u → C flying u
          by (Go y) is k =
              let st = stores_well setting number targets uniques base is_target passed facts' cells to.place h in
              subst (C flying) (go_same k)
              (puts_told setting number targets uniques base is_target passed size sized loose dropping guards deep spaced
              v cells' facts' r to st.sure st.changes empty event d flying t (go_fine _ g) heads flow y is)
          by (Unwind y) is k = absurd (let never : ⊥ = cc in never)
          by (Halts halt y) is k = absurd (let never : ⊥ = cc in never)

    pub go_next : (operand : Operand) (more : AbstractState → Out AbstractState) (t : List Bool)
        (cells' : List (ℕ × Presence)) → operand_used items local_ty operand (feeding t cells) ≡ Go (feeding t cells') →
        IsGo (on_go (operand_used items local_ty operand (feeding t cells)) more) → IsGo (more (feeding t cells'))
    go_next operand more t cells' e g = subst (λ o. IsGo (on_go o more)) e g

  -- ---- operands, one after the other

  pub record TookAll (w : State) (cells : List (ℕ × Presence)) (facts : Facts) (operands : List Operand) (t : List Bool)
      (flying : List ℕ) (ds : List Datum) (v : State) : Type 0 where
    pub cells_after : List (ℕ × Presence)
    pub used_so : (more : AbstractState → Out AbstractState) →
        operands_used items local_ty operands more (feeding t cells) ≡ more (feeding t cells_after)
    pub runs_after : R v cells_after (after_operands items local_ty is_target operands facts)
    pub counted : C (serials_of_args ds ++ flying) v
    pub still_gone : (local : ℕ) (steps : List Step) →
        itself_gone (presence_along steps (presence local cells)) ≡ true →
        itself_gone (presence_along steps (presence local cells_after)) ≡ true

  -- `++` groups to the left
  regrouped : (k : ℕ) (one other flying : List ℕ) →
      times k (other ++ (one ++ flying)) ≡ times k ((one ++ other) ++ flying)
  regrouped k one other flying =
      let left = times_append k (one ++ other) flying in
      let both = times_append k one other in
      let right = times_append k other (one ++ flying) in
      let rest = times_append k one flying in
      omega arith

  abbrev AllTook : List Operand → List TyId → Type 0
  AllTook operands tys = (w : State) (cells : List (ℕ × Presence)) (facts : Facts) (runs : R w cells facts) →
      take_well items local_ty is_target facts tys operands ≡ true → (t : List Bool)
      (more : AbstractState → Out AbstractState) →
      Fine (operands_used items local_ty operands more (feeding t cells)) → (flying : List ℕ) → C flying w →
      (ds : List Datum) (v : State) → evaluate_operands setting operands w ≡ Some (ds, v) →
      TookAll w cells facts operands t flying ds v

  pub takes_all : (operands : List Operand) (tys : List TyId) → AllTook operands tys
  takes_all [] [] w cells facts runs h t more f flying c ds v e =
      subst (λ (x : List Datum × State). TookAll w cells facts [] t flying x.0 x.1) (some_is e) (record {
        cells_after = cells;
        used_so = λ next. refl;
        runs_after = runs;
        counted = c;
        still_gone = λ local steps g. g;
      })
  takes_all [] (ty ∷ tys) w cells facts runs h t more f flying c ds v e = absurd (false≢true h)
  takes_all (operand ∷ operands) [] w cells facts runs h t more f flying c ds v e = absurd (false≢true h)
  takes_all (operand ∷ operands) (ty ∷ tys) w cells facts runs h t more f flying c ds v e =
      of_first (takes_all operands tys) (evaluate_operand setting operand w) refl e
    where
      both : (takes facts operand && is_of items local_ty is_target operand ty) ≡ true
      both = first (takes facts operand && is_of items local_ty is_target operand ty) _ h

      of_rest : AllTook operands tys → (d : Datum) (x : State) → evaluate_operand setting operand w ≡ Some (d, x) →
          (o : Option (List Datum × State)) → evaluate_operands setting operands x ≡ o →
          option_map_or {U = Option (List Datum × State)} (λ (rest : List Datum × State). Some (d ∷ rest.0, rest.1)) o None
          ≡ Some (ds, v) →
          TookAll w cells facts (operand ∷ operands) t flying ds v
      of_rest again d x is None rest k = absurd (let never : ⊥ = cc in never)
      of_rest again d x is (Some y) rest k =
          let one = takes_one setting number targets uniques base is_target passed size sized dropping guards deep w cells
          facts runs operand (first (takes facts operand) _ both) t (fine_first _ _ f) flying c d x is in
          let later = again x one.cells_after (after operand facts) one.runs_after
          (second (takes facts operand && is_of items local_ty is_target operand ty) _ h) t more
          (subst (λ o. Fine (on_go o (operands_used items local_ty operands more))) (one.used_so t) f)
          (serials d ++ flying) one.counted y.0 y.1 rest in
          subst (λ (z : List Datum × State). TookAll w cells facts (operand ∷ operands) t flying z.0 z.1) (some_is k)
          (record {
            cells_after = later.cells_after;
            used_so = λ next. ap (λ o. on_go o (operands_used items local_ty operands next)) (one.used_so t)
                ∙ later.used_so next;
            runs_after = later.runs_after;
            counted = record {
              flow = flying_alike size (serials_of_args y.0 ++ (serials d ++ flying))
                  ((serials d ++ serials_of_args y.0) ++ flying) dropping y.1
                  (λ n. regrouped n (serials d) (serials_of_args y.0) flying) later.counted.flow;
              heads = later.counted.heads;
            };
            still_gone = λ local steps g. later.still_gone local steps (one.still_gone local steps g);
          })

      of_first : AllTook operands tys → (o : Option (Datum × State)) → evaluate_operand setting operand w ≡ o →
          option_and_then (λ (one : Datum × State). option_map_or {U = Option (List Datum × State)}
          (λ (rest : List Datum × State). Some (one.0 ∷ rest.0, rest.1)) (evaluate_operands setting operands one.1) None) o
          ≡ Some (ds, v) →
          TookAll w cells facts (operand ∷ operands) t flying ds v
      of_first again None is k = absurd (let never : ⊥ = cc in never)
      of_first again (Some x) is k = of_rest again x.0 x.1 is (evaluate_operands setting operands x.1) refl k
