-- Where a checked operator, a bound or an asked number panics, the account of numbers is kept.
use Rattle.std.proofs.Common.{◌≡◌, ℕ, ℤ, ◌<◌, ◌&&◌, Bool, true, false, List, [], ◌∷◌, ◌++◌, length, Option, Some, None, refl, subst}
use Rattle.std.specs.Prelude.{neg_ℤ}
use Rattle.std.proofs.lemmas.Bool.{false≢true}
use Rattle.mir_base.specs.declared.operator.Math.{Math}
use Rattle.mir_base.specs.declared.int_kind.IntKind.{IntKind}
use Rattle.mir_base.specs.declared.trace.Event.{Event}
use Rattle.mir_base.specs.declared.trace.Why.{Why}
use Rattle.mir_ty.specs.declared.ty.TyId.{TyId}
use Rattle.mir_ty.specs.ItemTable.{ItemTable}
use Rattle.store_model.specs.declared.address.Addr.{Addr}
use Rattle.store_model.specs.Values.Datum.{Datum, Number, Truth, UnitValue}
use Rattle.store_model.specs.Values.Wholeness.{serials}
use Rattle.store_model.specs.Effects as effects
use Rattle.store_model.specs.Effects.{EffectSite, Operand, Action, Stuck, Unreachable, Out, Go, Unwind, Halts, on_go, halting_if}
use Rattle.store_model.specs.Abstract.Effects as free
use Rattle.store_model.specs.Abstract.Effects.{AbstractState, operand_used, operands_used, panics_by_choice}
use Rattle.store_model.specs.Abstract.Presence.{Presence}
use Rattle.store_model.specs.Places.TypeForms.{same_int, int_kind}
use Rattle.store_model.specs.Concrete.Effects as values
use Rattle.store_model.specs.Concrete.Effects.{act, or_stuck, evaluate_operand, with_operand, put, tell_after}
use Rattle.store_model.specs.Concrete.Location.{Setting, Reached, Reaches, CutOff, Nowhere, reach, on_reached, stored_at}
use Rattle.store_model.specs.Concrete.State.{State, Bodies}
use Rattle.soundness_values.proofs.Checks as checks
use Rattle.soundness_values.proofs.Checks.{takes_well, after_operand, acts_well}
use Rattle.soundness_values.proofs.CountedActs.{fine_first, told}
use Rattle.soundness_values.proofs.CountedStores.{AllSpaced}
use Rattle.soundness_values.proofs.CountedTakes.{Fine, Counted, Took, takes_one}
use Rattle.soundness_values.proofs.Dropped.{feeding}
use Rattle.soundness_values.proofs.Facts.{Facts, Each}
use Rattle.soundness_values.proofs.Known.{Target}
use Rattle.soundness_values.proofs.Running.{Passed, Runs}
use Rattle.soundness_values.proofs.Taking.{first, second}

pub fine_past : (b : Bool) (o : Out AbstractState) → Fine (halting_if b Unreachable o) → Fine o
fine_past true (Go w) f = absurd f
fine_past true (Unwind w) f = tt
fine_past true (Halts halt w) f = absurd f
fine_past false (Go w) f = tt
fine_past false (Unwind w) f = tt
fine_past false (Halts halt w) f = absurd f

pub wound_past : (b : Bool) (o : Out State) (u : State) → halting_if b Stuck o ≡ Unwind u → o ≡ Unwind u
wound_past b o u e = by b o e
  where
    by : (b : Bool) (o : Out State) → halting_if b Stuck o ≡ Unwind u → o ≡ Unwind u
    by true (Go w) e = absurd (let never : ⊥ = cc in never)
    by true (Unwind w) e = e
    by true (Halts halt w) e = e
    by false (Go w) e = e
    by false (Unwind w) e = e
    by false (Halts halt w) e = e

module _ (setting : Setting) (number : ℕ) (targets : List Target) (uniques : List Addr) (base : State)
    (is_target : ℕ → Bool) (passed : Passed setting number targets uniques base is_target) (size : ℕ → ℕ)
    (sized : (body key : ℕ) (id : TyId) → setting.local_ty body key ≡ Some id → key < size body)
    (loose : setting.strict ≡ false) (dropping : List ℕ) (guards : List (Addr × ℕ))
    (deep : Each (λ (g : Addr × ℕ). g.0.depth < length base.activations) guards)
    (spaced : AllSpaced guards targets) where
  abbrev items : ItemTable
  items = setting.items

  abbrev local_ty : ℕ → Option TyId
  local_ty key = setting.local_ty number key

  abbrev R : State → List (ℕ × Presence) → Facts → Type 0
  R = Runs setting number targets uniques base is_target

  abbrev C : List ℕ → State → Type 0
  C = Counted setting number targets uniques base is_target passed size sized dropping guards deep

  abbrev takes : Facts → Operand → Bool
  takes = takes_well items local_ty is_target

  abbrev after : Operand → Facts → Facts
  after = after_operand items local_ty is_target

  module _ (w : State) (cells : List (ℕ × Presence)) (facts : Facts) (runs : R w cells facts) where
    abbrev T : Operand → List Bool → List ℕ → Datum → State → Type 0
    T = Took setting number targets uniques base is_target passed size sized dropping guards deep w cells facts runs

    -- what comes after an operand, in a run that panics then
    pub one_winds : {P : Type 0} (operand : Operand) (flying : List ℕ) (t : List Bool)
        (next : Datum → State → Out State) (u : State) → takes facts operand ≡ true →
        Fine (operand_used items local_ty operand (feeding t cells)) → C flying w →
        with_operand setting operand w next ≡ Unwind u →
        ((d : Datum) (v : State) → T operand t flying d v → next d v ≡ Unwind u → P) → P
    one_winds {P = P} operand flying t next u h f c e then_so = by (evaluate_operand setting operand w) refl e
      where
        by : (o : Option (Datum × State)) → evaluate_operand setting operand w ≡ o →
            or_stuck o (λ (x : Datum × State). next x.0 x.1) w ≡ Unwind u → P
        by None is k = absurd (let never : ⊥ = cc in never)
        by (Some x) is k = then_so x.0 x.1
            (takes_one setting number targets uniques base is_target passed size sized dropping guards deep w cells facts
            runs operand h t f flying c x.0 x.1 is) k

  -- a panic is told
  panicked : (why : Why) (v u : State) → Unwind (values.panics setting why v) ≡ Unwind u → C [] v → C [] u
  panicked why v u e c = subst (C []) (wind_same e) (told setting number targets uniques base is_target passed size sized loose dropping guards deep spaced [] (Event.Panicked why) v refl refl c)
    where
      wind_same : {a b : State} → Unwind a ≡ Unwind b → a ≡ b
      wind_same x = cc

  module _ (w : State) (cells : List (ℕ × Presence)) (facts : Facts) (runs : R w cells facts) (run : Bodies)
      (t : List Bool) where
    abbrev pub KeepsWound : Action → Type 0
    KeepsWound action = acts_well items local_ty is_target facts cells action ≡ true →
        Fine (free.act items local_ty action (feeding t cells)) → C [] w → (u : State) →
        act setting run action w ≡ Unwind u → C [] u

    computed_winds : (to : EffectSite) (o : values.Computed) (v u : State) →
        values.put_computed setting to o v ≡ Unwind u → C [] v → C [] u
    computed_winds to (values.PanicsBy why) v u x c = panicked why v u x c
    computed_winds to (values.Gives n) v u x c = absurd (never_winds (reach setting v to.place) x)
      where
        never_winds : (r : Reached) → on_reached r (λ s. Go (stored_at s.address (Number n) v)) (Halts Stuck v)
            (Halts Stuck v) ≡ Unwind u → ⊥
        never_winds (Reaches s) e = let never : ⊥ = cc in never
        never_winds CutOff e = let never : ⊥ = cc in never
        never_winds Nowhere e = let never : ⊥ = cc in never

    pub compute_winds : (to : EffectSite) (operator : Math) (left right : Operand) → KeepsWound (effects.Compute to
        operator left right)
    compute_winds to operator left right h f c u e =
        let rest = second (checks.stores_as items local_ty is_target (after right (after left facts)) cells to (same_int
        (checks.form_of items local_ty is_target left))) _ h in
        let more = second (takes facts left) _ rest in
        let fine = fine_past _ _ f in
        one_winds w cells facts runs left [] t
        (λ a x. with_operand setting right x (values.compute setting to operator
        (int_kind (values.ty_of_operand setting w left)) a)) u (first (takes facts left) _ rest) (fine_first _ _ fine) c
        (wound_past _ _ u e)
        (λ a x one y. one_winds x one.cells_after (after left facts) one.runs_after right (serials a ++ []) t
        (values.compute setting to operator (int_kind (values.ty_of_operand setting w left)) a) u
        (first (takes (after left facts) right) _ more)
        (fine_first _ _ (subst (λ o. Fine (on_go o (operands_used items local_ty (right ∷ [])
        (free.computed_by_choice items local_ty to)))) (one.used_so t) fine)) one.counted y
        (λ b v another z. winds (int_kind (values.ty_of_operand setting w left)) a b v z another.counted))
      where
        winds : (kind : Option IntKind) (a b : Datum) (v : State) → values.compute setting to operator kind a b v ≡ Unwind u →
            C (serials b ++ (serials a ++ [])) v → C [] u
        winds (Some kind) (Number x) (Number y) v z k = computed_winds to (values.computed operator kind x y) v u z k
        winds None a b v z k = absurd (let never : ⊥ = cc in never)
        winds (Some kind) (Number x) other v z k = absurd (let never : ⊥ = cc in never)
        winds (Some kind) other b v z k = absurd (let never : ⊥ = cc in never)

    pub negate_winds : (to : EffectSite) (operand : Operand) → KeepsWound (effects.Negate to operand)
    negate_winds to operand h f c u e =
        let rest = second (checks.stores_as items local_ty is_target (after operand facts) cells to (same_int
        (checks.form_of items local_ty is_target operand))) _ h in
        one_winds w cells facts runs operand [] t
        (values.negate setting to (int_kind (values.ty_of_operand setting w operand))) u (first (takes facts operand) _ rest)
        (fine_first _ _ (fine_past _ _ f)) c (wound_past _ _ u e)
        (λ d v k x. winds (int_kind (values.ty_of_operand setting w operand)) d v x k.counted)
      where
        winds : (kind : Option IntKind) (d : Datum) (v : State) → values.negate setting to kind d v ≡ Unwind u →
            C (serials d ++ []) v → C [] u
        winds (Some kind) (Number x) v z k = computed_winds to (values.if_within kind (neg_ℤ x)) v u z k
        winds None d v z k = absurd (let never : ⊥ = cc in never)
        winds (Some kind) other v z k = absurd (let never : ⊥ = cc in never)

    pub bounds_wind : (index : Operand) (count : ℕ) → KeepsWound (effects.Bounds index count)
    bounds_wind (effects.Copied site) count h f c u e =
        one_winds w cells facts runs (effects.Copied site) [] t (values.bounded setting count) u
        (second (checks.no_steps site.place.steps) _
        (first (checks.no_steps site.place.steps && takes facts (effects.Copied site)) _ h))
        (fine_first _ (λ x. panics_by_choice x Go)
        (fine_past (effects.stores_where (free.never_at items local_ty) (effects.Bounds (effects.Copied site) count)) _ f))
        c (wound_past (effects.stores_where (values.never_at setting w) (effects.Bounds (effects.Copied site) count)) _ u e)
        (λ d v k x. winds d v x k.counted)
      where
        within : (b : Bool) (v : State) → values.within_bounds setting b v ≡ Unwind u → C [] v → C [] u
        within true v x k = absurd (let never : ⊥ = cc in never)
        within false v x k = panicked Why.Index v u x k

        winds : (d : Datum) (v : State) → values.bounded setting count d v ≡ Unwind u → C (serials d ++ []) v → C [] u
        winds (Number n) v x k = within _ v x k
        winds other v x k = absurd (let never : ⊥ = cc in never)
    bounds_wind (effects.Moved site) count h f c u e = absurd (false≢true h)
    bounds_wind (effects.Number value kind) count h f c u e = absurd (false≢true h)
    bounds_wind (effects.Truth value) count h f c u e = absurd (false≢true h)
    bounds_wind effects.UnitValue count h f c u e = absurd (false≢true h)

    pub ask_winds : (to : EffectSite) → KeepsWound (effects.Ask to)
    ask_winds to h f c u e = by w.asked (wound_past _ _ u e)
      where
        told_never : (event : Event) (o : Out State) → ((x : State) → o ≡ Unwind x → ⊥) →
            tell_after setting event o ≡ Unwind u → ⊥
        told_never event (Go x) n k = let never : ⊥ = cc in never
        told_never event (Unwind x) n k = n x refl
        told_never event (Halts halt x) n k = let never : ⊥ = cc in never

        never_winds : (n : ℤ) (v x : State) (r : Reached) → on_reached r (λ s. Go (stored_at s.address (Number n) v))
            (Halts Stuck v) (Halts Stuck v) ≡ Unwind x → ⊥
        never_winds n v x (Reaches s) k = let never : ⊥ = cc in never
        never_winds n v x CutOff k = let never : ⊥ = cc in never
        never_winds n v x Nowhere k = let never : ⊥ = cc in never

        by : (l : List ℤ) → values.asked setting to l w ≡ Unwind u → C [] u
        by [] x = panicked Why.Ask w u x c
        by (n ∷ rest) x = absurd (told_never (Event.Asked n) (put setting to (Number n) (record w { asked = rest }))
            (λ y k. never_winds n (record w { asked = rest }) y
            (reach setting (record w { asked = rest }) to.place) k) x)
