-- Each action that calls nothing keeps the account of numbers: what is moved lands in what is made of it, a value with a
-- `Drop` impl and a box get a number, and what is forgotten has ended. One lemma a form.
use Rattle.std.proofs.Common.{◌≡◌, ℕ, ◌+◌, ◌<◌, ◌&&◌, not, Bool, true, false, List, [], ◌∷◌, ◌++◌, length, Option, Some, None, refl, ap, sym, subst, arith}
use Rattle.std.specs.Option.{option_map_or}
use Rattle.std.proofs.lemmas.Bool.{false≢true}
use Rattle.std.proofs.lemmas.Option.{none-some}
use Rattle.mir_base.specs.declared.operator.Cmp.{Cmp}
use Rattle.mir_base.specs.declared.trace.Event.{Event}
use Rattle.mir_base.specs.Once.{times}
use Rattle.mir_ty.specs.declared.ty.Ty.{Ty}
use Rattle.mir_ty.specs.declared.ty.TyId.{TyId}
use Rattle.mir_ty.specs.ItemTable.{ItemTable}
use Rattle.store_model.specs.declared.address.Addr.{Addr}
use Rattle.store_model.specs.Values.Datum.{Datum, Gone, Number, Truth, UnitValue, Aggregate, Box, Address, data_from}
use Rattle.store_model.specs.Values.Wholeness.{serials, serials_of_all}
use Rattle.store_model.specs.Effects as effects
use Rattle.store_model.specs.Effects.{EffectSite, Operand, AggregateKind, OfTuple, OfArray, OfVariant, OfClosure, Action, Out, Go, on_go}
use Rattle.store_model.specs.Abstract.Effects as free
use Rattle.store_model.specs.Abstract.Effects.{AbstractState, presence, operand_used, operands_used, panics_by_choice}
use Rattle.store_model.specs.Abstract.Presence.{Presence, itself_gone, presence_along}
use Rattle.store_model.specs.Places.Place.{Step}
use Rattle.store_model.specs.Places.TypeForms.{is_bool}
use Rattle.store_model.specs.Concrete.Drops.{drop_impl}
use Rattle.store_model.specs.Concrete.Effects as values
use Rattle.store_model.specs.Concrete.Effects.{act, or_stuck, evaluate_operands, with_operand, put, put_if, compared, made, with_impl, whole_at}
use Rattle.store_model.specs.Concrete.Location.{Setting, Located}
use Rattle.store_model.specs.Concrete.State.{State, Bodies, with_event, numbered_next}
use Rattle.soundness_values.proofs.Changing.{runs_alike}
use Rattle.soundness_values.proofs.Checks as checks
use Rattle.soundness_values.proofs.Checks.{may_store, takes_well, take_well, after_operand, after_operands, acts_well, part_types}
use Rattle.soundness_values.proofs.CountedActs.{IsGo, go_fine, fine_first, go_past, went_past, serials_from, told, one_then, lands_at, told_at, go_next, TookAll, takes_all}
use Rattle.soundness_values.proofs.CountedStores.{AllSpaced}
use Rattle.soundness_values.proofs.CountedTakes.{Counted, Took}
use Rattle.soundness_values.proofs.Counts.{times_append}
use Rattle.soundness_values.proofs.Dropped.{feeding}
use Rattle.soundness_values.proofs.Facts.{Facts, Each}
use Rattle.soundness_values.proofs.Forgotten.{makes}
use Rattle.soundness_values.proofs.Guards.{heads_alike}
use Rattle.soundness_values.proofs.Known.{Target}
use Rattle.soundness_values.proofs.NumbersHeld.{serials_of_args}
use Rattle.soundness_values.proofs.Running.{Passed, Runs}
use Rattle.soundness_values.proofs.Standings.{alike_itself}
use Rattle.soundness_values.proofs.Taking.{first, second}
use Rattle.soundness_values.proofs.Tally.{flying_alike}

-- no two operands that are compared have a number
pub compared_numbers : (operator : Cmp) (a b : Datum) (truth : Bool) → compared operator a b ≡ Some truth →
    (serials a ≡ []) × (serials b ≡ [])
compared_numbers operator (Number x) (Number y) truth e = (refl, refl)
compared_numbers operator (Truth x) (Truth y) truth e = (refl, refl)
compared_numbers operator Gone b truth e = absurd (none-some truth e)
compared_numbers operator UnitValue b truth e = absurd (none-some truth e)
compared_numbers operator (Aggregate v s p) b truth e = absurd (none-some truth e)
compared_numbers operator (Box s i d) b truth e = absurd (none-some truth e)
compared_numbers operator (Address x) b truth e = absurd (none-some truth e)
compared_numbers operator (Number x) other truth e = absurd (none-some truth e)
compared_numbers operator (Truth x) other truth e = absurd (none-some truth e)

-- what goes on where a panic is a choice has not panicked
pub chosen_go : (t : List Bool) (cells : List (ℕ × Presence)) (next : AbstractState → Out AbstractState) →
    IsGo (panics_by_choice (feeding t cells) next) → (rest : List Bool) × IsGo (next (feeding rest cells))
chosen_go [] cells next g = absurd g
chosen_go (false ∷ rest) cells next g = (rest, g)
chosen_go (true ∷ rest) cells next g = absurd g

module _ (setting : Setting) (number : ℕ) (targets : List Target) (uniques : List Addr) (base : State)
    (is_target : ℕ → Bool) (passed : Passed setting number targets uniques base is_target) (size : ℕ → ℕ)
    (sized : (body key : ℕ) (id : TyId) → setting.local_ty body key ≡ Some id → key < size body)
    (loose : setting.strict ≡ false) (dropping : List ℕ) (guards : List (Addr × ℕ))
    (deep : Each (λ (g : Addr × ℕ). g.0.depth < length base.activations) guards)
    (spaced : AllSpaced guards targets) where
  abbrev items : ItemTable
  items = setting.items

  abbrev local_ty : ℕ → Option TyId
  local_ty key = setting.local_ty number key

  abbrev R : State → List (ℕ × Presence) → Facts → Type 0
  R = Runs setting number targets uniques base is_target

  abbrev C : List ℕ → State → Type 0
  C = Counted setting number targets uniques base is_target passed size sized dropping guards deep

  abbrev takes : Facts → Operand → Bool
  takes = takes_well items local_ty is_target

  abbrev after : Operand → Facts → Facts
  after = after_operand items local_ty is_target

  module _ (w : State) (cells : List (ℕ × Presence)) (facts : Facts) (runs : R w cells facts) (run : Bodies)
      (t : List Bool) where
    abbrev T : Operand → List ℕ → Datum → State → Type 0
    T operand flying d v = Took setting number targets uniques base is_target passed size sized dropping guards deep w
        cells facts runs operand t flying d v

    abbrev FreeGoes : Action → Type 0
    FreeGoes action = IsGo (free.act items local_ty action (feeding t cells))

    abbrev pub KeepsCount : Action → Type 0
    KeepsCount action = acts_well items local_ty is_target facts cells action ≡ true → FreeGoes action → C [] w →
        (u : State) → act setting run action w ≡ Go u → C [] u

    abbrev Stored : Facts → EffectSite → Bool
    Stored facts' to = may_store items local_ty is_target facts' cells to.place

    -- what comes after one operand, in a run that goes on
    one : {P : Type 0} (operand : Operand) (flying : List ℕ) (next : Datum → State → Out State)
        (more : AbstractState → Out AbstractState) (u : State) → takes facts operand ≡ true →
        IsGo (on_go (operand_used items local_ty operand (feeding t cells)) more) → C flying w →
        with_operand setting operand w next ≡ Go u →
        ((d : Datum) (v : State) (k : T operand flying d v) → IsGo (more (feeding t k.cells_after)) →
        next d v ≡ Go u → P) → P
    one operand flying next more u h goes c e f =
        one_then setting number targets uniques base is_target passed size sized loose dropping guards deep spaced w cells
        facts runs operand flying t next u h (fine_first _ more (go_fine _ goes)) c e
        (λ d v k x. f d v k (go_next setting number targets uniques base is_target passed size sized loose dropping guards
        deep spaced w cells facts runs operand more t k.cells_after (k.used_so t) goes) x)

    lands : (facts' : Facts) (to : EffectSite) → Stored facts' to ≡ true → (v : State) (cells' : List (ℕ × Presence)) →
        R v cells' facts' → ((local : ℕ) (steps : List Step) →
        itself_gone (presence_along steps (presence local cells)) ≡ true →
        itself_gone (presence_along steps (presence local cells')) ≡ true) → (t' : List Bool) →
        IsGo (free.store items local_ty to (feeding t' cells')) → (d : Datum) → C (serials d ++ []) v → (u : State) →
        put setting to d v ≡ Go u → C [] u
    lands facts' to h v cells' r still t' g d c u e =
        lands_at setting number targets uniques base is_target passed size sized loose dropping guards deep spaced w cells
        facts runs facts' to h v cells' r still t' g d [] c u e

    pub put_counted : (to : EffectSite) (from : Operand) → KeepsCount (effects.Put to from)
    put_counted to from h g c u e =
        let rest = second (Stored (after from facts) to) _ h in
        one from [] (put setting to) (free.store items local_ty to) u (first (takes facts from) _ rest) (go_past _ _ g) c
        (went_past _ _ u e)
        (λ d v k goes x. lands (after from facts) to (first (Stored (after from facts) to) _ h) v k.cells_after k.runs_after
        k.still_gone t goes d k.counted u x)

    pub not_counted : (to : EffectSite) (operand : Operand) → KeepsCount (effects.Not to operand)
    not_counted to operand h g c u e =
        let stores = first (checks.stores_as items local_ty is_target (after operand facts) cells to is_bool) _ h
        in
        let rest = second (checks.stores_as items local_ty is_target (after operand facts) cells to is_bool) _ h
        in
        one operand [] (λ d. put_if setting to (values.negated setting d)) (free.store items local_ty to) u
        (first (takes facts operand) _ rest) (go_past _ _ g) c (went_past _ _ u e)
        (λ d v k goes x. let n = negated_of d v x in
        lands (after operand facts) to (first (Stored (after operand facts) to) _ stores) v k.cells_after k.runs_after
        k.still_gone t goes (Truth n.0) (subst (λ y. C (serials y ++ []) v) n.1.0 k.counted) u n.1.1)
      where
        negated_of : (d : Datum) (v : State) → put_if setting to (values.negated setting d) v ≡ Go u →
            (b : Bool) × ((d ≡ Truth (not b)) × (put setting to (Truth b) v ≡ Go u))
        negated_of (Truth true) v x = (false, (refl, x))
        negated_of (Truth false) v x = (true, (refl, x))
        negated_of other v x = absurd (let never : ⊥ = cc in never)

    -- a box gets the next number
    boxed_flow : (n serial : ℕ) (l : List ℕ) → times n (serial ∷ (l ++ [])) ≡ times n ((l ++ serial ∷ []) ++ [])
    boxed_flow n serial l =
        let whole : times n (serial ∷ (l ++ [])) ≡ times n (serial ∷ []) + times n (l ++ []) =
        times_append n (serial ∷ []) (l ++ []) in
        let two = times_append n l [] in
        let three = times_append n (l ++ serial ∷ []) [] in
        let four = times_append n l (serial ∷ []) in
        let none : times n [] ≡ 0 = refl in
        omega arith

    pub box_counted : (to : EffectSite) (content : Operand) → KeepsCount (effects.NewBox to content)
    box_counted to content h g c u e =
        let rest = second (Stored (after content facts) to) _ h in
        one content [] (values.boxed setting to) (free.store items local_ty to) u (first (takes facts content) _ rest)
        (go_past _ _ g) c (went_past _ _ u e)
        (λ d v k goes x. told_at setting number targets uniques base is_target passed size sized loose dropping guards deep
        spaced w cells facts runs (after content facts) to (first (Stored (after content facts) to) _ h) (numbered_next v)
        k.cells_after
        (runs_alike setting number targets uniques base is_target passed v (numbered_next v) k.cells_after
        (after content facts) k.runs_after (alike_itself v.activations)) k.still_gone t goes (Event.Boxed v.serial)
        (Box v.serial None d) [] (heads_alike setting guards v (numbered_next v) (alike_itself v.activations)
        k.counted.heads)
        (flying_alike size (v.serial ∷ (serials d ++ [])) ((serials d ++ v.serial ∷ []) ++ []) dropping
        (with_event (Event.Boxed v.serial) (numbered_next v)) (λ n. boxed_flow n v.serial (serials d))
        (makes size (serials d ++ []) dropping v (Event.Boxed v.serial) refl refl k.counted.flow)) u x)

    -- the impl by which a trait object goes is no number
    pub unsize_counted : (to : EffectSite) (trait_no : ℕ) (operand : Operand) → KeepsCount (effects.Unsize to trait_no
        operand)
    unsize_counted to trait_no operand h g c u e =
        let rest = second (Stored (after operand facts) to) _ h in
        one operand [] (values.impl_put setting to (values.impl_boxed setting trait_no w operand))
        (free.store items local_ty to) u (first (takes facts operand) _ rest) (go_past _ _ g) c (went_past _ _ u e)
        (λ d v k goes x. let b = boxed_of (values.impl_boxed setting trait_no w operand) d v x in
        lands (after operand facts) to (first (Stored (after operand facts) to) _ h) v k.cells_after k.runs_after
        k.still_gone t goes b.0 (subst (λ l. C (l ++ []) v) b.1.0 k.counted) u b.1.1)
      where
        with_impl_of : (n : ℕ) (d : Datum) (v : State) → put_if setting to (with_impl n d) v ≡ Go u →
            (x : Datum) × ((serials d ≡ serials x) × (put setting to x v ≡ Go u))
        with_impl_of n (Box s i inside) v x = (Box s (Some n) inside, (refl, x))
        with_impl_of n other v x = absurd (let never : ⊥ = cc in never)

        boxed_of : (o : Option ℕ) (d : Datum) (v : State) → values.impl_put setting to o d v ≡ Go u →
            (x : Datum) × ((serials d ≡ serials x) × (put setting to x v ≡ Go u))
        boxed_of None d v x = absurd (let never : ⊥ = cc in never)
        boxed_of (Some n) d v x = with_impl_of n d v x

    -- a struct or an enum with a `Drop` impl gets the next number
    built_flow : (n : ℕ) (serial : ℕ) (l m : List ℕ) → l ≡ m → times n (serial ∷ (m ++ [])) ≡ times n ((serial ∷ l) ++ [])
    built_flow n serial l m e = ap (λ x. times n (serial ∷ (x ++ []))) (sym e)

    pub build_counted : (to : EffectSite) (kind : AggregateKind) (parts : List Operand) → KeepsCount (effects.Build to kind
        parts)
    build_counted to kind parts h g c u e =
        by_types (part_types items local_ty is_target kind (checks.ty_of items local_ty is_target to.place))
        (second (Stored (after_operands items local_ty is_target parts facts) to) _ h)
      where
        stored : Stored (after_operands items local_ty is_target parts facts) to ≡ true
        stored = first (Stored (after_operands items local_ty is_target parts facts) to) _ h

        goes : IsGo (operands_used items local_ty parts (free.store items local_ty to) (feeding t cells))
        goes = go_past (effects.stores_where (free.never_at items local_ty) (effects.Build to kind parts))
            (operands_used items local_ty parts (free.store items local_ty to) (feeding t cells)) g

        All : List Datum → State → Type 0
        All ds v = TookAll setting number targets uniques base is_target passed size sized loose dropping guards deep spaced
            w cells facts parts t [] ds v

        of_kind : (kind : AggregateKind) (ds : List Datum) (v : State) → All ds v → values.built setting to kind ds v ≡ Go u →
            C [] u
        of_kind OfTuple ds v k x = lands (after_operands items local_ty is_target parts facts) to stored v k.cells_after
            k.runs_after k.still_gone t (subst IsGo (k.used_so (free.store items local_ty to)) goes)
            (Aggregate 0 None (data_from ds)) (subst (λ l. C (l ++ []) v) (sym (serials_from ds)) k.counted) u x
        of_kind OfArray ds v k x = lands (after_operands items local_ty is_target parts facts) to stored v k.cells_after
            k.runs_after k.still_gone t (subst IsGo (k.used_so (free.store items local_ty to)) goes)
            (Aggregate 0 None (data_from ds)) (subst (λ l. C (l ++ []) v) (sym (serials_from ds)) k.counted) u x
        of_kind (OfClosure closure) ds v k x = lands (after_operands items local_ty is_target parts facts) to stored v
            k.cells_after k.runs_after k.still_gone t (subst IsGo (k.used_so (free.store items local_ty to)) goes)
            (Aggregate 0 None (data_from ds)) (subst (λ l. C (l ++ []) v) (sym (serials_from ds)) k.counted) u x
        of_kind (OfVariant adt variant) ds v k x = by (drop_impl items (Some (Ty.Adt adt))) x
          where
            by : (o : Option (ℕ × ℕ)) →
                values.made_event setting adt to (made adt variant ds (Some v.serial) o) o v ≡ Go u → C [] u
            by None y = lands (after_operands items local_ty is_target parts facts) to stored v k.cells_after k.runs_after
                k.still_gone t (subst IsGo (k.used_so (free.store items local_ty to)) goes)
                (Aggregate variant None (data_from ds)) (subst (λ l. C (l ++ []) v) (sym (serials_from ds)) k.counted) u y
            by (Some of) y =
                told_at setting number targets uniques base is_target passed size sized loose dropping guards deep spaced w
                cells facts runs (after_operands items local_ty is_target parts facts) to stored (numbered_next v)
                k.cells_after
                (runs_alike setting number targets uniques base is_target passed v (numbered_next v) k.cells_after
                (after_operands items local_ty is_target parts facts) k.runs_after (alike_itself v.activations))
                k.still_gone t (subst IsGo (k.used_so (free.store items local_ty to)) goes) (Event.Make adt v.serial)
                (Aggregate variant (Some v.serial) (data_from ds)) []
                (heads_alike setting guards v (numbered_next v) (alike_itself v.activations) k.counted.heads)
                (flying_alike size (v.serial ∷ (serials_of_args ds ++ []))
                ((v.serial ∷ serials_of_all (data_from ds)) ++ []) dropping
                (with_event (Event.Make adt v.serial) (numbered_next v))
                (λ n. built_flow n v.serial (serials_of_all (data_from ds)) (serials_of_args ds) (serials_from ds))
                (makes size (serials_of_args ds ++ []) dropping v (Event.Make adt v.serial) refl refl k.counted.flow)) u y

        evaluated : (tys : List TyId) → take_well items local_ty is_target facts tys parts ≡ true →
            (o : Option (List Datum × State)) → evaluate_operands setting parts w ≡ o →
            or_stuck o (λ (x : List Datum × State). values.built setting to kind x.0 x.1) w ≡ Go u → C [] u
        evaluated tys k None is x = absurd (let never : ⊥ = cc in never)
        evaluated tys k (Some y) is x = of_kind kind y.0 y.1
            (takes_all setting number targets uniques base is_target passed size sized loose dropping guards deep spaced
            parts tys w cells facts runs k t (free.store items local_ty to) (go_fine _ goes) [] c y.0 y.1 is) x

        by_types : (o : Option (List TyId)) → option_map_or (λ tys. take_well items local_ty is_target facts tys parts) o
            false ≡ true → C [] u
        by_types None k = absurd (false≢true k)
        by_types (Some tys) k = evaluated tys k (evaluate_operands setting parts w) refl (went_past _ _ u e)

    -- ---- what stores nothing

    pub touch_counted : (site : EffectSite) → KeepsCount (effects.Touch site)
    touch_counted site h g c u e = by (whole_at setting w site)
        (went_past (effects.stores_where (values.never_at setting w) (effects.Touch site)) _ u e)
      where
        go_same : {a b : State} → Go a ≡ Go b → a ≡ b
        go_same x = cc

        by : (o : Option Located) → or_stuck o (λ s. Go w) w ≡ Go u → C [] u
        by None x = absurd (let never : ⊥ = cc in never)
        by (Some s) x = subst (C []) (go_same x) c

    pub print_counted : (operand : Operand) → KeepsCount (effects.Print operand)
    print_counted operand h g c u e =
        one operand [] (values.printed setting) Go u (first (takes facts operand) _ h)
        (go_past (effects.stores_where (free.never_at items local_ty) (effects.Print operand)) _ g) c
        (went_past (effects.stores_where (values.never_at setting w) (effects.Print operand)) _ u e)
        (λ d v k goes x. by d v k.counted x)
      where
        go_same : {a b : State} → Go a ≡ Go b → a ≡ b
        go_same x = cc

        by : (d : Datum) (v : State) → C (serials d ++ []) v → values.printed setting d v ≡ Go u → C [] u
        by (Number n) v k x = subst (C []) (go_same x)
            (told setting number targets uniques base is_target passed size sized loose dropping guards deep spaced []
            (Event.Printed n) v refl refl k)
        by other v k x = absurd (let never : ⊥ = cc in never)

    pub bounds_counted : (index : Operand) (count : ℕ) → KeepsCount (effects.Bounds index count)
    bounds_counted (effects.Copied site) count h g c u e =
        one (effects.Copied site) [] (values.bounded setting count) (λ x. panics_by_choice x Go) u
        (second (checks.no_steps site.place.steps) _
        (first (checks.no_steps site.place.steps && takes facts (effects.Copied site)) _ h))
        (go_past (effects.stores_where (free.never_at items local_ty) (effects.Bounds (effects.Copied site) count)) _ g) c
        (went_past (effects.stores_where (values.never_at setting w) (effects.Bounds (effects.Copied site) count)) _ u e)
        (λ d v k goes x. by d v k.counted x)
      where
        go_same : {a b : State} → Go a ≡ Go b → a ≡ b
        go_same x = cc

        within : (b : Bool) (v : State) → values.within_bounds setting b v ≡ Go u → v ≡ u
        within true v x = go_same x
        within false v x = absurd (let never : ⊥ = cc in never)

        by : (d : Datum) (v : State) → C (serials d ++ []) v → values.bounded setting count d v ≡ Go u → C [] u
        by (Number n) v k x = subst (C []) (within _ v x) k
        by other v k x = absurd (let never : ⊥ = cc in never)
    bounds_counted (effects.Moved site) count h g c u e = absurd (false≢true h)
    bounds_counted (effects.Number value kind) count h g c u e = absurd (false≢true h)
    bounds_counted (effects.Truth value) count h g c u e = absurd (false≢true h)
    bounds_counted effects.UnitValue count h g c u e = absurd (false≢true h)
