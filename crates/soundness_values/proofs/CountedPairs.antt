-- Actions with two operands, checked operators, asked numbers and what is forgotten: each keeps the account of numbers.
use Rattle.std.proofs.Common.{◌≡◌, ℕ, suc, ℤ, ◌<◌, Bool, true, false, List, [], ◌∷◌, ◌++◌, length, Option, Some, None, refl, ap, ◌∙◌, subst}
use Rattle.std.specs.Prelude.{neg_ℤ}
use Rattle.std.specs.Option.{option_map_or}
use Rattle.std.proofs.lemmas.Bool.{false≢true}
use Rattle.std.proofs.lemmas.Option.{none-some}
use Rattle.mir_base.specs.declared.operator.Cmp.{Cmp}
use Rattle.mir_base.specs.declared.operator.Math.{Math}
use Rattle.mir_base.specs.declared.int_kind.IntKind.{IntKind}
use Rattle.mir_base.specs.declared.trace.Event.{Event}
use Rattle.mir_base.specs.Once.{serial_made, made_in}
use Rattle.mir_ty.specs.declared.ty.Ty.{Ty}
use Rattle.mir_ty.specs.declared.ty.TyId.{TyId}
use Rattle.mir_ty.specs.ItemTable.{ItemTable, type_at}
use Rattle.store_model.specs.declared.address.Addr.{Addr}
use Rattle.store_model.specs.declared.address.At.TheVariants.{Part, Inside}
use Rattle.store_model.specs.Values.Datum.{Datum, Data, Gone, Number, Truth, UnitValue, Aggregate, Box, Address, no_part, a_part}
use Rattle.store_model.specs.Values.Wholeness.{serials}
use Rattle.store_model.specs.Effects as effects
use Rattle.store_model.specs.Effects.{EffectSite, Operand, Action, Out, Go}
use Rattle.store_model.specs.Abstract.Effects as free
use Rattle.store_model.specs.Abstract.Effects.{AbstractState, presence, operands_used}
use Rattle.store_model.specs.Abstract.Presence.{Presence, itself_gone, presence_along}
use Rattle.store_model.specs.Places.Place.{Step, is_reference}
use Rattle.store_model.specs.Places.TypeForms.{is_bool, same_int, int_kind, box_content}
use Rattle.store_model.specs.Concrete.Drops.{drop_impl}
use Rattle.store_model.specs.Concrete.Effects as values
use Rattle.store_model.specs.Concrete.Effects.{act, with_operand, with_two_operands, put, put_if, compared, forgotten, forgotten_parts, made_forgotten, if_typed}
use Rattle.store_model.specs.Concrete.Location.{Setting, DynamicType, OfType, concrete_ty, type_of_part}
use Rattle.store_model.specs.Concrete.State.{State, Bodies}
use Rattle.soundness_values.proofs.Changing.{runs_alike}
use Rattle.soundness_values.proofs.Checks as checks
use Rattle.soundness_values.proofs.Checks.{may_store, takes_well, after_operand, acts_well}
use Rattle.soundness_values.proofs.CountedActs.{IsGo, go_fine, fine_first, go_past, went_past, one_then, lands_at, told_at, go_next}
use Rattle.soundness_values.proofs.CountedForms.{compared_numbers, chosen_go}
use Rattle.soundness_values.proofs.CountedStores.{AllSpaced}
use Rattle.soundness_values.proofs.CountedTakes.{Counted}
use Rattle.soundness_values.proofs.Dropped.{feeding}
use Rattle.soundness_values.proofs.Facts.{Facts, Each}
use Rattle.soundness_values.specs.Typed.{is_aggregate}
use Rattle.soundness_values.proofs.Fits.{Fits}
use Rattle.soundness_values.proofs.Guards.{heads_alike}
use Rattle.soundness_values.proofs.Known.{Target}
use Rattle.soundness_values.proofs.Running.{Passed, Runs}
use Rattle.soundness_values.proofs.Standings.{alike_itself}
use Rattle.soundness_values.proofs.Taking.{first, second}
use Rattle.soundness_values.proofs.Tally.{tells, counted_alike, ends_flying}

-- what is forgotten makes no number
none_of_both : (a b : List ℕ) → (a ++ b) ≡ [] → (a ≡ []) × (b ≡ [])
none_of_both [] b e = (refl, e)
none_of_both (n ∷ a) b e = absurd (let never : ⊥ = cc in never)

made_append_none : (a b : List Event) → made_in a ≡ [] → made_in b ≡ [] → made_in (a ++ b) ≡ []
made_append_none [] b e f = f
made_append_none (event ∷ a) b e f =
    let both = none_of_both (serial_made event) (made_in a) e in
    ap (λ l. l ++ made_in (a ++ b)) both.0 ∙ made_append_none a b both.1 f

forgotten_head : (serial : Option ℕ) (of : Option (ℕ × ℕ)) → made_in (made_forgotten serial of) ≡ []
forgotten_head None of = refl
forgotten_head (Some serial) None = refl
forgotten_head (Some serial) (Some of) = refl

module _ (items : ItemTable) where
  mutual
    pub forgotten_makes_none : (d : Datum) (f : DynamicType) → made_in (forgotten items d f) ≡ []
    forgotten_makes_none Gone f = refl
    forgotten_makes_none (Number n) f = refl
    forgotten_makes_none (Truth b) f = refl
    forgotten_makes_none UnitValue f = refl
    forgotten_makes_none (Address a) f = refl
    forgotten_makes_none (Aggregate variant serial parts) f =
        made_append_none (made_forgotten serial (drop_impl items (concrete_ty items f)))
        (forgotten_parts items parts (λ n. type_of_part items (Part n) (Aggregate variant serial no_part) f) 0)
        (forgotten_head serial (drop_impl items (concrete_ty items f)))
        (parts_make_none parts (λ n. type_of_part items (Part n) (Aggregate variant serial no_part) f) 0)
    forgotten_makes_none (Box serial impl_no inside) f =
        made_append_none (if_typed (type_of_part items Inside (Box serial impl_no Gone) f) (forgotten items inside))
        (Event.ForgotBox serial ∷ [])
        (by (type_of_part items Inside (Box serial impl_no Gone) f) (forgotten_makes_none inside)) refl
      where
        by : (o : Option DynamicType) → ((g : DynamicType) → made_in (forgotten items inside g) ≡ []) →
            made_in (if_typed o (forgotten items inside)) ≡ []
        by None later = refl
        by (Some g) later = later g

    parts_make_none : (parts : Data) (found_at : ℕ → Option DynamicType) (n : ℕ) →
        made_in (forgotten_parts items parts found_at n) ≡ []
    parts_make_none no_part found_at n = refl
    parts_make_none (a_part first rest) found_at n =
        made_append_none (if_typed (found_at n) (forgotten items first)) (forgotten_parts items rest found_at (suc n))
        (by (found_at n) (forgotten_makes_none first)) (parts_make_none rest found_at (suc n))
      where
        by : (o : Option DynamicType) → ((g : DynamicType) → made_in (forgotten items first g) ≡ []) →
            made_in (if_typed o (forgotten items first)) ≡ []
        by None later = refl
        by (Some g) later = later g

  -- a value of a reference type has no number
  no_aggregate : (o : Option Ty) → is_reference o ≡ true → is_aggregate o ≡ true → ⊥
  no_aggregate None h k = false≢true h
  no_aggregate (Some (Ty.Shared to)) h k = false≢true k
  no_aggregate (Some (Ty.Unique to)) h k = false≢true k
  no_aggregate (Some other) h k = false≢true h

  no_box : (o : Option Ty) (id : TyId) → is_reference o ≡ true → box_content o ≡ Some id → ⊥
  no_box None id h k = false≢true h
  no_box (Some (Ty.Shared to)) id h k = none-some id k
  no_box (Some (Ty.Unique to)) id h k = none-some id k
  no_box (Some other) id h k = false≢true h

  pub reference_quiet : (d : Datum) (id : TyId) (p : Presence) → is_reference (type_at items id) ≡ true →
      Fits items (OfType id) p d → serials d ≡ []
  reference_quiet Gone id p h k = refl
  reference_quiet (Number n) id p h k = refl
  reference_quiet (Truth b) id p h k = refl
  reference_quiet UnitValue id p h k = refl
  reference_quiet (Address a) id p h k = refl
  reference_quiet (Aggregate v s parts) id p h k =
      absurd (no_aggregate (type_at items id) h (first (is_aggregate (type_at items id)) _ k.2))
  reference_quiet (Box s i inside) id p h k = absurd (no_box (type_at items id) k.1.0 h k.1.1)

module _ (setting : Setting) (number : ℕ) (targets : List Target) (uniques : List Addr) (base : State)
    (is_target : ℕ → Bool) (passed : Passed setting number targets uniques base is_target) (size : ℕ → ℕ)
    (sized : (body key : ℕ) (id : TyId) → setting.local_ty body key ≡ Some id → key < size body)
    (loose : setting.strict ≡ false) (dropping : List ℕ) (guards : List (Addr × ℕ))
    (deep : Each (λ (g : Addr × ℕ). g.0.depth < length base.activations) guards)
    (spaced : AllSpaced guards targets) where
  abbrev items : ItemTable
  items = setting.items

  abbrev local_ty : ℕ → Option TyId
  local_ty key = setting.local_ty number key

  abbrev R : State → List (ℕ × Presence) → Facts → Type 0
  R = Runs setting number targets uniques base is_target

  abbrev C : List ℕ → State → Type 0
  C = Counted setting number targets uniques base is_target passed size sized dropping guards deep

  abbrev takes : Facts → Operand → Bool
  takes = takes_well items local_ty is_target

  abbrev after : Operand → Facts → Facts
  after = after_operand items local_ty is_target

  module _ (w : State) (cells : List (ℕ × Presence)) (facts : Facts) (runs : R w cells facts) (run : Bodies)
      (t : List Bool) where
    abbrev FreeGoes : Action → Type 0
    FreeGoes action = IsGo (free.act items local_ty action (feeding t cells))

    abbrev KeepsCount : Action → Type 0
    KeepsCount action = acts_well items local_ty is_target facts cells action ≡ true → FreeGoes action → C [] w →
        (u : State) → act setting run action w ≡ Go u → C [] u

    abbrev Stored : Facts → EffectSite → Bool
    Stored facts' to = may_store items local_ty is_target facts' cells to.place

    abbrev Both : Operand → Operand → Datum → Datum → State → Type 0
    Both left right a b v = (cells' : List (ℕ × Presence)) × (R v cells' (after right (after left facts))
        × (((local : ℕ) (steps : List Step) → itself_gone (presence_along steps (presence local cells)) ≡ true →
        itself_gone (presence_along steps (presence local cells')) ≡ true)
        × C (serials b ++ (serials a ++ [])) v))

    -- what comes after two operands
    two : {P : Type 0} (left right : Operand) (next : Datum → Datum → State → Out State)
        (more : AbstractState → Out AbstractState) (u : State) → takes facts left ≡ true →
        takes (after left facts) right ≡ true →
        IsGo (operands_used items local_ty (left ∷ right ∷ []) more (feeding t cells)) → C [] w →
        with_two_operands setting left right w next ≡ Go u →
        ((a b : Datum) (v : State) (k : Both left right a b v) → IsGo (more (feeding t k.0)) → next a b v ≡ Go u → P) → P
    two {P = P} left right next more u h k goes c e f =
        one_then setting number targets uniques base is_target passed size sized loose dropping guards deep spaced w cells facts runs left [] t (λ a x. with_operand setting right x (next a)) u h
        (fine_first _ _ (go_fine _ goes)) c e
        (λ a x one y.
        let later = go_next setting number targets uniques base is_target passed size sized loose dropping guards deep spaced w cells facts runs left (operands_used items local_ty (right ∷ []) more) t
        one.cells_after (one.used_so t) goes in
        one_then setting number targets uniques base is_target passed size sized loose dropping guards deep spaced x one.cells_after (after left facts) one.runs_after right (serials a ++ []) t (next a) u k
        (fine_first _ _ (go_fine _ later)) one.counted y
        (λ b v another z. f a b v (
          another.cells_after,
          (
            another.runs_after,
            ((λ local steps g. another.still_gone local steps (one.still_gone local steps g)), another.counted),
          ),
        )
        (go_next setting number targets uniques base is_target passed size sized loose dropping guards deep spaced x one.cells_after (after left facts) one.runs_after right more t another.cells_after
        (another.used_so t) later) z))

    flow_none : (a b : Datum) (v : State) → serials a ≡ [] → serials b ≡ [] → C (serials b ++ (serials a ++ [])) v → C [] v
    flow_none a b v e f c = subst (λ l. C (l ++ []) v) e (subst (λ l. C (l ++ (serials a ++ [])) v) f c)

    lands : (facts' : Facts) (to : EffectSite) → Stored facts' to ≡ true → (v : State) (cells' : List (ℕ × Presence)) →
        R v cells' facts' → ((local : ℕ) (steps : List Step) →
        itself_gone (presence_along steps (presence local cells)) ≡ true →
        itself_gone (presence_along steps (presence local cells')) ≡ true) → (t' : List Bool) →
        IsGo (free.store items local_ty to (feeding t' cells')) → (d : Datum) → C (serials d ++ []) v → (u : State) →
        put setting to d v ≡ Go u → C [] u
    lands facts' to h v cells' r still t' g d c u e =
        lands_at setting number targets uniques base is_target passed size sized loose dropping guards deep spaced w cells facts runs facts' to h v cells' r still t' g d [] c u e

    pub compare_counted : (to : EffectSite) (operator : Cmp) (left right : Operand) → KeepsCount (effects.Compare to
        operator left right)
    compare_counted to operator left right h g c u e =
        let known = after right (after left facts) in
        let stores = first (checks.stores_as items local_ty is_target known cells to is_bool) _ h in
        let rest = second (checks.stores_as items local_ty is_target known cells to is_bool) _ h in
        let more = second (takes facts left) _ rest in
        two left right (λ a b. put_if setting to (option_map_or (λ x. Some (Truth x)) (compared operator a b) None))
        (free.store items local_ty to) u (first (takes facts left) _ rest) (first (takes (after left facts) right) _ more)
        (go_past _ _ g) c (went_past _ _ u e)
        (λ a b v k goes x. by a b v k (compared operator a b) refl goes x
        (first (Stored known to) _ stores))
      where
        by : (a b : Datum) (v : State) (k : Both left right a b v) (o : Option Bool) → compared operator a b ≡ o →
            IsGo (free.store items local_ty to (feeding t k.0)) →
            put_if setting to (option_map_or (λ x. Some (Truth x)) o None) v ≡ Go u →
            Stored (after right (after left facts)) to ≡ true → C [] u
        by a b v k None is goes x stored = absurd (let never : ⊥ = cc in never)
        by a b v k (Some truth) is goes x stored =
            let none = compared_numbers operator a b truth is in
            lands (after right (after left facts)) to stored v k.0 k.1.0 k.1.1.0 t goes (Truth truth)
            (flow_none a b v none.0 none.1 k.1.1.1) u x

    computed_of : (to : EffectSite) (o : values.Computed) (v u : State) → values.put_computed setting to o v ≡ Go u →
        (n : ℤ) × (put setting to (Number n) v ≡ Go u)
    computed_of to (values.Gives n) v u x = (n, x)
    computed_of to (values.PanicsBy why) v u x = absurd (let never : ⊥ = cc in never)

    pub compute_counted : (to : EffectSite) (operator : Math) (left right : Operand) → KeepsCount (effects.Compute to
        operator left right)
    compute_counted to operator left right h g c u e =
        let known = after right (after left facts) in
        let stores = first (checks.stores_as items local_ty is_target known cells to (same_int (checks.form_of items
        local_ty is_target left))) _ h in
        let rest = second (checks.stores_as items local_ty is_target known cells to (same_int (checks.form_of items
        local_ty is_target left))) _ h in
        let more = second (takes facts left) _ rest in
        two left right (values.compute setting to operator (int_kind (values.ty_of_operand setting w left)))
        (free.computed_by_choice items local_ty to) u (first (takes facts left) _ rest)
        (first (takes (after left facts) right) _ more) (go_past _ _ g) c (went_past _ _ u e)
        (λ a b v k goes x.
        let n = numbers_of (int_kind (values.ty_of_operand setting w left)) a b v x in
        let later = chosen_go t k.0 (free.store items local_ty to) goes in
        lands known to (first (Stored known to) _ stores) v k.0 k.1.0 k.1.1.0 later.0 later.1 (Number n.0)
        (flow_none a b v n.1.0 n.1.1.0 k.1.1.1) u n.1.1.1)
      where
        numbers_of : (kind : Option IntKind) (a b : Datum) (v : State) → values.compute setting to operator kind a b v ≡ Go u →
            (n : ℤ) × ((serials a ≡ []) × ((serials b ≡ []) × (put setting to (Number n) v ≡ Go u)))
        numbers_of (Some kind) (Number x) (Number y) v z =
            let n = computed_of to (values.computed operator kind x y) v u z in (n.0, (refl, (refl, n.1)))
        numbers_of None a b v z = absurd (let never : ⊥ = cc in never)
        numbers_of (Some kind) (Number x) other v z = absurd (let never : ⊥ = cc in never)
        numbers_of (Some kind) other b v z = absurd (let never : ⊥ = cc in never)

    pub negate_counted : (to : EffectSite) (operand : Operand) → KeepsCount (effects.Negate to operand)
    negate_counted to operand h g c u e =
        let stores = first (checks.stores_as items local_ty is_target (after operand facts) cells to (same_int
        (checks.form_of items local_ty is_target operand))) _ h in
        let rest = second (checks.stores_as items local_ty is_target (after operand facts) cells to (same_int
        (checks.form_of items local_ty is_target operand))) _ h in
        one_then setting number targets uniques base is_target passed size sized loose dropping guards deep spaced w cells facts runs operand [] t
        (values.negate setting to (int_kind (values.ty_of_operand setting w operand))) u (first (takes facts operand) _ rest)
        (fine_first _ _ (go_fine _ (go_past _ _ g))) c (went_past _ _ u e)
        (λ d v k x.
        let goes = go_next setting number targets uniques base is_target passed size sized loose dropping guards deep spaced w cells facts runs operand (free.computed_by_choice items local_ty to) t k.cells_after
        (k.used_so t) (go_past _ _ g) in
        let n = number_of (int_kind (values.ty_of_operand setting w operand)) d v x in
        let later = chosen_go t k.cells_after (free.store items local_ty to) goes in
        lands (after operand facts) to (first (Stored (after operand facts) to) _ stores) v k.cells_after k.runs_after
        k.still_gone later.0 later.1 (Number n.0) (subst (λ l. C (l ++ []) v) n.1.0 k.counted) u n.1.1)
      where
        number_of : (kind : Option IntKind) (d : Datum) (v : State) → values.negate setting to kind d v ≡ Go u →
            (n : ℤ) × ((serials d ≡ []) × (put setting to (Number n) v ≡ Go u))
        number_of (Some kind) (Number x) v z =
            let n = computed_of to (values.if_within kind (neg_ℤ x)) v u z in (n.0, (refl, n.1))
        number_of None d v z = absurd (let never : ⊥ = cc in never)
        number_of (Some kind) other v z = absurd (let never : ⊥ = cc in never)

    -- an asked number is told
    pub ask_counted : (to : EffectSite) → KeepsCount (effects.Ask to)
    ask_counted to h g c u e = by w.asked (went_past _ _ u e)
      where
        stored : Stored facts to ≡ true
        stored = first (Stored facts to) _ h

        by : (l : List ℤ) → values.asked setting to l w ≡ Go u → C [] u
        by [] x = absurd (let never : ⊥ = cc in never)
        by (n ∷ rest) x =
            let later = chosen_go t cells (free.store items local_ty to) (go_past _ _ g) in
            let v : State = record w { asked = rest } in
            told_at setting number targets uniques base is_target passed size sized loose dropping guards deep spaced w cells facts runs facts to stored v cells
            (runs_alike setting number targets uniques base is_target passed w v cells facts runs
            (alike_itself w.activations)) (λ local steps gone. gone) later.0 later.1 (Event.Asked n) (Number n) []
            (heads_alike setting guards w v (alike_itself w.activations) c.heads)
            (tells size [] dropping v (Event.Asked n) refl refl
            (counted_alike size [] dropping w v refl refl refl c.flow)) u x

    -- what is forgotten has ended
    pub forget_counted : (operand : Operand) → KeepsCount (effects.Forget operand)
    forget_counted operand h g c u e =
        one_then setting number targets uniques base is_target passed size sized loose dropping guards deep spaced w cells facts runs operand [] t
        (λ v w'. Go (values.with_events setting (option_map_or (forgotten items v) (values.type_of_operand setting w operand)
        []) w')) u (first (takes facts operand) _ h)
        (fine_first _ Go (go_fine _
        (go_past (effects.stores_where (free.never_at items local_ty) (effects.Forget operand)) _ g))) c
        (went_past (effects.stores_where (values.never_at setting w) (effects.Forget operand)) _ u e)
        (λ d v k x. subst (C []) (go_same x) (record {
          flow = ends_flying size setting (option_map_or (forgotten items d) (values.type_of_operand setting w operand) [])
              (serials d) [] dropping v (makes_none (values.type_of_operand setting w operand) d) k.forgets_so
              k.counted.flow;
          heads = heads_alike setting guards v
              (values.with_events setting (option_map_or (forgotten items d) (values.type_of_operand setting w operand) [])
              v) (alike_itself v.activations) k.counted.heads;
        }))
      where
        go_same : {a b : State} → Go a ≡ Go b → a ≡ b
        go_same x = cc

        makes_none : (o : Option DynamicType) (d : Datum) → made_in (option_map_or (forgotten items d) o []) ≡ []
        makes_none None d = refl
        makes_none (Some f) d = forgotten_makes_none items d f
