-- A call of a checked run follows that of a free run, by the contract of calls: it takes the choice 0 where the body
-- returns, and 1 where it panics.
use Rattle.std.proofs.Common.{◌≡◌, ℕ, ◌==◌, ◌&&◌, ◌||◌, not, Bool, true, false, List, [], ◌∷◌, length, Option, Some, None, if◌then◌else◌, refl, ap, sym, ◌∙◌, subst}
use Rattle.std.specs.Prelude.{option_and_then}
use Rattle.std.specs.List.{list_any, list_all}
use Rattle.std.specs.Option.{option_map_or}
use Rattle.std.proofs.lemmas.Bool.{false≢true}
use Rattle.std.proofs.lemmas.Bool.Decides.{Decides-eqb}
use Rattle.mir_ty.specs.declared.ty.TyId.{TyId}
use Rattle.mir_ty.specs.ItemTable.{ItemTable, type_at}
use Rattle.store_model.proofs.Effects.Following.{Relation}
use Rattle.store_model.specs.declared.address.Addr.{Addr}
use Rattle.store_model.specs.Values.Datum.{Datum}
use Rattle.store_model.specs.Effects as effects
use Rattle.store_model.specs.Effects.{EffectSite, Operand, Halt, Aborted, OutOfTicks, Stuck, Infeasible, Unreachable, Out, Go, Unwind, Halts, on_go, halting_if}
use Rattle.store_model.specs.Abstract.Effects as free
use Rattle.store_model.specs.Abstract.Effects.{AbstractState, presence, operand_used, operands_used, returns_by_choice}
use Rattle.store_model.specs.Abstract.Presence.{Presence}
use Rattle.store_model.specs.Places.Place.{place_ty}
use Rattle.store_model.specs.Places.TypeForms.{same_id, is_never}
use Rattle.store_model.specs.Concrete.Effects as values
use Rattle.store_model.specs.Concrete.Effects.{or_stuck, evaluate_operands, put, answered}
use Rattle.store_model.specs.Concrete.Location.{Setting}
use Rattle.store_model.specs.Concrete.State.{State, Bodies, Answer}
use Rattle.soundness_values.proofs.Doing.{FollowsOut, unwinds, lapsed, out_after}
use Rattle.soundness_values.specs.Frames.{Alike, written}
use Rattle.soundness_values.proofs.Facts.{Naming, Facts, Each, takes_index, without}
use Rattle.soundness_values.proofs.Dropped.{feeding}
use Rattle.soundness_values.proofs.Known.{Target, StandsFor}
use Rattle.soundness_values.proofs.LadderEnds.{MayEnd}
use Rattle.soundness_values.proofs.Running.{Passed, Runs}
use Rattle.soundness_values.proofs.Changing.{runs_alike, runs_without, known_held}
use Rattle.soundness_values.proofs.Checks.{id_of, may_store, named_by_all, after_operands, after_namings, all_apart, none_taken, takes_from, passes, calls_well}
use Rattle.soundness_values.proofs.Standings.{alike_back, alike_located}
use Rattle.soundness_values.proofs.Taking.{first, second, rel, never_fits}
use Rattle.soundness_values.proofs.Acting.{same_ids, concrete_ty_is}
use Rattle.soundness_values.proofs.Actions.{Stores, stores_well, puts}
use Rattle.soundness_values.proofs.Passing.{moves_one, moves_any, Moves}
use Rattle.soundness_values.proofs.Arguments.{Untouched, Args, args_follow}
use Rattle.soundness_values.proofs.Contracts.{targets_of, uniques_of, MayRun, Leaves, LeftSo, returned, unwound, halted, news_of}
use Rattle.soundness_values.proofs.AfterCalls.{are_whole, all_stand, all_alone, after_args}

halting_stuck_list : (b : Bool) (o : Option (List Datum × State)) (next : List Datum → State → Out State) (w0 : State) →
    halting_if b Stuck (or_stuck {A = List Datum × State} o (λ t. next t.0 t.1) w0)
    ≡ or_stuck {A = List Datum × State} o (λ t. halting_if b Stuck (next t.0 t.1)) w0
halting_stuck_list true None next w0 = refl
halting_stuck_list false None next w0 = refl
halting_stuck_list b (Some a) next w0 = refl

still_unwinds : {W : Type 0} (b : Bool) (halt : Halt) (w : W) → halting_if b halt (Unwind w) ≡ Unwind w
still_unwinds true halt w = refl
still_unwinds false halt w = refl

still_halts : {W : Type 0} (b : Bool) (halt other : Halt) (w : W) → halting_if b halt (Halts other w) ≡ Halts other w
still_halts true halt other w = refl
still_halts false halt other w = refl

module _ (setting : Setting) (number : ℕ) (targets : List Target) (uniques : List Addr) (base : State)
    (is_target : ℕ → Bool) (passed : Passed setting number targets uniques base is_target) where
  abbrev items : ItemTable
  items = setting.items

  abbrev local_ty : ℕ → Option TyId
  local_ty key = setting.local_ty number key

  abbrev R : State → List (ℕ × Presence) → Facts → Type 0
  R = Runs setting number targets uniques base is_target

  abbrev rels : Facts → Relation State AbstractState
  rels = rel setting number targets uniques base is_target passed

  -- ---- nothing that is named is moved

  abbrev Stay : List Operand → Naming → Type 0
  Stay = Untouched setting number targets uniques base is_target passed

  not_both : (a b : Bool) → not (a || b) ≡ true → (not a ≡ true) × (not b ≡ true)
  not_both true b h = absurd (false≢true h)
  not_both false b h = (refl, h)

  abbrev takes_one : Operand → Naming → Bool
  takes_one operand n = takes_from items local_ty is_target operand n

  split_taken : (args : List Operand) (n : Naming) (names : List Naming) →
      none_taken items local_ty is_target args (n ∷ names) ≡ true →
      (list_all (λ operand. not (takes_one operand n)) args ≡ true)
      × (none_taken items local_ty is_target args names ≡ true)
  split_taken [] n names h = (refl, refl)
  split_taken (operand ∷ args) n names h =
      let one = not_both (takes_one operand n) (list_any (takes_one operand) names)
      (first (not (takes_one operand n || list_any (takes_one operand) names)) _ h) in
      let rest = split_taken args n names (second (not (takes_one operand n || list_any (takes_one operand) names)) _ h)
      in (
        ap (λ b. b && list_all (λ o. not (takes_one o n)) args) one.0 ∙ rest.0,
        ap (λ b. b && none_taken items local_ty is_target args names) one.1 ∙ rest.1,
      )

  or_is : (a b : Bool) → a ≡ false → b ≡ false → (a || b) ≡ false
  or_is true b h k = h
  or_is false b h k = k

  not_or : (a b : Bool) → not (a || b) ≡ true → (a ≡ false) × (b ≡ false)
  not_or true b h = absurd (false≢true h)
  not_or false true h = absurd (false≢true h)
  not_or false false h = (refl, refl)

  local_not_moved : (operand : Operand) (n : Naming) → not (takes_one operand n) ≡ true →
      moves_one operand n.place.local ≡ false
  local_not_moved (effects.Moved site) n h = (not_or (site.place.local == n.place.local) _ h).0
  local_not_moved (effects.Copied site) n h = refl
  local_not_moved (effects.Number value kind) n h = refl
  local_not_moved (effects.Truth value) n h = refl
  local_not_moved effects.UnitValue n h = refl

  index_not_moved : (operand : Operand) (n : Naming) (key : ℕ) → not (takes_one operand n) ≡ true →
      takes_index key n.place.steps ≡ true → moves_one operand key ≡ false
  index_not_moved (effects.Moved site) n key h k = by (site.place.local == key) refl
    where
      by : (b : Bool) → (site.place.local == key) ≡ b → b ≡ false
      by false e = refl
      by true e = absurd (false≢true (sym (not_or (site.place.local == n.place.local) _ h).1
          ∙ subst (λ x. takes_index x n.place.steps ≡ true) (sym ((Decides-eqb site.place.local key).0 e)) k))
  index_not_moved (effects.Copied site) n key h k = refl
  index_not_moved (effects.Number value kind) n key h k = refl
  index_not_moved (effects.Truth value) n key h k = refl
  index_not_moved effects.UnitValue n key h k = refl

  stay_one : (args : List Operand) (n : Naming) → list_all (λ operand. not (takes_one operand n)) args ≡ true →
      Stay args n
  stay_one [] n h = record { local_stays = refl; index_stays = λ key k. refl }
  stay_one (operand ∷ args) n h =
      let one = first (not (takes_one operand n)) _ h in
      let rest = stay_one args n (second (not (takes_one operand n)) _ h) in
      record {
        local_stays = or_is (moves_one operand n.place.local) _ (local_not_moved operand n one) rest.local_stays;
        index_stays = λ key k. or_is (moves_one operand key) _ (index_not_moved operand n key one k)
            (rest.index_stays key k);
      }

  pub all_stay : (args : List Operand) (names : List Naming) → none_taken items local_ty is_target args names ≡ true →
      Each (Stay args) names
  all_stay args [] h = tt
  all_stay args (n ∷ names) h = let s = split_taken args n names h in (stay_one args n s.0, all_stay args names s.1)

  -- what halts halts after operands too
  halting_list : (b : Bool) (halt : Halt) (args : List Operand) (more : AbstractState → Out AbstractState)
      (u : AbstractState) → halting_if b halt (operands_used items local_ty args more u)
      ≡ operands_used items local_ty args (λ x. halting_if b halt (more x)) u
  halting_list b halt [] more u = refl
  halting_list b halt (operand ∷ args) more u = by (operand_used items local_ty operand u)
      (λ x. halting_list b halt args more x)
    where
      by : (o : Out AbstractState) → ((x : AbstractState) → halting_if b halt (operands_used items local_ty args more x)
          ≡ operands_used items local_ty args (λ y. halting_if b halt (more y)) x) →
          halting_if b halt (on_go o (operands_used items local_ty args more))
          ≡ on_go o (operands_used items local_ty args (λ y. halting_if b halt (more y)))
      by (Go x) later = later x
      by (Unwind x) later = still_unwinds b halt x
      by (Halts other x) later = still_halts b halt other x

  each_alike : (x y : State) (ts : List Target) → Alike x.activations y.activations →
      Each (λ t. StandsFor setting 0 t y) ts → Each (λ t. StandsFor setting 0 t x) ts
  each_alike x y [] j h = tt
  each_alike x y (t ∷ ts) j h = (
    record {
      standing = h.0.standing;
      stands = alike_located setting x y j t.address ∙ h.0.stands;
      of_type = h.0.of_type;
      by_impl = h.0.by_impl;
      whole = h.0.whole;
    },
    each_alike x y ts j h.1,
  )

  present_each : (args : List Operand) (names : List Naming) (cells cells' : List (ℕ × Presence)) →
      ((key : ℕ) → moves_any args key ≡ false → presence key cells' ≡ presence key cells) → Each (Stay args) names →
      Each (λ (n : Naming). presence n.place.local cells' ≡ presence n.place.local cells) names
  present_each args [] cells cells' f h = tt
  present_each args (n ∷ names) cells cells' f h =
      (f n.place.local h.0.local_stays, present_each args names cells cells' f h.1)

  module _ (run : Bodies) (w : State) (cells : List (ℕ × Presence)) (facts : Facts) (r : R w cells facts)
      (to : EffectSite) (params : List TyId) (result : TyId) (args : List Operand)
      (test : calls_well items local_ty is_target facts cells to params result args ≡ true)
      (answer : List Datum → State → Answer) where
    abbrev last : Facts
    last = after_operands items local_ty is_target args facts

    abbrev names : List Naming
    names = named_by_all items local_ty is_target facts args

    abbrev known : Facts
    known = after_namings items local_ty is_target names last

    abbrev goal : Facts
    goal = without to.place known

    abbrev Answers : Type 0
    Answers = (ds : List Datum) (v : State) → MayRun setting params ds v →
        LeftSo setting (targets_of items 1 params ds) result v (answer ds v)

    stores : Stores setting number targets uniques base is_target passed known cells to.place
    stores = stores_well setting number targets uniques base is_target passed known cells to.place
        (first (may_store items local_ty is_target known cells to.place) _
        (first (may_store items local_ty is_target known cells to.place && option_map_or (same_id result)
        (id_of items local_ty is_target to.place) false) _ test))

    is_at : place_ty items local_ty to.place ≡ Some result
    is_at = by (id_of items local_ty is_target to.place)
        (second (may_store items local_ty is_target known cells to.place) _
        (first (may_store items local_ty is_target known cells to.place && option_map_or (same_id result)
        (id_of items local_ty is_target to.place) false) _ test))
      where
        by : (o : Option TyId) → option_map_or (same_id result) o false ≡ true → o ≡ Some result
        by None h = absurd (false≢true h)
        by (Some id) h = ap (λ (x : TyId). Some x)
            (sym (same_ids setting number targets uniques base is_target passed result id h))

    rest : (passes items local_ty is_target last facts cells params args
        && (all_apart items local_ty is_target names && none_taken items local_ty is_target args names)) ≡ true
    rest = second (may_store items local_ty is_target known cells to.place && option_map_or (same_id result)
        (id_of items local_ty is_target to.place) false) _ test

    apart_names : all_apart items local_ty is_target names ≡ true
    apart_names = first (all_apart items local_ty is_target names) _
        (second (passes items local_ty is_target last facts cells params args) _ rest)

    stay : Each (Stay args) names
    stay = all_stay args names (second (all_apart items local_ty is_target names) _
        (second (passes items local_ty is_target last facts cells params args) _ rest))

    module _ (ds : List Datum) (v : State) (cells' : List (ℕ × Presence)) (q : R v cells' last)
        (m : Moves setting number targets uniques base is_target passed (moves_any args) r.known.held r.known.older
        cells
        v cells')
        (a : Args setting number targets uniques base is_target passed last cells (length r.known.older) m.now params
        names ds) where
      here : Args setting number targets uniques base is_target passed last cells (length q.known.older) q.known.held
          params names ds
      here =
          let same = known_held setting number targets uniques base is_target passed v cells' q.known m.now
          r.known.older
          m.is_there in
          subst (λ h. Args setting number targets uniques base is_target passed last cells (length q.known.older) h
          params
          names ds) (sym same.0)
          (subst (λ l. Args setting number targets uniques base is_target passed last cells l m.now params names ds)
          (sym (ap length same.1)) a)

      present : Each (λ (n : Naming). presence n.place.local cells' ≡ presence n.place.local cells) names
      present = present_each args names cells cells' m.present_same stay

      pub may_run : MayRun setting params ds v
      may_run = record {
        whole = are_whole setting number targets uniques base is_target passed v cells' last q cells params names ds
            here;
        stands = all_stand setting number targets uniques base is_target passed v cells' last q cells 1 params names ds
            here present;
        alone = all_alone setting number targets uniques base is_target passed v cells' last q cells 1 params names ds
            here apart_names;
      }

      pub left_known : (y : State) → Leaves setting (targets_of items 1 params ds) v y → R y cells' known
      left_known y l =
          let after = after_args setting number targets uniques base is_target passed v cells' last q cells 1 params
          names ds here l.news
          (news_of setting v (targets_of items 1 params ds) l.news may_run.alone may_run.stands
          (each_alike (written (uniques_of (targets_of items 1 params ds)) l.news v) y (targets_of items 1 params ds)
          (alike_back l.frame) l.stands) l.many) may_run.alone apart_names present in
          runs_alike setting number targets uniques base is_target passed
          (written (uniques_of (targets_of items 1 params ds)) l.news v) y cells' known after.now l.frame

      module _ (b : Bool) (never : b ≡ is_never (type_at items result)) where
        freely : Bool → List Bool → Out AbstractState
        freely n t = halting_if b Unreachable (free.panics_by_choice (feeding t cells')
            (if n then Halts Infeasible else free.store items local_ty to))

        lapses_so : (halt : Halt) (y : State) (g : List Bool → Out AbstractState) → MayEnd halt →
            FollowsOut (rels goal) tt (halting_if b Stuck (Halts halt y)) g
        lapses_so halt y g h = subst (λ o. FollowsOut (rels goal) tt o g) (sym (still_halts b Stuck halt y)) (by halt h)
          where
            by : (halt : Halt) → MayEnd halt → FollowsOut (rels goal) tt (Halts halt y) g
            by Aborted h = lapsed tt Aborted y g tt
            by OutOfTicks h = lapsed tt OutOfTicks y g tt
            by other h = absurd h

        answer_follows : (o : Answer) → LeftSo setting (targets_of items 1 params ds) result v o →
            FollowsOut (rels goal) tt (halting_if b Stuck (answered setting to o))
            (λ t. halting_if b Unreachable (returns_by_choice items local_ty to (feeding t cells')))
        answer_follows _ (returned value y l fit) =
            let some : is_never (type_at items result) ≡ false =
            never_fits setting number targets uniques base is_target passed result value fit in
            let free_never : free.never_at items local_ty to ≡ false =
            ap (λ o. is_never (option_and_then (type_at items) o)) is_at ∙ some in
            subst (λ c. FollowsOut (rels goal) tt (halting_if c Stuck (put setting to value y))
            (λ t. halting_if c Unreachable (returns_by_choice items local_ty to (feeding t cells'))))
            (sym (never ∙ some))
            (out_after (rels goal) (false ∷ []) _
            (λ rest. ap (λ n. (if n then Halts Infeasible else free.store items local_ty to) (feeding rest cells'))
            free_never)
            (puts setting number targets uniques base is_target passed run w cells facts r known to result is_at
            stores.sure stores.changes value y cells' fit (left_known y l)))
        answer_follows _ (unwound y l) =
            subst (λ o. FollowsOut (rels goal) tt o
            (λ t. halting_if b Unreachable (returns_by_choice items local_ty to (feeding t cells'))))
            (sym (still_unwinds b Stuck y))
            (unwinds tt y cells' (true ∷ []) _
            (runs_without setting number targets uniques base is_target passed to.place y cells' known (left_known y l))
            (λ rest. still_unwinds b Unreachable (feeding rest cells')))
        answer_follows _ (halted halt y h) = lapses_so halt y _ h

    pub call_follows : Answers →
        FollowsOut (rels goal) tt
        (halting_if (values.never_at setting w to) Stuck (values.with_operands setting args w
        (λ ds v. answered setting to (answer ds v))))
        (λ t. halting_if (free.never_at items local_ty to) Unreachable
        (operands_used items local_ty args (returns_by_choice items local_ty to) (feeding t cells)))
    call_follows answers =
        subst (λ o. FollowsOut (rels goal) tt o
        (λ t. halting_if (free.never_at items local_ty to) Unreachable
        (operands_used items local_ty args (returns_by_choice items local_ty to) (feeding t cells))))
        (sym (ap (λ b. halting_if b Stuck (values.with_operands setting args w
        (λ ds v. answered setting to (answer ds v))))
        (ap is_never (concrete_ty_is setting number targets uniques base is_target passed w cells facts r to
        ∙ ap (option_and_then (type_at items)) is_at))
        ∙ halting_stuck_list (is_never (type_at items result)) (evaluate_operands setting args w)
        (λ ds v. answered setting to (answer ds v)) w))
        (out_after (rels goal) [] _
        (λ rest. ap (λ b. halting_if b Unreachable
        (operands_used items local_ty args (returns_by_choice items local_ty to) (feeding rest cells)))
        (ap (λ o. is_never (option_and_then (type_at items) o)) is_at)
        ∙ halting_list (is_never (type_at items result)) Unreachable args (returns_by_choice items local_ty to)
        (feeding rest cells))
        (args_follow setting number targets uniques base is_target passed goal last cells args params facts w w cells
        (λ ds v. halting_if (is_never (type_at items result)) Stuck (answered setting to (answer ds v)))
        (λ u. halting_if (is_never (type_at items result)) Unreachable (returns_by_choice items local_ty to u))
        (first (passes items local_ty is_target last facts cells params args) _ rest) stay r
        (λ ds v cells' q m a. answer_follows ds v cells' q m a (is_never (type_at items result)) refl (answer ds v)
        (answers ds v (may_run ds v cells' q m a)))))
