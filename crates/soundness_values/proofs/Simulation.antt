-- All effects of a run on values follow those of a checked free run, by the contract of bodies; whatever else is said
-- of the states may be added.
use Rattle.std.proofs.Common.{◌≡◌, ℕ, ◌<◌, ◌==◌, ◌&&◌, ◌||◌, not, Bool, true, false, List, ◌++◌, Option, Some, None, refl, ap, sym, ◌∙◌, subst}
use Rattle.std.specs.Prelude.{slice_get, option_and_then}
use Rattle.std.specs.Option.{option_map_or}
use Rattle.std.proofs.lemmas.Bool.{false≢true}
use Rattle.std.proofs.Math.Path.{fun_ext}
use Rattle.mir_base.specs.declared.trace.Event.{Event}
use Rattle.mir_ty.specs.declared.def.Sig.{Sig}
use Rattle.mir_ty.specs.declared.ty.TyId.{TyId}
use Rattle.mir_ty.specs.ItemTable.{ItemTable, type_at}
use Rattle.store_model.proofs.Effects.Following.{Relation}
use Rattle.store_model.specs.declared.address.Addr.{Addr}
use Rattle.store_model.specs.Values.Datum.{Datum}
use Rattle.store_model.specs.Effects as effects
use Rattle.store_model.specs.Effects.{EffectSite, Operand, Action, Test, Mode, Halt, OutOfTicks, Stuck, Out, Go, Unwind, Halts, Choice, Yes, No, Neither, Effects}
use Rattle.store_model.specs.Abstract.Effects as free
use Rattle.store_model.specs.Abstract.Effects.{AbstractState, abstract_effects}
use Rattle.store_model.specs.Abstract.Presence.{Presence}
use Rattle.store_model.specs.Places.Place.{Place, whole_local, is_reference}
use Rattle.store_model.specs.Places.TypeForms.{same_id, referent}
use Rattle.store_model.specs.Concrete.Effects as values
use Rattle.store_model.specs.Concrete.Effects.{act, answered, virtual_body}
use Rattle.store_model.specs.Concrete.Location.{Setting}
use Rattle.store_model.specs.Concrete.State.{State, Bodies, HaltsIn}
use Rattle.soundness_values.proofs.Doing.{FollowsOut, FollowsChoice}
use Rattle.soundness_values.proofs.Checked.{Checking, Checks, with_facts, chosen_with, checked_effects}
use Rattle.soundness_values.proofs.Facts.{Facts, takes_index, same_place, without}
use Rattle.soundness_values.proofs.Dropped.{feeding}
use Rattle.soundness_values.proofs.Known.{Target}
use Rattle.soundness_values.proofs.LadderEnds.{DropsKeep, MayEnd}
use Rattle.soundness_values.proofs.Running.{sure_place, Passed, Runs, same_place_is}
use Rattle.soundness_values.proofs.Checks.{id_of, ty_of, needs, is_none, no_steps, unless_refilled, refills, refilled_if, head_of, acts_well, may_act, after_operand, named_by_all, after_action, after_unwound, may_choose, after_taken, after_declined, may_drop, after_drop, may_give, calls_well, with_naming, with_bounded, with_variant, takes_well, is_normal, is_value, may_change}
use Rattle.soundness_values.proofs.Taking.{first, second, not_so, MayLapse, rel}
use Rattle.soundness_values.proofs.Actions.{put_acts, not_acts, compare_acts, box_acts, print_acts, forget_acts, touch_acts}
use Rattle.soundness_values.proofs.Numbers.{compute_acts, negate_acts, ask_acts}
use Rattle.soundness_values.proofs.Borrowing.{borrow_acts, reference_is}
use Rattle.soundness_values.proofs.Building.{build_acts}
use Rattle.soundness_values.proofs.Coercing.{unsize_acts}
use Rattle.soundness_values.proofs.Choosing.{truth_chosen}
use Rattle.soundness_values.proofs.Relating.{Kept, checked_rel, checked_out, checked_choice}
use Rattle.soundness_values.proofs.Testing.{whole_place, variant_chosen, bounds_acts, bounds_known}
use Rattle.soundness_values.proofs.Emptied.{Hole}
use Rattle.soundness_values.proofs.Refilling.{runs_refilled, refill_acts}
use Rattle.soundness_values.proofs.Dropping.{nothing_kept, entry_drops, assigned_drops}
use Rattle.soundness_values.proofs.Contracts.{targets_of, MayRun, LeftSo}
use Rattle.soundness_values.proofs.Calling.{call_follows}
use Rattle.soundness_values.proofs.NoneEmptied.{operand_none, operands_none, namings_none}

-- the checks, by the types of the locals
abbrev pub checks_by : ItemTable → (ℕ → Option TyId) → (ℕ → Bool) → Checks Facts
checks_by items local_ty is_target = record {
  act_ok = λ action v facts. may_act items local_ty is_target facts v.cells action;
  act_facts = λ action v facts. after_action items local_ty is_target action facts;
  unwound_facts = λ action v facts. after_unwound items local_ty is_target action facts;
  test_ok = λ test v facts. may_choose items local_ty is_target facts test;
  taken_facts = λ test v facts. after_taken items local_ty is_target test facts;
  declined_facts = λ test v facts. after_declined items local_ty is_target test facts;
  drop_ok = λ mode site v facts. may_drop items local_ty is_target mode facts site.place;
  drop_facts = λ mode site v facts. after_drop items local_ty is_target site.place facts;
  give_ok = λ site v facts. may_give items local_ty is_target facts v.cells site.place;
}

module _ (setting : Setting) (number : ℕ) (targets : List Target) (uniques : List Addr) (base : State)
    (is_target : ℕ → Bool) (passed : Passed setting number targets uniques base is_target) where
  abbrev items : ItemTable
  items = setting.items

  abbrev local_ty : ℕ → Option TyId
  local_ty key = setting.local_ty number key

  abbrev R : State → List (ℕ × Presence) → Facts → Type 0
  R = Runs setting number targets uniques base is_target

  abbrev rels : Facts → Relation State AbstractState
  rels = rel setting number targets uniques base is_target passed

  -- what is said of a state: it is known, or it is but for a place that is to be filled
  pub data Related (w : State) (k : Kept) : Type 0 where
    as_known : k.1.refilled ≡ None → R w k.0 k.1 → Related w k
    as_emptied : (hole : Place) → k.1.refilled ≡ Some hole →
        Hole setting number targets uniques base is_target passed w k.0 k.1 hole → Related w k

  module _ (run : Bodies) (said : State → Kept → Type 0) (halted : State → Type 0) where
    abbrev pub rel_of : Relation State (Checking Facts)
    rel_of = checked_rel said halted

    abbrev pub checked : Effects (Checking Facts)
    checked = checked_effects (checks_by items local_ty is_target) (abstract_effects items local_ty)

    -- what is added where an effect goes on, panics or ends
    abbrev pub Going : Out State → (List Bool → Out AbstractState) → Facts → Type 0
    Going o g went = (l : List Bool) (v : State) (c : List (ℕ × Presence)) → o ≡ Go v →
        ((rest : List Bool) → g (l ++ rest) ≡ Go (feeding rest c)) → Related v (c, went) → said v (c, went)

    abbrev pub Winding : Out State → (List Bool → Out AbstractState) → Facts → Type 0
    Winding o g unwound = (l : List Bool) (v : State) (c : List (ℕ × Presence)) → o ≡ Unwind v →
        ((rest : List Bool) → g (l ++ rest) ≡ Unwind (feeding rest c)) → Related v (c, unwound) → said v (c, unwound)

    abbrev pub Ending : Out State → Type 0
    Ending o = (halt : Halt) (v : State) → o ≡ Halts halt v → MayLapse halt v → halted v

    -- of an effect after which these facts are known
    known_out : (goal facts : Facts) (o : Out State) (g : List Bool → Out AbstractState) → facts.refilled ≡ None →
        ((v : State) (c : List (ℕ × Presence)) → R v c goal → R v c facts) → Going o g facts → Winding o g facts →
        Ending o → FollowsOut (rels goal) tt o g → FollowsOut rel_of tt o (λ t. with_facts facts facts (g t))
    known_out goal facts o g none same went wound ended f =
        checked_out said halted setting number targets uniques base is_target passed goal facts facts o g
        (λ l v c e d r. went l v c e d (as_known none (same v c r)))
        (λ l v c e d r. wound l v c e d (as_known none (same v c r))) ended f

    module _ (plain_keeps : (n : ℕ) (sig : Sig) → slice_get items.bodies n ≡ Some sig → (ds : List Datum) (v : State) →
        MayRun setting sig.params ds v → LeftSo setting (targets_of items 1 sig.params ds) sig.result v
        (run (Event.Call n) n ds v))
        (virtual_keeps : (trait_no method : ℕ) (head : List TyId × TyId) → head_of items local_ty is_target trait_no
        method
        ≡ Some head → (ds : List Datum) (v : State) → MayRun setting head.0 ds v →
        LeftSo setting (targets_of items 1 head.0 ds) head.1 v
        (option_map_or (λ n. run (Event.Call n) n ds v) (virtual_body setting trait_no method v ds) (HaltsIn Stuck v)))
      where
        module _ (w : State) (cells : List (ℕ × Presence)) (facts : Facts) (none : facts.refilled ≡ None)
            (r : R w cells facts) where
          abbrev After : Action → Facts
          After action = after_action items local_ty is_target action facts

          abbrev Free : Action → List Bool → Out AbstractState
          Free action t = free.act items local_ty action (feeding t cells)

          abbrev Followed : Action → Type 0
          Followed action = Going (act setting run action w) (Free action) (After action) →
              Winding (act setting run action w) (Free action) (after_unwound items local_ty is_target action facts) →
              Ending (act setting run action w) → FollowsOut rel_of tt (act setting run action w)
              (λ t. with_facts (After action) (after_unwound items local_ty is_target action facts) (Free action t))

          some_of : {A : Type 0} (o : Option A) (t : A → Bool) → option_map_or t o false ≡ true →
              (a : A) × ((o ≡ Some a) × (t a ≡ true))
          some_of None t h = absurd (false≢true h)
          some_of (Some a) t h = (a, (refl, h))

          -- a reference is made in a local
          borrows : (to : EffectSite) (unique : Bool) (from : EffectSite) →
              acts_well items local_ty is_target facts cells (effects.Borrow to unique from) ≡ true →
              Followed (effects.Borrow to unique from)
          borrows to unique from h = at_place (whole_place to.place (first (no_steps to.place.steps) _
              (first (no_steps to.place.steps && not (is_target to.place.local)) _ h))) h
            where
              at_whole : (node local : ℕ) → acts_well items local_ty is_target facts cells
                  (effects.Borrow (record { node = node; place = whole_local local }) unique from) ≡ true →
                  Followed (effects.Borrow (record { node = node; place = whole_local local }) unique from)
              at_whole node local h went wound ended =
                  let rest = second (not (is_target local)) _ h in
                  let ids = some_of (id_of items local_ty is_target from.place)
                  (λ id. option_map_or (same_id id)
                  (referent unique (ty_of items local_ty is_target (whole_local local)))
                  false) (first (option_map_or (λ id. option_map_or (same_id id) (referent unique
                  (ty_of items local_ty is_target (whole_local local))) false)
                  (id_of items local_ty is_target from.place)
                  false) _ rest) in
                  let more = second (option_map_or (λ id. option_map_or (same_id id) (referent unique
                  (ty_of items local_ty is_target (whole_local local))) false)
                  (id_of items local_ty is_target from.place)
                  false) _ rest in
                  let apart = second (sure_place items local_ty is_target facts from.place) _ more in
                  let typed = typed_of (local_ty local)
                  (reference_is setting number targets uniques base is_target passed
                  unique (ty_of items local_ty is_target (whole_local local)) ids.0 ids.1.1) in
                  known_out (with_naming (record { local = local; unique = unique; place = from.place })
                  (without (whole_local local) facts))
                  (with_naming (record { local = local; unique = unique; place = from.place })
                  (without (whole_local local) facts)) _ _ none (λ v c q. q) went wound ended
                  (borrow_acts setting number targets uniques base is_target passed w cells facts r node local
                  (not_so (is_target local) (first (not (is_target local)) _ h)) typed.0 typed.1.0 typed.1.1 from unique
                  (not_so (from.place.local == local) (first (not (from.place.local == local)) _ apart))
                  (not_so _ (second (not (from.place.local == local)) _ apart)) run
                  (first (sure_place items local_ty is_target facts from.place) _ more))
                where
                  typed_of : (o : Option TyId) → is_reference (option_and_then (type_at items)
                      (option_and_then (λ (i : TyId). Some i) o)) ≡ true →
                      (id : TyId) × ((o ≡ Some id) × (is_reference (type_at items id) ≡ true))
                  typed_of None k = absurd (false≢true k)
                  typed_of (Some id) k = (id, (refl, k))

              at_place : to.place ≡ whole_local to.place.local → acts_well items local_ty is_target facts cells
                  (effects.Borrow to unique from) ≡ true → Followed (effects.Borrow to unique from)
              at_place e = subst (λ p. acts_well items local_ty is_target facts cells
                  (effects.Borrow (record { node = to.node; place = p }) unique from) ≡ true →
                  Followed (effects.Borrow (record { node = to.node; place = p }) unique from)) (sym e)
                  (at_whole to.node to.place.local)

          -- a bound is known where the number is below it
          bounds : (index : Operand) (count : ℕ) →
              acts_well items local_ty is_target facts cells (effects.Bounds index count) ≡ true →
              Followed (effects.Bounds index count)
          bounds (effects.Copied site) count h went wound ended =
              checked_out said halted setting number targets uniques base is_target passed facts
              (with_bounded site.place.local count facts) facts _ _
              (λ l v c e d q. went l v c e d (as_known none
              (bounds_known setting number targets uniques base is_target passed w cells facts r run site count h v c e
              q)))
              (λ l v c e d q. wound l v c e d (as_known none q)) ended
              (bounds_acts setting number targets uniques base is_target passed w cells facts r run site count h)
          bounds (effects.Moved site) count h went wound ended = absurd (false≢true h)
          bounds (effects.Number value kind) count h went wound ended = absurd (false≢true h)
          bounds (effects.Truth value) count h went wound ended = absurd (false≢true h)
          bounds effects.UnitValue count h went wound ended = absurd (false≢true h)

          calls : (to : EffectSite) (body : ℕ) (args : List Operand) →
              acts_well items local_ty is_target facts cells (effects.Call to body args) ≡ true →
              Followed (effects.Call to body args)
          calls to body args h went wound ended =
              let s = some_of (slice_get items.bodies body)
              (λ sig. calls_well items local_ty is_target facts cells to sig.params sig.result args) h in
              known_out _ (After (effects.Call to body args)) _ _
              (namings_none items local_ty is_target (named_by_all items local_ty is_target facts args) _
              (operands_none items local_ty is_target args facts none))
              (λ v c q. q) went wound ended
              (call_follows setting number targets uniques base is_target passed run w cells facts r to s.0.params
              s.0.result args s.1.1 (λ ds v. run (Event.Call body) body ds v) (plain_keeps body s.0 s.1.0))

          calls_virtual : (to : EffectSite) (trait_no method : ℕ) (args : List Operand) →
              acts_well items local_ty is_target facts cells (effects.CallVirtual to trait_no method args) ≡ true →
              Followed (effects.CallVirtual to trait_no method args)
          calls_virtual to trait_no method args h went wound ended =
              let s = some_of (head_of items local_ty is_target trait_no method)
              (λ (head : List TyId × TyId). calls_well items local_ty is_target facts cells to head.0 head.1 args) h in
              known_out _ (After (effects.CallVirtual to trait_no method args)) _ _
              (namings_none items local_ty is_target (named_by_all items local_ty is_target facts args) _
              (operands_none items local_ty is_target args facts none))
              (λ v c q. q) went wound ended
              (subst (λ (next : List Datum → State → Out State). FollowsOut
              (rels (After (effects.CallVirtual to trait_no
              method args))) tt (effects.halting_if (values.never_at setting w to) Stuck
              (values.with_operands setting args w next)) (Free (effects.CallVirtual to trait_no method args)))
              (fun_ext (λ ds. fun_ext (λ v. answer_is (virtual_body setting trait_no method v ds) ds v)))
              (call_follows setting number targets uniques base is_target passed run w cells facts r to s.0.0
              s.0.1 args s.1.1 (λ ds v. option_map_or (λ n. run (Event.Call n) n ds v)
              (virtual_body setting trait_no method v ds) (HaltsIn Stuck v)) (virtual_keeps trait_no method s.0 s.1.0)))
            where
              answer_is : (o : Option ℕ) (ds : List Datum) (v : State) →
                  answered setting to (option_map_or (λ n. run (Event.Call n) n ds v) o (HaltsIn Stuck v))
                  ≡ values.called setting run to o ds v
              answer_is None ds v = refl
              answer_is (Some n) ds v = refl

          acts_known : (action : Action) → acts_well items local_ty is_target facts cells action ≡ true → Followed
              action
          acts_known (effects.Put to from) h went wound ended = known_out _ (After (effects.Put to from)) _ _ refl
              (λ v c q. runs_refilled setting number targets uniques base is_target passed v c _ None q) went wound
              ended
              (put_acts setting number targets uniques base is_target passed run w cells facts r to from h)
          acts_known (effects.Compare to operator left right) h went wound ended =
              known_out _ (After (effects.Compare to operator left right)) _ _
              (operand_none items local_ty is_target right _
              (operand_none items local_ty is_target left facts none)) (λ v c q. q) went wound ended
              (compare_acts setting number targets uniques base is_target passed run w cells facts r to operator left
              right h)
          acts_known (effects.Not to operand) h went wound ended = known_out _ (After (effects.Not to operand)) _ _
              (operand_none items local_ty is_target operand facts none) (λ v c q. q) went wound ended
              (not_acts setting number targets uniques base is_target passed run w cells facts r to operand h)
          acts_known (effects.Build to kind parts) h went wound ended = known_out _
              (After (effects.Build to kind parts)) _ _
              (operands_none items local_ty is_target parts facts none) (λ v c q. q) went wound ended
              (build_acts setting number targets uniques base is_target passed run w cells facts r to kind parts h)
          acts_known (effects.NewBox to content) h went wound ended = known_out _ (After (effects.NewBox to content)) _
              _
              (operand_none items local_ty is_target content facts none) (λ v c q. q) went wound ended
              (box_acts setting number targets uniques base is_target passed run w cells facts r to content h)
          acts_known (effects.Unsize to trait_no operand) h went wound ended =
              known_out _ (After (effects.Unsize to trait_no operand)) _ _
              (operand_none items local_ty is_target operand facts none) (λ v c q. q) went wound ended
              (unsize_acts setting number targets uniques base is_target passed run w cells facts r to trait_no operand
              h)
          acts_known (effects.Borrow to unique from) h went wound ended = borrows to unique from h went wound ended
          acts_known (effects.Touch site) h went wound ended = known_out _ (After (effects.Touch site)) _ _ none
              (λ v c q. q) went wound ended
              (touch_acts setting number targets uniques base is_target passed run w cells facts r site h)
          acts_known (effects.Print operand) h went wound ended = known_out _ (After (effects.Print operand)) _ _
              (operand_none items local_ty is_target operand facts none) (λ v c q. q) went wound ended
              (print_acts setting number targets uniques base is_target passed run w cells facts r operand h)
          acts_known (effects.Forget operand) h went wound ended = known_out _ (After (effects.Forget operand)) _ _
              (operand_none items local_ty is_target operand facts none) (λ v c q. q) went wound ended
              (forget_acts setting number targets uniques base is_target passed run w cells facts r operand h)
          acts_known (effects.Free site) h went wound ended = absurd (false≢true h)
          acts_known (effects.Compute to operator left right) h went wound ended =
              known_out _ (After (effects.Compute to operator left right)) _ _
              (operand_none items local_ty is_target right _
              (operand_none items local_ty is_target left facts none)) (λ v c q. q) went wound ended
              (compute_acts setting number targets uniques base is_target passed run w cells facts r to operator left
              right h)
          acts_known (effects.Negate to operand) h went wound ended = known_out _ (After (effects.Negate to operand)) _
              _
              (operand_none items local_ty is_target operand facts none) (λ v c q. q) went wound ended
              (negate_acts setting number targets uniques base is_target passed run w cells facts r to operand h)
          acts_known (effects.Bounds index count) h went wound ended = bounds index count h went wound ended
          acts_known (effects.Call to body args) h went wound ended = calls to body args h went wound ended
          acts_known (effects.CallVirtual to trait_no method args) h went wound ended =
              calls_virtual to trait_no method args h went wound ended
          acts_known (effects.Ask to) h went wound ended = known_out _ (After (effects.Ask to)) _ _ none
              (λ v c q. q) went wound ended
              (ask_acts setting number targets uniques base is_target passed run w cells facts r to h)

        -- ---- each effect, with what is added

        abbrev Freely : Kept → Action → List Bool → Out AbstractState
        Freely k action t = free.act items local_ty action (feeding t k.0)

        abbrev pub FollowsAct : Action → State → Kept → Type 0
        FollowsAct action w k =
            Going (act setting run action w) (Freely k action) (after_action items local_ty is_target action k.1) →
            Winding (act setting run action w) (Freely k action) (after_unwound items local_ty is_target action k.1) →
            Ending (act setting run action w) →
            FollowsOut rel_of tt (act setting run action w)
            (λ t. with_facts (after_action items local_ty is_target action k.1)
            (after_unwound items local_ty is_target action k.1) (Freely k action t))

        first_place : (to site : EffectSite) (facts : Facts) (hole : Place) →
            refills items local_ty is_target facts hole (effects.Put to (effects.Moved site)) ≡ true → to.place ≡ hole
        first_place to site facts hole h =
            same_place_is setting number targets uniques base is_target to.place hole
            (first (same_place to.place hole) (not (site.place.local == hole.local))
            (first (same_place to.place hole && not (site.place.local == hole.local)) _
            (first ((same_place to.place hole && not (site.place.local == hole.local))
            && (not (takes_index site.place.local hole.steps) && not (takes_index hole.local hole.steps))) _ h)))

        -- a place that is to be filled is
        acts_emptied : (action : Action) (w : State) (k : Kept) (hole : Place) →
            Hole setting number targets uniques base is_target passed w k.0 k.1 hole →
            refills items local_ty is_target k.1 hole action ≡ true → FollowsAct action w k
        acts_emptied (effects.Put to (effects.Moved site)) w k hole h test went wound ended =
            known_out (record (without hole (without site.place k.1)) { refilled = None })
            (record (without to.place (without site.place k.1)) { refilled = None }) _ _ refl
            (λ v c q. subst (λ p. R v c (record (without p (without site.place k.1)) { refilled = None }))
            (sym (first_place to site k.1 hole test)) q) went wound ended
            (refill_acts setting number targets uniques base is_target passed w k.0 k.1 hole h run to site test)
        acts_emptied other w k hole h test went wound ended = absurd (false≢true test)

        pub act_follows : (action : Action) (w : State) (k : Kept) → Related w k →
            may_act items local_ty is_target k.1 k.0 action ≡ true → FollowsAct action w k
        act_follows action w k (as_known none r) h = acts_known w k.0 k.1 none r action
            (sym (ap (λ o. unless_refilled o (acts_well items local_ty is_target k.1 k.0 action)
            (λ hole. refills items local_ty is_target k.1 hole action)) none) ∙ h)
        act_follows action w k (as_emptied hole e hd) h = acts_emptied action w k hole hd
            (sym (ap (λ o. unless_refilled o (acts_well items local_ty is_target k.1 k.0 action)
            (λ hole. refills items local_ty is_target k.1 hole action)) e) ∙ h)

        -- where nothing is to be filled
        pub known_if : (w : State) (k : Kept) → Related w k → is_none k.1.refilled ≡ true →
            (k.1.refilled ≡ None) × R w k.0 k.1
        known_if w k (as_known none r) h = (none, r)
        known_if w k (as_emptied hole e hd) h = absurd (false≢true (sym (ap is_none e) ∙ h))

        -- ---- conditions

        abbrev Chosen : Kept → Test → List Bool → Choice AbstractState
        Chosen k test t = free.choose items local_ty test (feeding t k.0)

        abbrev pub Taking : Choice State → (List Bool → Choice AbstractState) → Facts → Type 0
        Taking o g taken = (l : List Bool) (v : State) (c : List (ℕ × Presence)) → o ≡ Yes v →
            ((rest : List Bool) → g (l ++ rest) ≡ Yes (feeding rest c)) → Related v (c, taken) → said v (c, taken)

        abbrev pub Declining : Choice State → (List Bool → Choice AbstractState) → Facts → Type 0
        Declining o g declined = (l : List Bool) (v : State) (c : List (ℕ × Presence)) → o ≡ No v →
            ((rest : List Bool) → g (l ++ rest) ≡ No (feeding rest c)) → Related v (c, declined) → said v (c, declined)

        pub choice_follows : (test : Test) (w : State) (k : Kept) → Related w k →
            may_choose items local_ty is_target k.1 test ≡ true →
            Taking (values.choose setting test w) (Chosen k test) (after_taken items local_ty is_target test k.1) →
            Declining (values.choose setting test w) (Chosen k test) (after_declined items local_ty is_target test k.1)
            →
            ((halt : Halt) (v : State) → values.choose setting test w ≡ Neither halt v → MayLapse halt v → halted v) →
            ((c : Kept) → Related w c → said w c) →
            FollowsChoice rel_of tt (values.choose setting test w)
            (λ t. chosen_with (after_taken items local_ty is_target test k.1)
            (after_declined items local_ty is_target test k.1) (Chosen k test t))
        choice_follows (effects.IsTrue operand) w k s h went declined ended unchanged =
            let known = known_if w k s (first (is_none k.1.refilled) _ h) in
            let rest = second (is_none k.1.refilled) _ h in
            checked_choice said halted setting number targets uniques base is_target passed
            (after_operand items local_ty is_target operand k.1) _ _ _ _
            (λ l v c e d r. went l v c e d
            (as_known (operand_none items local_ty is_target operand k.1 known.0) r))
            (λ l v c e d r. declined l v c e d
            (as_known (operand_none items local_ty is_target operand k.1 known.0) r)) ended
            (truth_chosen setting number targets uniques base is_target passed w k.0 k.1 known.1 operand
            (first (takes_well items local_ty is_target k.1 operand) _ rest)
            (second (takes_well items local_ty is_target k.1 operand) _ rest))
        choice_follows (effects.HasVariant site variant) w k s h went declined ended unchanged =
            let known = known_if w k s (first (is_none k.1.refilled) _ h) in
            let rest = second (is_none k.1.refilled) _ h in
            variant_chosen setting number targets uniques base is_target passed w k.0 k.1 known.1 said halted site
            variant
            (with_variant site.place variant k.1) k.1
            (first (sure_place items local_ty is_target k.1 site.place) _ rest)
            (second (sure_place items local_ty is_target k.1 site.place) _ rest)
            (λ r. unchanged _ (as_known known.0 r)) (λ r. unchanged _ (as_known known.0 r))

        -- ---- drops

        module _ (size : ℕ → ℕ) (sized : (body key : ℕ) (id : TyId) → setting.local_ty body key ≡ Some id →
            key < size body) (loose : setting.strict ≡ false)
            (drops_keep : DropsKeep setting size sized (nothing_kept setting size) run) (fuel : ℕ) where
          abbrev Fall : Mode → EffectSite → State → Out State
          Fall mode site w = values.drop setting run fuel mode site w

          pub drop_follows : (mode : Mode) (site : EffectSite) (w : State) (k : Kept) → Related w k →
              may_drop items local_ty is_target mode k.1 site.place ≡ true →
              ((v : State) (c : List (ℕ × Presence)) → Fall mode site w ≡ Go v →
              Related v (c, after_drop items local_ty is_target site.place k.1) →
              said v (c, after_drop items local_ty is_target site.place k.1)) →
              ((v : State) (c : List (ℕ × Presence)) → Fall mode site w ≡ Unwind v →
              Related v (c, after_drop items local_ty is_target site.place k.1) →
              said v (c, after_drop items local_ty is_target site.place k.1)) →
              ((halt : Halt) (v : State) → Fall mode site w ≡ Halts halt v → MayLapse halt v → halted v) →
              FollowsOut rel_of tt (Fall mode site w)
              (λ t. with_facts (after_drop items local_ty is_target site.place k.1)
              (after_drop items local_ty is_target site.place k.1)
              (free.drop items local_ty mode site (feeding t k.0)))
          drop_follows mode site w k s h went wound ended = by (no_steps site.place.steps) refl
            where
              known : (k.1.refilled ≡ None) × R w k.0 k.1
              known = known_if w k s (first (is_none k.1.refilled) _ h)

              sure : sure_place items local_ty is_target k.1 site.place ≡ true
              sure = first (sure_place items local_ty is_target k.1 site.place) _ (second (is_none k.1.refilled) _ h)

              kind : (no_steps site.place.steps ||
                  (is_normal items local_ty is_target mode && ((is_value items local_ty is_target site.place
                  && may_change items local_ty is_target site.place) && needs items local_ty is_target site.place))) ≡
                  true
              kind = second (sure_place items local_ty is_target k.1 site.place) _ (second (is_none k.1.refilled) _ h)

              entry : site.place ≡ whole_local site.place.local →
                  FollowsOut (rels (without site.place k.1)) tt (Fall mode site w)
                  (λ t. free.drop items local_ty mode site (feeding t k.0))
              entry e = subst (λ p. sure_place items local_ty is_target k.1 p ≡ true → FollowsOut (rels (without p k.1))
                  tt
                  (Fall mode (record { node = site.node; place = p }) w)
                  (λ t. free.drop items local_ty mode (record { node = site.node; place = p }) (feeding t k.0))) (sym e)
                  (λ z. entry_drops setting number targets uniques base is_target passed size sized loose run drops_keep
                  fuel mode w k.0 k.1 known.1 site.node site.place.local z) sure

              or_second : (a b : Bool) → (a || b) ≡ true → a ≡ false → b ≡ true
              or_second true b x y = absurd (false≢true (sym y))
              or_second false b x y = x

              facts_are : (b : Bool) → no_steps site.place.steps ≡ b →
                  after_drop items local_ty is_target site.place k.1
                  ≡ refilled_if b site.place (without site.place k.1)
              facts_are b e = ap (λ x. refilled_if x site.place (without site.place k.1)) e

              by : (b : Bool) → no_steps site.place.steps ≡ b →
                  FollowsOut rel_of tt (Fall mode site w)
                  (λ t. with_facts (after_drop items local_ty is_target site.place k.1)
                  (after_drop items local_ty is_target site.place k.1)
                  (free.drop items local_ty mode site (feeding t k.0)))
              by true e = known_out (without site.place k.1) (after_drop items local_ty is_target site.place k.1) _ _
                  (ap (λ (f : Facts). f.refilled) (facts_are true e) ∙ known.0)
                  (λ v c q. subst (R v c) (sym (facts_are true e)) q)
                  (λ l v c z d q. went v c z q) (λ l v c z d q. wound v c z q) ended
                  (entry (whole_place site.place e))
              by false e =
                  let more = or_second (no_steps site.place.steps) _ kind e in
                  let value = second (is_normal items local_ty is_target mode) _ more in
                  subst (λ f. ((v : State) (c : List (ℕ × Presence)) → Fall mode site w ≡ Go v → Related v (c, f) →
                  said v (c, f)) → ((v : State) (c : List (ℕ × Presence)) → Fall mode site w ≡ Unwind v → Related v
                  (c, f) →
                  said v (c, f)) → FollowsOut rel_of tt (Fall mode site w)
                  (λ t. with_facts f f (free.drop items local_ty mode site (feeding t k.0)))) (sym (facts_are false e))
                  (λ went wound. assigned_drops setting number targets uniques base is_target passed size sized loose
                  run
                  drops_keep fuel mode w k.0 k.1 known.1 said halted site sure
                  (second (is_value items local_ty is_target site.place && may_change items local_ty is_target
                  site.place) _
                  value)
                  (λ v z q. went v _ z (as_emptied site.place refl q))
                  (λ v z q. wound v _ z (as_emptied site.place refl q))
                  (λ halt v z m. ended halt v z (lapses halt v m))) went wound
                where
                  lapses : (halt : Halt) (v : State) → MayEnd halt → MayLapse halt v
                  lapses effects.Aborted v m = tt
                  lapses effects.OutOfTicks v m = tt
                  lapses other v m = m
