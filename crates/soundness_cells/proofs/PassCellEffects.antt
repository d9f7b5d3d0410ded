-- The effects of a marked run, where the first test holds: it ends in no other way than a free run may, or by another
-- mark; and where an action goes on, nothing of type `!` was stored.
use Rattle.std.proofs.Common.{◌≡◌, ℕ, Bool, true, false, List, [], ◌∷◌, Option, Some, None, if◌then◌else◌, refl, sym, arith}
use Rattle.std.specs.Option.{option_map_or}
use Rattle.std.proofs.lemmas.Bool.{false≢true}
use Rattle.mir_base.specs.declared.operator.Cmp.{Cmp}
use Rattle.mir_ty.specs.declared.ty.TyId.{TyId}
use Rattle.mir_ty.specs.Facts.{needs_drop}
use Rattle.mir_ty.specs.ItemTable.{ItemTable}
use Rattle.store_model.specs.Abstract.Effects as free
use Rattle.store_model.specs.Abstract.Effects.{AbstractState, abstract_effects, when, operand_used, operands_used, store, panics_by_choice, returns_by_choice, computed_by_choice, choice_after, chosen_next, acted_on, watched_at, may_use, may_store, may_test, unless_never, never_at, presence_of}
use Rattle.store_model.specs.Effects as effects
use Rattle.store_model.specs.Effects.{EffectSite, Operand, Action, Test, Mode, Normal, Unwinding, Halt, Stuck, StuckAt, BadUse, BadStore, Infeasible, Unreachable, Out, Go, Unwind, Halts, Choice, Yes, No, Neither, Effects, on_go, halting_if, stores_where, stored_by}
use Rattle.typed_tree.specs.Tree.{BodyTree}
use Rattle.src_meaning.specs.Locals.Effects.{at_locals, site_at, operand_at, action_at, test_at}
use Rattle.src_meaning.specs.Locals.OfBody.{local_of, local_ty}
use Rattle.soundness_values.proofs.Checked.{Checking, with_facts, chosen_with}
use Rattle.soundness_values.proofs.CheckedBodies.{checks_of, is_reference_param}
use Rattle.soundness_values.proofs.Facts.{Facts}
use Rattle.soundness_values.proofs.Leaving.{ShownOut}
use Rattle.soundness_cells.proofs.PassCellTests.{cells_act, cells_test, cells_drop, mark_of, cell_marks}
use Rattle.soundness_cells.proofs.PassMarks.{marked, chosen_marked, marked_effects}
use Rattle.soundness_cells.proofs.PassWell.{MadeBy, Chosen, DoesWell}

-- a free run never misses a step
abbrev pub NotStuck : Halt → Type 0
NotStuck Stuck = ⊥
NotStuck (StuckAt body block) = ⊥
NotStuck halt = Unit {0}

-- nor does a marked run, and it does not end by the first mark
abbrev pub NotFirst : Halt → Type 0
NotFirst Stuck = ⊥
NotFirst (StuckAt mark block) = mark ≡ 1 → ⊥
NotFirst halt = Unit {0}

abbrev pub may_end : {V : Type 0} → Halt → V → Type 0
may_end halt v = NotFirst halt

pub not_first : (halt : Halt) → NotStuck halt → NotFirst halt
not_first Stuck h = absurd h
not_first (StuckAt body block) h = absurd h
not_first other h = tt

module _ (items : ItemTable) (local_ty : ℕ → Option TyId) where
  -- a free effect, which panics only where that is so
  abbrev pub Quiet : Type 0 → Out AbstractState → Type 0
  Quiet panics (Go w) = Unit {0}
  Quiet panics (Unwind w) = panics
  Quiet panics (Halts halt w) = NotStuck halt

  quiet_when : (panics : Type 0) (b : Bool) (halt : Halt) (next : AbstractState → Out AbstractState)
      (w : AbstractState) →
      NotStuck halt → Quiet panics (next w) → Quiet panics (when b halt next w)
  quiet_when panics true halt next w n h = h
  quiet_when panics false halt next w n h = n

  quiet_go : (panics : Type 0) (o : Out AbstractState) (next : AbstractState → Out AbstractState) → Quiet panics o →
      ((w : AbstractState) → Quiet panics (next w)) → Quiet panics (on_go o next)
  quiet_go panics (Go w) next h f = f w
  quiet_go panics (Unwind w) next h f = h
  quiet_go panics (Halts halt w) next h f = h

  never_ends : (panics : Type 0) (b : Bool) (w : AbstractState) → Quiet panics (unless_never items local_ty b w)
  never_ends panics true w = tt
  never_ends panics false w = tt

  operand_quiet : (panics : Type 0) (operand : Operand) (w : AbstractState) →
      Quiet panics (operand_used items local_ty operand w)
  operand_quiet panics (effects.Copied site) w = quiet_when panics
      (may_use (watched_at items local_ty site) (presence_of items local_ty site w)) (BadUse site)
      (unless_never items local_ty (never_at items local_ty site)) w tt
      (never_ends panics (never_at items local_ty site) w)
  operand_quiet panics (effects.Moved site) w = quiet_when panics
      (may_use (watched_at items local_ty site) (presence_of items local_ty site w)) (BadUse site)
      (λ w. Go (free.after items local_ty true site w)) w tt tt
  operand_quiet panics (effects.Number value kind) w = tt
  operand_quiet panics (effects.Truth value) w = tt
  operand_quiet panics effects.UnitValue w = tt

  operands_quiet : (panics : Type 0) (operands : List Operand) (next : AbstractState → Out AbstractState) →
      ((w : AbstractState) → Quiet panics (next w)) → (w : AbstractState) →
      Quiet panics (operands_used items local_ty operands next w)
  operands_quiet panics [] next f w = f w
  operands_quiet panics (operand ∷ operands) next f w = quiet_go panics (operand_used items local_ty operand w)
      (operands_used items local_ty operands next) (operand_quiet panics operand w)
      (λ v. operands_quiet panics operands next f v)

  store_quiet : (panics : Type 0) (to : EffectSite) (w : AbstractState) → Quiet panics (store items local_ty to w)
  store_quiet panics to w = quiet_when panics
      (may_store (watched_at items local_ty to) (presence_of items local_ty to w)) (BadStore to)
      (λ w. Go (free.after items local_ty false to w)) w tt tt

  choice_quiet : (next : AbstractState → Out AbstractState) → ((w : AbstractState) → Quiet (Unit {0}) (next w)) →
      (w : AbstractState) → Quiet (Unit {0}) (panics_by_choice w next)
  choice_quiet next f w = by w.choices
    where
      by : (list : List Bool) → Quiet (Unit {0}) (free.next_choice list w next Unwind)
      by [] = tt
      by (false ∷ rest) = f (record w { choices = rest })
      by (true ∷ rest) = tt

  returned_quiet : (to : EffectSite) (w : AbstractState) → Quiet (Unit {0}) (returns_by_choice items local_ty to w)
  returned_quiet to w = choice_quiet _ (by (never_at items local_ty to)) w
    where
      by : (b : Bool) (v : AbstractState) →
          Quiet (Unit {0}) ((if b then Halts Infeasible else store items local_ty to) v)
      by true v = tt
      by false v = store_quiet (Unit {0}) to v

  computed_quiet : (to : EffectSite) (w : AbstractState) → Quiet (Unit {0}) (computed_by_choice items local_ty to w)
  computed_quiet to w = choice_quiet (store items local_ty to) (λ v. store_quiet (Unit {0}) to v) w

  pub acted_quiet : (action : Action) (w : AbstractState) → Quiet (Unit {0}) (acted_on items local_ty action w)
  acted_quiet (effects.Put to from) w = operands_quiet (Unit {0}) (from ∷ []) _ (λ v. store_quiet (Unit {0}) to v) w
  acted_quiet (effects.Compare to operator left right) w =
      operands_quiet (Unit {0}) (left ∷ right ∷ []) _ (λ v. store_quiet (Unit {0}) to v) w
  acted_quiet (effects.Not to operand) w =
      operands_quiet (Unit {0}) (operand ∷ []) _ (λ v. store_quiet (Unit {0}) to v) w
  acted_quiet (effects.Build to kind parts) w = operands_quiet (Unit {0}) parts _ (λ v. store_quiet (Unit {0}) to v) w
  acted_quiet (effects.NewBox to content) w =
      operands_quiet (Unit {0}) (content ∷ []) _ (λ v. store_quiet (Unit {0}) to v) w
  acted_quiet (effects.Unsize to trait_no operand) w =
      operands_quiet (Unit {0}) (operand ∷ []) _ (λ v. store_quiet (Unit {0}) to v) w
  acted_quiet (effects.Borrow to unique base) w = quiet_when (Unit {0})
      (may_use (watched_at items local_ty base) (presence_of items local_ty base w)) (BadUse base)
      (store items local_ty to) w tt (store_quiet (Unit {0}) to w)
  acted_quiet (effects.Touch base) w = quiet_when (Unit {0})
      (may_use (watched_at items local_ty base) (presence_of items local_ty base w)) (BadUse base) Go w tt tt
  acted_quiet (effects.Print operand) w = operands_quiet (Unit {0}) (operand ∷ []) Go (λ v. tt) w
  acted_quiet (effects.Forget operand) w = operands_quiet (Unit {0}) (operand ∷ []) Go (λ v. tt) w
  acted_quiet (effects.Free box) w = tt
  acted_quiet (effects.Compute to operator left right) w =
      operands_quiet (Unit {0}) (left ∷ right ∷ []) _ (λ v. computed_quiet to v) w
  acted_quiet (effects.Negate to operand) w = operands_quiet (Unit {0}) (operand ∷ []) _ (λ v. computed_quiet to v) w
  acted_quiet (effects.Bounds index length) w =
      operands_quiet (Unit {0}) (index ∷ []) _ (λ v. choice_quiet Go (λ u. tt) v) w
  acted_quiet (effects.Call to body args) w = operands_quiet (Unit {0}) args _ (λ v. returned_quiet to v) w
  acted_quiet (effects.CallVirtual to trait_no method args) w =
      operands_quiet (Unit {0}) args _ (λ v. returned_quiet to v) w
  acted_quiet (effects.Ask to) w = computed_quiet to w

  pub compare_quiet : (to : EffectSite) (operator : Cmp) (left right : Operand) (w : AbstractState) →
      Quiet ⊥ (acted_on items local_ty (effects.Compare to operator left right) w)
  compare_quiet to operator left right w = operands_quiet ⊥ (left ∷ right ∷ []) _ (λ v. store_quiet ⊥ to v) w

  abbrev pub ChosenSo : Choice AbstractState → Type 0
  ChosenSo (Yes w) = Unit {0}
  ChosenSo (No w) = Unit {0}
  ChosenSo (Neither halt w) = NotStuck halt

  after_quiet : (o : Out AbstractState) → Quiet (Unit {0}) o → ChosenSo (choice_after o)
  after_quiet (Go w) h = by w.choices
    where
      by : (list : List Bool) → ChosenSo (chosen_next list w)
      by [] = tt
      by (false ∷ rest) = tt
      by (true ∷ rest) = tt
  after_quiet (Unwind w) h = tt
  after_quiet (Halts halt w) h = h

  pub test_quiet : (test : Test) (w : AbstractState) → ChosenSo (free.choose items local_ty test w)
  test_quiet (effects.IsTrue operand) w =
      after_quiet (operand_used items local_ty operand w) (operand_quiet (Unit {0}) operand w)
  test_quiet (effects.HasVariant site variant) w = after_quiet
      (when (may_test (watched_at items local_ty site) (presence_of items local_ty site w)) (BadUse site) Go w)
      (quiet_when (Unit {0}) (may_test (watched_at items local_ty site) (presence_of items local_ty site w))
      (BadUse site)
      Go w tt tt)

  pub drop_quiet : (mode : Mode) (site : EffectSite) (w : AbstractState) →
      Quiet (Unit {0}) (free.drop items local_ty mode site w)
  drop_quiet mode site w = quiet_when (Unit {0})
      (may_store (watched_at items local_ty site) (presence_of items local_ty site w)) (BadStore site)
      (free.dropped items local_ty (needed site) mode site) w tt (by (needed site))
    where
      needed : EffectSite → Bool
      needed site = option_map_or (needs_drop items) (free.ty_at items local_ty site) false

      chosen_ : (mode : Mode) (list : List Bool) → Quiet (Unit {0})
          (free.next_choice list w (λ w. Go (free.after items local_ty true site w))
          (λ w. free.unwound items local_ty mode (free.after items local_ty true site w)))
      chosen_ mode [] = tt
      chosen_ mode (false ∷ rest) = tt
      chosen_ Normal (true ∷ rest) = tt
      chosen_ Unwinding (true ∷ rest) = tt

      by : (b : Bool) → Quiet (Unit {0}) (free.dropped items local_ty b mode site w)
      by true = chosen_ mode w.choices
      by false = tt

-- where an action that is made at locals goes on, what it stores is of no type `!`
stored_at : (local_of : ℕ → ℕ) (test : EffectSite → Bool) (action : Action) →
    stores_where test (action_at local_of action) ≡
    option_map_or (λ site. test (site_at local_of site)) (stored_by action) false
stored_at local_of test (effects.Put to from) = refl
stored_at local_of test other = refl

module _ (items : ItemTable) (body : BodyTree) where
  abbrev pub local : ℕ → ℕ
  local = local_of items body

  abbrev pub marked_run : Effects (Checking Facts)
  marked_run = at_locals local
      (marked_effects (checks_of items body) (cell_marks items body) (abstract_effects items (local_ty items body)))

  abbrev pub Acts : Action → Type 0
  Acts action = cells_act items (local_ty items body) (is_reference_param items body) (action_at local action) ≡ true

  abbrev pub Tests : Test → Type 0
  Tests test = cells_test items (local_ty items body) (is_reference_param items body) (test_at local test) ≡ true

  abbrev pub Drops : Mode → EffectSite → Type 0
  Drops mode site =
      cells_drop items (local_ty items body) (is_reference_param items body) mode (site_at local site).place ≡ true

  -- what is stored is of no type `!`
  abbrev pub Made : EffectSite → Type 0
  Made site = never_at items (local_ty items body) (site_at local site) ≡ false

  pub other_mark : NotFirst (StuckAt 2 0)
  other_mark e = let same : 2 ≡ 1 = e in omega (same, arith)

  -- where the test holds, an effect is one of a free run, or it ends by another mark
  pub either_mark : (all first : Bool) → first ≡ true → (v : Checking Facts) (o : Out (Checking Facts))
      (went panicked : Checking Facts → Type 0) → ShownOut may_end went panicked o →
      ShownOut may_end went panicked (marked (mark_of all first) v o)
  either_mark true first e v o went panicked h = h
  either_mark false true e v o went panicked h = other_mark
  either_mark false false e v o went panicked h = absurd (false≢true e)

  either_choice : (all first : Bool) → first ≡ true → (v : Checking Facts) (o : Choice (Checking Facts)) →
      Chosen may_end o → Chosen may_end (chosen_marked (mark_of all first) v o)
  either_choice true first e v o h = h
  either_choice false true e v o h = other_mark
  either_choice false false e v o h = absurd (false≢true e)

  known : (panics : Type 0) (went unwound : Facts) (o : Out AbstractState) →
      Quiet items (local_ty items body) panics o →
      ShownOut {V = Checking Facts} may_end (λ w. Unit {0}) (λ w. panics) (with_facts went unwound o)
  known panics went unwound (Go w) h = tt
  known panics went unwound (Unwind w) h = h
  known panics went unwound (Halts halt w) h = not_first halt h

  -- an action that goes on stores nothing of type `!`
  known_made : (stored : Option EffectSite) (never : Bool) (went unwound : Facts) (o : Out AbstractState) →
      option_map_or (λ site. never_at items (local_ty items body) (site_at local site)) stored false ≡ never →
      Quiet items (local_ty items body) (Unit {0}) o →
      ShownOut {V = Checking Facts} may_end (λ w. MadeBy Made stored) (λ w. Unit {0})
      (with_facts went unwound (halting_if never Unreachable o))
  known_made stored true went unwound (Go w) e h = tt
  known_made None false went unwound (Go w) e h = tt
  known_made (Some site) false went unwound (Go w) e h = e
  known_made stored true went unwound (Unwind w) e h = tt
  known_made stored false went unwound (Unwind w) e h = tt
  known_made stored true went unwound (Halts halt w) e h = not_first halt h
  known_made stored false went unwound (Halts halt w) e h = not_first halt h

  no_panic : (never : Bool) (went unwound : Facts) (o : Out AbstractState) → Quiet items (local_ty items body) ⊥ o →
      ShownOut {V = Checking Facts} may_end (λ w. Unit {0}) (λ w. ⊥)
      (with_facts went unwound (halting_if never Unreachable o))
  no_panic true went unwound (Go w) h = tt
  no_panic false went unwound (Go w) h = tt
  no_panic never went unwound (Unwind w) h = absurd h
  no_panic true went unwound (Halts halt w) h = not_first halt h
  no_panic false went unwound (Halts halt w) h = not_first halt h

  known_choice : (taken declined : Facts) (o : Choice AbstractState) → ChosenSo items (local_ty items body) o →
      Chosen {V = Checking Facts} may_end (chosen_with taken declined o)
  known_choice taken declined (Yes w) h = tt
  known_choice taken declined (No w) h = tt
  known_choice taken declined (Neither halt w) h = not_first halt h

  ticked : (went : Facts) (w : AbstractState) (list : List Bool) → ShownOut {V = Checking Facts} may_end (λ w. Unit {0})
      (λ w. ⊥) (with_facts went went (free.next_choice list w Go (Halts Infeasible)))
  ticked went w [] = tt
  ticked went w (false ∷ rest) = tt
  ticked went w (true ∷ rest) = tt

  pub does_well : DoesWell marked_run may_end Acts Tests Drops Made
  does_well = record {
    acts = λ action v e. either_mark ((checks_of items body).act_ok (action_at local action) v.free v.facts)
        (cells_act items (local_ty items body) (is_reference_param items body) (action_at local action)) e v _ _ _
        (known_made (stored_by action)
        (stores_where (never_at items (local_ty items body)) (action_at local action)) _ _
        (acted_on items (local_ty items body) (action_at local action) v.free)
        (sym (stored_at local (never_at items (local_ty items body)) action))
        (acted_quiet items (local_ty items body) (action_at local action) v.free));
    compares = λ to operator left right v e.
        either_mark ((checks_of items body).act_ok (action_at local (effects.Compare to operator left right)) v.free
        v.facts)
        (cells_act items (local_ty items body) (is_reference_param items body)
        (action_at local (effects.Compare to operator left right))) e v _ _ _
        (no_panic (stores_where (never_at items (local_ty items body))
        (action_at local (effects.Compare to operator left right))) _ _
        (acted_on items (local_ty items body) (action_at local (effects.Compare to operator left right)) v.free)
        (compare_quiet items (local_ty items body) (site_at local to) operator (operand_at local left)
        (operand_at local right) v.free));
    chooses = λ test v e. either_choice ((checks_of items body).test_ok (test_at local test) v.free v.facts)
        (cells_test items (local_ty items body) (is_reference_param items body) (test_at local test)) e v _
        (known_choice _ _ (free.choose items (local_ty items body) (test_at local test) v.free)
        (test_quiet items (local_ty items body) (test_at local test) v.free));
    drops = λ mode site v e. either_mark ((checks_of items body).drop_ok mode (site_at local site) v.free v.facts)
        (cells_drop items (local_ty items body) (is_reference_param items body) mode (site_at local site).place) e v _ _
        _ (known (Unit {0}) _ _ (free.drop items (local_ty items body) mode (site_at local site) v.free)
        (drop_quiet items (local_ty items body) mode (site_at local site) v.free));
    ticks = λ v. ticked v.facts v.free v.free.choices;
    aborts = λ v. tt;
    lapses = λ v. tt;
  }
