-- A place that was dropped gets its value at once: whatever a body is, no effect of its checked runs meets such a place
-- but the store of the value, and where the body returns or panics none waits.
use Rattle.std.proofs.Common.{◌≡◌, ℕ, Bool, true, false, List, [], ◌∷◌, map, Option, Some, None, refl, sym, ◌∙◌, subst, arith}
use Rattle.std.specs.Cmp.Derive.{both_true}
use Rattle.std.specs.Cmp.Lexicographic.{pointwise}
use Rattle.std.proofs.lemmas.Bool.{false≢true}
use Rattle.std.proofs.lemmas.Bool.Decides.{Decides-eqb}
use Rattle.std.proofs.lemmas.Option.{none-some}
use Rattle.mir_base.specs.declared.operator.Cmp.{Cmp}
use Rattle.mir_ty.specs.ItemTable.{ItemTable}
use Rattle.store_model.specs.Abstract.Effects as free
use Rattle.store_model.specs.Abstract.Effects.{AbstractState, abstract_effects, acted_on, never_at}
use Rattle.store_model.specs.Effects as effects
use Rattle.store_model.specs.Effects.{EffectSite, Operand, Action, Test, Mode, Normal, Halt, Aborted, OutOfTicks, Stuck, StuckAt, BadUse, BadStore, NoChoice, Infeasible, Unreachable, Out, Go, Unwind, Halts, Choice, Yes, No, Neither, Effects, halting_if, stores_where}
use Rattle.store_model.specs.Places.Place.{Step, ToPart, ToField, ToContent, ToElement, Place, whole_local, same_step}
use Rattle.typed_tree.specs.Tree.{BodyTree}
use Rattle.src_meaning.specs.Forms.{moved}
use Rattle.src_meaning.specs.Locals.Effects.{at_locals, site_at, place_at, step_at, operand_at, action_at, test_at}
use Rattle.src_meaning.specs.Locals.OfBody.{local_of, local_ty}
use Rattle.src_meaning.specs.Programs.{activation}
use Rattle.src_meaning.specs.Scopes.{Entry, entry_site}
use Rattle.soundness_values.proofs.AlsoTests.{Also, checks_also}
use Rattle.soundness_values.proofs.Checked.{Checking, Checks, by_list, checked_effects, with_facts, if_ok, chosen_with, chosen_if_ok}
use Rattle.soundness_values.proofs.CheckedBodies.{checks_of, is_reference_param}
use Rattle.soundness_values.proofs.Checks as checks
use Rattle.soundness_values.proofs.Checks.{is_none, no_steps, refilled_if}
use Rattle.soundness_values.proofs.Facts.{Naming, Facts, same_place}
use Rattle.soundness_values.proofs.Leaving.{ShownOut}
use Rattle.soundness_cells.proofs.PassCellEffects.{NotStuck, Quiet, acted_quiet, compare_quiet, ChosenSo, test_quiet, drop_quiet}
use Rattle.soundness_cells.proofs.PassCellTests.{mark_as}
use Rattle.soundness_cells.proofs.PassKept.{Answered, KeepsCalm}
use Rattle.soundness_cells.proofs.PassKeptBodies.{body_keeps}
use Rattle.soundness_cells.proofs.PassMarks.{Marks, StandFor, marked, chosen_marked, marked_effects}

-- ---- the facts after an effect

module _ (items : ItemTable) (body : BodyTree) where
  abbrev after_operand : Operand → Facts → Facts
  after_operand = checks.after_operand items (local_ty items body) (is_reference_param items body)

  abbrev after_operands : List Operand → Facts → Facts
  after_operands = checks.after_operands items (local_ty items body) (is_reference_param items body)

  operand_refilled : (operand : Operand) (facts : Facts) → (after_operand operand facts).refilled ≡ facts.refilled
  operand_refilled (effects.Copied site) facts = refl
  operand_refilled (effects.Moved site) facts = refl
  operand_refilled (effects.Number value kind) facts = refl
  operand_refilled (effects.Truth value) facts = refl
  operand_refilled effects.UnitValue facts = refl

  two_refilled : (left right : Operand) (facts : Facts) →
      (after_operand right (after_operand left facts)).refilled ≡ facts.refilled
  two_refilled left right facts =
      operand_refilled right (after_operand left facts) ∙ operand_refilled left facts

  operands_refilled : (operands : List Operand) (facts : Facts) →
      (after_operands operands facts).refilled ≡ facts.refilled
  operands_refilled [] facts = refl
  operands_refilled (operand ∷ operands) facts =
      operands_refilled operands (after_operand operand facts) ∙ operand_refilled operand facts

  naming_refilled : (n : Naming) (facts : Facts) →
      (checks.after_naming items (local_ty items body) (is_reference_param items body) n facts).refilled ≡
      facts.refilled
  naming_refilled n facts = by n.unique
    where
      by : (b : Bool) → (checks.without_if b n.place facts).refilled ≡ facts.refilled
      by true = refl
      by false = refl

  namings_refilled : (names : List Naming) (facts : Facts) →
      (checks.after_namings items (local_ty items body) (is_reference_param items body) names facts).refilled
      ≡ facts.refilled
  namings_refilled [] facts = refl
  namings_refilled (n ∷ rest) facts =
      namings_refilled rest (checks.after_naming items (local_ty items body) (is_reference_param items body) n facts)
      ∙ naming_refilled n facts

  abbrev after_action : Action → Facts → Facts
  after_action = checks.after_action items (local_ty items body) (is_reference_param items body)

  pub action_calm : (action : Action) (facts : Facts) → facts.refilled ≡ None →
      (after_action action facts).refilled ≡ None
  action_calm (effects.Put to from) facts e = refl
  action_calm (effects.Compare to operator left right) facts e = two_refilled left right facts ∙ e
  action_calm (effects.Not to operand) facts e = operand_refilled operand facts ∙ e
  action_calm (effects.Build to kind parts) facts e = operands_refilled parts facts ∙ e
  action_calm (effects.NewBox to content) facts e = operand_refilled content facts ∙ e
  action_calm (effects.Unsize to trait_no operand) facts e = operand_refilled operand facts ∙ e
  action_calm (effects.Borrow to unique base) facts e = e
  action_calm (effects.Touch base) facts e = e
  action_calm (effects.Print operand) facts e = operand_refilled operand facts ∙ e
  action_calm (effects.Forget operand) facts e = operand_refilled operand facts ∙ e
  action_calm (effects.Free box) facts e = e
  action_calm (effects.Compute to operator left right) facts e = two_refilled left right facts ∙ e
  action_calm (effects.Negate to operand) facts e = operand_refilled operand facts ∙ e
  action_calm (effects.Bounds (effects.Copied site) length) facts e = e
  action_calm (effects.Bounds (effects.Moved site) length) facts e = e
  action_calm (effects.Bounds (effects.Number value kind) length) facts e = e
  action_calm (effects.Bounds (effects.Truth value) length) facts e = e
  action_calm (effects.Bounds effects.UnitValue length) facts e = e
  action_calm (effects.Call to callee args) facts e =
      namings_refilled (checks.named_by_all items (local_ty items body) (is_reference_param items body) facts args)
      (after_operands args facts) ∙ operands_refilled args facts ∙ e
  action_calm (effects.CallVirtual to trait_no method args) facts e =
      namings_refilled (checks.named_by_all items (local_ty items body) (is_reference_param items body) facts args)
      (after_operands args facts) ∙ operands_refilled args facts ∙ e
  action_calm (effects.Ask to) facts e = e

  pub unwound_calm : (action : Action) (facts : Facts) → facts.refilled ≡ None →
      (checks.after_unwound items (local_ty items body) (is_reference_param items body) action facts).refilled ≡ None
  unwound_calm (effects.Bounds index length) facts e = e
  unwound_calm (effects.Borrow to unique base) facts e = e
  unwound_calm (effects.Touch base) facts e = e
  unwound_calm (effects.Free box) facts e = e
  unwound_calm (effects.Ask to) facts e = e
  unwound_calm other facts e = action_calm other facts e

  pub taken_calm : (test : Test) (facts : Facts) → facts.refilled ≡ None →
      (checks.after_taken items (local_ty items body) (is_reference_param items body) test facts).refilled ≡ None
  taken_calm (effects.IsTrue operand) facts e = operand_refilled operand facts ∙ e
  taken_calm (effects.HasVariant site variant) facts e = e

  pub declined_calm : (test : Test) (facts : Facts) → facts.refilled ≡ None →
      (checks.after_declined items (local_ty items body) (is_reference_param items body) test facts).refilled ≡ None
  declined_calm (effects.IsTrue operand) facts e = operand_refilled operand facts ∙ e
  declined_calm (effects.HasVariant site variant) facts e = e

-- the place that waits after a drop
abbrev hole_of : Bool → Place → Option Place
hole_of true place = None
hole_of false place = Some place

after_drop_waits : (b : Bool) (place : Place) (facts : Facts) → facts.refilled ≡ None →
    (refilled_if b place facts).refilled ≡ hole_of b place
after_drop_waits true place facts e = e
after_drop_waits false place facts e = refl

steps_same : (step : Step) → same_step step step ≡ true
steps_same (ToPart n) = (Decides-eqb n n).1 refl
steps_same (ToField v n) = both_true ((Decides-eqb v v).1 refl) ((Decides-eqb n n).1 refl)
steps_same ToContent = refl
steps_same (ToElement i) = (Decides-eqb i i).1 refl

place_same : (place : Place) → same_place place place ≡ true
place_same place = both_true ((Decides-eqb place.local place.local).1 refl) (all place.steps)
  where
    all : (steps : List Step) → pointwise same_step steps steps ≡ true
    all [] = refl
    all (step ∷ steps) = both_true (steps_same step) (all steps)

-- ---- the test

-- where a place waits, its value is stored there
abbrev pub refills_it : Place → Action → Bool
refills_it hole (effects.Put to (effects.Moved site)) = same_place to.place hole
refills_it hole action = false

abbrev pub none_waits : Option Place → Action → Bool
none_waits None action = true
none_waits (Some hole) action = refills_it hole action

none_fails : (all first : Bool) → mark_as 3 all first ≡ None → all ≡ true
none_fails true first e = refl
none_fails false true e = let never : ⊥ = cc in absurd never
none_fails false false e = let never : ⊥ = cc in absurd never

waits_none : (o : Option Place) (action : Action) → o ≡ None → none_waits o action ≡ true
waits_none None action e = refl
waits_none (Some hole) action e = absurd (none-some hole (sym e))

is_none_so : (o : Option Place) → o ≡ None → is_none o ≡ true
is_none_so None e = refl
is_none_so (Some hole) e = absurd (none-some hole (sym e))

hole_refilled : (b : Bool) (o : Option Place) (node : ℕ) (place : Place) (site : EffectSite) → o ≡ hole_of b place →
    none_waits o (effects.Put (record { node = node; place = place }) (effects.Moved site)) ≡ true
hole_refilled true None node place site e = refl
hole_refilled true (Some hole) node place site e = absurd (none-some hole (sym e))
hole_refilled false None node place site e = refl
hole_refilled false (Some hole) node place site e =
    let same : hole ≡ place = cc in
    subst (λ h. same_place place h ≡ true) (sym same) (place_same place)

-- the marks of a run: 3 where this test fails, 2 where another does
abbrev pub refill_marks : Checks Facts → Marks Facts
refill_marks tests = record {
  acting = λ action v facts. mark_as 3 (tests.act_ok action v facts) (none_waits facts.refilled action);
  choosing = λ test v facts. mark_as 3 (tests.test_ok test v facts) (is_none facts.refilled);
  dropping = λ mode site v facts. mark_as 3 (tests.drop_ok mode site v facts) (is_none facts.refilled);
  giving = λ site v facts. mark_as 3 (tests.give_ok site v facts) (is_none facts.refilled);
}

pub refill_marks_stand : (tests : Checks Facts) → StandFor (refill_marks tests) tests
refill_marks_stand tests = record {
  acts = λ action v facts e. none_fails (tests.act_ok action v facts) (none_waits facts.refilled action) e;
  chooses = λ test v facts e. none_fails (tests.test_ok test v facts) (is_none facts.refilled) e;
  drops = λ mode site v facts e. none_fails (tests.drop_ok mode site v facts) (is_none facts.refilled) e;
  gives = λ site v facts e. none_fails (tests.give_ok site v facts) (is_none facts.refilled) e;
}

-- no run ends by a mark
abbrev pub NotMark : ℕ → Halt → Type 0
NotMark own (StuckAt mark block) = mark ≡ own → ⊥
NotMark own halt = Unit {0}

abbrev pub not_mark : {V : Type 0} → ℕ → Halt → V → Type 0
not_mark own halt v = NotMark own halt

pub unmarked : (own : ℕ) (halt : Halt) → NotStuck halt → NotMark own halt
unmarked own Stuck h = absurd h
unmarked own (StuckAt body block) h = absurd h
unmarked own other h = tt

-- it has no mark at all, and where it halts for want of a choice it says so
abbrev pub SaysLost : Halt → Bool → Type 0
SaysLost (StuckAt mark block) lost = ⊥
SaysLost NoChoice lost = lost ≡ true
SaysLost Infeasible lost = lost ≡ true
SaysLost Unreachable lost = lost ≡ true
SaysLost halt lost = Unit {0}

abbrev pub says_lost : Halt → Checking Facts → Type 0
says_lost halt v = SaysLost halt v.lost

lost_said : (halt : Halt) → NotStuck halt → SaysLost halt (by_list halt)
lost_said Aborted h = tt
lost_said OutOfTicks h = tt
lost_said Stuck h = absurd h
lost_said (StuckAt body block) h = absurd h
lost_said (BadUse site) h = tt
lost_said (BadStore site) h = tt
lost_said NoChoice h = refl
lost_said Infeasible h = refl
lost_said Unreachable h = refl

module _ (items : ItemTable) (body : BodyTree) where
  abbrev local : ℕ → ℕ
  local = local_of items body

  abbrev pub calm : Checking Facts → Type 0
  calm v = v.facts.refilled ≡ None

  abbrev pub waits : EffectSite → Checking Facts → Type 0
  waits site v = v.facts.refilled ≡ hole_of (no_steps (map (step_at local) site.place.steps)) (place_at local
      site.place)

  -- ---- what free effects keep, however a run may halt

  module _ (over : Halt → Checking Facts → Type 0) (halts : (halt : Halt) (w : AbstractState) (facts : Facts) →
      NotStuck halt → over halt (record { free = w; facts = facts; lost = by_list halt })) where
    abbrev Q : Type 0 → Out AbstractState → Type 0
    Q = Quiet items (local_ty items body)

    known : (panics : Type 0) (went unwound : Facts) (wents unwounds : Checking Facts → Type 0) (o : Out AbstractState)
        →
        Q panics o → ((w : AbstractState) → wents (record { free = w; facts = went; lost = false })) →
        ((w : AbstractState) → panics → unwounds (record { free = w; facts = unwound; lost = false })) →
        ShownOut {V = Checking Facts} over wents unwounds (with_facts went unwound o)
    known panics went unwound wents unwounds (Go w) h f g = f w
    known panics went unwound wents unwounds (Unwind w) h f g = g w h
    known panics went unwound wents unwounds (Halts halt w) h f g = halts halt w unwound h

    halting_quiet : (panics : Type 0) (b : Bool) (o : Out AbstractState) → Q panics o →
        Q panics (halting_if b Unreachable o)
    halting_quiet panics true (Go w) h = tt
    halting_quiet panics true (Unwind w) h = h
    halting_quiet panics true (Halts halt w) h = h
    halting_quiet panics false o h = h

    known_choice : (taken declined : Facts) (o : Choice AbstractState) → ChosenSo items (local_ty items body) o →
        taken.refilled ≡ None → declined.refilled ≡ None → Answered over calm (chosen_with taken declined o)
    known_choice taken declined (Yes w) h t d = t
    known_choice taken declined (No w) h t d = d
    known_choice taken declined (Neither halt w) h t d = halts halt w declined h

    ticked : (went : Facts) (w : AbstractState) (list : List Bool) → went.refilled ≡ None →
        ShownOut {V = Checking Facts} over calm (λ w. ⊥)
        (with_facts went went (free.next_choice list w Go (Halts Infeasible)))
    ticked went w [] e = halts NoChoice w went tt
    ticked went w (false ∷ rest) e = e
    ticked went w (true ∷ rest) e = halts Infeasible _ went tt

    abbrev F : Effects AbstractState
    F = abstract_effects items (local_ty items body)

    abbrev C : Checks Facts
    C = checks_of items body

    abbrev pub Act : Action → Checking Facts → Out (Checking Facts)
    Act action v = with_facts (C.act_facts action v.free v.facts) (C.unwound_facts action v.free v.facts)
        (F.act action v.free)

    abbrev pub Drop : Mode → EffectSite → Checking Facts → Out (Checking Facts)
    Drop mode site v = with_facts (C.drop_facts mode site v.free v.facts) (C.drop_facts mode site v.free v.facts)
        (F.drop mode site v.free)

    free_acts : (action : Action) (v : Checking Facts) → calm v → ShownOut over calm calm (Act action v)
    free_acts action v e = known (Unit {0}) _ _ calm calm _
        (halting_quiet (Unit {0}) (stores_where (never_at items (local_ty items body)) action)
        (acted_on items (local_ty items body) action v.free) (acted_quiet items (local_ty items body) action v.free))
        (λ w. action_calm items body action v.facts e) (λ w x. unwound_calm items body action v.facts e)

    free_compares : (to : EffectSite) (operator : Cmp) (left right : Operand) (v : Checking Facts) → calm v →
        ShownOut over calm (λ w. ⊥) (Act (effects.Compare to operator left right) v)
    free_compares to operator left right v e = known ⊥ _ _ calm (λ w. ⊥) _
        (halting_quiet ⊥ (stores_where (never_at items (local_ty items body)) (effects.Compare to operator left right))
        (acted_on items (local_ty items body) (effects.Compare to operator left right) v.free)
        (compare_quiet items (local_ty items body) to operator left right v.free))
        (λ w. action_calm items body (effects.Compare to operator left right) v.facts e) (λ w x. x)

    free_refills : (to from : EffectSite) (v : Checking Facts) →
        ShownOut over calm calm (Act (effects.Put to (effects.Moved from)) v)
    free_refills to from v = known (Unit {0}) _ _ calm calm _
        (halting_quiet (Unit {0}) (stores_where (never_at items (local_ty items body))
        (effects.Put to (effects.Moved from)))
        (acted_on items (local_ty items body) (effects.Put to (effects.Moved from)) v.free)
        (acted_quiet items (local_ty items body) (effects.Put to (effects.Moved from)) v.free)) (λ w. refl) (λ w x.
        refl)

    free_chooses : (test : Test) (v : Checking Facts) → calm v →
        Answered over calm (chosen_with (C.taken_facts test v.free v.facts) (C.declined_facts test v.free v.facts)
        (F.choose test v.free))
    free_chooses test v e = known_choice _ _ (free.choose items (local_ty items body) test v.free)
        (test_quiet items (local_ty items body) test v.free) (taken_calm items body test v.facts e)
        (declined_calm items body test v.facts e)

    free_drops : (mode : Mode) (x : Entry) (v : Checking Facts) → calm v →
        ShownOut over calm calm (Drop mode (site_at local (entry_site x)) v)
    free_drops mode x v e = known (Unit {0}) _ _ calm calm
        (free.drop items (local_ty items body) mode (site_at local (entry_site x)) v.free)
        (drop_quiet items (local_ty items body) mode (site_at local (entry_site x)) v.free) (λ w. e) (λ w y. e)

    free_empties : (site : EffectSite) (v : Checking Facts) → calm v →
        ShownOut over (waits site) (waits site) (Drop Normal (site_at local site) v)
    free_empties site v e = known (Unit {0}) _ _ (waits site) (waits site)
        (free.drop items (local_ty items body) Normal (site_at local site) v.free)
        (drop_quiet items (local_ty items body) Normal (site_at local site) v.free)
        (λ w. after_drop_waits (no_steps (map (step_at local) site.place.steps)) (place_at local site.place) _ e)
        (λ w y. after_drop_waits (no_steps (map (step_at local) site.place.steps)) (place_at local site.place) _ e)

  -- ---- no effect meets a place that waits, but the store of its value

  module _ (also : Also) where
    abbrev pub tests : Checks Facts
    tests = checks_also also (checks_of items body)

    abbrev pub refill_run : Effects (Checking Facts)
    refill_run = at_locals local (marked_effects (checks_also also (checks_of items body))
        (refill_marks (checks_also also (checks_of items body))) (abstract_effects items (local_ty items body)))

    halts_unmarked : (halt : Halt) (w : AbstractState) (facts : Facts) → NotStuck halt →
        not_mark {V = Checking Facts} 3 halt (record { free = w; facts = facts; lost = by_list halt })
    halts_unmarked halt w facts h = unmarked 3 halt h

    other : NotMark 3 (StuckAt 2 0)
    other e = let same : 2 ≡ 3 = e in omega (same, arith)

    either_mark : (all first : Bool) → first ≡ true → (v : Checking Facts) (o : Out (Checking Facts))
        (went panicked : Checking Facts → Type 0) → ShownOut (not_mark 3) went panicked o →
        ShownOut (not_mark 3) went panicked (marked (mark_as 3 all first) v o)
    either_mark true first e v o went panicked h = h
    either_mark false true e v o went panicked h = other
    either_mark false false e v o went panicked h = absurd (false≢true e)

    either_choice : (all first : Bool) → first ≡ true → (v : Checking Facts) (o : Choice (Checking Facts)) →
        Answered (not_mark 3) calm o → Answered (not_mark 3) calm (chosen_marked (mark_as 3 all first) v o)
    either_choice true first e v o h = h
    either_choice false true e v o h = other
    either_choice false false e v o h = absurd (false≢true e)

    refill_keeps : KeepsCalm refill_run (not_mark 3) calm waits
    refill_keeps = record {
      acts = λ action v e. either_mark (tests.act_ok (action_at local action) v.free v.facts)
          (none_waits v.facts.refilled (action_at local action))
          (waits_none v.facts.refilled (action_at local action) e) v _ calm calm
          (free_acts (not_mark 3) halts_unmarked (action_at local action) v e);
      compares = λ to operator left right v e.
          either_mark (tests.act_ok (action_at local (effects.Compare to operator left right)) v.free v.facts)
          (none_waits v.facts.refilled (action_at local (effects.Compare to operator left right)))
          (waits_none v.facts.refilled (action_at local (effects.Compare to operator left right)) e) v _ calm (λ w. ⊥)
          (free_compares (not_mark 3) halts_unmarked (site_at local to) operator (operand_at local left)
          (operand_at local right) v e);
      chooses = λ test v e. either_choice (tests.test_ok (test_at local test) v.free v.facts)
          (is_none v.facts.refilled) (is_none_so v.facts.refilled e) v _
          (free_chooses (not_mark 3) halts_unmarked (test_at local test) v e);
      drops = λ mode x v e. either_mark (tests.drop_ok mode (site_at local (entry_site x)) v.free v.facts)
          (is_none v.facts.refilled) (is_none_so v.facts.refilled e) v _ calm calm
          (free_drops (not_mark 3) halts_unmarked mode x v e);
      empties = λ site v e. either_mark (tests.drop_ok Normal (site_at local site) v.free v.facts)
          (is_none v.facts.refilled) (is_none_so v.facts.refilled e) v _ (waits site) (waits site)
          (free_empties (not_mark 3) halts_unmarked site v e);
      refills = λ site key v e. either_mark
          (tests.act_ok (action_at local (effects.Put site (moved site.node key))) v.free v.facts)
          (none_waits v.facts.refilled (action_at local (effects.Put site (moved site.node key))))
          (hole_refilled (no_steps (map (step_at local) site.place.steps)) v.facts.refilled site.node
          (place_at local site.place) (site_at local (record { node = site.node; place = whole_local key })) e) v _
          calm calm
          (free_refills (not_mark 3) halts_unmarked (site_at local site)
          (site_at local (record { node = site.node; place = whole_local key })) v);
      panics = λ why v e. e;
      ticks = λ v e. ticked (not_mark 3) halts_unmarked v.facts v.free v.free.choices e;
      aborts = λ v. tt;
      lapses = λ v. tt;
    }

    -- such a run never ends by this mark
    pub refill_ends : (fuel : ℕ) (v : Checking Facts) → calm v →
        ShownOut (not_mark 3) calm calm (activation items refill_run fuel body v)
    refill_ends fuel v e = body_keeps items refill_run (not_mark 3) calm waits refill_keeps fuel
        (λ site v e. either_mark (tests.give_ok (site_at local site) v.free v.facts) (is_none v.facts.refilled)
        (is_none_so v.facts.refilled e) v _ calm calm e) (λ v. tt) body v e

    -- ---- checked runs themselves

    abbrev pub checked_run : Effects (Checking Facts)
    checked_run = at_locals local
        (checked_effects (checks_also also (checks_of items body)) (abstract_effects items (local_ty items body)))

    halts_lost : (halt : Halt) (w : AbstractState) (facts : Facts) → NotStuck halt →
        says_lost halt (record { free = w; facts = facts; lost = by_list halt })
    halts_lost halt w facts h = lost_said halt h

    either_ok : (ok : Bool) (v : Checking Facts) (o : Out (Checking Facts)) (went panicked : Checking Facts → Type 0) →
        ShownOut says_lost went panicked o → ShownOut says_lost went panicked (if_ok ok v o)
    either_ok true v o went panicked h = h
    either_ok false v o went panicked h = tt

    chosen_ok : (ok : Bool) (v : Checking Facts) (o : Choice (Checking Facts)) → Answered says_lost calm o →
        Answered says_lost calm (chosen_if_ok ok v o)
    chosen_ok true v o h = h
    chosen_ok false v o h = tt

    checked_keeps : KeepsCalm checked_run says_lost calm waits
    checked_keeps = record {
      acts = λ action v e. either_ok (tests.act_ok (action_at local action) v.free v.facts) v _ calm calm
          (free_acts says_lost halts_lost (action_at local action) v e);
      compares = λ to operator left right v e.
          either_ok (tests.act_ok (action_at local (effects.Compare to operator left right)) v.free v.facts) v _ calm
          (λ w. ⊥) (free_compares says_lost halts_lost (site_at local to) operator (operand_at local left)
          (operand_at local right) v e);
      chooses = λ test v e. chosen_ok (tests.test_ok (test_at local test) v.free v.facts) v _
          (free_chooses says_lost halts_lost (test_at local test) v e);
      drops = λ mode x v e. either_ok (tests.drop_ok mode (site_at local (entry_site x)) v.free v.facts) v _ calm calm
          (free_drops says_lost halts_lost mode x v e);
      empties = λ site v e. either_ok (tests.drop_ok Normal (site_at local site) v.free v.facts) v _ (waits site)
          (waits site) (free_empties says_lost halts_lost site v e);
      refills = λ site key v e. either_ok
          (tests.act_ok (action_at local (effects.Put site (moved site.node key))) v.free v.facts) v _ calm calm
          (free_refills says_lost halts_lost (site_at local site)
          (site_at local (record { node = site.node; place = whole_local key })) v);
      panics = λ why v e. e;
      ticks = λ v e. ticked says_lost halts_lost v.facts v.free v.free.choices e;
      aborts = λ v. tt;
      lapses = λ v. tt;
    }

    -- where a checked run ends, no place waits; where it halts for want of a choice, it says so
    pub checked_ends : (fuel : ℕ) (v : Checking Facts) → calm v →
        ShownOut says_lost calm calm (activation items checked_run fuel body v)
    checked_ends fuel v e = body_keeps items checked_run says_lost calm waits checked_keeps fuel
        (λ site v e. either_ok (tests.give_ok (site_at local site) v.free v.facts) v _ calm calm e) (λ v. tt) body v e
