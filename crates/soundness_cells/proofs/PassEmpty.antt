-- The test that the local into which an action stores holds nothing that would need dropping: what a run owes that says
-- where this fails, so that cells that are free stay so in it. Where a value is moved into a place it is taken for
-- granted that it is of the place's type, which is tested elsewhere.
use Rattle.std.proofs.Common.{◌≡◌, ◌⊎◌, inl, inr, ℕ, ◌&&◌, ◌||◌, not, Bool, true, false, List, [], ◌∷◌, map, Option, Some, None, refl, ap, sym, ◌∙◌, subst}
use Rattle.std.specs.Prelude.{option_and_then}
use Rattle.std.specs.Option.{option_map_or}
use Rattle.std.proofs.lemmas.Bool.{false≢true}
use Rattle.std.proofs.lemmas.Bool.Decides.{Decides-eqb}
use Rattle.mir_base.specs.declared.operator.Cmp.{Cmp}
use Rattle.mir_ty.specs.declared.ty.TyId.{TyId}
use Rattle.mir_ty.specs.Facts.{needs_drop}
use Rattle.mir_ty.specs.ItemTable.{ItemTable, type_at}
use Rattle.store_model.specs.Abstract.Effects as free
use Rattle.store_model.specs.Abstract.Effects.{AbstractState, abstract_effects, acted_on, never_at, presence}
use Rattle.store_model.specs.Abstract.Presence.{Presence, itself_gone}
use Rattle.store_model.specs.Effects as effects
use Rattle.store_model.specs.Effects.{EffectSite, Operand, Action, Test, Mode, Normal, Halt, Aborted, OutOfTicks, Stuck, StuckAt, BadUse, BadStore, NoChoice, Infeasible, Unreachable, Out, Go, Unwind, Halts, Choice, Yes, No, Neither, Effects, halting_if, stores_where, stored_by}
use Rattle.store_model.specs.Places.Place.{Step, Place, whole_local, ty_along, is_reference}
use Rattle.store_model.specs.Places.TypeForms.{same_id}
use Rattle.typed_tree.specs.Nodes.{number_of, nodes_of}
use Rattle.typed_tree.specs.Tree.{Node, BodyTree}
use Rattle.src_meaning.specs.Evaluation.{meaning}
use Rattle.src_meaning.specs.Forms.{moved}
use Rattle.src_meaning.specs.Locals.Effects.{at_locals, site_at, place_at, step_at, operand_at, action_at, test_at}
use Rattle.src_meaning.specs.Locals.OfBody.{local_of, local_ty, local_keys}
use Rattle.src_meaning.specs.Scopes.{Entry, entry_site}
use Rattle.well_typed.specs.Claim.{Holds}
use Rattle.well_typed.specs.Nodes.{typed}
use Rattle.well_typed.specs.Places.{Standing}
use Rattle.soundness_values.proofs.AlsoTests.{Also, checks_also}
use Rattle.soundness_values.proofs.Along.{are_plain}
use Rattle.soundness_values.proofs.Checked.{Checking, Checks, with_facts, chosen_with}
use Rattle.soundness_values.proofs.CheckedBodies.{checks_of, is_reference_param}
use Rattle.soundness_values.proofs.Checks as checks
use Rattle.soundness_values.proofs.Checks.{is_empty}
use Rattle.soundness_values.proofs.Facts.{Facts}
use Rattle.soundness_values.proofs.Leaving.{ShownOut}
use Rattle.soundness_cells.proofs.PassCellEffects.{NotStuck, Quiet, acted_quiet, compare_quiet, ChosenSo, test_quiet, drop_quiet}
use Rattle.soundness_cells.proofs.PassCellTests.{unless_within, mark_as}
use Rattle.soundness_cells.proofs.PassCellTypes.{is_false, dropped_no_reference}
use Rattle.soundness_cells.proofs.PassClear.{KeepsClear, any, Nothing, StoredAt}
use Rattle.soundness_cells.proofs.PassEffects.{Clear, Change, Taken, drop_so}
use Rattle.soundness_cells.proofs.PassFacts.{Standpoint, context}
use Rattle.soundness_cells.proofs.PassFree.{Always, Never, FindsNothing}
use Rattle.soundness_cells.proofs.PassFreeForms.{node_free}
use Rattle.soundness_cells.proofs.PassFreeRules.{FreeM}
use Rattle.soundness_cells.proofs.PassMarks.{Marks, StandFor, marked, chosen_marked, marked_effects, marked_keeps, MarkedClear}
use Rattle.soundness_cells.proofs.PassNodes.{Good}
use Rattle.soundness_cells.proofs.PassNumbers.{Rises}
use Rattle.soundness_cells.proofs.PassRefilled.{not_mark, NotMark, unmarked}
use Rattle.soundness_cells.proofs.PassRest.{own_local}
use Rattle.soundness_cells.proofs.PassRuns.{one_local}
use Rattle.soundness_cells.proofs.PassWell.{Chosen}

none_fails : (all first : Bool) → mark_as 4 all first ≡ None → all ≡ true
none_fails true first e = refl
none_fails false true e = let never : ⊥ = cc in absurd never
none_fails false false e = let never : ⊥ = cc in absurd never

module _ (items : ItemTable) (body : BodyTree) where
  abbrev local : ℕ → ℕ
  local = local_of items body

  abbrev Cells : Type 0
  Cells = List (ℕ × Presence)

  abbrev Target : ℕ → Bool
  Target = is_reference_param items body

  -- ---- the test

  -- a whole local holds nothing that would need dropping
  abbrev pub empty_at : Cells → Place → Bool
  empty_at cells place = unless_within place.steps (is_empty items (local_ty items body) Target cells place)

  abbrev of_type : Operand → Place → Bool
  of_type from place = checks.of_place items (local_ty items body) Target
      (checks.is_of items (local_ty items body) Target from) place

  abbrev pub finds_nothing : Cells → Action → Bool
  finds_nothing cells (effects.Put to (effects.Moved site)) =
      not (of_type (effects.Moved site) to.place) || empty_at cells to.place
  finds_nothing cells action = option_map_or (λ to. empty_at cells to.place) (stored_by action) true

  -- the marks of a run: 4 where this test fails, 2 where another does
  abbrev pub empty_marks : Checks Facts → Marks Facts
  empty_marks tests = record {
    acting = λ action v facts. mark_as 4 (tests.act_ok action v facts) (finds_nothing v.cells action);
    choosing = λ test v facts. mark_as 4 (tests.test_ok test v facts) true;
    dropping = λ mode site v facts. mark_as 4 (tests.drop_ok mode site v facts) true;
    giving = λ site v facts. mark_as 4 (tests.give_ok site v facts) true;
  }

  pub empty_marks_stand : (tests : Checks Facts) → StandFor (empty_marks tests) tests
  empty_marks_stand tests = record {
    acts = λ action v facts e. none_fails (tests.act_ok action v facts) (finds_nothing v.cells action) e;
    chooses = λ test v facts e. none_fails (tests.test_ok test v facts) true e;
    drops = λ mode site v facts e. none_fails (tests.drop_ok mode site v facts) true e;
    gives = λ site v facts e. none_fails (tests.give_ok site v facts) true e;
  }

  -- ---- where a cell is clear, the test holds

  abbrev pub needs : ℕ → Bool
  needs key = option_map_or (needs_drop items) (local_ty items body (local key)) false

  abbrev ClearAt : AbstractState → ℕ → Type 0
  ClearAt = Clear items (local_ty items body) local (one_local (local_keys items body)) needs

  second : (a b : Bool) → b ≡ true → (a || b) ≡ true
  second true b e = refl
  second false b e = e

  whole_empty : (w : AbstractState) (key : ℕ) → ClearAt w key →
      is_empty items (local_ty items body) Target w.cells (whole_local (local key)) ≡ true
  whole_empty w key c = by (local_ty items body (local key)) refl c
    where
      l : ℕ
      l = local_of items body key

      Empty : Option TyId → Type 0
      Empty o = (not (option_map_or (needs_drop items) (option_and_then (ty_along items []) o) false)
          || (((not (is_reference_param items body (local_of items body key)) && true)
          && option_map_or (are_plain items []) o false)
          && itself_gone (presence (local_of items body key) w.cells))) ≡ true

      gone : (id : TyId) (n : Bool) → needs_drop items id ≡ n →
          local_ty items body (local_of items body key) ≡ Some id →
          itself_gone (presence (local_of items body key) w.cells) ≡ true →
          (not n || (((not (is_reference_param items body (local_of items body key)) && true) && true)
          && itself_gone (presence (local_of items body key) w.cells))) ≡ true
      gone id false n e g = refl
      gone id true n e g = all (is_reference_param items body (local_of items body key))
          (itself_gone (presence (local_of items body key) w.cells))
          (own_local items body (local_of items body key) id e
          (is_false (is_reference (type_at items id)) (dropped_no_reference items id n))) g
        where
          all : (t g : Bool) → t ≡ false → g ≡ true → (((not t && true) && true) && g) ≡ true
          all true g e h = absurd (false≢true (sym e))
          all false g e h = h

      undropped : (n : Bool) (rest : Bool) → n ≡ false → (not n || rest) ≡ true
      undropped true rest e = absurd (false≢true (sym e))
      undropped false rest e = refl

      by : (o : Option TyId) → local_ty items body (local_of items body key) ≡ o →
          (itself_gone (presence (local_of items body key) w.cells) ≡ true)
          ⊎ (option_map_or (needs_drop items) o false ≡ false) → Empty o
      by None e c = refl
      by (Some id) e (inl g) = gone id (needs_drop items id) refl e g
      by (Some id) e (inr n) = undropped (needs_drop items id) _ n

  site_empty : (w : AbstractState) (site : EffectSite) → ((key : ℕ) → site.place ≡ whole_local key → ClearAt w key) →
      empty_at w.cells (place_at local site.place) ≡ true
  site_empty w site f = by site.place.steps refl
    where
      by : (steps : List Step) → site.place.steps ≡ steps →
          empty_at w.cells (record {
            local = local_of items body site.place.local;
            steps = map (step_at (local_of items
                body)) steps;
          })
          ≡ true
      by [] e = whole_empty w site.place.local (f site.place.local (ap (λ s. record {
        local = site.place.local;
        steps =
            s;
      }) e))
      by (step ∷ steps) e = refl

  acts_empty : (action : Action) (w : AbstractState) → ((key : ℕ) → StoredAt (stored_by action) key → ClearAt w key) →
      finds_nothing w.cells (action_at local action) ≡ true
  acts_empty (effects.Put to (effects.Moved site)) w f = second
      (not (of_type (effects.Moved (site_at local site)) (place_at local to.place))) _ (site_empty w to f)
  acts_empty (effects.Put to (effects.Copied site)) w f = site_empty w to f
  acts_empty (effects.Put to (effects.Number value kind)) w f = site_empty w to f
  acts_empty (effects.Put to (effects.Truth value)) w f = site_empty w to f
  acts_empty (effects.Put to effects.UnitValue) w f = site_empty w to f
  acts_empty (effects.Compare to operator left right) w f = site_empty w to f
  acts_empty (effects.Not to operand) w f = site_empty w to f
  acts_empty (effects.Build to kind parts) w f = site_empty w to f
  acts_empty (effects.NewBox to content) w f = site_empty w to f
  acts_empty (effects.Unsize to trait_no operand) w f = site_empty w to f
  acts_empty (effects.Borrow to unique base) w f = site_empty w to f
  acts_empty (effects.Touch base) w f = refl
  acts_empty (effects.Print operand) w f = refl
  acts_empty (effects.Forget operand) w f = refl
  acts_empty (effects.Free box) w f = refl
  acts_empty (effects.Compute to operator left right) w f = site_empty w to f
  acts_empty (effects.Negate to operand) w f = site_empty w to f
  acts_empty (effects.Bounds index length) w f = refl
  acts_empty (effects.Call to callee args) w f = site_empty w to f
  acts_empty (effects.CallVirtual to trait_no method args) w f = site_empty w to f
  acts_empty (effects.Ask to) w f = site_empty w to f

  -- a value of a type that needs no dropping is stored into a place of this type
  moved_empty : (w : AbstractState) (place : Place) (node key : ℕ) → needs key ≡ false →
      (not (of_type (effects.Moved (record { node = node; place = whole_local (local key) })) place)
      || empty_at w.cells place) ≡ true
  moved_empty w place node key n = by (checks.id_of items (local_ty items body) Target place) refl
      (local_ty items body (local_of items body key)) refl
    where
      within : (steps : List Step) (test : Bool) → test ≡ true → unless_within steps test ≡ true
      within [] test e = e
      within (step ∷ steps) test e = refl

      undropped : (b rest : Bool) → b ≡ false → (not b || rest) ≡ true
      undropped true rest e = absurd (false≢true (sym e))
      undropped false rest e = refl

      -- of one type
      same : (id from : TyId) → checks.id_of items (local_ty items body) Target place ≡ Some id →
          local_ty items body (local_of items body key) ≡ Some from → same_id id from ≡ true →
          empty_at w.cells place ≡ true
      same id from e f s = within place.steps (is_empty items (local_ty items body) Target w.cells place)
          (undropped (checks.needs items (local_ty items body) Target place) _
          (ap (λ o. option_map_or (needs_drop items) o false) e
          ∙ ap (λ k. needs_drop items (record { 0 = k })) ((Decides-eqb id.0 from.0).0 s)
          ∙ sym (ap (λ o. option_map_or (needs_drop items) o false) f) ∙ n))

      either : (b rest : Bool) → (b ≡ true → rest ≡ true) → (not b || rest) ≡ true
      either true rest f = f refl
      either false rest f = refl

      by : (o : Option TyId) → checks.id_of items (local_ty items body) Target place ≡ o → (k : Option TyId) →
          local_ty items body (local_of items body key) ≡ k →
          (not (option_map_or (λ id. option_map_or (same_id id) (option_and_then (ty_along items []) k) false) o false)
          || empty_at w.cells place) ≡ true
      by None e k f = refl
      by (Some id) e None f = refl
      by (Some id) e (Some from) f = either (same_id id from) (empty_at w.cells place) (λ s. same id from e f s)

  -- ---- a run that says where the test fails

  module _ (also : Also) where
    abbrev tests : Checks Facts
    tests = checks_also also (checks_of items body)

    abbrev pub empty_run : Effects (Checking Facts)
    empty_run = at_locals local (marked_effects (checks_also also (checks_of items body))
        (empty_marks (checks_also also (checks_of items body))) (abstract_effects items (local_ty items body)))

    abbrev pub clear : Checking Facts → ℕ → Type 0
    clear = MarkedClear items (local_ty items body) local (one_local (local_keys items body)) needs
        (checks_also also (checks_of items body)) (empty_marks (checks_also also (checks_of items body)))

    pub keeps : KeepsClear empty_run needs clear
    keeps = marked_keeps items (local_ty items body) local (one_local (local_keys items body)) needs
        (checks_also also (checks_of items body)) (empty_marks (checks_also also (checks_of items body)))

    abbrev pub waits : EffectSite → Checking Facts → Type 0
    waits site v = (key : ℕ) → site.place ≡ whole_local key → clear v key

    other : NotMark 4 (StuckAt 2 0)
    other e = let never : ⊥ = cc in never

    pub either_mark : (all test : Bool) → test ≡ true → (v : Checking Facts) (o : Out (Checking Facts))
        (went panicked : Checking Facts → Type 0) → ShownOut (not_mark 4) went panicked o →
        ShownOut (not_mark 4) went panicked (marked (mark_as 4 all test) v o)
    either_mark true test e v o went panicked h = h
    either_mark false true e v o went panicked h = other
    either_mark false false e v o went panicked h = absurd (false≢true e)

    chosen_mark : (all : Bool) (v : Checking Facts) (o : Choice (Checking Facts)) → Chosen (not_mark 4) o →
        Chosen (not_mark 4) (chosen_marked (mark_as 4 all true) v o)
    chosen_mark true v o h = h
    chosen_mark false v o h = other

    known : (panics : Type 0) (went unwound : Facts) (o : Out AbstractState) →
        Quiet items (local_ty items body) panics o →
        ShownOut {V = Checking Facts} (not_mark 4) Always (λ w. panics) (with_facts went unwound o)
    known panics went unwound (Go w) h = tt
    known panics went unwound (Unwind w) h = h
    known panics went unwound (Halts halt w) h = unmarked 4 halt h

    halting : (panics : Type 0) (b : Bool) (o : Out AbstractState) → Quiet items (local_ty items body) panics o →
        Quiet items (local_ty items body) panics (halting_if b Unreachable o)
    halting panics true (Go w) h = tt
    halting panics true (Unwind w) h = h
    halting panics true (Halts halt w) h = h
    halting panics false o h = h

    known_choice : (taken declined : Facts) (o : Choice AbstractState) → ChosenSo items (local_ty items body) o →
        Chosen {V = Checking Facts} (not_mark 4) (chosen_with taken declined o)
    known_choice taken declined (Yes w) h = tt
    known_choice taken declined (No w) h = tt
    known_choice taken declined (Neither halt w) h = unmarked 4 halt h

    ticked : (went : Facts) (w : AbstractState) (list : List Bool) → ShownOut {V = Checking Facts} (not_mark 4) Always Never
        (with_facts went went (free.next_choice list w Go (Halts Infeasible)))
    ticked went w [] = tt
    ticked went w (false ∷ rest) = tt
    ticked went w (true ∷ rest) = tt

    known_act : (went unwound : Facts) (action : Action) (w : AbstractState) → ShownOut {V = Checking Facts} (not_mark 4)
        Always
        (λ w. Unit {0}) (with_facts went unwound (free.act items (local_ty items body) action w))
    known_act went unwound action w = known (Unit {0}) went unwound _
        (halting (Unit {0}) (stores_where (never_at items (local_ty items body)) action)
        (acted_on items (local_ty items body) action w) (acted_quiet items (local_ty items body) action w))

    emptied : (site : EffectSite) (facts : Facts) (v : AbstractState) (o : Out AbstractState) →
        Quiet items (local_ty items body) (Unit {0}) o →
        ShownOut any (Change items (local_ty items body) local (one_local (local_keys items body)) needs
        (Taken items (local_ty items body) local (one_local (local_keys items body)) needs true site) Nothing v)
        (Change items (local_ty items body) local (one_local (local_keys items body)) needs
        (Taken items (local_ty items body) local (one_local (local_keys items body)) needs true site) Nothing v) o →
        ShownOut {V = Checking Facts} (not_mark 4) (waits site) (waits site) (with_facts facts facts o)
    emptied site facts v (Go w) h k = λ key t. by w key (k key (inr t))
      where
        by : (w : AbstractState) (key : ℕ) → ClearAt w key ⊎ ⊥ → ClearAt w key
        by w key (inl c) = c
        by w key (inr n) = absurd n
    emptied site facts v (Unwind w) h k = λ key t. by w key (k key (inr t))
      where
        by : (w : AbstractState) (key : ℕ) → ClearAt w key ⊎ ⊥ → ClearAt w key
        by w key (inl c) = c
        by w key (inr n) = absurd n
    emptied site facts v (Halts halt w) h k = unmarked 4 halt h

    pub finds : FindsNothing empty_run (not_mark 4) needs clear waits
    finds = record {
      acts = λ action v f. either_mark (tests.act_ok (action_at local action) v.free v.facts)
          (finds_nothing v.free.cells (action_at local action)) (acts_empty action v.free f) v _ Always Always
          (known_act _ _ (action_at local action) v.free);
      compares = λ to operator left right v f.
          either_mark (tests.act_ok (action_at local (effects.Compare to operator left right)) v.free v.facts)
          (finds_nothing v.free.cells (action_at local (effects.Compare to operator left right)))
          (acts_empty (effects.Compare to operator left right) v.free f) v _ Always Never
          (known ⊥ _ _ _ (halting ⊥ (stores_where (never_at items (local_ty items body))
          (action_at local (effects.Compare to operator left right)))
          (acted_on items (local_ty items body) (action_at local (effects.Compare to operator left right)) v.free)
          (compare_quiet items (local_ty items body) (site_at local to) operator (operand_at local left)
          (operand_at local right) v.free)));
      chooses = λ test v. chosen_mark (tests.test_ok (test_at local test) v.free v.facts) v _
          (known_choice _ _ (free.choose items (local_ty items body) (test_at local test) v.free)
          (test_quiet items (local_ty items body) (test_at local test) v.free));
      drops = λ mode e v. either_mark (tests.drop_ok mode (site_at local (entry_site e)) v.free v.facts) true refl v _
          Always Always (known (Unit {0}) _ _
          (free.drop items (local_ty items body) mode (site_at local (entry_site e)) v.free)
          (drop_quiet items (local_ty items body) mode (site_at local (entry_site e)) v.free));
      empties = λ site v. either_mark (tests.drop_ok Normal (site_at local site) v.free v.facts) true refl v _ (waits
          site)
          (waits site) (emptied site _ v.free (free.drop items (local_ty items body) Normal (site_at local site) v.free)
          (drop_quiet items (local_ty items body) Normal (site_at local site) v.free)
          (drop_so items (local_ty items body) local (one_local (local_keys items body)) needs Normal site v.free));
      refills = λ site key v f.
          either_mark (tests.act_ok (action_at local (effects.Put site (moved site.node key))) v.free v.facts)
          (finds_nothing v.free.cells (action_at local (effects.Put site (moved site.node key))))
          (acts_empty (effects.Put site (moved site.node key)) v.free f) v _ Always Always
          (known_act _ _ (action_at local (effects.Put site (moved site.node key))) v.free);
      assigns = λ site key v n.
          either_mark (tests.act_ok (action_at local (effects.Put site (moved site.node key))) v.free v.facts)
          (finds_nothing v.free.cells (action_at local (effects.Put site (moved site.node key))))
          (moved_empty v.free (place_at local site.place) site.node key n) v _ Always Always
          (known_act _ _ (action_at local (effects.Put site (moved site.node key))) v.free);
      ticks = λ v. ticked v.facts v.free v.free.choices;
      aborts = λ v. tt;
      lapses = λ v. tt;
    }

    -- each well typed node stores into locals that hold nothing, if the cells of its nodes are free, and leaves free
    -- what it does not fill
    pub node_finds : (fuel : ℕ) (n : Node) (x : Standpoint) (standing : Standing) →
        Holds (typed (context items x) standing n) → Good items needs empty_run clear keeps fuel (nodes_of n) →
        Rises (nodes_of n) →
        FreeM items needs empty_run clear keeps (not_mark 4) waits finds (context items x) (meaning items empty_run fuel n)
        (nodes_of n)
    node_finds fuel n x standing h g r =
        node_free items needs empty_run clear keeps (not_mark 4) waits finds fuel n x standing h g r
