-- A node of a checked run, and of one that says which test failed, keeps what is known and what is present of all
-- places
-- apart from those that it may change: at each of its exits so much is known and present as before.
use Rattle.std.proofs.Common.{ℕ, Bool, true, false, List, [], ◌∷◌, map, Option, Some, None}
use Rattle.mir_ty.specs.ItemTable.{ItemTable}
use Rattle.store_model.specs.Abstract.Effects.{AbstractState, abstract_effects}
use Rattle.store_model.specs.Effects as effects
use Rattle.store_model.specs.Effects.{EffectSite, Operand, Action, Test, Mode, Halt, Out, Go, Unwind, Halts, Choice, Yes, No, Neither, Effects}
use Rattle.store_model.specs.Places.Place.{Place}
use Rattle.typed_tree.specs.Nodes.{number_of}
use Rattle.typed_tree.specs.Tree.{Node, Form, BodyTree}
use Rattle.src_meaning.specs.Evaluation.{meaning}
use Rattle.src_meaning.specs.Forms.{Destination, LoopsAndGuards}
use Rattle.src_meaning.specs.Locals.Effects.{at_locals, place_at, operand_at, action_at, test_at, site_at}
use Rattle.src_meaning.specs.Locals.OfBody.{local_ty, local_of}
use Rattle.src_meaning.specs.Scopes.{Scopes, Run, At, Over}
use Rattle.src_meaning.specs.Shape.{Aliases}
use Rattle.soundness_values.proofs.AlsoTests.{Also, checks_also}
use Rattle.soundness_values.proofs.Checked.{Checking, checked_effects, with_facts, chosen_with, if_ok, chosen_if_ok}
use Rattle.soundness_values.proofs.CheckedBodies.{checks_of, is_reference_param}
use Rattle.soundness_values.proofs.Facts.{Facts}
use Rattle.soundness_frame.proofs.PassFrame as frame
use Rattle.soundness_frame.proofs.PassFrameActs.{Takes, AllTake, Allowed, AllowedTest, DestCell, KeptOut, KeptChoice, Keeping, KeepingSo, keeping_so}
use Rattle.soundness_frame.proofs.PassFrameCells.{Cells, CellsKept, free_keeping}
use Rattle.soundness_frame.proofs.PassFrameFacts as facts_of
use Rattle.soundness_frame.proofs.PassFrameFacts.{FactsKept}
use Rattle.soundness_frame.proofs.PassFrameOperands as pass_frame_operands
use Rattle.soundness_frame.proofs.PassFrameForms as forms_of
use Rattle.soundness_frame.proofs.PassFrameHeads.{Telling, TellingCalls}
use Rattle.soundness_cells.proofs.PassMarks.{Marks, marked, chosen_marked, marked_effects}
use Rattle.soundness_frame.proofs.PassWithin.{Around, Within, Reaching, Outer, DestIn}

-- ---- effects at locals

module _ (local_of : ℕ → ℕ) (May : Place → Type 0) where
  abbrev pub MayAt : Place → Type 0
  MayAt place = May (place_at local_of place)

  takes_at : (operand : Operand) → Takes MayAt operand → Takes May (operand_at local_of operand)
  takes_at (effects.Copied site) t = t
  takes_at (effects.Moved site) t = t
  takes_at (effects.Number value kind) t = t
  takes_at (effects.Truth value) t = t
  takes_at effects.UnitValue t = t

  all_at : (operands : List Operand) → AllTake MayAt operands → AllTake May (map (operand_at local_of) operands)
  all_at [] t = tt
  all_at (operand ∷ operands) t = (takes_at operand t.0, all_at operands t.1)

  pub allowed_at : (action : Action) → Allowed MayAt action → Allowed May (action_at local_of action)
  allowed_at (effects.Put to from) a = (a.0, takes_at from a.1)
  allowed_at (effects.Compare to operator left right) a = (a.0, (takes_at left a.1.0, takes_at right a.1.1))
  allowed_at (effects.Not to operand) a = (a.0, takes_at operand a.1)
  allowed_at (effects.Build to kind parts) a = (a.0, all_at parts a.1)
  allowed_at (effects.NewBox to content) a = (a.0, takes_at content a.1)
  allowed_at (effects.Unsize to trait_no operand) a = (a.0, takes_at operand a.1)
  allowed_at (effects.Borrow to unique base) a = a
  allowed_at (effects.Touch base) a = a
  allowed_at (effects.Print operand) a = takes_at operand a
  allowed_at (effects.Forget operand) a = takes_at operand a
  allowed_at (effects.Free box) a = a
  allowed_at (effects.Compute to operator left right) a = (a.0, (takes_at left a.1.0, takes_at right a.1.1))
  allowed_at (effects.Negate to operand) a = (a.0, takes_at operand a.1)
  allowed_at (effects.Bounds index length) a = takes_at index a
  allowed_at (effects.Call to body args) a = (a.0, all_at args a.1)
  allowed_at (effects.CallVirtual to trait_no method args) a = (a.0, all_at args a.1)
  allowed_at (effects.Ask to) a = a

  pub test_allowed : (test : Test) → AllowedTest MayAt test → AllowedTest May (test_at local_of test)
  test_allowed (effects.IsTrue operand) t = takes_at operand t
  test_allowed (effects.HasVariant site variant) t = t

  pub keeping_at : {V : Type 0} (q : Effects V) (I : V → Type 0) → Keeping q May I →
      Keeping (at_locals local_of q) MayAt I
  keeping_at q I k = record {
    acts = λ action v a i. k.acts (action_at local_of action) v (allowed_at action a) i;
    chooses = λ test v t i. k.chooses (test_at local_of test) v (test_allowed test t) i;
    drops = λ mode site v m i. k.drops mode (site_at local_of site) v m i;
    panics = λ why v i. k.panics why v i;
    ticks = λ v i. k.ticks v i;
  }

-- ---- effects that check what they do

-- so much is known and present as there was
abbrev pub StillKnown : (Place → Type 0) → Facts → Cells → Checking Facts → Type 0
StillKnown May facts cells v = FactsKept May facts v.facts × CellsKept May cells v.free.cells

module _ (items : ItemTable) (body : BodyTree) (May : Place → Type 0) (facts : Facts) (cells : Cells) where
  abbrev Known : Checking Facts → Type 0
  Known = StillKnown May facts cells

  abbrev Free : AbstractState → Type 0
  Free w = CellsKept May cells w.cells

  abbrev p : Effects AbstractState
  p = abstract_effects items (local_ty items body)

  free : Keeping p May Free
  free = free_keeping May items (local_ty items body) cells

  with_kept : (went unwound : Facts) (o : Out AbstractState) → FactsKept May facts went →
      FactsKept May facts unwound → KeptOut Free o → KeptOut Known (with_facts went unwound o)
  with_kept went unwound (Go w) f g k = (f, k)
  with_kept went unwound (Unwind w) f g k = (g, k)
  with_kept went unwound (Halts halt w) f g k = tt

  chosen_kept : (taken declined : Facts) (o : Choice AbstractState) → FactsKept May facts taken →
      FactsKept May facts declined → KeptChoice Free o → KeptChoice Known (chosen_with taken declined o)
  chosen_kept taken declined (Yes w) f g k = (f, k)
  chosen_kept taken declined (No w) f g k = (g, k)
  chosen_kept taken declined (Neither halt w) f g k = tt

  -- what an effect does where its tests hold
  acted_kept : (action : Action) (v : Checking Facts) → Allowed May action → Known v → KeptOut Known
      (with_facts ((checks_of items body).act_facts action v.free v.facts)
      ((checks_of items body).unwound_facts action v.free v.facts) (p.act action v.free))
  acted_kept action v a i = with_kept _ _ (p.act action v.free)
      (facts_of.action_kept May items (local_ty items body) (is_reference_param items body) action facts v.facts a i.0)
      (facts_of.unwound_kept May items (local_ty items body) (is_reference_param items body) action facts v.facts a i.0)
      (free.acts action v.free a i.1)

  tested_kept : (test : Test) (v : Checking Facts) → AllowedTest May test → Known v → KeptChoice Known
      (chosen_with ((checks_of items body).taken_facts test v.free v.facts)
      ((checks_of items body).declined_facts test v.free v.facts) (p.choose test v.free))
  tested_kept test v t i = chosen_kept _ _ (p.choose test v.free)
      (facts_of.taken_kept May items (local_ty items body) (is_reference_param items body) test facts v.facts t i.0)
      (facts_of.declined_kept May items (local_ty items body) (is_reference_param items body) test facts v.facts t i.0)
      (free.chooses test v.free t i.1)

  dropped_kept : (mode : Mode) (site : EffectSite) (v : Checking Facts) → May site.place → Known v → KeptOut Known
      (with_facts ((checks_of items body).drop_facts mode site v.free v.facts)
      ((checks_of items body).drop_facts mode site v.free v.facts) (p.drop mode site v.free))
  dropped_kept mode site v m i =
      let d = facts_of.dropped_kept May items (local_ty items body) (is_reference_param items body) site.place facts
      v.facts m i.0 in
      with_kept _ _ (p.drop mode site v.free) d d (free.drops mode site v.free m i.1)

  ticked_kept : (v : Checking Facts) → Known v → KeptOut Known (with_facts v.facts v.facts (p.tick v.free))
  ticked_kept v i = with_kept _ _ (p.tick v.free) i.0 i.0 (free.ticks v.free i.1)

  -- ---- a checked run

  if_kept : (b : Bool) (v : Checking Facts) (o : Out (Checking Facts)) → KeptOut Known o → KeptOut Known (if_ok b v o)
  if_kept true v o k = k
  if_kept false v o k = tt

  chosen_if_kept : (b : Bool) (v : Checking Facts) (o : Choice (Checking Facts)) → KeptChoice Known o →
      KeptChoice Known (chosen_if_ok b v o)
  chosen_if_kept true v o k = k
  chosen_if_kept false v o k = tt

  pub checked_keeping : (also : Also) → Keeping (checked_effects (checks_also also (checks_of items body)) p) May Known
  checked_keeping also = record {
    acts = λ action v a i. if_kept _ v _ (acted_kept action v a i);
    chooses = λ test v t i. chosen_if_kept _ v _ (tested_kept test v t i);
    drops = λ mode site v m i. if_kept _ v _ (dropped_kept mode site v m i);
    panics = λ why v i. i;
    ticks = λ v i. ticked_kept v i;
  }

  -- ---- a run that says which test failed

  marked_kept : (mark : Option ℕ) (v : Checking Facts) (o : Out (Checking Facts)) → KeptOut Known o →
      KeptOut Known (marked mark v o)
  marked_kept None v o k = k
  marked_kept (Some mark) v o k = tt

  chosen_marked_kept : (mark : Option ℕ) (v : Checking Facts) (o : Choice (Checking Facts)) → KeptChoice Known o →
      KeptChoice Known (chosen_marked mark v o)
  chosen_marked_kept None v o k = k
  chosen_marked_kept (Some mark) v o k = tt

  pub marked_keeping : (marks : Marks Facts) → Keeping (marked_effects (checks_of items body) marks p) May Known
  marked_keeping marks = record {
    acts = λ action v a i. marked_kept (marks.acting action v.free v.facts) v _ (acted_kept action v a i);
    chooses = λ test v t i. chosen_marked_kept (marks.choosing test v.free v.facts) v _ (tested_kept test v t i);
    drops = λ mode site v m i. marked_kept (marks.dropping mode site v.free v.facts) v _ (dropped_kept mode site v m i);
    panics = λ why v i. i;
    ticks = λ v i. ticked_kept v i;
  }

  -- whatever other tests there are
  pub also_keeping : (also : Also) (marks : Marks Facts) →
      Keeping (marked_effects (checks_also also (checks_of items body)) marks p) May Known
  also_keeping also marks = record {
    acts = λ action v a i. marked_kept (marks.acting action v.free v.facts) v _ (acted_kept action v a i);
    chooses = λ test v t i. chosen_marked_kept (marks.choosing test v.free v.facts) v _ (tested_kept test v t i);
    drops = λ mode site v m i. marked_kept (marks.dropping mode site v.free v.facts) v _ (dropped_kept mode site v m i);
    panics = λ why v i. i;
    ticks = λ v i. ticked_kept v i;
  }

  -- ---- nodes

  module _ (q : Effects (Checking Facts)) (keeping : Keeping q May Known) where
    abbrev pub run : Effects (Checking Facts)
    run = at_locals (local_of items body) q

    abbrev pub May_ : Place → Type 0
    May_ = MayAt (local_of items body) May

    -- however it halts, whatever is done
    abbrev any_halt : Halt → Checking Facts → Type 0
    any_halt halt v = Unit {0}

    abbrev any_action : Action → Type 0
    any_action action = Unit {0}

    abbrev any_site : EffectSite → Type 0
    any_site site = Unit {0}

    abbrev pub nothing_said : Aliases → Outer → ℕ → Form → Type 0
    nothing_said aliases loops id form = Unit {0}

    run_keeping : KeepingSo run any_halt any_action any_site May_ May_ May_ Known
    run_keeping = keeping_so Known run May_ (keeping_at (local_of items body) May q Known keeping)

    nothing_told : Telling items any_action any_site nothing_said
    nothing_told = record {
      borrows = λ aliases loops id unique base s. tt;
      assigns = λ aliases loops id place value s. tt;
    }

    no_calls_told : TellingCalls any_action nothing_said
    no_calls_told = record {
      calls = λ aliases loops id key callee args s. tt;
      methods = λ aliases loops id key callee receiver args s. tt;
      virtuals = λ aliases loops id key trait_no method receiver args s. tt;
      closures = λ aliases loops id key callee value args s. tt;
    }

    -- what holds where a run is at an exit
    abbrev pub Found : Run (Checking Facts) → Type 0
    Found (At exit S v) = Known v
    Found (Over halt v) = Unit {0}

    none_looked_at : (S : Scopes) → frame.Fine items run any_halt any_action any_site May_ May_ May_ Known run_keeping
        S 0
    none_looked_at [] = tt
    none_looked_at (s ∷ S) = tt

    found : (r : Run (Checking Facts)) → frame.KeptAt items run any_halt any_action any_site May_ May_ May_ Known
        run_keeping 0
        r → Found r
    found (At exit S v) k = k.1
    found (Over halt v) k = tt

    -- a node that is evaluated, and one that is reached
    pub node_keeps : (fuel : ℕ) (n : Node) (around : LoopsAndGuards) (loops : Outer) → Around May_ around loops →
        Within items May_ nothing_said around.aliases loops n → (own : Bool) (to : Destination) → DestCell May_ to →
        DestIn (number_of n ∷ loops.keys) to → (S : Scopes)
        (v : Checking Facts) → Known v → Found ((meaning items run fuel n).evaluate around own to S v)
    node_keeps fuel n around loops a w own to d e S v i = found ((meaning items run fuel n).evaluate around own to S v)
        ((forms_of.anywhere items run any_halt any_action any_site May_ May_ May_ Known run_keeping
        nothing_said fuel nothing_told (pass_frame_operands.by_telling items run any_halt any_action any_site May_ May_ May_
        Known run_keeping nothing_said fuel no_calls_told)
        (λ aliases loops id key unique base s. tt) n around loops a w own to (d, e)).kept 0 S v
        (none_looked_at S) i)

    pub reach_keeps : (fuel : ℕ) (n : Node) (around : LoopsAndGuards) (loops : Outer) → Around May_ around loops →
        Reaching items May_ nothing_said around.aliases loops n → (S : Scopes) (v : Checking Facts) → Known v →
        Found ((meaning items run fuel n).reach around S v)
    reach_keeps fuel n around loops a w S v i = found ((meaning items run fuel n).reach around S v)
        ((forms_of.reached items run any_halt any_action any_site May_ May_ May_ Known run_keeping nothing_said
        fuel nothing_told (pass_frame_operands.by_telling items run any_halt any_action any_site May_ May_ May_ Known
        run_keeping nothing_said fuel no_calls_told)
        n around loops a w).kept 0 S v (none_looked_at S) i)
