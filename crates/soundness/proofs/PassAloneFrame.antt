-- While a node is evaluated, what is known of places and references stays so, if what the node changes lies apart: also
-- of what is named by references that other runs through the node have left, since a call changes only what its own
-- arguments name.
use Rattle.std.proofs.Common.{ℕ, Bool, Option, Some, None}
use Rattle.mir_ty.specs.ItemTable.{ItemTable}
use Rattle.store_model.specs.Abstract.Effects.{AbstractState}
use Rattle.store_model.specs.Effects as effects
use Rattle.store_model.specs.Effects.{Action, Halt, Out, Go, Unwind, Halts, Choice, Yes, No, Neither, Effects}
use Rattle.store_model.specs.Places.Place.{Place}
use Rattle.typed_tree.specs.Tree.{BodyTree}
use Rattle.src_meaning.specs.Locals.Effects.{action_at, test_at, site_at, place_at}
use Rattle.src_meaning.specs.Locals.OfBody.{local_ty, local_of}
use Rattle.soundness_values.proofs.AlsoTests.{Also}
use Rattle.soundness_values.proofs.Checked.{Checking, with_facts, chosen_with}
use Rattle.soundness_values.proofs.CheckedBodies.{is_reference_param}
use Rattle.soundness_values.proofs.Facts.{Facts}
use Rattle.soundness_values.proofs.Leaving.{ShownOut}
use Rattle.soundness.proofs.PassAloneRun.{run, I, MadeAt, Does_, Drops, Makes, makes, plain_does}
use Rattle.soundness.proofs.PassCallsAlone.{alone_marks}
use Rattle.soundness_frame.proofs.PassFrameActs.{Allowed, AnsweredSo, KeptOut, KeptChoice, KeepingSo}
use Rattle.soundness_frame.proofs.PassFrameCells.{Cells, CellsKept, free_keeping}
use Rattle.soundness_frame.proofs.PassFrameRuns.{MayAt, allowed_at, test_allowed}
use Rattle.soundness_cells.proofs.PassMarks.{marked, chosen_marked}
use Rattle.soundness.proofs.PassNamingKept as kept
use Rattle.soundness_frame.proofs.PassStays as stays
use Rattle.soundness_frame.proofs.PassStays.{FactsStay, MayCall}

module _ (items : ItemTable) (body : BodyTree) (also : Also) (May : Place → Type 0) (facts0 : Facts) (cells0 : Cells)
  where
    abbrev V : Type 0
    V = Checking Facts

    abbrev local : ℕ → ℕ
    local = local_of items body

    abbrev target : ℕ → Bool
    target = is_reference_param items body

    abbrev q : Effects V
    q = run items body also

    abbrev pub May_ : Place → Type 0
    May_ = MayAt local May

    abbrev Named : Facts → Type 0
    Named = kept.AllNamed items (local_ty items body) target (MadeAt items body also)

    -- so much is known and present as there was, and all references were made by borrows of the block
    abbrev pub Stay : V → Type 0
    Stay v = (FactsStay May facts0 v.facts × CellsKept May cells0 v.free.cells) × I items body also v

    abbrev Free : AbstractState → Type 0
    Free w = CellsKept May cells0 w.cells

    abbrev pub any_halt : Halt → V → Type 0
    any_halt halt v = Unit {0}

    with_stay : (went unwound : Facts) (o : Out AbstractState) → FactsStay May facts0 went →
        FactsStay May facts0 unwound → Named went → Named unwound → KeptOut Free o →
        ShownOut {V = V} any_halt Stay Stay (with_facts went unwound o)
    with_stay went unwound (Go w) f g n m k = ((f, k), n)
    with_stay went unwound (Unwind w) f g n m k = ((g, k), m)
    with_stay went unwound (Halts halt w) f g n m k = tt

    chosen_stay : (taken declined : Facts) (o : Choice AbstractState) → FactsStay May facts0 taken →
        FactsStay May facts0 declined → Named taken → Named declined → KeptChoice Free o →
        AnsweredSo {V = V} any_halt Stay (chosen_with taken declined o)
    chosen_stay taken declined (Yes w) f g n m k = ((f, k), n)
    chosen_stay taken declined (No w) f g n m k = ((g, k), m)
    chosen_stay taken declined (Neither halt w) f g n m k = tt

    either : (mark : Option ℕ) (v : V) (o : Out V) → ShownOut any_halt Stay Stay o →
        ShownOut any_halt Stay Stay (marked mark v o)
    either None v o h = h
    either (Some mark) v o h = tt

    either_choice : (mark : Option ℕ) (v : V) (o : Choice V) → AnsweredSo any_halt Stay o →
        AnsweredSo any_halt Stay (chosen_marked mark v o)
    either_choice None v o h = h
    either_choice (Some mark) v o h = tt

    -- an action, of which it is known what it changes
    pub acts_in : (action : Action) (v : V) → Allowed May_ action →
        MayCall May items (local_ty items body) target v.facts (action_at local action) →
        Makes items body also (action_at local action) → Stay v → ShownOut any_halt Stay Stay (q.act action v)
    acts_in action v a c m i = either ((alone_marks items body also).acting (action_at local action) v.free v.facts) v _
        (with_stay _ _ _
        (stays.action_kept May items (local_ty items body) target (action_at local action) facts0 v.facts
        (allowed_at local May action a) c i.0.0)
        (stays.unwound_kept May items (local_ty items body) target (action_at local action) facts0 v.facts
        (allowed_at local May action a) c i.0.0)
        (kept.action_named items (local_ty items body) target (MadeAt items body also) (action_at local action)
        v.facts m
        i.1)
        (kept.unwound_named items (local_ty items body) target (MadeAt items body also) (action_at local action) v.facts
        m i.1)
        ((free_keeping May items (local_ty items body) cells0).acts (action_at local action) v.free
        (allowed_at local May action a) i.0.1))

    pub no_call : (action : Action) (v : V) → Does_ items body also action →
        MayCall May items (local_ty items body) target v.facts (action_at local action)
    no_call (effects.Call to callee args) v d = absurd d
    no_call (effects.CallVirtual to trait_no method args) v d = absurd d
    no_call action v d = tt

    pub keeping : KeepingSo q any_halt (Does_ items body also) (Drops items body also) May_ May_ May_ Stay
    keeping = record {
      acts = λ action v a d i. acts_in action v a (no_call action v d) (makes items body also action d) i;
      chooses = λ test v t i. either_choice ((alone_marks items body also).choosing (test_at local test) v.free v.facts)
          v _ (chosen_stay _ _ _
          (stays.taken_kept May items (local_ty items body) target (test_at local test) facts0 v.facts
          (test_allowed local May test t) i.0.0)
          (stays.declined_kept May items (local_ty items body) target (test_at local test) facts0 v.facts
          (test_allowed local May test t) i.0.0)
          (kept.taken_named items (local_ty items body) target (MadeAt items body also) (test_at local test) v.facts
          i.1)
          (kept.declined_named items (local_ty items body) target (MadeAt items body also) (test_at local test) v.facts
          i.1)
          ((free_keeping May items (local_ty items body) cells0).chooses (test_at local test) v.free
          (test_allowed local May test t) i.0.1));
      drops = λ mode site v m d i. let f = stays.dropped_kept May items (local_ty items body) target
          (place_at local site.place) facts0 v.facts m i.0.0 in
          let g = kept.dropped_named items (local_ty items body) target (MadeAt items body also)
          (place_at local site.place) v.facts i.1 in
          either ((alone_marks items body also).dropping mode (site_at local site) v.free v.facts) v _
          (with_stay _ _ _ f f g g
          ((free_keeping May items (local_ty items body) cells0).drops mode (site_at local site) v.free m i.0.1));
      panics = λ why v i. i;
      ticks = λ v i. with_stay _ _ _ i.0.0 i.0.0 i.1 i.1
          ((free_keeping May items (local_ty items body) cells0).ticks v.free i.0.1);
      plain = plain_does items body also;
      whole = λ key. tt;
      stores = λ place m. m;
      coerces = λ place m. m;
      aborts = λ v i. tt;
      lapses = λ v i. tt;
      stuck = λ v i. tt;
    }
