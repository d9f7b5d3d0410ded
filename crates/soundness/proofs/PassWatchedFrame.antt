-- The frame of a run that watches what names stand for: where what a node changes lies apart from that, the run does
-- not stop in it. Its calls are in order as those of the run that watches nothing are, since it is that run or has
-- stopped.
use Rattle.std.proofs.Common.{◌≡◌, ℕ, Bool, true, false, List, [], ◌∷◌, ◌++◌, Option, Some, None, sym, ◌∙◌, subst}
use Rattle.std.specs.Prelude.{slice_get}
use Rattle.store_model.specs.Abstract.Effects.{AbstractState}
use Rattle.store_model.specs.Effects.{Action, Halt, Out, Go, Unwind, Halts, Choice, Yes, No, Neither, Effects}
use Rattle.store_model.specs.Places.Place.{Place}
use Rattle.typed_tree.specs.Tree.{Node, Nodes, no_node, a_node, BodyTree, ProgramTree}
use Rattle.src_meaning.specs.Evaluation.{meaning, meanings}
use Rattle.src_meaning.specs.Forms as forms
use Rattle.src_meaning.specs.Forms.{Into, LoopsAndGuards, Meaning, all_moved, site_in}
use Rattle.src_meaning.specs.Locals.Effects.{action_at, test_at, site_at, place_at}
use Rattle.src_meaning.specs.Locals.OfBody.{local_ty, local_of}
use Rattle.src_meaning.specs.Scopes.{Scopes, Run, At, Over}
use Rattle.src_meaning.specs.Shape.{Aliases}
use Rattle.soundness_values.specs.Laws.{IsSound}
use Rattle.soundness_values.proofs.AlsoTests.{Also}
use Rattle.soundness_values.proofs.Checked.{Checking, with_facts, chosen_with}
use Rattle.soundness_values.proofs.CheckedBodies.{is_reference_param}
use Rattle.soundness_values.proofs.Facts.{Facts, Each}
use Rattle.soundness_values.proofs.Leaving.{Shown, ShownOut}
use Rattle.soundness.proofs.PassAloneArgs.{Arg, AllKnown, makes_none}
use Rattle.soundness.proofs.PassAloneBrings.{args_of, all_ends}
use Rattle.soundness.proofs.PassAloneFrame.{Stay, May_, any_halt, no_call, keeping}
use Rattle.soundness.proofs.PassAloneLeaves as leaves
use Rattle.soundness.proofs.PassAloneLeaves.{Above, LeftAbove}
use Rattle.soundness.proofs.PassAloneLeft.{block_rises}
use Rattle.soundness.proofs.PassAloneRun.{MadeAt, Does_, Drops, Makes, makes, plain_does}
use Rattle.soundness.proofs.PassCallsAlone as alone
use Rattle.soundness.proofs.PassCallsAlone.{alone_marks}
use Rattle.soundness_frame.proofs.PassFrame as frame
use Rattle.soundness_frame.proofs.PassFrameActs.{Allowed, AnsweredSo, KeptOut, KeptChoice, KeepingSo}
use Rattle.soundness_frame.proofs.PassFrameCalls as calls
use Rattle.soundness_frame.proofs.PassFrameCalls.{Ends, called_by, all_end}
use Rattle.soundness_frame.proofs.PassFrameCells.{Cells, CellsKept, free_keeping}
use Rattle.soundness_frame.proofs.PassFrameHeads as pass_frame_heads
use Rattle.soundness_frame.proofs.PassFrameOperands as pass_frame_operands
use Rattle.soundness_frame.proofs.PassFrameForms as frames
use Rattle.soundness_frame.proofs.PassFrameHeads.{moved_nodes}
use Rattle.soundness_frame.proofs.PassFrameRuns.{allowed_at, test_allowed}
use Rattle.soundness_values.proofs.PassHeads.{number_is}
use Rattle.soundness_cells.proofs.PassMarks.{marked, chosen_marked}
use Rattle.soundness.proofs.PassNamingKept as kept
use Rattle.soundness.proofs.PassPlacesCalm as calm
use Rattle.soundness.proofs.PassPlacesCalm.{watching, all_known}
use Rattle.soundness.proofs.PassPlacesEffects.{q}
use Rattle.soundness_frame.proofs.PassStays as stays
use Rattle.soundness_frame.proofs.PassStays.{FactsStay, MayCall}
use Rattle.soundness.proofs.PassWatched as watched
use Rattle.soundness_frame.proofs.PassWithin as within

module _ (p : ProgramTree) (sound : IsSound p) (n fuel : ℕ) (b : BodyTree) (at : slice_get p.bodies n ≡ Some b)
    (aliases : Aliases) (least : ℕ) (left : LeftAbove p sound n fuel b at least) (May : Place → Type 0)
    (facts0 : Facts) (cells0 : Cells) (seen : Facts → Bool)
    (watches : (f : Facts) → FactsStay May facts0 f → seen f ≡ true) where
  abbrev V : Type 0
  V = Checking Facts

  abbrev also : Also
  also = alone.also p sound n

  abbrev r : Effects V
  r = watching p.items b also aliases

  abbrev r0 : Effects V
  r0 = q p.items b also

  abbrev local : ℕ → ℕ
  local = local_of p.items b

  abbrev target : ℕ → Bool
  target = is_reference_param p.items b

  abbrev M : Node → Meaning V
  M = meaning p.items r fuel

  abbrev Ms : Nodes → List (Meaning V)
  Ms = meanings p.items r fuel

  abbrev Kept : V → Type 0
  Kept = Stay p.items b also May facts0 cells0

  abbrev May_at : Place → Type 0
  May_at = May_ p.items b also May facts0 cells0

  -- where it ends so, what is seen is known
  abbrev pub over : Halt → V → Type 0
  over halt w = seen w.facts ≡ true

  abbrev Named : Facts → Type 0
  Named = kept.AllNamed p.items (local_ty p.items b) target (MadeAt p.items b also)

  abbrev Free : AbstractState → Type 0
  Free w = CellsKept May cells0 w.cells

  -- ---- effects

  out_stays : (o : Out V) → ShownOut over Kept Kept o →
      ShownOut over Kept Kept (watched.out_seen p.items b also (all_known p.items b aliases) o)
  out_stays (Go w) h = by (all_known p.items b aliases w.facts)
    where
      by : (c : Bool) → ShownOut over Kept Kept (watched.out_if p.items b also c w (Go w))
      by true = h
      by false = watches w.facts h.0.0
  out_stays (Unwind w) h = by (all_known p.items b aliases w.facts)
    where
      by : (c : Bool) → ShownOut over Kept Kept (watched.out_if p.items b also c w (Unwind w))
      by true = h
      by false = watches w.facts h.0.0
  out_stays (Halts halt w) h = h

  choice_stays : (o : Choice V) → AnsweredSo over Kept o →
      AnsweredSo over Kept (watched.choice_seen p.items b also (all_known p.items b aliases) o)
  choice_stays (Yes w) h = by (all_known p.items b aliases w.facts)
    where
      by : (c : Bool) → AnsweredSo over Kept (watched.choice_if p.items b also c w (Yes w))
      by true = h
      by false = watches w.facts h.0.0
  choice_stays (No w) h = by (all_known p.items b aliases w.facts)
    where
      by : (c : Bool) → AnsweredSo over Kept (watched.choice_if p.items b also c w (No w))
      by true = h
      by false = watches w.facts h.0.0
  choice_stays (Neither halt w) h = h

  with_stay : (went unwound : Facts) (o : Out AbstractState) → FactsStay May facts0 went → FactsStay May facts0
      unwound → Named went → Named unwound → KeptOut Free o → ShownOut over Kept Kept (with_facts went unwound o)
  with_stay went unwound (Go w) f g x y k = ((f, k), x)
  with_stay went unwound (Unwind w) f g x y k = ((g, k), y)
  with_stay went unwound (Halts halt w) f g x y k = watches unwound g

  chosen_stay : (taken declined : Facts) (o : Choice AbstractState) → FactsStay May facts0 taken →
      FactsStay May facts0 declined → Named taken → Named declined → KeptChoice Free o →
      AnsweredSo over Kept (chosen_with taken declined o)
  chosen_stay taken declined (Yes w) f g x y k = ((f, k), x)
  chosen_stay taken declined (No w) f g x y k = ((g, k), y)
  chosen_stay taken declined (Neither halt w) f g x y k = watches declined g

  either : (mark : Option ℕ) (v : V) (o : Out V) → Kept v → ShownOut over Kept Kept o →
      ShownOut over Kept Kept (marked mark v o)
  either None v o i h = h
  either (Some mark) v o i h = watches v.facts i.0.0

  either_choice : (mark : Option ℕ) (v : V) (o : Choice V) → Kept v → AnsweredSo over Kept o →
      AnsweredSo over Kept (chosen_marked mark v o)
  either_choice None v o i h = h
  either_choice (Some mark) v o i h = watches v.facts i.0.0

  acts_in : (action : Action) (v : V) → Allowed May_at action →
      MayCall May p.items (local_ty p.items b) target v.facts (action_at local action) →
      Makes p.items b also (action_at local action) → Kept v → ShownOut over Kept Kept (r.act action v)
  acts_in action v a c m i = out_stays (r0.act action v)
      (either ((alone_marks p.items b also).acting (action_at local action) v.free v.facts) v _ i
      (with_stay _ _ _
      (stays.action_kept May p.items (local_ty p.items b) target (action_at local action) facts0 v.facts
      (allowed_at local May action a) c i.0.0)
      (stays.unwound_kept May p.items (local_ty p.items b) target (action_at local action) facts0 v.facts
      (allowed_at local May action a) c i.0.0)
      (kept.action_named p.items (local_ty p.items b) target (MadeAt p.items b also) (action_at local action) v.facts
      m i.1) (kept.unwound_named p.items (local_ty p.items b) target (MadeAt p.items b also) (action_at local action)
      v.facts m i.1)
      ((free_keeping May p.items (local_ty p.items b) cells0).acts (action_at local action) v.free
      (allowed_at local May action a) i.0.1)))

  pub keeps : KeepingSo r over (Does_ p.items b also) (Drops p.items b also) May_at May_at May_at Kept
  keeps = record {
    acts = λ action v a d i. acts_in action v a (no_call p.items b also May facts0 cells0 action v d)
        (makes p.items b also action d) i;
    chooses = λ test v t i. choice_stays (r0.choose test v)
        (either_choice ((alone_marks p.items b also).choosing (test_at local test) v.free v.facts) v _ i
        (chosen_stay _ _ _
        (stays.taken_kept May p.items (local_ty p.items b) target (test_at local test) facts0 v.facts
        (test_allowed local May test t) i.0.0)
        (stays.declined_kept May p.items (local_ty p.items b) target (test_at local test) facts0 v.facts
        (test_allowed local May test t) i.0.0)
        (kept.taken_named p.items (local_ty p.items b) target (MadeAt p.items b also) (test_at local test) v.facts i.1)
        (kept.declined_named p.items (local_ty p.items b) target (MadeAt p.items b also) (test_at local test) v.facts
        i.1) ((free_keeping May p.items (local_ty p.items b) cells0).chooses (test_at local test) v.free
        (test_allowed local May test t) i.0.1)));
    drops = λ mode site v m d i. let f = stays.dropped_kept May p.items (local_ty p.items b) target
        (place_at local site.place) facts0 v.facts m i.0.0 in
        let g = kept.dropped_named p.items (local_ty p.items b) target (MadeAt p.items b also)
        (place_at local site.place) v.facts i.1 in
        out_stays (r0.drop mode site v)
        (either ((alone_marks p.items b also).dropping mode (site_at local site) v.free v.facts) v _ i
        (with_stay _ _ _ f f g g
        ((free_keeping May p.items (local_ty p.items b) cells0).drops mode (site_at local site) v.free m i.0.1)));
    panics = λ why v i. i;
    ticks = λ v i. out_stays (r0.tick v) (with_stay _ _ _ i.0.0 i.0.0 i.1 i.1
        ((free_keeping May p.items (local_ty p.items b) cells0).ticks v.free i.0.1));
    plain = plain_does p.items b also;
    whole = λ key. tt;
    stores = λ place m. m;
    coerces = λ place m. m;
    aborts = λ v i. watches v.facts i.0.0;
    lapses = λ v i. watches v.facts i.0.0;
    stuck = λ v i. watches v.facts i.0.0;
  }

  -- ---- calls

  abbrev Evaluated : LoopsAndGuards → List (Meaning V) → Type 0
  Evaluated = frame.AllEvaluated p.items r over (Does_ p.items b also) (Drops p.items b also) May_at May_at May_at Kept
      keeps

  abbrev AllEnd_ : LoopsAndGuards → List Arg → List (Meaning V) → List Arg → Type 0
  AllEnd_ = calls.AllEnd p.items r over (Does_ p.items b also) (Drops p.items b also) May_at May_at May_at Kept keeps
      Arg (AllKnown p.items b)

  abbrev AllEnd0 : LoopsAndGuards → List Arg → List (Meaning V) → List Arg → Type 0
  AllEnd0 = calls.AllEnd p.items r0 (any_halt p.items b also May facts0 cells0) (Does_ p.items b also)
      (Drops p.items b also) May_at May_at May_at Kept (keeping p.items b also May facts0 cells0) Arg (AllKnown
      p.items b)

  -- what each argument brings where nothing is watched, it brings
  one_brings : (m : Node) (around : LoopsAndGuards) (J : V → Type 0) (S : Scopes) (v : V) →
      Ends J ((meaning p.items r0 fuel m).evaluate around false (Into (meaning p.items r0 fuel m).head.id) S v) →
      Ends J ((M m).evaluate around false (Into (M m).head.id) S v)
  one_brings m around J S v h = calm.ends_so p.items b also aliases fuel J m around false (Into (M m).head.id) S v
      (subst (λ key. Ends J ((meaning p.items r0 fuel m).evaluate around false (Into key) S v))
      (number_is p.items r0 fuel m ∙ sym (number_is p.items r fuel m)) h)

  all_bring : (around : LoopsAndGuards) (es : List Arg) (ns : Nodes) (os : List Arg) →
      AllEnd0 around es (meanings p.items r0 fuel ns) os → AllEnd_ around es (Ms ns) os
  all_bring around es no_node [] h = tt
  all_bring around es no_node (o ∷ os) h = absurd h
  all_bring around es (a_node first rest) [] h = absurd h
  all_bring around es (a_node first rest) (o ∷ os) h = (
    λ S v i j. one_brings first around (AllKnown p.items b (es ++ o ∷ [])) S v (h.0 S v i j),
    all_bring around (es ++ o ∷ []) rest os h.1,
  )

  abbrev args : Aliases → Nodes → List Arg
  args = args_of p.items b also fuel (block_rises p sound n b at)

  by_number : (at_node : ℕ) (ns : Nodes) → all_moved at_node (Ms ns) ≡ moved_nodes at_node ns
  by_number at_node ns = pass_frame_heads.all_by_number p.items r over (Does_ p.items b also) (Drops p.items b also) May_at May_at
      May_at Kept keeps (Above p sound n fuel b at least) fuel at_node ns

  at_calls : pass_frame_operands.AtCalls p.items r over (Does_ p.items b also) (Drops p.items b also) May_at May_at May_at Kept keeps
      (Above p sound n fuel b at least) fuel
  at_calls = record {
    called_kept = λ form ns action c id ty by s around loops a w says ev own_cell own to d.
        let k = left form ns action c id around loops says a.1 in
        called_by p.items r over (Does_ p.items b also) (Drops p.items b also) May_at May_at May_at Kept keeps
        (AllKnown p.items b (args around.aliases ns)) (Above p sound n fuel b at least) fuel id ty by s (Ms ns) action
        around own to ev
        (λ S v i. all_end p.items r over (Does_ p.items b also) (Drops p.items b also) May_at May_at May_at Kept keeps
        Arg (AllKnown p.items b) around [] (Ms ns) (args around.aliases ns) ev
        (all_bring around [] ns (args around.aliases ns)
        (all_ends p.items b also fuel (block_rises p sound n b at) (any_halt p.items b also May facts0 cells0)
        (Does_ p.items b also) (Drops p.items b also) May_at May_at May_at Kept
        (keeping p.items b also May facts0 cells0) (λ v i. i.1) ns around []
        (frames.operands p.items r0 (any_halt p.items b also May facts0 cells0) (Does_ p.items b also)
        (Drops p.items b also) May_at May_at May_at Kept (keeping p.items b also May facts0 cells0)
        (Above p sound n fuel b at least) fuel (leaves.saying p sound n fuel b at least left May facts0 cells0)
        (leaves.at_calls p sound n fuel b at least left May facts0 cells0) ns around (within.passing id loops) a w)
        k.fit k.leave)) S v i tt)
        (λ key x v i j. acts_in (action (site_in id key) (all_moved id (Ms ns))) v
        (pass_frame_operands.called_allowed p.items r over (Does_ p.items b also) (Drops p.items b also) May_at May_at May_at Kept
        keeps (Above p sound n fuel b at least) fuel form ns action c id key (all_moved id (Ms ns)) x
        (pass_frame_operands.all_taken p.items r over (Does_ p.items b also) (Drops p.items b also) May_at May_at May_at Kept keeps
        (Above p sound n fuel b at least) fuel id around (Ms ns) ev))
        (subst (λ l. MayCall May p.items (local_ty p.items b) target v.facts (action_at local (action (site_in id key)
        l))) (sym (by_number id ns))
        (leaves.may_action p sound n fuel b at least left May facts0 cells0 form ns action c (site_in id key)
        (moved_nodes id ns) v.facts
        (subst (Each _) (sym (leaves.names_so p sound n fuel b at least left May facts0 cells0 form ns around k id v j))
        (leaves.each_may p sound n fuel b at least left May facts0 cells0 ns around.aliases (within.passing id loops)
        w)))) (makes_none p.items b also form ns action c (site_in id key) (all_moved id (Ms ns))) i) own_cell d;
  }

  -- ---- a node that is a scope of its own, as a guard is

  shown_at : (x : Run V) → frame.KeptAt p.items r over (Does_ p.items b also) (Drops p.items b also) May_at May_at
      May_at Kept keeps 0 x → Shown over (λ exit S w. Kept w) x
  shown_at (At exit S w) k = k.1
  shown_at (Over halt w) k = k

  pub shown_alone : (m : Node) (around : LoopsAndGuards) (loops : within.Outer) → within.Around May_at around loops →
      within.Within p.items May_at (Above p sound n fuel b at least) around.aliases loops m → (S : Scopes) (v : V) →
      Kept v → Shown over (λ exit T w. Kept w) (forms.alone p.items r around (M m) (Into (M m).head.id) S v)
  shown_alone m around loops a w S v k = shown_at (forms.alone p.items r around (M m) (Into (M m).head.id) S v)
      ((pass_frame_operands.body_from p.items r over (Does_ p.items b also) (Drops p.items b also) May_at May_at May_at Kept keeps
      (Above p sound n fuel b at least) fuel m around loops w
      (λ own to d. frames.evaluated p.items r over (Does_ p.items b also) (Drops p.items b also) May_at May_at May_at
      Kept keeps (Above p sound n fuel b at least) fuel (leaves.saying p sound n fuel b at least left May facts0
      cells0) at_calls m around loops a w own to d)).kept 0 S v
      (calls.none_looked_at p.items r over (Does_ p.items b also) (Drops p.items b also) May_at May_at May_at Kept
      keeps S) k)
