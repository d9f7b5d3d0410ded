-- The tests of a pattern, in a run that marks what is left: where enough is known of the place that is matched, no test fails
-- for want of that, and where they hold, the variants stand there that the pattern names. What is known of the place is so
-- still, whether they hold or not. Asked is that the cells of the pattern are not in the place, and no index on its way.
use Rattle.std.proofs.Common.{◌≡◌, ◌⊎◌, inl, inr, ℕ, suc, ◌==◌, ◌&&◌, ◌||◌, not, Bool, true, false, List, [], ◌∷◌, ◌++◌, map, Option, Some, None, if◌then◌else◌, refl, ap, sym, ◌∙◌, subst}
use Rattle.std.specs.Prelude.{slice_get, option_and_then, replicate, nat_lt}
use Rattle.std.specs.Cmp.Derive.{both_true}
use Rattle.std.specs.Cmp.Lexicographic.{pointwise}
use Rattle.std.proofs.lemmas.Bool.{false≢true}
use Rattle.std.proofs.lemmas.Bool.Decides.{Decides-eqb}
use Rattle.std.proofs.lemmas.Option.{same_Some}
use Rattle.mir_base.specs.declared.operator.Cmp.{Cmp}
use Rattle.mir_base.specs.declared.place_in_text.Pos.{Pos}
use Rattle.mir_ty.specs.declared.ty.TyId.{TyId}
use Rattle.mir_ty.specs.ItemTable.{ItemTable, type_at}
use Rattle.mir_ty.specs.Parts.{field_ty}
use Rattle.store_model.specs.Abstract.Effects as free
use Rattle.store_model.specs.Abstract.Effects.{AbstractState, abstract_effects, acted_on, never_at}
use Rattle.store_model.specs.Effects as effects
use Rattle.store_model.specs.Effects.{EffectSite, Operand, Copied, Action, Unreachable, Out, Go, Unwind, Halts, Choice, Yes, No, Neither, Effects, halting_if, stores_where}
use Rattle.store_model.specs.Places.Place.{Step, ToPart, ToField, ToContent, ToElement, Place, whole_local, same_step}
use Rattle.typed_tree.specs.declared.node.Use.{Use}
use Rattle.typed_tree.specs.Nodes.{nodes_of, nodes_in, nodes_among, nodes_of_fields}
use Rattle.typed_tree.specs.Tree as tree
use Rattle.typed_tree.specs.Tree.{Node, node, Form, Nodes, no_node, a_node, Fields, no_field, a_field, BodyTree}
use Rattle.src_meaning.specs.Forms as forms
use Rattle.src_meaning.specs.Forms.{site_of_key, moved}
use Rattle.src_meaning.specs.Locals.Effects as locals_of
use Rattle.src_meaning.specs.Locals.Effects.{step_at, place_at, operand_at, action_at, test_at}
use Rattle.src_meaning.specs.Locals.OfBody.{local_of, local_ty}
use Rattle.src_meaning.specs.Shape as shapes
use Rattle.src_meaning.specs.Shape.{PatternTests, no_test, a_test, IsVariant, Alternatives, followed_by, head, extended, kind_of, shape, shape_of, site_at}
use Rattle.well_typed.specs.Claim.{Holds, fact, both}
use Rattle.well_typed.specs.Patterns as patterns
use Rattle.well_typed.specs.Patterns.{Matched}
use Rattle.well_typed.specs.Types as types
use Rattle.soundness_values.proofs.AlsoTests.{Also, checks_also}
use Rattle.soundness_values.proofs.Checked.{Checking, Checks, with_facts, chosen_with}
use Rattle.soundness_values.proofs.CheckedBodies.{checks_of, is_reference_param}
use Rattle.soundness_values.proofs.Checks as checks
use Rattle.soundness_values.proofs.Checks.{with_variant}
use Rattle.soundness_values.proofs.Facts.{Facts, same_place, takes_index, without}
use Rattle.soundness_values.proofs.Leaving.{ShownOut}
use Rattle.soundness_cells.proofs.PassCellEffects.{Quiet, ChosenSo, compare_quiet, test_quiet}
use Rattle.soundness_cells.proofs.PassCellNames.{PlaceOk, further_ok, place_further}
use Rattle.soundness_cells.proofs.PassCellPatterns.{Told}
use Rattle.soundness_cells.proofs.PassCellTaken as taken
use Rattle.soundness_cells.proofs.PassCellTypes as facts_of
use Rattle.soundness_frame.proofs.PassFrameFacts.{variant_known}
use Rattle.soundness.proofs.PassKnownKept.{Away, Keeps, keeps_same, keeps_then, keeps_variant, keeps_without, known_kept}
use Rattle.soundness.proofs.PassKnownNames as names
use Rattle.soundness.proofs.PassKnownNames.{Stands, StandFields, StandParts}
use Rattle.soundness.proofs.PassKnownPlaces.{Known, StepKnown, further_known}
use Rattle.soundness_cells.proofs.PassMarks.{marked, chosen_marked}
use Rattle.soundness.proofs.PassMovable.{is_index}
use Rattle.soundness_cells.proofs.PassNumbers.{Numbered, numbered_left, numbered_right}
use Rattle.soundness_cells.proofs.PassRefilled.{not_mark, NotMark, unmarked}
use Rattle.soundness.proofs.PassCallsAlone.{alone_run}
use Rattle.soundness.proofs.PassPlacesMarks.{act_places, test_places}
use Rattle.soundness_cells.proofs.PassRestSplit.{places_now}
use Rattle.soundness_values.proofs.PlaceTypes.{some_holds, same_type}
use Rattle.soundness_values.proofs.Steps.{step_itself}

-- ---- small facts

place_itself : (place : Place) → same_place place place ≡ true
place_itself place = both_true ((Decides-eqb place.local place.local).1 refl) (steps place.steps)
  where
    steps : (list : List Step) → pointwise same_step list list ≡ true
    steps [] = refl
    steps (s ∷ list) = both_true (step_itself s) (steps list)

pub variant_found : (facts : Facts) (place : Place) (variant : ℕ) →
    variant_known (with_variant place variant facts) place variant ≡ true
variant_found facts place variant =
    first _ _ (both_true (place_itself place) ((Decides-eqb variant variant).1 refl))
  where
    first : (a b : Bool) → a ≡ true → (a || b) ≡ true
    first true b h = refl
    first false b h = absurd (false≢true h)

pub no_way : (z : ℕ) (steps : List Step) (step : Step) → takes_index z steps ≡ false → is_index step ≡ false →
    takes_index z (steps ++ step ∷ []) ≡ false
no_way z [] (ToPart n) h e = refl
no_way z [] (ToField v n) h e = refl
no_way z [] ToContent h e = refl
no_way z [] (ToElement i) h e = absurd (false≢true (sym e))
no_way z (ToPart n ∷ steps) step h e = no_way z steps step h e
no_way z (ToField v n ∷ steps) step h e = no_way z steps step h e
no_way z (ToContent ∷ steps) step h e = no_way z steps step h e
no_way z (ToElement i ∷ steps) step h e = by (i == z) h (λ k. no_way z steps step k e)
  where
    by : (b : Bool) → (b || takes_index z steps) ≡ false →
        (takes_index z steps ≡ false → takes_index z (steps ++ step ∷ []) ≡ false) →
        (b || takes_index z (steps ++ step ∷ [])) ≡ false
    by true h later = absurd (false≢true (sym h))
    by false h later = later h

pub same_index : (local : ℕ → ℕ) (step : Step) → is_index (step_at local step) ≡ is_index step
same_index local (ToPart n) = refl
same_index local (ToField v n) = refl
same_index local ToContent = refl
same_index local (ToElement i) = refl

-- a test is answered, or the run ends by no mark of places
abbrev pub Answers : {V : Type 0} → (yes no : V → Type 0) → Choice V → Type 0
Answers taken declined (Yes w) = taken w
Answers taken declined (No w) = declined w
Answers taken declined (Neither halt w) = NotMark 5 halt

module _ (items : ItemTable) (body : BodyTree) (also : Also) where
  abbrev V : Type 0
  V = Checking Facts

  abbrev q : Effects V
  q = alone_run items body also

  abbrev L : ℕ → ℕ
  L = local_of items body

  abbrev P : Effects AbstractState
  P = abstract_effects items (local_ty items body)

  abbrev At : Facts → V → Type 0
  At facts w = w.facts ≡ facts

  -- ---- effects

  answered : (mark : Option ℕ) (v : V) (yes_facts no_facts : Facts) (o : Choice AbstractState) → (mark ≡ Some 5 → ⊥) →
      ChosenSo items (local_ty items body) o →
      Answers (At yes_facts) (At no_facts) (chosen_marked mark v (chosen_with yes_facts no_facts o))
  answered None v yes_facts no_facts (Yes w) n c = refl
  answered None v yes_facts no_facts (No w) n c = refl
  answered None v yes_facts no_facts (Neither halt w) n c = unmarked 5 halt c
  answered (Some m) v yes_facts no_facts o n c = λ e. n (ap Some e)

  pub variant_answers : (site : EffectSite) (variant : ℕ) (v : V) → Known items body v.facts site.place →
      Answers (At (with_variant (place_at L site.place) variant v.facts)) (At v.facts)
      (q.choose (effects.HasVariant site variant) v)
  variant_answers site variant v k = answered _ v _ _
      (free.choose items (local_ty items body) (test_at L (effects.HasVariant site variant)) v.free)
      (test_places items body also (test_at L (effects.HasVariant site variant)) v.free v.facts k)
      (test_quiet items (local_ty items body) (test_at L (effects.HasVariant site variant)) v.free)

  truth_answers : (key : ℕ) (v : V) →
      Answers (At (without (whole_local (L key)) v.facts)) (At (without (whole_local (L key)) v.facts))
      (q.choose (effects.IsTrue (moved key key)) v)
  truth_answers key v = answered _ v _ _
      (free.choose items (local_ty items body) (test_at L (effects.IsTrue (moved key key))) v.free)
      (test_places items body also (test_at L (effects.IsTrue (moved key key))) v.free v.facts refl)
      (test_quiet items (local_ty items body) (test_at L (effects.IsTrue (moved key key))) v.free)

  -- a literal of a pattern
  abbrev IsLiteral : Operand → Type 0
  IsLiteral (effects.Number value kind) = Unit {0}
  IsLiteral (effects.Truth value) = Unit {0}
  IsLiteral operand = ⊥

  halting_quiet : (b : Bool) (o : Out AbstractState) → Quiet items (local_ty items body) ⊥ o →
      Quiet items (local_ty items body) ⊥ (halting_if b Unreachable o)
  halting_quiet true (Go w) h = tt
  halting_quiet true (Unwind w) h = h
  halting_quiet true (Halts halt w) h = h
  halting_quiet false o h = h

  shown : (mark : Option ℕ) (v : V) (went unwound : Facts) (o : Out AbstractState) → (mark ≡ Some 5 → ⊥) →
      Quiet items (local_ty items body) ⊥ o →
      ShownOut (not_mark 5) (At went) (λ w. ⊥) (marked mark v (with_facts went unwound o))
  shown None v went unwound (Go w) n h = refl
  shown None v went unwound (Unwind w) n h = h
  shown None v went unwound (Halts halt w) n h = unmarked 5 halt h
  shown (Some m) v went unwound o n h = λ e. n (ap Some e)

  either_now : (o : Option Place) (k : Bool) → k ≡ true → checks.unless_refilled o k (λ hole. true) ≡ true
  either_now None k h = h
  either_now (Some hole) k h = refl

  compared : (site : EffectSite) (value : Operand) (v : V) → IsLiteral value → Known items body v.facts site.place →
      ShownOut (not_mark 5) (At (without (whole_local (L site.node)) v.facts)) (λ w. ⊥)
      (q.act (effects.Compare (site_of_key site.node) Cmp.Eq (Copied site) value) v)
  compared site (effects.Number value kind) v l k = shown _ v _ _ _
      (act_places items body also
      (action_at L (effects.Compare (site_of_key site.node) Cmp.Eq (Copied site) (effects.Number value kind))) v.free v.facts
      (either_now v.facts.refilled _ k))
      (halting_quiet (stores_where (never_at items (local_ty items body))
      (action_at L (effects.Compare (site_of_key site.node) Cmp.Eq (Copied site) (effects.Number value kind))))
      (acted_on items (local_ty items body)
      (action_at L (effects.Compare (site_of_key site.node) Cmp.Eq (Copied site) (effects.Number value kind))) v.free)
      (compare_quiet items (local_ty items body) (locals_of.site_at L (site_of_key site.node)) Cmp.Eq
      (operand_at L (Copied site)) (operand_at L (effects.Number value kind)) v.free))
  compared site (effects.Truth value) v l k = shown _ v _ _ _
      (act_places items body also
      (action_at L (effects.Compare (site_of_key site.node) Cmp.Eq (Copied site) (effects.Truth value))) v.free v.facts
      (either_now v.facts.refilled _ k))
      (halting_quiet (stores_where (never_at items (local_ty items body))
      (action_at L (effects.Compare (site_of_key site.node) Cmp.Eq (Copied site) (effects.Truth value))))
      (acted_on items (local_ty items body)
      (action_at L (effects.Compare (site_of_key site.node) Cmp.Eq (Copied site) (effects.Truth value))) v.free)
      (compare_quiet items (local_ty items body) (locals_of.site_at L (site_of_key site.node)) Cmp.Eq
      (operand_at L (Copied site)) (operand_at L (effects.Truth value)) v.free))
  compared site (effects.Copied s) v l k = absurd l
  compared site (effects.Moved s) v l k = absurd l
  compared site effects.UnitValue v l k = absurd l

  module _ (Own : ℕ → Type 0) where
    abbrev Kept : Facts → V → Type 0
    Kept before w = Keeps Own before w.facts

    pub kept_by : (before now : Facts) (w : V) → Keeps Own before now → At now w → Kept before w
    kept_by before now w k e = subst (Keeps Own before) (sym e) k

    pub equals_answers : (site : EffectSite) (value : Operand) (v : V) → IsLiteral value →
        Known items body v.facts site.place → Own (L site.node) →
        Answers (Kept v.facts) (Kept v.facts) (forms.equals items q site value v)
    equals_answers site value v l k own =
        by (q.act (effects.Compare (site_of_key site.node) Cmp.Eq (Copied site) value) v) (compared site value v l k)
      where
        twice : (w u : V) → At (without (whole_local (L site.node)) v.facts) w →
            At (without (whole_local (L site.node)) w.facts) u → Kept v.facts u
        twice w u e f = kept_by v.facts (without (whole_local (L site.node)) w.facts) u
            (keeps_then Own v.facts w.facts (without (whole_local (L site.node)) w.facts)
            (kept_by v.facts (without (whole_local (L site.node)) v.facts) w
            (keeps_without Own v.facts (L site.node) own) e) (keeps_without Own w.facts (L site.node) own)) f

        of : (w : V) → At (without (whole_local (L site.node)) v.facts) w → (o : Choice V) →
            Answers (At (without (whole_local (L site.node)) w.facts)) (At (without (whole_local (L site.node)) w.facts)) o →
            Answers (Kept v.facts) (Kept v.facts) o
        of w e (Yes u) h = twice w u e h
        of w e (No u) h = twice w u e h
        of w e (Neither halt u) h = h

        by : (o : Out V) →
            ShownOut (not_mark 5) (At (without (whole_local (L site.node)) v.facts)) (λ w. ⊥) o →
            Answers (Kept v.facts) (Kept v.facts) (forms.tested items q o (moved site.node site.node))
        by (Go w) h = of w h (q.choose (effects.IsTrue (moved site.node site.node)) w) (truth_answers site.node w)
        by (Unwind w) h = absurd h
        by (Halts halt w) h = h

    -- ---- one test after another

    pub then_answers : (o : Choice V) (rest : V → Choice V) (mid yes_ no_ : V → Type 0) → Answers mid no_ o →
        ((w : V) → mid w → Answers yes_ no_ (rest w)) → Answers yes_ no_ (forms.tests_after items q o rest)
    then_answers (Yes w) rest mid yes_ no_ h f = f w h
    then_answers (No w) rest mid yes_ no_ h f = h
    then_answers (Neither halt w) rest mid yes_ no_ h f = h

    pub or_answers : (o : Choice V) (rest : V → Choice V) (mid yes_ no_ : V → Type 0) → Answers yes_ mid o →
        ((w : V) → mid w → Answers yes_ no_ (rest w)) → Answers yes_ no_ (forms.alternatives_after items q o rest)
    or_answers (Yes w) rest mid yes_ no_ h f = h
    or_answers (No w) rest mid yes_ no_ h f = f w h
    or_answers (Neither halt w) rest mid yes_ no_ h f = h

    pub both_answer : (a b : PatternTests) (v : V) (mid yes_ no_ : V → Type 0) →
        Answers mid no_ (forms.all_hold items q a v) →
        ((w : V) → mid w → Answers yes_ no_ (forms.all_hold items q b w)) →
        Answers yes_ no_ (forms.all_hold items q (followed_by a b) v)
    both_answer no_test b v mid yes_ no_ h f = f v h
    both_answer (a_test first rest) b v mid yes_ no_ h f = by (forms.holds items q first v) h
        (λ w k. both_answer rest b w mid yes_ no_ k f)
      where
        by : (o : Choice V) → Answers mid no_ (forms.tests_after items q o (forms.all_hold items q rest)) →
            ((w : V) → Answers mid no_ (forms.all_hold items q rest w) →
            Answers yes_ no_ (forms.all_hold items q (followed_by rest b) w)) →
            Answers yes_ no_ (forms.tests_after items q o (forms.all_hold items q (followed_by rest b)))
        by (Yes w) h later = later w h
        by (No w) h later = h
        by (Neither halt w) h later = h

    pub answers_more : (o : Choice V) (a b c d : V → Type 0) → ((w : V) → a w → b w) → ((w : V) → c w → d w) →
        Answers a c o → Answers b d o
    answers_more (Yes w) a b c d f g h = f w h
    answers_more (No w) a b c d f g h = g w h
    answers_more (Neither halt w) a b c d f g h = h

    -- ---- places that these cells leave alone

    abbrev pub Clear : Place → Type 0
    Clear place = Away Own (place_at L place)

    pub clear_further : (place : Place) (step : Step) → Clear place → is_index step ≡ false → Clear (extended step place)
    clear_further place step a i = subst (Away Own) (sym (place_further items body place step)) (record {
      root = a.root;
      way = λ z own. no_way z (place_at L place).steps (step_at L step) (a.way z own) (same_index L step ∙ i);
    })

    pub known_still : (before now : Facts) (place : Place) → Keeps Own before now → Clear place →
        Known items body before place → Known items body now place
    known_still before now place k a h = known_kept Own items (local_ty items body) (is_reference_param items body)
        before now k (place_at L place) a h

    -- what stands somewhere stands there still
    mutual
      pub stands_still : (before now : Facts) → Keeps Own before now → (p : Node) (place : Place) → Clear place →
          Stands items body before p place → Stands items body now p place
      stands_still before now k (node id at ty by form) place a s = form_still before now k form place a s

      form_still : (before now : Facts) → Keeps Own before now → (form : Form) (place : Place) → Clear place →
          names.StandsIn items body before form place → names.StandsIn items body now form place
      form_still before now k (tree.StructPattern fields) place a s =
          fields_still before now k fields ToPart place (λ j. refl) a s
      form_still before now k (tree.VariantPattern variant is_test fields) place a s = (
        (λ e. k.variants (place_at L place) variant a (s.0 e)),
        fields_still before now k fields (ToField variant) place (λ j. refl) a s.1,
      )
      form_still before now k (tree.TuplePattern parts) place a s = parts_still before now k parts 0 place a s
      form_still before now k (tree.ArrayPattern elements) place a s = parts_still before now k elements 0 place a s
      form_still before now k form place a s = tt

      fields_still : (before now : Facts) → Keeps Own before now → (fs : Fields) (step : ℕ → Step) (place : Place) →
          ((j : ℕ) → is_index (step j) ≡ false) → Clear place → StandFields items body before fs step place →
          StandFields items body now fs step place
      fields_still before now k no_field step place i a s = tt
      fields_still before now k (a_field number value rest) step place i a s = (
        stands_still before now k value (extended (step number) place) (clear_further place (step number) a (i number)) s.0,
        fields_still before now k rest step place i a s.1,
      )

      parts_still : (before now : Facts) → Keeps Own before now → (ns : Nodes) (n : ℕ) (place : Place) → Clear place →
          StandParts items body before ns n place → StandParts items body now ns n place
      parts_still before now k no_node n place a s = tt
      parts_still before now k (a_node one rest) n place a s = (
        stands_still before now k one (extended (ToPart n) place) (clear_further place (ToPart n) a refl) s.0,
        parts_still before now k rest (suc n) place a s.1,
      )
