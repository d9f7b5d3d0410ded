-- What is left of the tests in two halves, by one run that marks both: 5 where the half on places fails (what is known of
-- places, may be moved and changed, what comes to a place that waits, and results), 6 where the half on calls does (calls,
-- borrows into a cell apart, protected parameters). No run fails what is left if none has one of these marks.
use Rattle.std.proofs.Common.{◌≡◌, ◌⊎◌, inl, inr, ℕ, ◌==◌, ◌&&◌, ◌||◌, not, Bool, true, false, List, Option, Some, None, refl, ap, sym, ◌∙◌, subst}
use Rattle.std.specs.Prelude.{slice_get}
use Rattle.std.specs.Option.{option_map_or}
use Rattle.std.specs.Cmp.{first_so, second_so}
use Rattle.std.specs.Cmp.Derive.{both_true}
use Rattle.std.proofs.lemmas.Bool.{false≢true}
use Rattle.std.proofs.lemmas.Bool.Decides.{Decides-eqb}
use Rattle.std.proofs.lemmas.Option.{same_Some}
use Rattle.mir_ty.specs.declared.def.Sig.{Sig}
use Rattle.mir_ty.specs.declared.ty.TyId.{TyId}
use Rattle.mir_ty.specs.ItemTable.{ItemTable}
use Rattle.store_model.proofs.Effects.Following.{Relation, FollowsOut, goes_on, unwinds, halts, lapsed, outlived, refused, FollowsChoice, takes, declines, neither, lapsed_choice, refused_choice, FollowsEffects, one_bound}
use Rattle.store_model.specs.Abstract.Effects.{AbstractState, abstract_effects, presence}
use Rattle.store_model.specs.Abstract.Presence.{Presence, all_present}
use Rattle.store_model.specs.Effects as effects
use Rattle.store_model.specs.Effects.{EffectSite, Action, Test, Mode, Halt, StuckAt, Out, Go, Unwind, Halts, Choice, Yes, No, Neither, Effects}
use Rattle.store_model.specs.Places.Place.{Place}
use Rattle.src_meaning.proofs.ProgramsFollow.{activation_follow}
use Rattle.src_meaning.proofs.RunLaws.{located}
use Rattle.src_meaning.specs.Locals.Effects.{at_locals}
use Rattle.src_meaning.specs.Locals.OfBody.{local_of, local_ty}
use Rattle.src_meaning.specs.Programs.{activation}
use Rattle.typed_tree.specs.Tree.{BodyTree, ProgramTree}
use Rattle.well_typed.specs.Program.{WellTyped}
use Rattle.soundness_values.proofs.AlsoTests.{Also, checks_also}
use Rattle.soundness_values.proofs.Checked.{Checking, Checks}
use Rattle.soundness_values.proofs.CheckedBodies.{checks_of, is_reference_param}
use Rattle.soundness_values.proofs.Checks as checks
use Rattle.soundness_values.proofs.Checks.{is_none, no_steps}
use Rattle.soundness_values.proofs.Facts.{Facts, takes_index}
use Rattle.soundness_values.proofs.Owing.{starting_of}
use Rattle.soundness_cells.proofs.PassAllTests.{RestHolds, rest_marks}
use Rattle.soundness_cells.proofs.PassCellTests.{mark_as, plain_local, value_at, cells_act, cells_test, cells_drop, cells_give}
use Rattle.soundness_cells.proofs.PassEmpty.{finds_nothing}
use Rattle.soundness_cells.proofs.PassMarks.{Marks, marked, chosen_marked, marked_effects}
use Rattle.soundness_cells.proofs.PassMarksJoin.{OtherMark}
use Rattle.soundness_cells.proofs.PassRefilled.{none_waits}
use Rattle.soundness_cells.proofs.PassRest.{own_local}
use Rattle.soundness_cells.proofs.PassRestCalls.{left_call}
use Rattle.soundness_cells.proofs.PassRestEnds.{plain_value, plain_dropped, replaced_left}
use Rattle.soundness_cells.proofs.PassRestMarks.{left_act, left_refill, left_now, act_unmarked, truth_unmarked, variant_unmarked, given_unmarked}
use Rattle.soundness_cells.proofs.PassSure.{known_place}
use Rattle.soundness_values.proofs.Relating.{feeds}

-- ---- the two halves

module _ (items : ItemTable) (body : BodyTree) where
  abbrev Cells : Type 0
  Cells = List (ℕ × Presence)

  abbrev pub known : Facts → Place → Bool
  known = known_place items (local_ty items body) (is_reference_param items body)

  abbrev pub may_change : Place → Bool
  may_change = checks.may_change items (local_ty items body) (is_reference_param items body)

  abbrev pub may_move : Place → Bool
  may_move = checks.may_move items (local_ty items body) (is_reference_param items body)

  abbrev is_empty : Cells → Place → Bool
  is_empty = checks.is_empty items (local_ty items body) (is_reference_param items body)

  -- the half on places of an action, where no place waits
  abbrev pub places_act : Facts → Cells → Action → Bool
  places_act facts cells (effects.Put to (effects.Copied site)) = known facts site.place
  places_act facts cells (effects.Put to (effects.Moved site)) =
      (known (checks.after_operand items (local_ty items body) (is_reference_param items body) (effects.Moved site) facts)
      to.place && (may_change to.place && (no_steps to.place.steps || is_empty cells to.place)))
      && (known facts site.place && may_move site.place)
  places_act facts cells (effects.Compare to operator (effects.Copied site) right) = known facts site.place
  places_act facts cells (effects.Compare to operator (effects.Moved site) right) = true
  places_act facts cells (effects.Compare to operator left right) = checks.acts_well items (local_ty items body)
      (is_reference_param items body) facts cells (effects.Compare to operator left right)
  places_act facts cells (effects.Borrow to unique base) = known facts base.place
  places_act facts cells (effects.Touch base) = known facts base.place
  places_act facts cells action = true

  -- the half on calls
  abbrev pub calls_act : Facts → Cells → Action → Bool
  calls_act facts cells (effects.Borrow to unique base) = not (is_reference_param items body to.place.local)
      && (not (base.place.local == to.place.local) && not (takes_index to.place.local base.place.steps))
  calls_act facts cells (effects.Free box) = false
  calls_act facts cells (effects.Call to callee args) = option_map_or (λ (sig : Sig). left_call items (local_ty items body)
      (is_reference_param items body) (own_local items body) facts cells sig.params args)
      (slice_get items.bodies callee) false
  calls_act facts cells (effects.CallVirtual to trait_no method args) = option_map_or (λ (head : List TyId × TyId).
      left_call items (local_ty items body) (is_reference_param items body) (own_local items body) facts cells head.0
      args) (checks.head_of items (local_ty items body) (is_reference_param items body) trait_no method) false
  calls_act facts cells action = true

  abbrev pub places_now : Facts → Cells → Action → Bool
  places_now facts cells action = checks.unless_refilled facts.refilled (places_act facts cells action)
      (λ hole. left_refill items body facts hole action)

  abbrev pub calls_now : Facts → Cells → Action → Bool
  calls_now facts cells action = checks.unless_refilled facts.refilled (calls_act facts cells action) (λ hole. true)

  acts_of : (facts : Facts) (cells : Cells) (action : Action) → places_act facts cells action ≡ true →
      calls_act facts cells action ≡ true → left_act items body facts cells action ≡ true
  acts_of facts cells (effects.Put to (effects.Copied site)) h k = h
  acts_of facts cells (effects.Put to (effects.Moved site)) h k = h
  acts_of facts cells (effects.Compare to operator (effects.Copied site) right) h k = h
  acts_of facts cells (effects.Compare to operator left right) h k = h
  acts_of facts cells (effects.Borrow to unique base) h k =
      both_true (first_so (not (is_reference_param items body to.place.local)) _ k)
      (both_true h (second_so (not (is_reference_param items body to.place.local)) _ k))
  acts_of facts cells (effects.Touch base) h k = h
  acts_of facts cells (effects.Free box) h k = absurd (false≢true k)
  acts_of facts cells (effects.Call to callee args) h k = k
  acts_of facts cells (effects.CallVirtual to trait_no method args) h k = k
  acts_of facts cells other h k = refl

  -- both halves together are what is left
  pub both_halves : (facts : Facts) (cells : Cells) (action : Action) → places_now facts cells action ≡ true →
      calls_now facts cells action ≡ true → left_now items body facts cells action ≡ true
  both_halves facts cells action = by facts.refilled
    where
      by : (o : Option Place) → checks.unless_refilled o (places_act facts cells action)
          (λ hole. left_refill items body facts hole action) ≡ true →
          checks.unless_refilled o (calls_act facts cells action) (λ hole. true) ≡ true →
          checks.unless_refilled o (left_act items body facts cells action)
          (λ hole. left_refill items body facts hole action) ≡ true
      by None h k = acts_of facts cells action h k
      by (Some hole) h k = h

  -- of a condition, a drop and a result, all is of places but the test of protected parameters
  abbrev pub places_test : Facts → Test → Bool
  places_test facts (effects.IsTrue operand) = true
  places_test facts (effects.HasVariant site variant) = known facts site.place

  abbrev pub places_drop : Facts → Place → Bool
  places_drop facts place = no_steps place.steps || (known facts place && may_change place)

  abbrev pub places_give : Cells → Place → Bool
  places_give cells place = all_present (presence place.local cells)

-- ---- the marks

abbrev pub split_mark : (all own others places : Bool) → Option ℕ
split_mark true own others places = None
split_mark false true others places = Some 6
split_mark false false false places = Some 2
split_mark false false true false = Some 5
split_mark false false true true = Some 6

module _ (items : ItemTable) (body : BodyTree) (also : Also) where
  abbrev tests : Checks Facts
  tests = checks_also also (checks_of items body)

  abbrev pub split_marks : Marks Facts
  split_marks = record {
    acting = λ action v facts. split_mark (tests.act_ok action v facts) ((checks_of items body).act_ok action v facts)
        (cells_act items (local_ty items body) (is_reference_param items body) action
        && (none_waits facts.refilled action && finds_nothing items body v.cells action))
        (places_now items body facts v.cells action);
    choosing = λ test v facts. split_mark (tests.test_ok test v facts) ((checks_of items body).test_ok test v facts)
        (cells_test items (local_ty items body) (is_reference_param items body) test && (is_none facts.refilled && true))
        (places_test items body facts test);
    dropping = λ mode site v facts. split_mark (tests.drop_ok mode site v facts)
        ((checks_of items body).drop_ok mode site v facts)
        (cells_drop items (local_ty items body) (is_reference_param items body) mode site.place
        && (is_none facts.refilled && true)) (places_drop items body facts site.place);
    giving = λ site v facts. split_mark (tests.give_ok site v facts) ((checks_of items body).give_ok site v facts)
        (cells_give items (local_ty items body) (is_reference_param items body) site.place
        && (is_none facts.refilled && true)) (places_give items body v.cells site.place);
  }

  abbrev pub split_run : Effects (Checking Facts)
  split_run = at_locals (local_of items body) (marked_effects (checks_also also (checks_of items body)) split_marks
      (abstract_effects items (local_ty items body)))

  -- ---- where an effect has one of the marks

  other : {A : Type 0} (n m : ℕ) → (n == m) ≡ false → Some n ≡ Some m → A
  other n m e same = absurd (false≢true (sym e ∙ (Decides-eqb n m).1 (same_Some n m same)))

  five : (all own others places : Bool) → places ≡ true → split_mark all own others places ≡ Some 5 → ⊥
  five true own others places h e = let never : ⊥ = cc in never
  five false true others places h e = other 6 5 refl e
  five false false false places h e = other 2 5 refl e
  five false false true false h e = false≢true h
  five false false true true h e = other 6 5 refl e

  six : (more own others places : Bool) → more ≡ true →
      (places ≡ true → mark_as 5 (more && own) (not (own || others)) ≡ Some 5 → ⊥) →
      split_mark (more && own) own others places ≡ Some 6 → ⊥
  six false own others places m f e = false≢true m
  six true true others places m f e = let never : ⊥ = cc in never
  six true false false places m f e = other 2 6 refl e
  six true false true false m f e = other 5 6 refl e
  six true false true true m f e = f refl refl

  six_so : (more own others places : Bool) → more ≡ true →
      (others ≡ true → places ≡ true → own ≡ true) → split_mark (more && own) own others places ≡ Some 6 → ⊥
  six_so false own others places m f e = false≢true m
  six_so true true others places m f e = let never : ⊥ = cc in never
  six_so true false false places m f e = other 2 6 refl e
  six_so true false true false m f e = other 5 6 refl e
  six_so true false true true m f e = false≢true (f refl refl)

  none_is : (o : Option Place) → is_none o ≡ true → o ≡ None
  none_is None h = refl
  none_is (Some place) h = absurd (false≢true h)

  -- the half on places: no effect has its mark where that half holds
  pub act_places : (action : Action) (w : AbstractState) (facts : Facts) →
      places_now items body facts w.cells action ≡ true → split_marks.acting action w facts ≡ Some 5 → ⊥
  act_places action w facts h = five _ _ _ _ h

  pub test_places : (test : Test) (w : AbstractState) (facts : Facts) → places_test items body facts test ≡ true →
      split_marks.choosing test w facts ≡ Some 5 → ⊥
  test_places test w facts h = five _ _ _ _ h

  pub drop_places : (mode : Mode) (site : EffectSite) (w : AbstractState) (facts : Facts) →
      places_drop items body facts site.place ≡ true → split_marks.dropping mode site w facts ≡ Some 5 → ⊥
  drop_places mode site w facts h = five _ _ _ _ h

  pub give_places : (site : EffectSite) (w : AbstractState) (facts : Facts) →
      places_give items body w.cells site.place ≡ true → split_marks.giving site w facts ≡ Some 5 → ⊥
  give_places site w facts h = five _ _ _ _ h

  -- the half on calls
  pub act_calls : (action : Action) (w : AbstractState) (facts : Facts) → also.act facts action ≡ true →
      calls_now items body facts w.cells action ≡ true → split_marks.acting action w facts ≡ Some 6 → ⊥
  act_calls action w facts more h = six (also.act facts action) ((checks_of items body).act_ok action w facts)
      (cells_act items (local_ty items body) (is_reference_param items body) action
      && (none_waits facts.refilled action && finds_nothing items body w.cells action))
      (places_now items body facts w.cells action) more
      (λ p. act_unmarked items body also action w facts more (both_halves items body facts w.cells action p h))

  -- a condition and a result have no part in it
  pub test_calls : (test : Test) (w : AbstractState) (facts : Facts) → split_marks.choosing test w facts ≡ Some 6 → ⊥
  test_calls (effects.IsTrue operand) w facts =
      six true ((checks_of items body).test_ok (effects.IsTrue operand) w facts) _
      (places_test items body facts (effects.IsTrue operand)) refl
      (λ p. truth_unmarked items body also operand w facts)
  test_calls (effects.HasVariant site variant) w facts =
      six true ((checks_of items body).test_ok (effects.HasVariant site variant) w facts) _
      (places_test items body facts (effects.HasVariant site variant)) refl
      (λ p. variant_unmarked items body also site variant w facts p)

  pub drop_calls : (mode : Mode) (site : EffectSite) (w : AbstractState) (facts : Facts) →
      also.drop site.place ≡ true → split_marks.dropping mode site w facts ≡ Some 6 → ⊥
  drop_calls mode site w facts more =
      six_so (also.drop site.place) ((checks_of items body).drop_ok mode site w facts) _
      (places_drop items body facts site.place) more
      (λ h p. by (no_steps site.place.steps) refl (first_so (cells_drop items (local_ty items body)
      (is_reference_param items body) mode site.place) _ h)
      (calm (second_so (cells_drop items (local_ty items body) (is_reference_param items body) mode site.place) _ h)) p)
    where
      calm : (is_none facts.refilled && true) ≡ true → facts.refilled ≡ None
      calm h = none_is facts.refilled (first_so (is_none facts.refilled) true h)

      of_whole : no_steps site.place.steps ≡ true →
          cells_drop items (local_ty items body) (is_reference_param items body) mode site.place ≡ true →
          plain_local items (local_ty items body) (is_reference_param items body) site.place ≡ true
      of_whole n h = one_or (no_steps site.place.steps)
          (plain_local items (local_ty items body) (is_reference_param items body) site.place)
          (checks.is_normal items (local_ty items body) (is_reference_param items body) mode)
          (value_at items (local_ty items body) (is_reference_param items body) site.place)
          (checks.needs items (local_ty items body) (is_reference_param items body) site.place) n h
          (plain_value items (local_ty items body) (is_reference_param items body) (own_local items body) site.place n)
        where
          one_or : (s p m l d : Bool) → s ≡ true → ((s && p) || (m && (l && d))) ≡ true → (l ≡ true → p ≡ true) →
              p ≡ true
          one_or false p m l d e h f = absurd (false≢true e)
          one_or true true m l d e h f = refl
          one_or true false true true d e h f = f refl
          one_or true false true false d e h f = h
          one_or true false false l d e h f = h

      by : (b : Bool) → no_steps site.place.steps ≡ b →
          cells_drop items (local_ty items body) (is_reference_param items body) mode site.place ≡ true →
          facts.refilled ≡ None →
          (b || (known items body facts site.place && may_change items body site.place)) ≡ true →
          (checks_of items body).drop_ok mode site w facts ≡ true
      by true n h e p = plain_dropped items (local_ty items body) (is_reference_param items body)
          (own_local items body) mode facts site.place n (of_whole n h) e
      by false n h e p = replaced_left items (local_ty items body) (is_reference_param items body)
          (own_local items body) mode facts site.place h n e
          (first_so (known items body facts site.place) _ p) (second_so (known items body facts site.place) _ p)

  pub give_calls : (site : EffectSite) (w : AbstractState) (facts : Facts) →
      split_marks.giving site w facts ≡ Some 6 → ⊥
  give_calls site w facts = six true ((checks_of items body).give_ok site w facts) _
      (places_give items body w.cells site.place) refl (λ p. given_unmarked items body also site w facts p)

-- ---- where a run is stuck by what is left, this one is stuck by one of the halves

abbrev IsHalf : Halt → Type 0
IsHalf (StuckAt mark block) = (mark ≡ 5) ⊎ (mark ≡ 6)
IsHalf halt = ⊥

abbrev SplitsTo : Option ℕ → Option ℕ → Type 0
SplitsTo None o = o ≡ None
SplitsTo (Some mark) o = (mark ≡ 5 → ⊥) ⊎ ((o ≡ Some 5) ⊎ (o ≡ Some 6))

splits : (all own others places : Bool) →
    SplitsTo (mark_as 5 all (not (own || others))) (split_mark all own others places)
splits true own others places = refl
splits false true others places = inr (inr refl)
splits false false false places = inl (λ e. false≢true ((Decides-eqb 2 5).1 e))
splits false false true false = inr (inl refl)
splits false false true true = inr (inr refl)

module _ {F : Type 0} where
  abbrev split : Relation (Checking F) (Checking F)
  split = record {
    Known = Checking F;
    Choices = Unit {0};
    feed = λ t c. c;
    none = tt;
    joined = λ a b. tt;
    from_none = λ t. refl;
    associates = λ a b c. refl;
    Stage = Unit {0};
    related = λ n v c. v ≡ c;
    halted = λ n v c. v ≡ c;
    at_halt = λ n v c e. e;
    lapses = λ n halt v. OtherMark 5 halt;
    outlives = λ n halt v later. ⊥;
    refuses = λ halt. IsHalf halt;
  }

  out_itself : (n : Unit {0}) (o : Out (Checking F)) → FollowsOut split n o (λ t. o)
  out_itself n (Go v) = goes_on n v v tt _ refl (λ rest. refl)
  out_itself n (Unwind v) = unwinds n v v tt _ refl (λ rest. refl)
  out_itself n (Halts halt v) = halts n halt v v tt _ refl (λ rest. refl)

  choice_itself : (n : Unit {0}) (o : Choice (Checking F)) → FollowsChoice split n o (λ t. o)
  choice_itself n (Yes v) = takes n v v tt _ refl (λ rest. refl)
  choice_itself n (No v) = declines n v v tt _ refl (λ rest. refl)
  choice_itself n (Neither halt v) = neither n halt v v tt _ refl (λ rest. refl)

  out_split : (one two : Option ℕ) (n : Unit {0}) (v : Checking F) (o : Out (Checking F)) → SplitsTo one two →
      FollowsOut split n (marked one v o) (λ t. marked two v o)
  out_split None two n v o e =
      subst (λ m. FollowsOut split n o (λ t. marked m v o)) (sym e) (out_itself n o)
  out_split (Some mark) two n v o (inl differ) = lapsed n (StuckAt mark 0) v _ differ
  out_split (Some mark) two n v o (inr (inl e)) =
      subst (λ m. FollowsOut split n (Halts (StuckAt mark 0) v) (λ t. marked m v o)) (sym e)
      (refused n (Halts (StuckAt mark 0) v) (StuckAt 5 0) v tt _ (inl refl) (λ rest. refl))
  out_split (Some mark) two n v o (inr (inr e)) =
      subst (λ m. FollowsOut split n (Halts (StuckAt mark 0) v) (λ t. marked m v o)) (sym e)
      (refused n (Halts (StuckAt mark 0) v) (StuckAt 6 0) v tt _ (inr refl) (λ rest. refl))

  choice_split : (one two : Option ℕ) (n : Unit {0}) (v : Checking F) (o : Choice (Checking F)) → SplitsTo one two →
      FollowsChoice split n (chosen_marked one v o) (λ t. chosen_marked two v o)
  choice_split None two n v o e =
      subst (λ m. FollowsChoice split n o (λ t. chosen_marked m v o)) (sym e) (choice_itself n o)
  choice_split (Some mark) two n v o (inl differ) = lapsed_choice n (StuckAt mark 0) v _ differ
  choice_split (Some mark) two n v o (inr (inl e)) =
      subst (λ m. FollowsChoice split n (Neither (StuckAt mark 0) v) (λ t. chosen_marked m v o)) (sym e)
      (refused_choice n (Neither (StuckAt mark 0) v) (StuckAt 5 0) v tt _ (inl refl) (λ rest. refl))
  choice_split (Some mark) two n v o (inr (inr e)) =
      subst (λ m. FollowsChoice split n (Neither (StuckAt mark 0) v) (λ t. chosen_marked m v o)) (sym e)
      (refused_choice n (Neither (StuckAt mark 0) v) (StuckAt 6 0) v tt _ (inr refl) (λ rest. refl))

  abbrev HalfOf : Out (Checking F) → Type 0
  HalfOf o = (halt : Halt) × ((w : Checking F) × ((o ≡ Halts halt w) × IsHalf halt))

  split_end : (o : Out (Checking F)) (g : Unit {0} → Out (Checking F)) (n : Unit {0}) (block : ℕ) (w : Checking F) →
      o ≡ Halts (StuckAt 5 block) w → FollowsOut split n o g → HalfOf (g tt)
  split_end o g n block w e (goes_on m v c l _ k d) = absurd (let never : ⊥ = cc in never)
  split_end o g n block w e (unwinds m v c l _ k d) = absurd (let never : ⊥ = cc in never)
  split_end o g n block w e (halts m halt v c l _ k d) =
      (halt, (c, (d tt, (let same : StuckAt 5 block ≡ halt = cc in subst IsHalf same (inl refl)))))
  split_end o g n block w e (lapsed m halt v _ k) =
      absurd ((let same : halt ≡ StuckAt 5 block = cc in subst (OtherMark 5) same k) refl)
  split_end o g n block w e (outlived m halt v later s _ k d) = absurd k
  split_end o g n block w e (refused m _ halt c l _ k d) = (halt, (c, (d tt, k)))

module _ (items : ItemTable) (body : BodyTree) (also : Also) where
  abbrev V : Type 0
  V = Checking Facts

  abbrev c : Checks Facts
  c = checks_also also (checks_of items body)

  abbrev R : Effects V
  R = marked_effects c (rest_marks items body also) (abstract_effects items (local_ty items body))

  abbrev S : Effects V
  S = marked_effects c (split_marks items body also) (abstract_effects items (local_ty items body))

  split_follows : FollowsEffects split R S
  split_follows = record {
    acting = λ action n v w e. subst (λ w. FollowsOut split n (R.act action v) (λ t. S.act action w)) e
        (out_split _ _ n v _ (splits (c.act_ok action v.free v.facts)
        ((checks_of items body).act_ok action v.free v.facts)
        (cells_act items (local_ty items body) (is_reference_param items body) action
        && (none_waits v.facts.refilled action && finds_nothing items body v.free.cells action))
        (places_now items body v.facts v.free.cells action)));
    choosing = λ test n v w e. subst (λ w. FollowsChoice split n (R.choose test v) (λ t. S.choose test w)) e
        (choice_split _ _ n v _ (splits (c.test_ok test v.free v.facts)
        ((checks_of items body).test_ok test v.free v.facts)
        (cells_test items (local_ty items body) (is_reference_param items body) test
        && (is_none v.facts.refilled && true)) (places_test items body v.facts test)));
    dropping = λ mode site n v w e. subst (λ w. FollowsOut split n (R.drop mode site v) (λ t. S.drop mode site w)) e
        (out_split _ _ n v _ (splits (c.drop_ok mode site v.free v.facts)
        ((checks_of items body).drop_ok mode site v.free v.facts)
        (cells_drop items (local_ty items body) (is_reference_param items body) mode site.place
        && (is_none v.facts.refilled && true)) (places_drop items body v.facts site.place)));
    panicking = λ why n v w e. subst (λ w. FollowsOut split n (Unwind (R.panic why v)) (λ t. Unwind (S.panic why w))) e
        (out_itself n (Unwind (R.panic why v)));
    ticking = λ n v w e. subst (λ w. FollowsOut split n (R.tick v) (λ t. S.tick w)) e (out_itself n (R.tick v));
    giving = λ site n v w e. subst (λ w. FollowsOut split n (R.give site v) (λ t. S.give site w)) e
        (out_split _ _ n v _ (splits (c.give_ok site v.free v.facts)
        ((checks_of items body).give_ok site v.free v.facts)
        (cells_give items (local_ty items body) (is_reference_param items body) site.place
        && (is_none v.facts.refilled && true)) (places_give items body v.free.cells site.place)));
  }

  pub by_half : (fuel : ℕ) (v w : V) (block : ℕ) →
      activation items (at_locals (local_of items body) R) fuel body v ≡ Halts (StuckAt 5 block) w →
      HalfOf (activation items (at_locals (local_of items body) S) fuel body v)
  by_half fuel v w block e =
      split_end (activation items (at_locals (local_of items body) R) fuel body v) _ tt block w e
      (activation_follow split items (at_locals (local_of items body) R) (at_locals (local_of items body) S)
      (located split (local_of items body) R S split_follows) fuel fuel (one_bound fuel) body tt v v refl)

module _ (p : ProgramTree) (typed : WellTyped p) (also : ℕ → Also) where
  -- no run has a mark
  abbrev pub NoneMarked : ℕ → Type 0
  NoneMarked mark = (n fuel : ℕ) (b : BodyTree) → slice_get p.bodies n ≡ Some b → (list : List Bool) (block : ℕ)
      (w : Checking Facts) → activation p.items (split_run p.items b (also n)) fuel b (feeds list (starting_of p b))
      ≡ Halts (StuckAt mark block) w → ⊥

  -- what the half on places is to show, and that on calls
  abbrev pub PlacesHold : Type 0
  PlacesHold = NoneMarked 5

  abbrev pub CallsHold : Type 0
  CallsHold = NoneMarked 6

  pub rest_of_halves : PlacesHold → CallsHold → RestHolds p typed also
  rest_of_halves places calls n fuel b e list block w h =
      by (by_half p.items b (also n) fuel (feeds list (starting_of p b)) w block h)
    where
      run : Out (Checking Facts)
      run = activation p.items (split_run p.items b (also n)) fuel b (feeds list (starting_of p b))

      of : (halt : Halt) (x : Checking Facts) → run ≡ Halts halt x → IsHalf halt → ⊥
      of (StuckAt mark at) x k (inl same) = places n fuel b e list at x
          (k ∙ ap (λ m. Halts (StuckAt m at) x) same)
      of (StuckAt mark at) x k (inr same) = calls n fuel b e list at x
          (k ∙ ap (λ m. Halts (StuckAt m at) x) same)
      of halt x k i = absurd i

      by : HalfOf run → ⊥
      by x = of x.0 x.1.0 x.1.1.0 x.1.1.1
