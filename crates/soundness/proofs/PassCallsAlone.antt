-- What is left of the half on calls is of calls alone: no run fails a test of protected parameters while all else
-- holds, and none fails since a borrow goes to no cell apart.
use Rattle.std.proofs.Common.{◌≡◌, ◌⊎◌, inl, inr, ℕ, ◌==◌, ◌&&◌, not, Bool, true, false, List, Option, Some, None, refl, ap, sym, ◌∙◌, subst}
use Rattle.std.specs.Prelude.{slice_get}
use Rattle.std.specs.Option.{option_map_or}
use Rattle.std.specs.Cmp.{first_so}
use Rattle.std.proofs.lemmas.Bool.{false≢true}
use Rattle.std.proofs.lemmas.Bool.Decides.{Decides-eqb}
use Rattle.std.proofs.lemmas.Option.{same_Some}
use Rattle.mir_ty.specs.declared.def.Sig.{Sig}
use Rattle.mir_ty.specs.declared.ty.TyId.{TyId}
use Rattle.mir_ty.specs.ItemTable.{ItemTable}
use Rattle.store_model.specs.Abstract.Effects.{AbstractState, abstract_effects}
use Rattle.store_model.specs.Abstract.Presence.{Presence}
use Rattle.store_model.specs.Effects as effects
use Rattle.store_model.specs.Effects.{Action, StuckAt, Out, Halts, Effects}
use Rattle.store_model.specs.Places.Place.{Place}
use Rattle.src_meaning.specs.Locals.Effects.{at_locals}
use Rattle.src_meaning.specs.Locals.OfBody.{local_of, local_ty}
use Rattle.src_meaning.specs.Programs.{activation}
use Rattle.typed_tree.specs.Tree.{BodyTree, ProgramTree}
use Rattle.soundness_values.specs.Laws.{IsSound}
use Rattle.soundness_values.proofs.AlsoTests.{Also, checks_also, nothing_else}
use Rattle.soundness_values.proofs.Checked.{Checking}
use Rattle.soundness_values.proofs.CheckedBodies.{checks_of, is_reference_param}
use Rattle.soundness_values.proofs.Checks as checks
use Rattle.soundness_values.proofs.Checks.{is_none}
use Rattle.soundness_values.proofs.Facts.{Facts}
use Rattle.soundness_values.proofs.Leaving.{ShownOut}
use Rattle.soundness_values.proofs.OnceByPass.{protected}
use Rattle.soundness_values.proofs.Owing.{starting_of}
use Rattle.soundness.proofs.PassBorrowApart.{apart_act, apart_mark, apart_marks, apart_run, apart_ends}
use Rattle.soundness_cells.proofs.PassCellTests.{cells_act, cells_test, cells_drop, cells_give}
use Rattle.soundness_cells.proofs.PassEmpty.{finds_nothing}
use Rattle.soundness_cells.proofs.PassMarks.{Marks, marked_effects}
use Rattle.soundness_cells.proofs.PassMarksJoin.{Carries, CarriesMark, carried}
use Rattle.soundness.proofs.PassMarksSplit.{Splits, SplitsMark, NotItself, split_marks}
use Rattle.soundness.proofs.PassProtectEnds.{rise, protect_ends}
use Rattle.soundness.proofs.PassProtectRun as runs
use Rattle.soundness.proofs.PassProtectRun.{also_mark, also_marks}
use Rattle.soundness_cells.proofs.PassRefilled.{none_waits, not_mark}
use Rattle.soundness_cells.proofs.PassRest.{own_local}
use Rattle.soundness_cells.proofs.PassRestCalls.{left_call}
use Rattle.soundness_cells.proofs.PassRestSplit as halves
use Rattle.soundness_cells.proofs.PassRestSplit.{split_mark, calls_act, places_now, places_test, places_drop, places_give, CallsHold, act_calls}
use Rattle.soundness_values.proofs.ProtectTests.{protect_tests}
use Rattle.soundness_values.proofs.Relating.{feeds}

-- the half on calls is 8 here; 6 where a test of protected parameters fails and all else holds
abbrev pub half_mark : (more own others places : Bool) → Option ℕ
half_mark true true others places = None
half_mark false true others places = Some 6
half_mark more false false places = Some 2
half_mark more false true false = Some 5
half_mark more false true true = Some 8

-- and 7 where a borrow goes to no cell apart
abbrev pub alone_mark : (more own others places apart : Bool) → Option ℕ
alone_mark true true others places apart = None
alone_mark false true others places apart = Some 6
alone_mark more false false places apart = Some 2
alone_mark more false true false apart = Some 5
alone_mark more false true true false = Some 7
alone_mark more false true true true = Some 8

other : {A : Type 0} (n m : ℕ) → (n == m) ≡ false → n ≡ m → A
other n m e same = absurd (false≢true (sym e ∙ (Decides-eqb n m).1 same))

split_half : (more own others places : Bool) →
    Splits 6 8 6 (split_mark (more && own) own others places) (half_mark more own others places)
split_half true true others places = refl
split_half false true others places = λ same. inr refl
split_half true false false places = λ same. other 2 6 refl same
split_half false false false places = λ same. other 2 6 refl same
split_half true false true false = λ same. other 5 6 refl same
split_half false false true false = λ same. other 5 6 refl same
split_half true false true true = λ same. inl refl
split_half false false true true = λ same. inl refl

carry_more : (more own others places : Bool) → Carries 6 (half_mark more own others places) (also_mark more own)
carry_more true true others places = refl
carry_more false true others places = λ same. refl
carry_more true false false places = λ same. other 2 6 refl same
carry_more false false false places = λ same. other 2 6 refl same
carry_more true false true false = λ same. other 5 6 refl same
carry_more false false true false = λ same. other 5 6 refl same
carry_more true false true true = λ same. other 8 6 refl same
carry_more false false true true = λ same. other 8 6 refl same

split_alone : (more own others places apart : Bool) →
    Splits 8 8 7 (half_mark more own others places) (alone_mark more own others places apart)
split_alone true true others places apart = refl
split_alone false true others places apart = λ same. other 6 8 refl same
split_alone true false false places apart = λ same. other 2 8 refl same
split_alone false false false places apart = λ same. other 2 8 refl same
split_alone true false true false apart = λ same. other 5 8 refl same
split_alone false false true false apart = λ same. other 5 8 refl same
split_alone true false true true false = λ same. inr refl
split_alone false false true true false = λ same. inr refl
split_alone true false true true true = λ same. inl refl
split_alone false false true true true = λ same. inl refl

carry_apart : (more own others places apart : Bool) →
    Carries 7 (alone_mark more own others places apart) (apart_mark (more && own) apart)
carry_apart true true others places apart = refl
carry_apart false true others places apart = λ same. other 6 7 refl same
carry_apart true false false places apart = λ same. other 2 7 refl same
carry_apart false false false places apart = λ same. other 2 7 refl same
carry_apart true false true false apart = λ same. other 5 7 refl same
carry_apart false false true false apart = λ same. other 5 7 refl same
carry_apart true false true true false = λ same. refl
carry_apart false false true true false = λ same. refl
carry_apart true false true true true = λ same. other 8 7 refl same
carry_apart false false true true true = λ same. other 8 7 refl same

-- what it means that an effect has the last mark
pub eight : (more own others places apart : Bool) → alone_mark more own others places apart ≡ Some 8 →
    (apart ≡ true) × (split_mark own own others places ≡ Some 6)
eight true true others places apart e = absurd (let never : ⊥ = cc in never)
eight false true others places apart e = other 6 8 refl (same_Some 6 8 e)
eight true false false places apart e = other 2 8 refl (same_Some 2 8 e)
eight false false false places apart e = other 2 8 refl (same_Some 2 8 e)
eight true false true false apart e = other 5 8 refl (same_Some 5 8 e)
eight false false true false apart e = other 5 8 refl (same_Some 5 8 e)
eight true false true true false e = other 7 8 refl (same_Some 7 8 e)
eight false false true true false e = other 7 8 refl (same_Some 7 8 e)
eight true false true true true e = (refl, refl)
eight false false true true true e = (refl, refl)

module _ (items : ItemTable) (body : BodyTree) (also : Also) where
  abbrev marks_by : ((more own others places : Bool) → Bool → Option ℕ) → Marks Facts
  marks_by mark = record {
    acting = λ action v facts. mark (also.act facts action) ((checks_of items body).act_ok action v facts)
        (cells_act items (local_ty items body) (is_reference_param items body) action
        && (none_waits facts.refilled action && finds_nothing items body v.cells action))
        (places_now items body facts v.cells action) (apart_act items body action);
    choosing = λ test v facts. mark true ((checks_of items body).test_ok test v facts)
        (cells_test items (local_ty items body) (is_reference_param items body) test && (is_none facts.refilled && true))
        (places_test items body facts test) true;
    dropping = λ mode site v facts. mark (also.drop site.place) ((checks_of items body).drop_ok mode site v facts)
        (cells_drop items (local_ty items body) (is_reference_param items body) mode site.place
        && (is_none facts.refilled && true)) (places_drop items body facts site.place) true;
    giving = λ site v facts. mark true ((checks_of items body).give_ok site v facts)
        (cells_give items (local_ty items body) (is_reference_param items body) site.place
        && (is_none facts.refilled && true)) (places_give items body v.cells site.place) true;
  }

  abbrev pub half_marks : Marks Facts
  half_marks = marks_by (λ more own others places apart. half_mark more own others places)

  abbrev pub alone_marks : Marks Facts
  alone_marks = marks_by alone_mark

  abbrev pub half_run : Effects (Checking Facts)
  half_run = at_locals (local_of items body) (marked_effects (checks_also also (checks_of items body)) half_marks
      (abstract_effects items (local_ty items body)))

  abbrev pub alone_run : Effects (Checking Facts)
  alone_run = at_locals (local_of items body) (marked_effects (checks_also also (checks_of items body)) alone_marks
      (abstract_effects items (local_ty items body)))

  splits_half : SplitsMark {F = Facts} 6 8 6 (halves.split_marks items body also) half_marks
  splits_half = record {
    acts = λ action v facts. split_half (also.act facts action) ((checks_of items body).act_ok action v facts) _ _;
    chooses = λ test v facts. split_half true ((checks_of items body).test_ok test v facts) _ _;
    drops = λ mode site v facts. split_half (also.drop site.place) ((checks_of items body).drop_ok mode site v facts) _ _;
    gives = λ site v facts. split_half true ((checks_of items body).give_ok site v facts) _ _;
  }

  carries_more : CarriesMark {F = Facts} 6 half_marks (also_marks items body also)
  carries_more = record {
    acts = λ action v facts. carry_more (also.act facts action) ((checks_of items body).act_ok action v facts) _ _;
    chooses = λ test v facts. carry_more true ((checks_of items body).test_ok test v facts) _ _;
    drops = λ mode site v facts. carry_more (also.drop site.place) ((checks_of items body).drop_ok mode site v facts) _ _;
    gives = λ site v facts. carry_more true ((checks_of items body).give_ok site v facts) _ _;
  }

  splits_alone : SplitsMark {F = Facts} 8 8 7 half_marks alone_marks
  splits_alone = record {
    acts = λ action v facts. split_alone (also.act facts action) ((checks_of items body).act_ok action v facts) _ _ _;
    chooses = λ test v facts. split_alone true ((checks_of items body).test_ok test v facts) _ _ _;
    drops = λ mode site v facts.
        split_alone (also.drop site.place) ((checks_of items body).drop_ok mode site v facts) _ _ _;
    gives = λ site v facts. split_alone true ((checks_of items body).give_ok site v facts) _ _ _;
  }

  carries_apart : CarriesMark {F = Facts} 7 alone_marks (apart_marks items body also)
  carries_apart = record {
    acts = λ action v facts. carry_apart (also.act facts action) ((checks_of items body).act_ok action v facts) _ _ _;
    chooses = λ test v facts. carry_apart true ((checks_of items body).test_ok test v facts) _ _ _;
    drops = λ mode site v facts.
        carry_apart (also.drop site.place) ((checks_of items body).drop_ok mode site v facts) _ _ _;
    gives = λ site v facts. carry_apart true ((checks_of items body).give_ok site v facts) _ _ _;
  }

  -- ---- what is left: what is asked of calls

  abbrev pub alone_act : Facts → List (ℕ × Presence) → Action → Bool
  alone_act facts cells (effects.Call to callee args) = option_map_or (λ (sig : Sig). left_call items
      (local_ty items body) (is_reference_param items body) (own_local items body) facts cells sig.params args)
      (slice_get items.bodies callee) false
  alone_act facts cells (effects.CallVirtual to trait_no method args) = option_map_or (λ (head : List TyId × TyId).
      left_call items (local_ty items body) (is_reference_param items body) (own_local items body) facts cells head.0
      args) (checks.head_of items (local_ty items body) (is_reference_param items body) trait_no method) false
  alone_act facts cells action = true

  calls_so : (facts : Facts) (cells : List (ℕ × Presence)) (action : Action) → apart_act items body action ≡ true →
      alone_act facts cells action ≡ true → calls_act items body facts cells action ≡ true
  calls_so facts cells (effects.Borrow to unique base) a h = a
  calls_so facts cells (effects.Free box) a h = absurd (false≢true a)
  calls_so facts cells (effects.Call to callee args) a h = h
  calls_so facts cells (effects.CallVirtual to trait_no method args) a h = h
  calls_so facts cells action a h = refl

  now_so : (facts : Facts) (cells : List (ℕ × Presence)) (action : Action) (o : Option Place) →
      calls_act items body facts cells action ≡ true →
      checks.unless_refilled o (calls_act items body facts cells action) (λ hole. true) ≡ true
  now_so facts cells action None h = h
  now_so facts cells action (Some hole) h = refl

  six_others : (own others places : Bool) → split_mark own own others places ≡ Some 6 → others ≡ true
  six_others true others places e = absurd (let never : ⊥ = cc in never)
  six_others false false places e = other 2 6 refl (same_Some 2 6 e)
  six_others false true places e = refl

  -- nor where that holds as soon as all that is done is of the types of the cells
  pub act_alone_if : (action : Action) (w : AbstractState) (facts : Facts) →
      (cells_act items (local_ty items body) (is_reference_param items body) action ≡ true →
      alone_act facts w.cells action ≡ true) → alone_marks.acting action w facts ≡ Some 8 → ⊥
  act_alone_if action w facts h e =
      let k = eight (also.act facts action) ((checks_of items body).act_ok action w facts) _ _ (apart_act items body action)
      e in
      let others = six_others ((checks_of items body).act_ok action w facts) _ _ k.1 in
      act_calls items body nothing_else action w facts refl
      (now_so facts w.cells action facts.refilled (calls_so facts w.cells action k.0
      (h (first_so (cells_act items (local_ty items body) (is_reference_param items body) action) _ others)))) k.1

  -- no action has the mark where that holds
  pub act_alone : (action : Action) (w : AbstractState) (facts : Facts) → alone_act facts w.cells action ≡ true →
      alone_marks.acting action w facts ≡ Some 8 → ⊥
  act_alone action w facts h e =
      let k = eight (also.act facts action) ((checks_of items body).act_ok action w facts) _ _ (apart_act items body action)
      e in
      act_calls items body nothing_else action w facts refl
      (now_so facts w.cells action facts.refilled (calls_so facts w.cells action k.0 h)) k.1

module _ (p : ProgramTree) (sound : IsSound p) where
  abbrev pub also : ℕ → Also
  also = protect_tests p.items (protected p)

  -- no run fails by a call
  abbrev pub AloneHolds : Type 0
  AloneHolds = (n fuel : ℕ) (b : BodyTree) → slice_get p.bodies n ≡ Some b → (list : List Bool) (block : ℕ)
      (w : Checking Facts) → activation p.items (alone_run p.items b (also n)) fuel b (feeds list (starting_of p b))
      ≡ Halts (StuckAt 8 block) w → ⊥

  ended : (k : ℕ) (went panicked : Checking Facts → Type 0) (o : Out (Checking Facts)) (mark block : ℕ)
      (w : Checking Facts) → o ≡ Halts (StuckAt mark block) w → ShownOut (not_mark k) went panicked o → mark ≡ k → ⊥
  ended k went panicked o mark block w e h = subst (ShownOut (not_mark k) went panicked) e h

  module _ (holds : AloneHolds) (n fuel : ℕ) (b : BodyTree) (e : slice_get p.bodies n ≡ Some b) (list : List Bool) where
    abbrev start : Checking Facts
    start = feeds list (starting_of p b)

    no_six : (mark block : ℕ) (w : Checking Facts) →
        activation p.items (half_run p.items b (also n)) fuel b start ≡ Halts (StuckAt mark block) w → mark ≡ 6 → ⊥
    no_six mark block w k same = ended 6
        (runs.I p.items b (protected p) n (rise p sound n b e)) (runs.I p.items b (protected p) n (rise p sound n b e))
        (activation p.items (runs.run p.items b (protected p) n (rise p sound n b e)) fuel b start) mark block w
        (carried 6 (checks_also (also n) (checks_of p.items b)) (half_marks p.items b (also n))
        (also_marks p.items b (also n)) (carries_more p.items b (also n)) (abstract_effects p.items (local_ty p.items b))
        p.items (local_of p.items b) fuel b start w (StuckAt mark block) (λ differ. differ same) k)
        (protect_ends p sound n b e fuel start tt) same

    no_seven : (mark block : ℕ) (w : Checking Facts) →
        activation p.items (alone_run p.items b (also n)) fuel b start ≡ Halts (StuckAt mark block) w → mark ≡ 7 → ⊥
    no_seven mark block w k same = ended 7 (λ x. Unit {0}) (λ x. Unit {0})
        (activation p.items (apart_run p.items b (also n)) fuel b start) mark block w
        (carried 7 (checks_also (also n) (checks_of p.items b)) (alone_marks p.items b (also n))
        (apart_marks p.items b (also n)) (carries_apart p.items b (also n)) (abstract_effects p.items (local_ty p.items b))
        p.items (local_of p.items b) fuel b start w (StuckAt mark block) (λ differ. differ same) k)
        (apart_ends p sound n b e (also n) fuel start) same

    no_eight : (block : ℕ) (w : Checking Facts) →
        activation p.items (half_run p.items b (also n)) fuel b start ≡ Halts (StuckAt 8 block) w → ⊥
    no_eight block w h = by (split_marks 8 8 7 (checks_also (also n) (checks_of p.items b)) (half_marks p.items b (also n))
        (alone_marks p.items b (also n)) (splits_alone p.items b (also n)) (abstract_effects p.items (local_ty p.items b))
        p.items (local_of p.items b) fuel b start w block h)
      where
        by : NotItself {F = Facts} 8 8 7 (activation p.items (alone_run p.items b (also n)) fuel b start) → ⊥
        by (inr (at, (v, k))) = holds n fuel b e list at v k
        by (inl (mark, (at, (v, (k, inl same))))) = holds n fuel b e list at v
            (k ∙ ap (λ m. Halts (StuckAt m at) v) same)
        by (inl (mark, (at, (v, (k, inr same))))) = no_seven mark at v k same

    pub calls_end : (block : ℕ) (w : Checking Facts) →
        activation p.items (halves.split_run p.items b (also n)) fuel b start ≡ Halts (StuckAt 6 block) w → ⊥
    calls_end block w h = by (split_marks 6 8 6 (checks_also (also n) (checks_of p.items b))
        (halves.split_marks p.items b (also n)) (half_marks p.items b (also n)) (splits_half p.items b (also n))
        (abstract_effects p.items (local_ty p.items b)) p.items (local_of p.items b) fuel b start w block h)
      where
        by : NotItself {F = Facts} 6 8 6 (activation p.items (half_run p.items b (also n)) fuel b start) → ⊥
        by (inr (at, (v, k))) = no_six 6 at v k refl
        by (inl (mark, (at, (v, (k, inl same))))) = no_eight at v (k ∙ ap (λ m. Halts (StuckAt m at) v) same)
        by (inl (mark, (at, (v, (k, inr same))))) = no_six mark at v k same

  -- so the half on calls holds, if no run fails by a call
  pub calls_by_alone : AloneHolds → CallsHold p sound.typed also
  calls_by_alone holds n fuel b e list block w h = calls_end holds n fuel b e list block w h
