-- One run that says of each effect which of all tests fails first: 1 where what is done with cells is not of their types,
-- 3 where a place waits for its value, 4 where an action stores into a local that holds something, 5 where another test
-- fails. The first three are shown never to fail; so a checked run complains only by what is left.
use Rattle.std.proofs.Common.{◌≡◌, ◌⊎◌, inl, inr, ℕ, ◌+◌, ◌==◌, ◌&&◌, ◌||◌, not, Bool, true, false, List, Option, Some, None, refl, ap, sym, ◌∙◌, subst}
use Rattle.std.proofs.lemmas.Bool.{false≢true}
use Rattle.std.proofs.lemmas.Bool.Decides.{Decides-eqb}
use Rattle.std.specs.Prelude.{slice_get}
use Rattle.mir_ty.specs.declared.def.Sig.{Sig}
use Rattle.mir_ty.specs.ItemTable.{ItemTable}
use Rattle.store_model.specs.Abstract.Effects.{abstract_effects}
use Rattle.store_model.specs.Effects.{Halt, Stuck, StuckAt, Out, Go, Unwind, Halts, Effects}
use Rattle.src_meaning.specs.Locals.Effects.{at_locals}
use Rattle.src_meaning.specs.Locals.OfBody.{local_of, local_ty}
use Rattle.src_meaning.specs.Programs.{activation}
use Rattle.typed_tree.specs.Tree.{BodyTree, ProgramTree}
use Rattle.well_typed.specs.Claim.{Holds}
use Rattle.well_typed.specs.Program.{WellTyped, is_body}
use Rattle.soundness_values.proofs.AlsoTests.{Also, checks_also}
use Rattle.soundness_values.proofs.Checked.{Checking, Checks}
use Rattle.soundness_values.proofs.CheckedBodies.{checks_of, is_reference_param}
use Rattle.soundness_values.proofs.Checks.{is_none}
use Rattle.soundness_values.proofs.Facts.{Facts}
use Rattle.soundness_values.proofs.Leaving.{ShownOut}
use Rattle.soundness_values.proofs.Owing.{checked_body, starting_of}
use Rattle.soundness_cells.proofs.PassCellEffects.{may_end}
use Rattle.soundness_cells.proofs.PassCellTests.{mark_of, mark_as, cells_act, cells_test, cells_drop, cells_give, cell_marks}
use Rattle.soundness_cells.proofs.PassEmpty.{empty_marks, finds_nothing}
use Rattle.soundness_cells.proofs.PassEmptyEnds.{empty_ends}
use Rattle.soundness_cells.proofs.PassFirst.{body_at, first_holds}
use Rattle.soundness_cells.proofs.PassFree.{Always}
use Rattle.soundness_cells.proofs.PassMarks.{Marks, marked_effects, StandFor, Unmarked, unmarked_run}
use Rattle.soundness_cells.proofs.PassMarksJoin.{Carries, CarriesMark, carried, ListedMark, AllListed, halts_checked}
use Rattle.soundness_cells.proofs.PassRefilled.{none_waits, refill_marks, refill_ends, checked_ends, not_mark, says_lost}
use Rattle.soundness_values.proofs.Relating.{feeds}

-- the mark of an effect: whether all tests hold, whether those do that ask nothing of protected parameters, and the
-- three tests
abbrev pub first_mark : (all own cells calm empty : Bool) → Option ℕ
first_mark true own cells calm empty = None
first_mark false true cells calm empty = Some 5
first_mark false false false calm empty = Some 1
first_mark false false true false empty = Some 3
first_mark false false true true false = Some 4
first_mark false false true true true = Some 5

-- of a run that looks at what is left alone
abbrev pub rest_mark : (all own cells calm empty : Bool) → Option ℕ
rest_mark all own cells calm empty = mark_as 5 all (not (own || (cells && (calm && empty))))

none_first : (all own cells calm empty : Bool) → first_mark all own cells calm empty ≡ None → all ≡ true
none_first true own cells calm empty e = refl
none_first false true cells calm empty e = let never : ⊥ = cc in absurd never
none_first false false false calm empty e = let never : ⊥ = cc in absurd never
none_first false false true false empty e = let never : ⊥ = cc in absurd never
none_first false false true true false e = let never : ⊥ = cc in absurd never
none_first false false true true true e = let never : ⊥ = cc in absurd never

abbrev pub is_mark : ℕ → Bool
is_mark k = (k == 1) || ((k == 3) || ((k == 4) || (k == 5)))

listed_first : (all own cells calm empty : Bool) → ListedMark is_mark (first_mark all own cells calm empty)
listed_first true own cells calm empty = tt
listed_first false true cells calm empty = refl
listed_first false false false calm empty = refl
listed_first false false true false empty = refl
listed_first false false true true false = refl
listed_first false false true true true = refl

other : {A : Type 0} (n m : ℕ) → (n == m) ≡ false → n ≡ m → A
other n m e same = absurd (false≢true (sym e ∙ (Decides-eqb n m).1 same))

carry_cells : (all own cells calm empty : Bool) → (all ≡ true → own ≡ true) →
    Carries 1 (first_mark all own cells calm empty) (mark_of own cells)
carry_cells true own cells calm empty f = ap (λ b. mark_of b cells) (f refl)
carry_cells false true cells calm empty f = λ same. other 5 1 refl same
carry_cells false false false calm empty f = λ same. refl
carry_cells false false true false empty f = λ same. other 3 1 refl same
carry_cells false false true true false f = λ same. other 4 1 refl same
carry_cells false false true true true f = λ same. other 5 1 refl same

carry_calm : (all own cells calm empty : Bool) →
    Carries 3 (first_mark all own cells calm empty) (mark_as 3 all calm)
carry_calm true own cells calm empty = refl
carry_calm false true cells calm empty = λ same. other 5 3 refl same
carry_calm false false false calm empty = λ same. other 1 3 refl same
carry_calm false false true false empty = λ same. refl
carry_calm false false true true false = λ same. other 4 3 refl same
carry_calm false false true true true = λ same. other 5 3 refl same

carry_empty : (all own cells calm empty : Bool) →
    Carries 4 (first_mark all own cells calm empty) (mark_as 4 all empty)
carry_empty true own cells calm empty = refl
carry_empty false true cells calm empty = λ same. other 5 4 refl same
carry_empty false false false calm empty = λ same. other 1 4 refl same
carry_empty false false true false empty = λ same. other 3 4 refl same
carry_empty false false true true false = λ same. refl
carry_empty false false true true true = λ same. other 5 4 refl same

carry_rest : (all own cells calm empty : Bool) →
    Carries 5 (first_mark all own cells calm empty) (rest_mark all own cells calm empty)
carry_rest true own cells calm empty = refl
carry_rest false true cells calm empty = λ same. refl
carry_rest false false false calm empty = λ same. other 1 5 refl same
carry_rest false false true false empty = λ same. other 3 5 refl same
carry_rest false false true true false = λ same. other 4 5 refl same
carry_rest false false true true true = λ same. refl

module _ (items : ItemTable) (body : BodyTree) (also : Also) where
  abbrev pub tests : Checks Facts
  tests = checks_also also (checks_of items body)

  abbrev pub all_marks : Marks Facts
  all_marks = record {
    acting = λ action v facts. first_mark (tests.act_ok action v facts) ((checks_of items body).act_ok action v facts) (cells_act items (local_ty items body) (is_reference_param items body) action) (none_waits facts.refilled action) (finds_nothing items body v.cells action);
    choosing = λ test v facts. first_mark (tests.test_ok test v facts) ((checks_of items body).test_ok test v facts) (cells_test items (local_ty items body) (is_reference_param items body) test) (is_none facts.refilled) true;
    dropping = λ mode site v facts. first_mark (tests.drop_ok mode site v facts) ((checks_of items body).drop_ok mode site v facts)
        (cells_drop items (local_ty items body) (is_reference_param items body) mode site.place) (is_none facts.refilled) true;
    giving = λ site v facts. first_mark (tests.give_ok site v facts) ((checks_of items body).give_ok site v facts) (cells_give items (local_ty items body) (is_reference_param items body) site.place) (is_none facts.refilled) true;
  }

  abbrev pub rest_marks : Marks Facts
  rest_marks = record {
    acting = λ action v facts. rest_mark (tests.act_ok action v facts) ((checks_of items body).act_ok action v facts) (cells_act items (local_ty items body) (is_reference_param items body) action) (none_waits facts.refilled action) (finds_nothing items body v.cells action);
    choosing = λ test v facts. rest_mark (tests.test_ok test v facts) ((checks_of items body).test_ok test v facts) (cells_test items (local_ty items body) (is_reference_param items body) test) (is_none facts.refilled) true;
    dropping = λ mode site v facts. rest_mark (tests.drop_ok mode site v facts) ((checks_of items body).drop_ok mode site v facts)
        (cells_drop items (local_ty items body) (is_reference_param items body) mode site.place) (is_none facts.refilled) true;
    giving = λ site v facts. rest_mark (tests.give_ok site v facts) ((checks_of items body).give_ok site v facts) (cells_give items (local_ty items body) (is_reference_param items body) site.place) (is_none facts.refilled) true;
  }

  both : (a b : Bool) → (a && b) ≡ true → b ≡ true
  both true b e = e
  both false b e = absurd (false≢true e)

  pub all_stand : StandFor all_marks (checks_also also (checks_of items body))
  all_stand = record {
    acts = λ action v facts e. none_first (tests.act_ok action v facts) ((checks_of items body).act_ok action v facts) (cells_act items (local_ty items body) (is_reference_param items body) action) (none_waits facts.refilled action) (finds_nothing items body v.cells action) e;
    chooses = λ test v facts e. none_first (tests.test_ok test v facts) ((checks_of items body).test_ok test v facts) (cells_test items (local_ty items body) (is_reference_param items body) test) (is_none facts.refilled) true e;
    drops = λ mode site v facts e. none_first (tests.drop_ok mode site v facts) ((checks_of items body).drop_ok mode site v facts)
        (cells_drop items (local_ty items body) (is_reference_param items body) mode site.place) (is_none facts.refilled) true e;
    gives = λ site v facts e. none_first (tests.give_ok site v facts) ((checks_of items body).give_ok site v facts) (cells_give items (local_ty items body) (is_reference_param items body) site.place) (is_none facts.refilled) true e;
  }

  pub all_listed : AllListed is_mark all_marks
  all_listed = record {
    acts = λ action v facts. listed_first (tests.act_ok action v facts) ((checks_of items body).act_ok action v facts) (cells_act items (local_ty items body) (is_reference_param items body) action) (none_waits facts.refilled action) (finds_nothing items body v.cells action);
    chooses = λ test v facts. listed_first (tests.test_ok test v facts) ((checks_of items body).test_ok test v facts) (cells_test items (local_ty items body) (is_reference_param items body) test) (is_none facts.refilled) true;
    drops = λ mode site v facts. listed_first (tests.drop_ok mode site v facts) ((checks_of items body).drop_ok mode site v facts)
        (cells_drop items (local_ty items body) (is_reference_param items body) mode site.place) (is_none facts.refilled) true;
    gives = λ site v facts. listed_first (tests.give_ok site v facts) ((checks_of items body).give_ok site v facts) (cells_give items (local_ty items body) (is_reference_param items body) site.place) (is_none facts.refilled) true;
  }

  pub with_cells : CarriesMark 1 all_marks (cell_marks items body)
  with_cells = record {
    acts = λ action v facts. carry_cells (tests.act_ok action v facts) ((checks_of items body).act_ok action v facts) (cells_act items (local_ty items body) (is_reference_param items body) action) (none_waits facts.refilled action) (finds_nothing items body v.cells action) (λ e. both (also.act facts action) ((checks_of items body).act_ok action v facts) e);
    chooses = λ test v facts. carry_cells (tests.test_ok test v facts) ((checks_of items body).test_ok test v facts) (cells_test items (local_ty items body) (is_reference_param items body) test) (is_none facts.refilled) true (λ e. e);
    drops = λ mode site v facts. carry_cells (tests.drop_ok mode site v facts) ((checks_of items body).drop_ok mode site v facts)
        (cells_drop items (local_ty items body) (is_reference_param items body) mode site.place) (is_none facts.refilled) true (λ e. both (also.drop site.place) ((checks_of items body).drop_ok mode site v facts) e);
    gives = λ site v facts. carry_cells (tests.give_ok site v facts) ((checks_of items body).give_ok site v facts) (cells_give items (local_ty items body) (is_reference_param items body) site.place) (is_none facts.refilled) true (λ e. e);
  }

  pub with_calm : CarriesMark 3 all_marks (refill_marks (checks_also also (checks_of items body)))
  with_calm = record {
    acts = λ action v facts. carry_calm (tests.act_ok action v facts) ((checks_of items body).act_ok action v facts) (cells_act items (local_ty items body) (is_reference_param items body) action) (none_waits facts.refilled action) (finds_nothing items body v.cells action);
    chooses = λ test v facts. carry_calm (tests.test_ok test v facts) ((checks_of items body).test_ok test v facts) (cells_test items (local_ty items body) (is_reference_param items body) test) (is_none facts.refilled) true;
    drops = λ mode site v facts. carry_calm (tests.drop_ok mode site v facts) ((checks_of items body).drop_ok mode site v facts)
        (cells_drop items (local_ty items body) (is_reference_param items body) mode site.place) (is_none facts.refilled) true;
    gives = λ site v facts. carry_calm (tests.give_ok site v facts) ((checks_of items body).give_ok site v facts) (cells_give items (local_ty items body) (is_reference_param items body) site.place) (is_none facts.refilled) true;
  }

  pub with_empty : CarriesMark 4 all_marks (empty_marks items body (checks_also also (checks_of items body)))
  with_empty = record {
    acts = λ action v facts. carry_empty (tests.act_ok action v facts) ((checks_of items body).act_ok action v facts) (cells_act items (local_ty items body) (is_reference_param items body) action) (none_waits facts.refilled action) (finds_nothing items body v.cells action);
    chooses = λ test v facts. carry_empty (tests.test_ok test v facts) ((checks_of items body).test_ok test v facts) (cells_test items (local_ty items body) (is_reference_param items body) test) (is_none facts.refilled) true;
    drops = λ mode site v facts. carry_empty (tests.drop_ok mode site v facts) ((checks_of items body).drop_ok mode site v facts)
        (cells_drop items (local_ty items body) (is_reference_param items body) mode site.place) (is_none facts.refilled) true;
    gives = λ site v facts. carry_empty (tests.give_ok site v facts) ((checks_of items body).give_ok site v facts) (cells_give items (local_ty items body) (is_reference_param items body) site.place) (is_none facts.refilled) true;
  }

  pub with_rest : CarriesMark 5 all_marks rest_marks
  with_rest = record {
    acts = λ action v facts. carry_rest (tests.act_ok action v facts) ((checks_of items body).act_ok action v facts) (cells_act items (local_ty items body) (is_reference_param items body) action) (none_waits facts.refilled action) (finds_nothing items body v.cells action);
    chooses = λ test v facts. carry_rest (tests.test_ok test v facts) ((checks_of items body).test_ok test v facts) (cells_test items (local_ty items body) (is_reference_param items body) test) (is_none facts.refilled) true;
    drops = λ mode site v facts. carry_rest (tests.drop_ok mode site v facts) ((checks_of items body).drop_ok mode site v facts)
        (cells_drop items (local_ty items body) (is_reference_param items body) mode site.place) (is_none facts.refilled) true;
    gives = λ site v facts. carry_rest (tests.give_ok site v facts) ((checks_of items body).give_ok site v facts) (cells_give items (local_ty items body) (is_reference_param items body) site.place) (is_none facts.refilled) true;
  }

  abbrev pub rest_run : Effects (Checking Facts)
  rest_run = at_locals (local_of items body) (marked_effects (checks_also also (checks_of items body)) rest_marks
      (abstract_effects items (local_ty items body)))

-- which of the marks it is
marks_are : (k : ℕ) → is_mark k ≡ true → (k ≡ 1) ⊎ ((k ≡ 3) ⊎ ((k ≡ 4) ⊎ (k ≡ 5)))
marks_are k h = by (k == 1) (k == 3) (k == 4) refl refl refl h
  where
    by : (a b c : Bool) → (k == 1) ≡ a → (k == 3) ≡ b → (k == 4) ≡ c → (a || (b || (c || (k == 5)))) ≡ true →
        (k ≡ 1) ⊎ ((k ≡ 3) ⊎ ((k ≡ 4) ⊎ (k ≡ 5)))
    by true b c e f g h = inl ((Decides-eqb k 1).0 e)
    by false true c e f g h = inr (inl ((Decides-eqb k 3).0 f))
    by false false true e f g h = inr (inr (inl ((Decides-eqb k 4).0 g)))
    by false false false e f g h = inr (inr (inr ((Decides-eqb k 5).0 h)))

module _ (p : ProgramTree) (typed : WellTyped p) (also : ℕ → Also) where
  -- no run fails what is left
  abbrev pub RestHolds : Type 0
  RestHolds = (n fuel : ℕ) (b : BodyTree) → slice_get p.bodies n ≡ Some b → (list : List Bool) (block : ℕ)
      (w : Checking Facts) → activation p.items (rest_run p.items b (also n)) fuel b (feeds list (starting_of p b))
      ≡ Halts (StuckAt 5 block) w → ⊥

  module _ (rest : RestHolds) (n fuel : ℕ) (b : BodyTree) (e : slice_get p.bodies n ≡ Some b) (list : List Bool) where
    abbrev V : Type 0
    V = Checking Facts

    abbrev free : Effects Rattle.store_model.specs.Abstract.Effects.AbstractState
    free = abstract_effects p.items (local_ty p.items b)

    abbrev start : V
    start = feeds list (starting_of p b)

    abbrev ran : Out V
    ran = checked_body p also n fuel b e list

    abbrev all_run : Out V
    all_run = activation p.items (at_locals (local_of p.items b)
        (marked_effects (checks_also (also n) (checks_of p.items b)) (all_marks p.items b (also n)) free)) fuel b start

    found : (sig : Sig) × ((slice_get p.items.bodies n ≡ Some sig) × Holds (is_body p.items (0 + n) sig b))
    found = body_at p.items 0 p.items.bodies p.bodies typed.1 n b e

    ended : (over : Halt → V → Type 0) (went panicked : V → Type 0) (o : Out V) (halt : Halt) (w : V) →
        o ≡ Halts halt w → ShownOut over went panicked o → over halt w
    ended over went panicked o halt w h s = subst (ShownOut over went panicked) h s

    unmarked : (k block : ℕ) (w : V) → all_run ≡ Halts (StuckAt k block) w → ⊥
    unmarked k block w h = by (is_mark k) refl
      where
        which : (k ≡ 1) ⊎ ((k ≡ 3) ⊎ ((k ≡ 4) ⊎ (k ≡ 5))) → ⊥
        which (inl same) = ended may_end (λ w. Unit {0}) (λ w. Unit {0}) _ (StuckAt k block) w
            (carried 1 (checks_also (also n) (checks_of p.items b)) (all_marks p.items b (also n)) (cell_marks p.items b)
            (with_cells p.items b (also n)) free p.items (local_of p.items b) fuel b start w (StuckAt k block)
            (λ differ. differ same) h) (first_holds p typed n b e fuel start) same
        which (inr (inl same)) = ended (not_mark 3) _ _ _ (StuckAt k block) w
            (carried 3 (checks_also (also n) (checks_of p.items b)) (all_marks p.items b (also n))
            (refill_marks (checks_also (also n) (checks_of p.items b))) (with_calm p.items b (also n)) free p.items
            (local_of p.items b) fuel b start w (StuckAt k block) (λ differ. differ same) h)
            (refill_ends p.items b (also n) fuel start refl) same
        which (inr (inr (inl same))) = ended (not_mark 4) Always Always _ (StuckAt k block) w
            (carried 4 (checks_also (also n) (checks_of p.items b)) (all_marks p.items b (also n))
            (empty_marks p.items b (checks_also (also n) (checks_of p.items b))) (with_empty p.items b (also n)) free
            p.items (local_of p.items b) fuel b start w (StuckAt k block) (λ differ. differ same) h)
            (empty_ends p.items _ found.0 b found.1.1 (also n) fuel list start.facts start.lost) same
        which (inr (inr (inr same))) = rest n fuel b e list block w
            (carried 5 (checks_also (also n) (checks_of p.items b)) (all_marks p.items b (also n))
            (rest_marks p.items b (also n)) (with_rest p.items b (also n)) free p.items (local_of p.items b) fuel b start
            w (StuckAt 5 block) (λ differ. differ refl) (subst (λ j. all_run ≡ Halts (StuckAt j block) w) same h))

        by : (c : Bool) → is_mark k ≡ c → ⊥
        by true c = which (marks_are k c)
        by false c = ended says_lost _ _ _ (StuckAt k block) w
            (halts_checked is_mark (checks_also (also n) (checks_of p.items b)) (all_marks p.items b (also n))
            (all_stand p.items b (also n)) (all_listed p.items b (also n)) free p.items (local_of p.items b) fuel b
            start w (StuckAt k block) (λ l. false≢true (sym c ∙ l)) h)
            (checked_ends p.items b (also n) fuel start refl)

    same_run : ran ≡ all_run
    same_run = unmarked_run (checks_also (also n) (checks_of p.items b)) (all_marks p.items b (also n))
        (all_stand p.items b (also n)) free p.items (local_of p.items b) fuel b start (by all_run refl)
      where
        of : (halt : Halt) (w : V) → all_run ≡ Halts halt w → Unmarked {F = Facts} (Halts halt w)
        of (StuckAt k block) w h m = unmarked k block w h
        of other w h m = m

        by : (o : Out V) → all_run ≡ o → Unmarked o
        by (Go w) h = tt
        by (Unwind w) h = tt
        by (Halts halt w) h = of halt w h

    -- a checked run does not complain, if what is left holds
    pub uncomplaining : (w : V) → ran ≡ Halts Stuck w → ⊥
    uncomplaining w h = ended may_end (λ w. Unit {0}) (λ w. Unit {0}) _ Stuck w
        (carried 1 (checks_also (also n) (checks_of p.items b)) (all_marks p.items b (also n)) (cell_marks p.items b)
        (with_cells p.items b (also n)) free p.items (local_of p.items b) fuel b start w Stuck (λ no. no)
        (sym same_run ∙ h)) (first_holds p typed n b e fuel start)
