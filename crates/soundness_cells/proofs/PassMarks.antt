-- Checked free runs that say which of some tests failed first. Wherever it is shown that no test fails, such a run is
-- the checked run; so each test can be shown by a pass of its own, and a pass may take for granted what comes before
-- it.
use Rattle.std.proofs.Common.{◌≡◌, ℕ, Bool, true, Option, Some, None, refl, ap, sym, ◌∙◌, subst}
use Rattle.mir_ty.specs.declared.ty.TyId.{TyId}
use Rattle.mir_ty.specs.ItemTable.{ItemTable}
use Rattle.store_model.proofs.Effects.Following.{Relation, FollowsOut, goes_on, unwinds, halts, lapsed, outlived, refused, FollowsChoice, takes, declines, neither, lapsed_choice, FollowsEffects, one_bound}
use Rattle.store_model.specs.Effects as effects
use Rattle.store_model.specs.Effects.{stored_by, EffectSite, Action, Test, Mode, Halt, Aborted, OutOfTicks, Stuck, StuckAt, BadUse, BadStore, NoChoice, Infeasible, Unreachable, Out, Go, Unwind, Halts, Choice, Yes, No, Neither, Effects}
use Rattle.store_model.specs.Abstract.Effects.{AbstractState, abstract_effects}
use Rattle.src_meaning.proofs.ProgramsFollow.{activation_follow}
use Rattle.src_meaning.proofs.RunLaws.{located}
use Rattle.src_meaning.specs.Locals.Effects.{at_locals, action_at, test_at, site_at}
use Rattle.src_meaning.specs.Scopes.{entry_site}
use Rattle.src_meaning.specs.Programs.{activation}
use Rattle.typed_tree.specs.Tree.{BodyTree}
use Rattle.soundness_values.proofs.Checked.{Checking, Checks, checked_effects, with_facts, if_ok, chosen_with, chosen_if_ok}
use Rattle.soundness_values.proofs.Leaving.{ShownOut}
use Rattle.soundness_cells.proofs.PassClear.{KeepsClear, ShownChoice, any, Changes, Nothing, MovedByAny, operands_of, tested_by, StoredAt}
use Rattle.soundness_cells.proofs.PassEffects.{checked, CheckedClear, keeps_clear}

-- the number of the first test that fails before an effect, if one fails
pub record Marks (F : Type 0) : Type 0 where
  pub acting : Action → AbstractState → F → Option ℕ
  pub choosing : Test → AbstractState → F → Option ℕ
  pub dropping : Mode → EffectSite → AbstractState → F → Option ℕ
  pub giving : EffectSite → AbstractState → F → Option ℕ

-- a run has ended by a test that failed
abbrev pub IsMark : Halt → Type 0
IsMark Aborted = ⊥
IsMark OutOfTicks = ⊥
IsMark Stuck = ⊥
IsMark (StuckAt mark block) = Unit {0}
IsMark (BadUse site) = ⊥
IsMark (BadStore site) = ⊥
IsMark NoChoice = ⊥
IsMark Infeasible = ⊥
IsMark Unreachable = ⊥

module _ {F : Type 0} where
  abbrev pub marked : Option ℕ → Checking F → Out (Checking F) → Out (Checking F)
  marked None v o = o
  marked (Some mark) v o = Halts (StuckAt mark 0) v

  abbrev pub chosen_marked : Option ℕ → Checking F → Choice (Checking F) → Choice (Checking F)
  chosen_marked None v o = o
  chosen_marked (Some mark) v o = Neither (StuckAt mark 0) v

  abbrev pub marked_effects : Checks F → Marks F → Effects AbstractState → Effects (Checking F)
  marked_effects checks marks p = record {
    act = λ action v. marked (marks.acting action v.free v.facts) v
        (with_facts (checks.act_facts action v.free v.facts) (checks.unwound_facts action v.free v.facts)
        (p.act action v.free));
    choose = λ test v. chosen_marked (marks.choosing test v.free v.facts) v
        (chosen_with (checks.taken_facts test v.free v.facts) (checks.declined_facts test v.free v.facts)
        (p.choose test v.free));
    drop = λ mode site v. marked (marks.dropping mode site v.free v.facts) v
        (with_facts (checks.drop_facts mode site v.free v.facts) (checks.drop_facts mode site v.free v.facts)
        (p.drop mode site v.free));
    panic = λ why v. record v { free = p.panic why v.free };
    tick = λ v. with_facts v.facts v.facts (p.tick v.free);
    give = λ site v. marked (marks.giving site v.free v.facts) v (with_facts v.facts v.facts (p.give site v.free));
  }

  -- where no test fails, all is checked
  pub record StandFor (marks : Marks F) (checks : Checks F) : Type 0 where
    pub acts : (action : Action) (v : AbstractState) (f : F) → marks.acting action v f ≡ None →
        checks.act_ok action v f ≡ true
    pub chooses : (test : Test) (v : AbstractState) (f : F) → marks.choosing test v f ≡ None →
        checks.test_ok test v f ≡ true
    pub drops : (mode : Mode) (site : EffectSite) (v : AbstractState) (f : F) → marks.dropping mode site v f ≡ None →
        checks.drop_ok mode site v f ≡ true
    pub gives : (site : EffectSite) (v : AbstractState) (f : F) → marks.giving site v f ≡ None →
        checks.give_ok site v f ≡ true

  -- ---- a run without a mark is the checked run

  abbrev same_or_marked : Relation (Checking F) (Checking F)
  same_or_marked = record {
    Known = Checking F;
    Choices = Unit {0};
    feed = λ t c. c;
    none = tt;
    joined = λ a b. tt;
    from_none = λ t. refl;
    associates = λ a b c. refl;
    Stage = Unit {0};
    related = λ n v c. v ≡ c;
    halted = λ n v c. v ≡ c;
    at_halt = λ n v c e. e;
    lapses = λ n halt v. IsMark halt;
    outlives = λ n halt v later. ⊥;
    refuses = λ halt. ⊥;
  }

  out_itself : (n : Unit {0}) (o : Out (Checking F)) → FollowsOut same_or_marked n o (λ t. o)
  out_itself n (Go v) = goes_on n v v tt _ refl (λ rest. refl)
  out_itself n (Unwind v) = unwinds n v v tt _ refl (λ rest. refl)
  out_itself n (Halts halt v) = halts n halt v v tt _ refl (λ rest. refl)

  choice_itself : (n : Unit {0}) (o : Choice (Checking F)) → FollowsChoice same_or_marked n o (λ t. o)
  choice_itself n (Yes v) = takes n v v tt _ refl (λ rest. refl)
  choice_itself n (No v) = declines n v v tt _ refl (λ rest. refl)
  choice_itself n (Neither halt v) = neither n halt v v tt _ refl (λ rest. refl)

  out_marked : (mark : Option ℕ) (ok : Bool) (n : Unit {0}) (v : Checking F) (o : Out (Checking F)) →
      (mark ≡ None → ok ≡ true) → FollowsOut same_or_marked n (marked mark v o) (λ t. if_ok ok v o)
  out_marked None ok n v o f =
      subst (λ b. FollowsOut same_or_marked n o (λ t. if_ok b v o)) (sym (f refl)) (out_itself n o)
  out_marked (Some mark) ok n v o f = lapsed n (StuckAt mark 0) v _ tt

  choice_marked : (mark : Option ℕ) (ok : Bool) (n : Unit {0}) (v : Checking F) (o : Choice (Checking F)) →
      (mark ≡ None → ok ≡ true) → FollowsChoice same_or_marked n (chosen_marked mark v o) (λ t. chosen_if_ok ok v o)
  choice_marked None ok n v o f =
      subst (λ b. FollowsChoice same_or_marked n o (λ t. chosen_if_ok b v o)) (sym (f refl)) (choice_itself n o)
  choice_marked (Some mark) ok n v o f = lapsed_choice n (StuckAt mark 0) v _ tt

  abbrev pub Unmarked : Out (Checking F) → Type 0
  Unmarked (Go v) = Unit {0}
  Unmarked (Unwind v) = Unit {0}
  Unmarked (Halts halt v) = IsMark halt → ⊥

  module _ (checks : Checks F) (marks : Marks F) (stand : StandFor marks checks) (p : Effects AbstractState) where
    abbrev M : Effects (Checking F)
    M = marked_effects checks marks p

    abbrev C : Effects (Checking F)
    C = checked_effects checks p

    marked_follow : FollowsEffects same_or_marked M C
    marked_follow = record {
      acting = λ action n v c e. subst (λ c. FollowsOut same_or_marked n (M.act action v) (λ t. C.act action c)) e
          (out_marked (marks.acting action v.free v.facts) (checks.act_ok action v.free v.facts) n v
          (with_facts (checks.act_facts action v.free v.facts) (checks.unwound_facts action v.free v.facts)
          (p.act action v.free)) (stand.acts action v.free v.facts));
      choosing = λ test n v c e. subst (λ c. FollowsChoice same_or_marked n (M.choose test v) (λ t. C.choose test c)) e
          (choice_marked (marks.choosing test v.free v.facts) (checks.test_ok test v.free v.facts) n v
          (chosen_with (checks.taken_facts test v.free v.facts) (checks.declined_facts test v.free v.facts)
          (p.choose test v.free)) (stand.chooses test v.free v.facts));
      dropping = λ mode site n v c e. subst (λ c. FollowsOut same_or_marked n (M.drop mode site v)
          (λ t. C.drop mode site c)) e
          (out_marked (marks.dropping mode site v.free v.facts) (checks.drop_ok mode site v.free v.facts) n v
          (with_facts (checks.drop_facts mode site v.free v.facts) (checks.drop_facts mode site v.free v.facts)
          (p.drop mode site v.free)) (stand.drops mode site v.free v.facts));
      panicking = λ why n v c e. subst (λ c. FollowsOut same_or_marked n (Unwind (M.panic why v))
          (λ t. Unwind (C.panic why c))) e (out_itself n (Unwind (M.panic why v)));
      ticking = λ n v c e. subst (λ c. FollowsOut same_or_marked n (M.tick v) (λ t. C.tick c)) e
          (out_itself n (M.tick v));
      giving = λ site n v c e. subst (λ c. FollowsOut same_or_marked n (M.give site v) (λ t. C.give site c)) e
          (out_marked (marks.giving site v.free v.facts) (checks.give_ok site v.free v.facts) n v
          (with_facts v.facts v.facts (p.give site v.free)) (stand.gives site v.free v.facts));
    }

    same_run : (o : Out (Checking F)) (g : Unit {0} → Out (Checking F)) (n : Unit {0}) → Unmarked o →
        FollowsOut same_or_marked n o g → g tt ≡ o
    same_run o g n u (goes_on m v c l _ k d) = d tt ∙ ap Go (sym k)
    same_run o g n u (unwinds m v c l _ k d) = d tt ∙ ap Unwind (sym k)
    same_run o g n u (halts m halt v c l _ k d) = d tt ∙ ap (Halts halt) (sym k)
    same_run o g n u (lapsed m halt v _ k) = absurd (u k)
    same_run o g n u (outlived m halt v later s _ k d) = absurd k
    same_run o g n u (refused m _ halt c l _ k d) = absurd k

    pub unmarked_run : (items : ItemTable) (local_of : ℕ → ℕ) (fuel : ℕ) (body : BodyTree) (v : Checking F) →
        Unmarked (activation items (at_locals local_of M) fuel body v) →
        activation items (at_locals local_of C) fuel body v ≡ activation items (at_locals local_of M) fuel body v
    unmarked_run items local_of fuel body v u =
        same_run (activation items (at_locals local_of M) fuel body v) _ tt u
        (activation_follow same_or_marked items (at_locals local_of M) (at_locals local_of C)
        (located same_or_marked local_of M C marked_follow) fuel fuel (one_bound fuel) body tt v v refl)

-- ---- the effects of such a run do to cells what the pass over scopes asks

module _ (items : ItemTable) (local_ty : ℕ → Option TyId) (local_of : ℕ → ℕ)
    (one_key : (a b : ℕ) → local_of a ≡ local_of b → a ≡ b) (needs : ℕ → Bool) {F : Type 0} (checks : Checks F)
    (marks : Marks F) where
  -- nothing is tested, and the facts are the same
  abbrev untested : Checks F
  untested = record checks {
    act_ok = λ action v f. true;
    test_ok = λ test v f. true;
    drop_ok = λ mode site v f. true;
    give_ok = λ site v f. true;
  }

  abbrev pub marked_at : Effects (Checking F)
  marked_at = at_locals local_of (marked_effects checks marks (abstract_effects items local_ty))

  abbrev pub MarkedClear : Checking F → ℕ → Type 0
  MarkedClear = CheckedClear items local_ty local_of one_key needs untested

  abbrev keeps : KeepsClear (checked items local_ty local_of one_key needs untested) needs MarkedClear
  keeps = keeps_clear items local_ty local_of one_key needs untested

  shown_marked : (mark : Option ℕ) (v : Checking F) (o : Out (Checking F)) (a b : Checking F → Type 0) →
      ShownOut any a b o → ShownOut any a b (marked mark v o)
  shown_marked None v o a b h = h
  shown_marked (Some mark) v o a b h = tt

  shown_choice : (mark : Option ℕ) (v : Checking F) (o : Choice (Checking F)) (a b : Checking F → Type 0) →
      ShownChoice a b o → ShownChoice a b (chosen_marked mark v o)
  shown_choice None v o a b h = h
  shown_choice (Some mark) v o a b h = tt

  abbrev U : Effects (Checking F)
  U = checked items local_ty local_of one_key needs untested

  abbrev Change : (moved stored : ℕ → Type 0) → Checking F → Checking F → Type 0
  Change moved stored v w = Changes MarkedClear moved stored v w

  abbrev Still : Checking F → Checking F → Type 0
  Still v w = (key : ℕ) → MarkedClear v key → MarkedClear w key

  pub marked_keeps : KeepsClear marked_at needs MarkedClear
  marked_keeps = record {
    acts = λ action v. shown_marked (marks.acting (action_at local_of action) v.free v.facts) v (U.act action v)
        (Change (MovedByAny (operands_of action)) (StoredAt (stored_by action)) v)
        (Change (MovedByAny (operands_of action)) Nothing v) (keeps.acts action v);
    chooses = λ test v. shown_choice (marks.choosing (test_at local_of test) v.free v.facts) v (U.choose test v)
        (Change (MovedByAny (tested_by test)) Nothing v) (Change (MovedByAny (tested_by test)) Nothing v)
        (keeps.chooses test v);
    drops = λ mode e v. shown_marked (marks.dropping mode (site_at local_of (entry_site e)) v.free v.facts) v
        (U.drop mode (entry_site e) v) (λ w. MarkedClear w e.key × Still v w) (λ w. MarkedClear w e.key × Still v w)
        (keeps.drops mode e v);
    drops_at = λ mode site v. shown_marked (marks.dropping mode (site_at local_of site) v.free v.facts) v
        (U.drop mode site v) (Still v) (Still v) (keeps.drops_at mode site v);
    puts = λ to from v. shown_marked (marks.acting (action_at local_of (effects.Put to from)) v.free v.facts) v
        (U.act (effects.Put to from) v) (λ w. Unit {0}) (λ w. ⊥) (keeps.puts to from v);
    gives = λ site v. shown_marked (marks.giving (site_at local_of site) v.free v.facts) v (U.give site v) (Still v)
        (λ w. ⊥) (keeps.gives site v);
    panics = keeps.panics;
    ticks = keeps.ticks;
    needs_none = keeps.needs_none;
  }
