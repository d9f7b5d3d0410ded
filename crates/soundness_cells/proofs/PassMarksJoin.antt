-- A run with marks for several tests, and one with the marks of a single test: where the first ends by the mark of that
-- test, so does the second; and so they do where they end by no mark. So what is shown of each test by a pass of its own
-- holds of one run that tests them all.
use Rattle.std.proofs.Common.{◌≡◌, ◌⊎◌, inl, inr, ℕ, ◌==◌, Bool, true, false, Option, Some, None, refl, ap, sym, ◌∙◌, subst}
use Rattle.std.proofs.lemmas.Bool.{false≢true}
use Rattle.std.proofs.lemmas.Bool.Decides.{Decides-eqb}
use Rattle.mir_ty.specs.ItemTable.{ItemTable}
use Rattle.store_model.proofs.Effects.Following.{Relation, FollowsOut, goes_on, unwinds, halts, lapsed, outlived, refused, FollowsChoice, takes, declines, neither, lapsed_choice, FollowsEffects, one_bound}
use Rattle.store_model.specs.Abstract.Effects.{AbstractState}
use Rattle.store_model.specs.Effects.{EffectSite, Action, Test, Mode, Halt, Aborted, OutOfTicks, Stuck, StuckAt, BadUse, BadStore, NoChoice, Infeasible, Unreachable, Out, Go, Unwind, Halts, Choice, Yes, No, Neither, Effects}
use Rattle.src_meaning.proofs.ProgramsFollow.{activation_follow}
use Rattle.src_meaning.proofs.RunLaws.{located}
use Rattle.src_meaning.specs.Locals.Effects.{at_locals}
use Rattle.src_meaning.specs.Programs.{activation}
use Rattle.typed_tree.specs.Tree.{BodyTree}
use Rattle.soundness_values.proofs.Checked.{Checking, Checks, checked_effects, if_ok, chosen_if_ok}
use Rattle.soundness_cells.proofs.PassMarks.{Marks, marked, chosen_marked, marked_effects, StandFor}

-- it is another mark
abbrev pub OtherMark : ℕ → Halt → Type 0
OtherMark own (StuckAt mark block) = mark ≡ own → ⊥
OtherMark own halt = ⊥

-- where the first has no mark, the second has none; where it has this one, so has the second
abbrev pub Carries : ℕ → Option ℕ → Option ℕ → Type 0
Carries own None o = o ≡ None
Carries own (Some mark) o = mark ≡ own → o ≡ Some own

module _ {F : Type 0} (own : ℕ) where
  pub record CarriesMark (many single : Marks F) : Type 0 where
    pub acts : (action : Action) (v : AbstractState) (f : F) →
        Carries own (many.acting action v f) (single.acting action v f)
    pub chooses : (test : Test) (v : AbstractState) (f : F) →
        Carries own (many.choosing test v f) (single.choosing test v f)
    pub drops : (mode : Mode) (site : EffectSite) (v : AbstractState) (f : F) →
        Carries own (many.dropping mode site v f) (single.dropping mode site v f)
    pub gives : (site : EffectSite) (v : AbstractState) (f : F) →
        Carries own (many.giving site v f) (single.giving site v f)

  abbrev same_but_marked : Relation (Checking F) (Checking F)
  same_but_marked = record {
    Known = Checking F;
    Choices = Unit {0};
    feed = λ t c. c;
    none = tt;
    joined = λ a b. tt;
    from_none = λ t. refl;
    associates = λ a b c. refl;
    Stage = Unit {0};
    related = λ n v c. v ≡ c;
    halted = λ n v c. v ≡ c;
    at_halt = λ n v c e. e;
    lapses = λ n halt v. OtherMark own halt;
    outlives = λ n halt v later. ⊥;
    refuses = λ halt. ⊥;
  }

  out_itself : (n : Unit {0}) (o : Out (Checking F)) → FollowsOut same_but_marked n o (λ t. o)
  out_itself n (Go v) = goes_on n v v tt _ refl (λ rest. refl)
  out_itself n (Unwind v) = unwinds n v v tt _ refl (λ rest. refl)
  out_itself n (Halts halt v) = halts n halt v v tt _ refl (λ rest. refl)

  choice_itself : (n : Unit {0}) (o : Choice (Checking F)) → FollowsChoice same_but_marked n o (λ t. o)
  choice_itself n (Yes v) = takes n v v tt _ refl (λ rest. refl)
  choice_itself n (No v) = declines n v v tt _ refl (λ rest. refl)
  choice_itself n (Neither halt v) = neither n halt v v tt _ refl (λ rest. refl)

  out_marked : (many single : Option ℕ) (n : Unit {0}) (v : Checking F) (o : Out (Checking F)) →
      Carries own many single → FollowsOut same_but_marked n (marked many v o) (λ t. marked single v o)
  out_marked None single n v o c =
      subst (λ s. FollowsOut same_but_marked n o (λ t. marked s v o)) (sym c) (out_itself n o)
  out_marked (Some mark) single n v o c = by (mark == own) refl
    where
      by : (b : Bool) → (mark == own) ≡ b →
          FollowsOut same_but_marked n (Halts (StuckAt mark 0) v) (λ t. marked single v o)
      by true e =
          let same : mark ≡ own = (Decides-eqb mark own).0 e in
          subst (λ s. FollowsOut same_but_marked n (Halts (StuckAt mark 0) v) (λ t. marked s v o)) (sym (c same))
          (subst (λ k. FollowsOut same_but_marked n (Halts (StuckAt mark 0) v) (λ t. Halts (StuckAt k 0) v)) same
          (out_itself n (Halts (StuckAt mark 0) v)))
      by false e = lapsed n (StuckAt mark 0) v _ (λ same. false≢true (sym e ∙ (Decides-eqb mark own).1 same))

  choice_marked : (many single : Option ℕ) (n : Unit {0}) (v : Checking F) (o : Choice (Checking F)) →
      Carries own many single → FollowsChoice same_but_marked n (chosen_marked many v o) (λ t. chosen_marked single v o)
  choice_marked None single n v o c =
      subst (λ s. FollowsChoice same_but_marked n o (λ t. chosen_marked s v o)) (sym c) (choice_itself n o)
  choice_marked (Some mark) single n v o c = by (mark == own) refl
    where
      by : (b : Bool) → (mark == own) ≡ b →
          FollowsChoice same_but_marked n (Neither (StuckAt mark 0) v) (λ t. chosen_marked single v o)
      by true e =
          let same : mark ≡ own = (Decides-eqb mark own).0 e in
          subst (λ s. FollowsChoice same_but_marked n (Neither (StuckAt mark 0) v) (λ t. chosen_marked s v o))
          (sym (c same))
          (subst (λ k. FollowsChoice same_but_marked n (Neither (StuckAt mark 0) v) (λ t. Neither (StuckAt k 0) v)) same
          (choice_itself n (Neither (StuckAt mark 0) v)))
      by false e = lapsed_choice n (StuckAt mark 0) v _ (λ same. false≢true (sym e ∙ (Decides-eqb mark own).1 same))

  module _ (checks : Checks F) (many single : Marks F) (carries : CarriesMark many single)
      (p : Effects AbstractState) where
    abbrev A : Effects (Checking F)
    A = marked_effects checks many p

    abbrev B : Effects (Checking F)
    B = marked_effects checks single p

    mark_follows : FollowsEffects same_but_marked A B
    mark_follows = record {
      acting = λ action n v c e. subst (λ c. FollowsOut same_but_marked n (A.act action v) (λ t. B.act action c)) e
          (out_marked (many.acting action v.free v.facts) (single.acting action v.free v.facts) n v _
          (carries.acts action v.free v.facts));
      choosing = λ test n v c e. subst (λ c. FollowsChoice same_but_marked n (A.choose test v) (λ t. B.choose test c)) e
          (choice_marked (many.choosing test v.free v.facts) (single.choosing test v.free v.facts) n v _
          (carries.chooses test v.free v.facts));
      dropping = λ mode site n v c e. subst (λ c. FollowsOut same_but_marked n (A.drop mode site v)
          (λ t. B.drop mode site c)) e
          (out_marked (many.dropping mode site v.free v.facts) (single.dropping mode site v.free v.facts) n v _
          (carries.drops mode site v.free v.facts));
      panicking = λ why n v c e. subst (λ c. FollowsOut same_but_marked n (Unwind (A.panic why v))
          (λ t. Unwind (B.panic why c))) e (out_itself n (Unwind (A.panic why v)));
      ticking = λ n v c e. subst (λ c. FollowsOut same_but_marked n (A.tick v) (λ t. B.tick c)) e
          (out_itself n (A.tick v));
      giving = λ site n v c e. subst (λ c. FollowsOut same_but_marked n (A.give site v) (λ t. B.give site c)) e
          (out_marked (many.giving site v.free v.facts) (single.giving site v.free v.facts) n v _
          (carries.gives site v.free v.facts));
    }

    same_end : (o : Out (Checking F)) (g : Unit {0} → Out (Checking F)) (n : Unit {0}) (halt : Halt) (w : Checking F) →
        (OtherMark own halt → ⊥) → o ≡ Halts halt w → FollowsOut same_but_marked n o g → g tt ≡ Halts halt w
    same_end o g n halt w h e (goes_on m v c l _ k d) = absurd (let never : ⊥ = cc in never)
    same_end o g n halt w h e (unwinds m v c l _ k d) = absurd (let never : ⊥ = cc in never)
    same_end o g n halt w h e (halts m other v c l _ k d) = d tt ∙ ap (Halts other) (sym k) ∙ e
    same_end o g n halt w h e (lapsed m other v _ k) =
        absurd (h (let same : other ≡ halt = cc in subst (OtherMark own) same k))
    same_end o g n halt w h e (outlived m other v later s _ k d) = absurd k
    same_end o g n halt w h e (refused m _ other c l _ k d) = absurd k

    -- where the run with many marks halts, but by another mark, so does the run with this one
    pub carried : (items : ItemTable) (local_of : ℕ → ℕ) (fuel : ℕ) (body : BodyTree) (v w : Checking F) (halt : Halt) →
        (OtherMark own halt → ⊥) → activation items (at_locals local_of A) fuel body v ≡ Halts halt w →
        activation items (at_locals local_of B) fuel body v ≡ Halts halt w
    carried items local_of fuel body v w halt h e =
        same_end (activation items (at_locals local_of A) fuel body v) _ tt halt w h e
        (activation_follow same_but_marked items (at_locals local_of A) (at_locals local_of B)
        (located same_but_marked local_of A B mark_follows) fuel fuel (one_bound fuel) body tt v v refl)

-- ---- a run ends by none but its marks

abbrev pub ListedHalt : (ℕ → Bool) → Halt → Type 0
ListedHalt listed (StuckAt mark block) = listed mark ≡ true
ListedHalt listed halt = ⊥

abbrev pub ListedMark : (ℕ → Bool) → Option ℕ → Type 0
ListedMark listed None = Unit {0}
ListedMark listed (Some mark) = listed mark ≡ true

module _ {F : Type 0} (listed : ℕ → Bool) where
  pub record AllListed (marks : Marks F) : Type 0 where
    pub acts : (action : Action) (v : AbstractState) (f : F) → ListedMark listed (marks.acting action v f)
    pub chooses : (test : Test) (v : AbstractState) (f : F) → ListedMark listed (marks.choosing test v f)
    pub drops : (mode : Mode) (site : EffectSite) (v : AbstractState) (f : F) →
        ListedMark listed (marks.dropping mode site v f)
    pub gives : (site : EffectSite) (v : AbstractState) (f : F) → ListedMark listed (marks.giving site v f)

  abbrev same_or_listed : Relation (Checking F) (Checking F)
  same_or_listed = record {
    Known = Checking F;
    Choices = Unit {0};
    feed = λ t c. c;
    none = tt;
    joined = λ a b. tt;
    from_none = λ t. refl;
    associates = λ a b c. refl;
    Stage = Unit {0};
    related = λ n v c. v ≡ c;
    halted = λ n v c. v ≡ c;
    at_halt = λ n v c e. e;
    lapses = λ n halt v. ListedHalt listed halt;
    outlives = λ n halt v later. ⊥;
    refuses = λ halt. ⊥;
  }

  as_itself : (n : Unit {0}) (o : Out (Checking F)) → FollowsOut same_or_listed n o (λ t. o)
  as_itself n (Go v) = goes_on n v v tt _ refl (λ rest. refl)
  as_itself n (Unwind v) = unwinds n v v tt _ refl (λ rest. refl)
  as_itself n (Halts halt v) = halts n halt v v tt _ refl (λ rest. refl)

  chosen_as_itself : (n : Unit {0}) (o : Choice (Checking F)) → FollowsChoice same_or_listed n o (λ t. o)
  chosen_as_itself n (Yes v) = takes n v v tt _ refl (λ rest. refl)
  chosen_as_itself n (No v) = declines n v v tt _ refl (λ rest. refl)
  chosen_as_itself n (Neither halt v) = neither n halt v v tt _ refl (λ rest. refl)

  out_listed : (mark : Option ℕ) (ok : Bool) (n : Unit {0}) (v : Checking F) (o : Out (Checking F)) →
      ListedMark listed mark → (mark ≡ None → ok ≡ true) →
      FollowsOut same_or_listed n (marked mark v o) (λ t. if_ok ok v o)
  out_listed None ok n v o l f =
      subst (λ b. FollowsOut same_or_listed n o (λ t. if_ok b v o)) (sym (f refl)) (as_itself n o)
  out_listed (Some mark) ok n v o l f = lapsed n (StuckAt mark 0) v _ l

  choice_listed : (mark : Option ℕ) (ok : Bool) (n : Unit {0}) (v : Checking F) (o : Choice (Checking F)) →
      ListedMark listed mark → (mark ≡ None → ok ≡ true) →
      FollowsChoice same_or_listed n (chosen_marked mark v o) (λ t. chosen_if_ok ok v o)
  choice_listed None ok n v o l f =
      subst (λ b. FollowsChoice same_or_listed n o (λ t. chosen_if_ok b v o)) (sym (f refl)) (chosen_as_itself n o)
  choice_listed (Some mark) ok n v o l f = lapsed_choice n (StuckAt mark 0) v _ l

  module _ (checks : Checks F) (marks : Marks F) (stand : StandFor marks checks) (all : AllListed marks)
      (p : Effects AbstractState) where
    abbrev L : Effects (Checking F)
    L = marked_effects checks marks p

    abbrev C : Effects (Checking F)
    C = checked_effects checks p

    listed_follows : FollowsEffects same_or_listed L C
    listed_follows = record {
      acting = λ action n v c e. subst (λ c. FollowsOut same_or_listed n (L.act action v) (λ t. C.act action c)) e
          (out_listed (marks.acting action v.free v.facts) (checks.act_ok action v.free v.facts) n v _
          (all.acts action v.free v.facts) (stand.acts action v.free v.facts));
      choosing = λ test n v c e. subst (λ c. FollowsChoice same_or_listed n (L.choose test v) (λ t. C.choose test c)) e
          (choice_listed (marks.choosing test v.free v.facts) (checks.test_ok test v.free v.facts) n v _
          (all.chooses test v.free v.facts) (stand.chooses test v.free v.facts));
      dropping = λ mode site n v c e. subst (λ c. FollowsOut same_or_listed n (L.drop mode site v)
          (λ t. C.drop mode site c)) e
          (out_listed (marks.dropping mode site v.free v.facts) (checks.drop_ok mode site v.free v.facts) n v _
          (all.drops mode site v.free v.facts) (stand.drops mode site v.free v.facts));
      panicking = λ why n v c e. subst (λ c. FollowsOut same_or_listed n (Unwind (L.panic why v))
          (λ t. Unwind (C.panic why c))) e (as_itself n (Unwind (L.panic why v)));
      ticking = λ n v c e. subst (λ c. FollowsOut same_or_listed n (L.tick v) (λ t. C.tick c)) e
          (as_itself n (L.tick v));
      giving = λ site n v c e. subst (λ c. FollowsOut same_or_listed n (L.give site v) (λ t. C.give site c)) e
          (out_listed (marks.giving site v.free v.facts) (checks.give_ok site v.free v.facts) n v _
          (all.gives site v.free v.facts) (stand.gives site v.free v.facts));
    }

    listed_end : (o : Out (Checking F)) (g : Unit {0} → Out (Checking F)) (n : Unit {0}) (halt : Halt)
        (w : Checking F) → (ListedHalt listed halt → ⊥) → o ≡ Halts halt w → FollowsOut same_or_listed n o g →
        g tt ≡ Halts halt w
    listed_end o g n halt w h e (goes_on m v c l _ k d) = absurd (let never : ⊥ = cc in never)
    listed_end o g n halt w h e (unwinds m v c l _ k d) = absurd (let never : ⊥ = cc in never)
    listed_end o g n halt w h e (halts m other v c l _ k d) = d tt ∙ ap (Halts other) (sym k) ∙ e
    listed_end o g n halt w h e (lapsed m other v _ k) =
        absurd (h (let same : other ≡ halt = cc in subst (ListedHalt listed) same k))
    listed_end o g n halt w h e (outlived m other v later s _ k d) = absurd k
    listed_end o g n halt w h e (refused m _ other c l _ k d) = absurd k

    -- where it halts, but by one of its marks, the checked run halts so
    pub halts_checked : (items : ItemTable) (local_of : ℕ → ℕ) (fuel : ℕ) (body : BodyTree) (v w : Checking F)
        (halt : Halt) → (ListedHalt listed halt → ⊥) →
        activation items (at_locals local_of L) fuel body v ≡ Halts halt w →
        activation items (at_locals local_of C) fuel body v ≡ Halts halt w
    halts_checked items local_of fuel body v w halt h e =
        listed_end (activation items (at_locals local_of L) fuel body v) _ tt halt w h e
        (activation_follow same_or_listed items (at_locals local_of L) (at_locals local_of C)
        (located same_or_listed local_of L C listed_follows) fuel fuel (one_bound fuel) body tt v v refl)
