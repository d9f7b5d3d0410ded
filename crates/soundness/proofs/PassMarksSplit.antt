-- A run with marks, and one whose marks tell two causes of one of these marks apart: where the first ends by that mark,
-- the second ends by one of the two.
use Rattle.std.proofs.Common.{◌≡◌, ◌⊎◌, inl, inr, ℕ, ◌==◌, Bool, true, false, Option, Some, None, refl, ap, sym, ◌∙◌, subst}
use Rattle.std.proofs.lemmas.Bool.{false≢true}
use Rattle.std.proofs.lemmas.Bool.Decides.{Decides-eqb}
use Rattle.mir_ty.specs.ItemTable.{ItemTable}
use Rattle.store_model.proofs.Effects.Following.{Relation, FollowsOut, goes_on, unwinds, halts, lapsed, outlived, refused, FollowsChoice, takes, declines, neither, lapsed_choice, refused_choice, FollowsEffects, one_bound}
use Rattle.store_model.specs.Abstract.Effects.{AbstractState}
use Rattle.store_model.specs.Effects.{EffectSite, Action, Test, Mode, Halt, StuckAt, Out, Go, Unwind, Halts, Choice, Yes, No, Neither, Effects}
use Rattle.src_meaning.proofs.ProgramsFollow.{activation_follow}
use Rattle.src_meaning.proofs.RunLaws.{located}
use Rattle.src_meaning.specs.Locals.Effects.{at_locals}
use Rattle.src_meaning.specs.Programs.{activation}
use Rattle.typed_tree.specs.Tree.{BodyTree}
use Rattle.soundness_values.proofs.Checked.{Checking, Checks}
use Rattle.soundness_cells.proofs.PassMarks.{Marks, marked, chosen_marked, marked_effects}
use Rattle.soundness_cells.proofs.PassMarksJoin.{OtherMark}

-- where the first has no mark, the second has none; where it has this one, the second has one of two
abbrev pub Splits : (own one two : ℕ) → Option ℕ → Option ℕ → Type 0
Splits own one two None o = o ≡ None
Splits own one two (Some mark) o = mark ≡ own → (o ≡ Some one) ⊎ (o ≡ Some two)

abbrev OneOfTwo : (one two : ℕ) → Halt → Type 0
OneOfTwo one two (StuckAt mark block) = (mark ≡ one) ⊎ (mark ≡ two)
OneOfTwo one two halt = ⊥

module _ {F : Type 0} (own one two : ℕ) where
  pub record SplitsMark (many fine : Marks F) : Type 0 where
    pub acts : (action : Action) (v : AbstractState) (f : F) →
        Splits own one two (many.acting action v f) (fine.acting action v f)
    pub chooses : (test : Test) (v : AbstractState) (f : F) →
        Splits own one two (many.choosing test v f) (fine.choosing test v f)
    pub drops : (mode : Mode) (site : EffectSite) (v : AbstractState) (f : F) →
        Splits own one two (many.dropping mode site v f) (fine.dropping mode site v f)
    pub gives : (site : EffectSite) (v : AbstractState) (f : F) →
        Splits own one two (many.giving site v f) (fine.giving site v f)

  abbrev split : Relation (Checking F) (Checking F)
  split = record {
    Known = Checking F;
    Choices = Unit {0};
    feed = λ t c. c;
    none = tt;
    joined = λ a b. tt;
    from_none = λ t. refl;
    associates = λ a b c. refl;
    Stage = Unit {0};
    related = λ n v c. v ≡ c;
    halted = λ n v c. v ≡ c;
    at_halt = λ n v c e. e;
    lapses = λ n halt v. OtherMark own halt;
    outlives = λ n halt v later. ⊥;
    refuses = λ halt. OneOfTwo one two halt;
  }

  out_itself : (n : Unit {0}) (o : Out (Checking F)) → FollowsOut split n o (λ t. o)
  out_itself n (Go v) = goes_on n v v tt _ refl (λ rest. refl)
  out_itself n (Unwind v) = unwinds n v v tt _ refl (λ rest. refl)
  out_itself n (Halts halt v) = halts n halt v v tt _ refl (λ rest. refl)

  choice_itself : (n : Unit {0}) (o : Choice (Checking F)) → FollowsChoice split n o (λ t. o)
  choice_itself n (Yes v) = takes n v v tt _ refl (λ rest. refl)
  choice_itself n (No v) = declines n v v tt _ refl (λ rest. refl)
  choice_itself n (Neither halt v) = neither n halt v v tt _ refl (λ rest. refl)

  out_split : (many fine : Option ℕ) (n : Unit {0}) (v : Checking F) (o : Out (Checking F)) →
      Splits own one two many fine →
      FollowsOut split n (marked many v o) (λ t. marked fine v o)
  out_split None fine n v o e =
      subst (λ m. FollowsOut split n o (λ t. marked m v o)) (sym e) (out_itself n o)
  out_split (Some mark) fine n v o f = by (mark == own) refl
    where
      which : (fine ≡ Some one) ⊎ (fine ≡ Some two) →
          FollowsOut split n (Halts (StuckAt mark 0) v) (λ t. marked fine v o)
      which (inl e) = subst (λ m. FollowsOut split n (Halts (StuckAt mark 0) v) (λ t. marked m v o)) (sym e)
          (refused n (Halts (StuckAt mark 0) v) (StuckAt one 0) v tt _ (inl refl) (λ rest. refl))
      which (inr e) = subst (λ m. FollowsOut split n (Halts (StuckAt mark 0) v) (λ t. marked m v o)) (sym e)
          (refused n (Halts (StuckAt mark 0) v) (StuckAt two 0) v tt _ (inr refl) (λ rest. refl))

      by : (b : Bool) → (mark == own) ≡ b → FollowsOut split n (Halts (StuckAt mark 0) v) (λ t. marked fine v o)
      by true e = which (f ((Decides-eqb mark own).0 e))
      by false e = lapsed n (StuckAt mark 0) v _ (λ same. false≢true (sym e ∙ (Decides-eqb mark own).1 same))

  choice_split : (many fine : Option ℕ) (n : Unit {0}) (v : Checking F) (o : Choice (Checking F)) →
      Splits own one two many fine →
      FollowsChoice split n (chosen_marked many v o) (λ t. chosen_marked fine v o)
  choice_split None fine n v o e =
      subst (λ m. FollowsChoice split n o (λ t. chosen_marked m v o)) (sym e) (choice_itself n o)
  choice_split (Some mark) fine n v o f = by (mark == own) refl
    where
      which : (fine ≡ Some one) ⊎ (fine ≡ Some two) →
          FollowsChoice split n (Neither (StuckAt mark 0) v) (λ t. chosen_marked fine v o)
      which (inl e) = subst (λ m. FollowsChoice split n (Neither (StuckAt mark 0) v) (λ t. chosen_marked m v o)) (sym e)
          (refused_choice n (Neither (StuckAt mark 0) v) (StuckAt one 0) v tt _ (inl refl) (λ rest. refl))
      which (inr e) = subst (λ m. FollowsChoice split n (Neither (StuckAt mark 0) v) (λ t. chosen_marked m v o)) (sym e)
          (refused_choice n (Neither (StuckAt mark 0) v) (StuckAt two 0) v tt _ (inr refl) (λ rest. refl))

      by : (b : Bool) → (mark == own) ≡ b →
          FollowsChoice split n (Neither (StuckAt mark 0) v) (λ t. chosen_marked fine v o)
      by true e = which (f ((Decides-eqb mark own).0 e))
      by false e = lapsed_choice n (StuckAt mark 0) v _ (λ same. false≢true (sym e ∙ (Decides-eqb mark own).1 same))

  -- a run has ended by one of the two marks
  abbrev pub EndsByEither : Out (Checking F) → Type 0
  EndsByEither o = (mark : ℕ) × ((block : ℕ) × ((w : Checking F) × ((o ≡ Halts (StuckAt mark block) w)
      × ((mark ≡ one) ⊎ (mark ≡ two)))))

  of_halt : (o : Out (Checking F)) (halt : Halt) (w : Checking F) → o ≡ Halts halt w → OneOfTwo one two halt →
      EndsByEither o
  of_halt o (StuckAt mark block) w e k = (mark, (block, (w, (e, k))))
  of_halt o other w e k = absurd k

  -- no effect of the first halts by this mark itself
  abbrev pub NotItself : Out (Checking F) → Type 0
  NotItself o = EndsByEither o ⊎ ((block : ℕ) × ((w : Checking F) × (o ≡ Halts (StuckAt own block) w)))

  split_end : (o : Out (Checking F)) (g : Unit {0} → Out (Checking F)) (n : Unit {0}) (block : ℕ) (w : Checking F) →
      o ≡ Halts (StuckAt own block) w → FollowsOut split n o g → NotItself (g tt)
  split_end o g n block w e (goes_on m v c l _ k d) = absurd (let never : ⊥ = cc in never)
  split_end o g n block w e (unwinds m v c l _ k d) = absurd (let never : ⊥ = cc in never)
  split_end o g n block w e (halts m halt v c l _ k d) =
      inr (block, (c, (let same : halt ≡ StuckAt own block = cc in d tt ∙ ap (λ h. Halts h c) same)))
  split_end o g n block w e (lapsed m halt v _ k) =
      absurd ((let same : halt ≡ StuckAt own block = cc in subst (OtherMark own) same k) refl)
  split_end o g n block w e (outlived m halt v later s _ k d) = absurd k
  split_end o g n block w e (refused m _ halt c l _ k d) = inl (of_halt (g tt) halt c (d tt) k)

  module _ (checks : Checks F) (many fine : Marks F) (splits : SplitsMark many fine) (p : Effects AbstractState) where
    abbrev A : Effects (Checking F)
    A = marked_effects checks many p

    abbrev B : Effects (Checking F)
    B = marked_effects checks fine p

    split_follows : FollowsEffects split A B
    split_follows = record {
      acting = λ action n v c e. subst (λ c. FollowsOut split n (A.act action v) (λ t. B.act action c)) e
          (out_split (many.acting action v.free v.facts) (fine.acting action v.free v.facts) n v _
          (splits.acts action v.free v.facts));
      choosing = λ test n v c e. subst (λ c. FollowsChoice split n (A.choose test v) (λ t. B.choose test c)) e
          (choice_split (many.choosing test v.free v.facts) (fine.choosing test v.free v.facts) n v _
          (splits.chooses test v.free v.facts));
      dropping = λ mode site n v c e. subst (λ c. FollowsOut split n (A.drop mode site v) (λ t. B.drop mode site c)) e
          (out_split (many.dropping mode site v.free v.facts) (fine.dropping mode site v.free v.facts) n v _
          (splits.drops mode site v.free v.facts));
      panicking = λ why n v c e. subst (λ c. FollowsOut split n (Unwind (A.panic why v))
          (λ t. Unwind (B.panic why c))) e
          (out_itself n (Unwind (A.panic why v)));
      ticking = λ n v c e. subst (λ c. FollowsOut split n (A.tick v) (λ t. B.tick c)) e (out_itself n (A.tick v));
      giving = λ site n v c e. subst (λ c. FollowsOut split n (A.give site v) (λ t. B.give site c)) e
          (out_split (many.giving site v.free v.facts) (fine.giving site v.free v.facts) n v _
          (splits.gives site v.free v.facts));
    }

    -- where the first run ends by the mark, the second ends by one of the two
    pub split_marks : (items : ItemTable) (local_of : ℕ → ℕ) (fuel : ℕ) (body : BodyTree) (v w : Checking F)
        (block : ℕ) → activation items (at_locals local_of A) fuel body v ≡ Halts (StuckAt own block) w →
        NotItself (activation items (at_locals local_of B) fuel body v)
    split_marks items local_of fuel body v w block e =
        split_end (activation items (at_locals local_of A) fuel body v) _ tt block w e
        (activation_follow split items (at_locals local_of A) (at_locals local_of B)
        (located split local_of A B split_follows) fuel fuel (one_bound fuel) body tt v v refl)
