-- The mark of the half on places, in the run that marks what is asked of calls by a number of its own: an effect has it only
-- where its types are right and what is asked of places does not hold.
use Rattle.std.proofs.Common.{◌≡◌, ℕ, ◌==◌, ◌&&◌, Bool, true, false, Some, refl, ap, sym, ◌∙◌}
use Rattle.std.proofs.lemmas.Bool.{false≢true}
use Rattle.std.proofs.lemmas.Bool.Decides.{Decides-eqb}
use Rattle.std.proofs.lemmas.Option.{same_Some}
use Rattle.mir_ty.specs.ItemTable.{ItemTable}
use Rattle.store_model.specs.Abstract.Effects.{AbstractState}
use Rattle.store_model.specs.Effects.{EffectSite, Action, Test, Mode}
use Rattle.typed_tree.specs.Tree.{BodyTree}
use Rattle.soundness_values.proofs.AlsoTests.{Also}
use Rattle.soundness_values.proofs.CheckedBodies.{checks_of}
use Rattle.soundness_values.proofs.Facts.{Facts}
use Rattle.soundness.proofs.PassCallsAlone.{alone_mark, alone_marks}
use Rattle.soundness_cells.proofs.PassMarksJoin.{Carries, CarriesMark}
use Rattle.soundness_cells.proofs.PassRestSplit.{split_mark, split_marks, places_now, places_test, places_drop, places_give}

differ : {A : Type 0} (n m : ℕ) → (n == m) ≡ false → Some n ≡ Some m → A
differ n m e same = absurd (false≢true (sym e ∙ (Decides-eqb n m).1 (same_Some n m same)))

-- an effect has the mark only where its types are right
pub five_if : (more own others places apart : Bool) → (others ≡ true → places ≡ true) →
    alone_mark more own others places apart ≡ Some 5 → ⊥
five_if true true others places apart f e = let never : ⊥ = cc in never
five_if false true others places apart f e = differ 6 5 refl e
five_if true false false places apart f e = differ 2 5 refl e
five_if false false false places apart f e = differ 2 5 refl e
five_if true false true false apart f e = false≢true (f refl)
five_if false false true false apart f e = false≢true (f refl)
five_if true false true true false f e = differ 7 5 refl e
five_if false false true true false f e = differ 7 5 refl e
five_if true false true true true f e = differ 8 5 refl e
five_if false false true true true f e = differ 8 5 refl e

-- where a run that marks the half on places so has the mark, so has this one
pub carry_places : (more own others places apart : Bool) →
    Carries 5 (split_mark (more && own) own others places) (alone_mark more own others places apart)
carry_places true true others places apart = refl
carry_places false true others places apart = λ same. differ 6 5 refl (ap Some same)
carry_places true false false places apart = λ same. differ 2 5 refl (ap Some same)
carry_places false false false places apart = λ same. differ 2 5 refl (ap Some same)
carry_places true false true false apart = λ same. refl
carry_places false false true false apart = λ same. refl
carry_places true false true true apart = λ same. differ 6 5 refl (ap Some same)
carry_places false false true true apart = λ same. differ 6 5 refl (ap Some same)

module _ (items : ItemTable) (body : BodyTree) (also : Also) where
  pub act_places : (action : Action) (w : AbstractState) (facts : Facts) →
      places_now items body facts w.cells action ≡ true → (alone_marks items body also).acting action w facts ≡ Some 5 → ⊥
  act_places action w facts h = five_if _ _ _ _ _ (λ others. h)

  pub test_places : (test : Test) (w : AbstractState) (facts : Facts) → places_test items body facts test ≡ true →
      (alone_marks items body also).choosing test w facts ≡ Some 5 → ⊥
  test_places test w facts h = five_if true _ _ _ true (λ others. h)

  pub drop_places : (mode : Mode) (site : EffectSite) (w : AbstractState) (facts : Facts) →
      places_drop items body facts site.place ≡ true → (alone_marks items body also).dropping mode site w facts ≡ Some 5 → ⊥
  drop_places mode site w facts h = five_if _ _ _ _ true (λ others. h)

  pub give_places : (site : EffectSite) (w : AbstractState) (facts : Facts) →
      places_give items body w.cells site.place ≡ true → (alone_marks items body also).giving site w facts ≡ Some 5 → ⊥
  give_places site w facts h = five_if true _ _ _ true (λ others. h)

  pub carries_places : CarriesMark {F = Facts} 5 (split_marks items body also) (alone_marks items body also)
  carries_places = record {
    acts = λ action v facts. carry_places (also.act facts action) ((checks_of items body).act_ok action v facts) _ _ _;
    chooses = λ test v facts. carry_places true ((checks_of items body).test_ok test v facts) _ _ true;
    drops = λ mode site v facts.
        carry_places (also.drop site.place) ((checks_of items body).drop_ok mode site v facts) _ _ true;
    gives = λ site v facts. carry_places true ((checks_of items body).give_ok site v facts) _ _ true;
  }
