-- What is told along the tree of the paths below a place: of each path whether it is gone, as the facts allow and as
-- its flag says; what is no path is as its container; and what is surely there is whole.
use Rattle.std.proofs.Common.{◌≡◌, ℕ, suc, ◌&&◌, not, Bool, true, false, Option, Some, None, if◌then◌else◌, refl, ap, sym, ◌∙◌, subst}
use Rattle.std.specs.Prelude.{unwrap_or}
use Rattle.std.specs.Cmp.{first_so, second_so}
use Rattle.std.specs.Option.{option_map_or}
use Rattle.std.proofs.lemmas.Bool.{false≢true}
use Rattle.std.proofs.lemmas.Option.{none-some}
use Rattle.mir_ty.specs.declared.ty.TyId.{TyId}
use Rattle.mir_ty.specs.Facts.{needs_drop, has_drop_impl, a_part}
use Rattle.mir_ty.specs.ItemTable.{ItemTable}
use Rattle.store_model.specs.Abstract.Presence.{Presence, itself_gone, presence_at, all_present}
use Rattle.store_model.specs.Concrete.Location.{DynamicType}
use Rattle.store_model.specs.Places.Place.{Step, ToContent, same_step}
use Rattle.store_model.specs.Values.Datum.{Datum, Data, Gone, Number, Truth, UnitValue, Aggregate, Box, Address, no_part, a_part}
use Rattle.store_model.specs.Values.Wholeness.{is_whole, are_whole}
use Rattle.drop_values.specs.Facts.{Tree, at_path, Branches, no_branch, a_branch, Facts, possible}
use Rattle.drop_values.specs.Planning.{branch_by, plan_by, stepped, IsTyped, AreTyped, IsBranch, sure, sure_below, reads_flag, plan_of, plans_below}
use Rattle.drop_values.specs.Typed.{part_step, Fits, PartsFit}
use Rattle.drop_values.proofs.Fits.{whole_if_present}
use Rattle.drop_values.proofs.Steps.{same_step-sound}
use Rattle.drop_values.proofs.FoundAs.{no_and_yes}

module _ (items : ItemTable) (facts : Facts) (flag_of : ℕ → Option ℕ) (IsFlag : ℕ → Type 0) (holds : ℕ → Datum) where
  -- a path is gone or present as the facts allow and as its flag tells
  pub record IsTold (gone : Bool) (number : ℕ) : Type 0 where
    pub may_be : possible facts (not gone) number ≡ true
    pub flag : (flag : ℕ) → flag_of number ≡ Some flag → IsFlag flag × (holds flag ≡ Truth (not gone))

  -- a step that leads to no path leads to what is as its container
  abbrev pub Else : Presence → Branches → Type 0
  Else p below = (step : Step) → branch_by step below ≡ None → itself_gone p ≡ false →
      all_present (presence_at step p) ≡ true

  -- below what is gone all is gone
  abbrev pub Sunk : Presence → Branches → Type 0
  Sunk p no_branch = Unit {0}
  Sunk p (a_branch step tree rest) = (itself_gone p ≡ true → itself_gone (presence_at step p) ≡ true) × Sunk p rest

  abbrev mutual
    pub Told : Presence → Tree → Type 0
    Told p (at_path number below) = IsTold (itself_gone p) number × ToldBelow p below × Else p below × Sunk p below

    pub ToldBelow : Presence → Branches → Type 0
    ToldBelow p no_branch = Unit {0}
    ToldBelow p (a_branch step tree rest) = Told (presence_at step p) tree × ToldBelow p rest

  -- each path that needs dropping and may be present and may be gone has a flag, if its plan reads one; what lies
  -- within a value with a `Drop` body is not asked for
  abbrev mutual
    pub Flagged : Tree → TyId → Type 0
    Flagged (at_path number below) id =
        (needs_drop items id ≡ true → facts.present number ≡ true → facts.gone number ≡ true →
        reads_flag items below id ≡ true → (flag : ℕ) × (flag_of number ≡ Some flag))
        × (has_drop_impl items id ≡ false → BelowFlagged below id)

    pub BelowFlagged : Branches → TyId → Type 0
    BelowFlagged no_branch id = Unit {0}
    BelowFlagged (a_branch step tree rest) id = Flagged tree (stepped items step id) × BelowFlagged rest id

  abbrev pub sure_at : Tree → Bool
  sure_at = sure items facts flag_of

  abbrev pub sure_under : Branches → Bool
  sure_under = sure_below items facts flag_of

  -- what a lookup finds is a branch
  pub record Branched (p : Presence) (id : TyId) (step : Step) (tree : Tree) (below : Branches) : Type 0 where
    pub told : Told (presence_at step p) tree
    pub typed : IsBranch items step tree id
    pub sure_too : sure_under below ≡ true → sure_at tree ≡ true

  pub branched : (p : Presence) (id : TyId) (step : Step) (tree : Tree) (below : Branches) → ToldBelow p below →
      AreTyped items below id → branch_by step below ≡ Some tree → Branched p id step tree below
  branched p id step tree no_branch t y e = absurd (none-some tree e)
  branched p id step tree (a_branch other one rest) t y e = by (same_step step other) refl e
      (branched p id step tree rest t.1 y.1)
    where
      later : Branched p id step tree rest → Branched p id step tree (a_branch other one rest)
      later b = record {
        told = b.told;
        typed = b.typed;
        sure_too =
            λ s. b.sure_too (second_so (sure_at one) (sure_under rest) s);
      }

      by : (b : Bool) → same_step step other ≡ b → (if b then Some one else branch_by step rest) ≡ Some tree →
          (branch_by step rest ≡ Some tree → Branched p id step tree rest) → Branched p id step tree
          (a_branch other one rest)
      by true same e again =
          let is : one ≡ tree = (let x : Some one ≡ Some tree = e in cc) in
          let s : step ≡ other = same_step-sound step other same in
          subst (λ x. Branched p id step x (a_branch other one rest)) is
          (subst (λ x. Branched p id x one (a_branch other one rest)) (sym s)
          (record {
            told = t.0;
            typed = y.0;
            sure_too = λ s. first_so (sure_at one)
                (sure_under rest) s;
          }))
      by false same e again = later (again e)

  pub flagged-branch : (id : TyId) (step : Step) (tree : Tree) (below : Branches) → BelowFlagged below id →
      branch_by step below ≡ Some tree → Flagged tree (stepped items step id)
  flagged-branch id step tree no_branch f e = absurd (none-some tree e)
  flagged-branch id step tree (a_branch other one rest) f e = by (same_step step other) refl e
      (λ e. flagged-branch id step tree rest f.1 e)
    where
      by : (b : Bool) → same_step step other ≡ b → (if b then Some one else branch_by step rest) ≡ Some tree →
          (branch_by step rest ≡ Some tree → Flagged tree (stepped items step id)) →
          Flagged tree (stepped items step id)
      by true same e again =
          let is : one ≡ tree = (let x : Some one ≡ Some tree = e in cc) in
          subst (λ x. Flagged x (stepped items step id)) is
          (subst (λ x. Flagged one (stepped items x id)) (sym (same_step-sound step other same)) f.0)
      by false same e again = again e

  -- the plan of a step below is that of its path
  pub plan_found : (step : Step) (below : Branches) (id : TyId) →
      plan_by step (plans_below items facts flag_of below id) ≡ option_map_or
      (λ tree. Some (plan_of items facts flag_of tree (stepped items step id))) (branch_by step below) None
  plan_found step no_branch id = refl
  plan_found step (a_branch other one rest) id = by (same_step step other) refl (plan_found step rest id)
    where
      by : (b : Bool) → same_step step other ≡ b →
          plan_by step (plans_below items facts flag_of rest id) ≡ option_map_or
          (λ tree. Some (plan_of items facts flag_of tree (stepped items step id))) (branch_by step rest) None →
          (if b then Some (plan_of items facts flag_of one (stepped items other id)) else plan_by step
          (plans_below items facts flag_of rest id))
          ≡ option_map_or (λ tree. Some (plan_of items facts flag_of tree (stepped items step id)))
          (if b then Some one else branch_by step rest) None
      by true same later = ap (λ s. Some (plan_of items facts flag_of one (stepped items s id)))
          (sym (same_step-sound step other same))
      by false same later = later

  -- ---- what is surely there is whole

  pub typed-stepped : (step : Step) (tree : Tree) (id : TyId) → IsBranch items step tree id →
      IsTyped items tree (stepped items step id)
  typed-stepped step tree id b = subst (IsTyped items tree) (sym (ap (λ o. unwrap_or o id) b.1)) b.2

  pub gone_or_not : (p : Presence) (number : ℕ) (below : Branches) → Told p (at_path number below) →
      sure_at (at_path number below) ≡ true → itself_gone p ≡ false
  gone_or_not p number below t s = by (itself_gone p) refl (t.0.may_be)
    where
      by : (b : Bool) → itself_gone p ≡ b → possible facts (not b) number ≡ true → b ≡ false
      by false e m = refl
      by true e m = absurd (false≢true (ap not (sym m) ∙ first_so (not (facts.gone number)) (sure_under below) s))

  mutual
    pub sure-whole : (d : Datum) (tree : Tree) (id : TyId) (found : DynamicType) (p : Presence) →
        sure_at tree ≡ true → Told p tree → IsTyped items tree id → Fits items found p d →
        is_whole d ≡ true
    sure-whole Gone (at_path number below) id found p s t y k = no_and_yes (itself_gone p) k
        (gone_or_not p number below t s)
    sure-whole (Number number') tree id found p s t y k = refl
    sure-whole (Truth truth) tree id found p s t y k = refl
    sure-whole UnitValue tree id found p s t y k = refl
    sure-whole (Address address) tree id found p s t y k = refl
    sure-whole (Aggregate variant serial parts) (at_path number below) id found p s t y k =
        sure-wholes parts below id p _ (λ n. part_step items found variant n) k.0
        (second_so (not (facts.gone number)) (sure_under below) s) (t.1, t.2) y k.3
    sure-whole (Box serial impl_no inside) (at_path number below) id found p s t y k =
        by (branch_by ToContent below) refl (λ tree'. sure-whole inside tree' (stepped items ToContent id) k.2.0
        (presence_at ToContent p))
      where
        Again : Type 0
        Again = (tree' : Tree) → sure_at tree' ≡ true → Told (presence_at ToContent p) tree' →
            IsTyped items tree' (stepped items ToContent id) →
            Fits items k.2.0 (presence_at ToContent p) inside → is_whole inside ≡ true

        by : (o : Option Tree) → branch_by ToContent below ≡ o → Again → is_whole inside ≡ true
        by None e again = whole_if_present items inside k.2.0 (presence_at ToContent p) (t.2 ToContent e k.0) k.2.2
        by (Some tree') e again =
            let b = branched p id ToContent tree' below t.1 y e in
            again tree' (b.sure_too (second_so (not (facts.gone number)) (sure_under below) s)) b.told
            (typed-stepped ToContent tree' id b.typed) k.2.2

    sure-wholes : (parts : Data) (below : Branches) (id : TyId) (p : Presence) (found_at : ℕ → Option DynamicType)
        (step_of : ℕ → Step) → itself_gone p ≡ false → sure_under below ≡ true →
        ToldBelow p below × Else p below → AreTyped items below id →
        PartsFit items found_at (λ n. presence_at (step_of n) p) parts → are_whole parts ≡ true
    sure-wholes no_part below id p found_at step_of g s t y k = refl
    sure-wholes (a_part first rest) below id p found_at step_of g s t y k =
        both (by (branch_by (step_of 0) below) refl (λ tree'. sure-whole first tree' (stepped items (step_of 0) id)
        k.0.0 (presence_at (step_of 0) p)))
        (sure-wholes rest below id p (λ n. found_at (suc n)) (λ n. step_of (suc n)) g s t y k.1)
      where
        both : is_whole first ≡ true → are_whole rest ≡ true → (is_whole first && are_whole rest) ≡ true
        both e h = ap (λ b. b && are_whole rest) e ∙ h

        Again : Type 0
        Again = (tree' : Tree) → sure_at tree' ≡ true → Told (presence_at (step_of 0) p) tree' →
            IsTyped items tree' (stepped items (step_of 0) id) →
            Fits items k.0.0 (presence_at (step_of 0) p) first → is_whole first ≡ true

        by : (o : Option Tree) → branch_by (step_of 0) below ≡ o → Again → is_whole first ≡ true
        by None e again = whole_if_present items first k.0.0 (presence_at (step_of 0) p) (t.1 (step_of 0) e g) k.0.2
        by (Some tree') e again =
            let b = branched p id (step_of 0) tree' below t.0 y e in again tree' (b.sure_too s) b.told
            (typed-stepped (step_of 0) tree' id b.typed) k.0.2
