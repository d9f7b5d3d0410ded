-- The plan of what is gone does nothing: all its flags are false, and what has none of its own needs no dropping.
use Rattle.std.proofs.Common.{◌≡◌, ℕ, suc, ◌&&◌, ◌||◌, not, Bool, true, false, List, [], ◌∷◌, Option, Some, None, if◌then◌else◌, refl, ap, sym, ◌∙◌, subst, slice_get}
use Rattle.std.specs.Cmp.{first_so}
use Rattle.std.specs.Option.{option_map_or}
use Rattle.std.proofs.lemmas.Bool.{false≢true}
use Rattle.std.proofs.lemmas.Option.{none-some}
use Rattle.mir_ty.specs.declared.ty.Ty.{Ty}
use Rattle.mir_ty.specs.declared.ty.TyId.{TyId}
use Rattle.mir_ty.specs.Facts.{needs_drop, has_drop_impl}
use Rattle.mir_ty.specs.ItemTable.{ItemTable, type_at}
use Rattle.mir_ty.specs.Parts.{parts_of, variants_of}
use Rattle.store_model.specs.Abstract.Presence.{Presence, itself_gone, presence_at}
use Rattle.store_model.specs.Places.Place.{Step, ToPart, ToContent, same_step, is_enum}
use Rattle.store_model.specs.Values.Datum.{Datum, Truth}
use Rattle.drop_values.specs.Facts.{Tree, at_path, Branches, no_branch, a_branch, Facts, possible}
use Rattle.drop_values.specs.Plan.{Plan, Entire, ByVariant, Shut, Idle, AllIdle}
use Rattle.drop_values.specs.Planning.{branch_by, plan_by, guarded, whole_plan, decided, part_plan, part_plans, variant_plans, taken_apart, stepped, unless_impl, inner_plan, is_none_tree, is_bare, any_bare, apart_reads, unless_reads, reads_flag, plan_of, plans_below}
use Rattle.drop_values.proofs.Told.{Sunk, Told, ToldBelow, Flagged, BelowFlagged, sure_at, sure_under, plan_found}

module _ (items : ItemTable) (facts : Facts) (flag_of : ℕ → Option ℕ) (IsFlag : ℕ → Type 0) (holds : ℕ → Datum) where
  abbrev under : Branches → TyId → List (Step × Plan)
  under below id = plans_below items facts flag_of below id

  abbrev plan_at : Tree → TyId → Plan
  plan_at = plan_of items facts flag_of

  abbrev PIdle : Plan → Type 0
  PIdle = Idle items IsFlag holds

  abbrev PShut : Option ℕ → Type 0
  PShut = Shut items IsFlag holds

  guarded-idle : (guard : Option ℕ) (plan : Plan) → PShut guard → PIdle (guarded guard plan)
  guarded-idle None plan h = absurd h
  guarded-idle (Some flag) plan h = h

  -- the guard is shut, where it is read
  abbrev ShutIf : Bool → Option ℕ → Type 0
  ShutIf true guard = PShut guard
  ShutIf false None = Unit {0}
  ShutIf false (Some flag) = PShut (Some flag)

  shut-if : (b : Bool) (guard : Option ℕ) → PShut guard → ShutIf b guard
  shut-if true guard h = h
  shut-if false None h = tt
  shut-if false (Some flag) h = h

  shut-first : (a b : Bool) (guard : Option ℕ) → ShutIf (a || b) guard → ShutIf a guard
  shut-first true b guard h = h
  shut-first false b None h = tt
  shut-first false true (Some flag) h = h
  shut-first false false (Some flag) h = h

  shut-second : (a b : Bool) (guard : Option ℕ) → ShutIf (a || b) guard → ShutIf b guard
  shut-second true b guard h = shut-if b guard h
  shut-second false b guard h = h

  abbrev ListIdle : List (Step × Plan) → Type 0
  ListIdle [] = Unit {0}
  ListIdle (p ∷ plans) = PIdle p.1 × ListIdle plans

  listed-idle : (step : Step) (plan : Plan) (plans : List (Step × Plan)) → ListIdle plans →
      plan_by step plans ≡ Some plan → PIdle plan
  listed-idle step plan [] h e = absurd (none-some plan e)
  listed-idle step plan (p ∷ plans) h e = by (same_step step p.0) e (λ e. listed-idle step plan plans h.1 e)
    where
      by : (b : Bool) → (if b then Some p.1 else plan_by step plans) ≡ Some plan →
          (plan_by step plans ≡ Some plan → PIdle plan) → PIdle plan
      by true e again = subst PIdle (let x : Some p.1 ≡ Some plan = e in let y : p.1 ≡ plan = cc in y) h.0
      by false e again = again e

  -- a part that is no path needs no dropping, or the guard is shut
  part-idle : (guard : Option ℕ) (id : TyId) (step : Step) (below : Branches) (under_id : TyId) →
      ShutIf (is_bare step below && needs_drop items id) guard → ListIdle (under below under_id) →
      PIdle (part_plan items guard id (plan_by step (under below under_id)))
  part-idle guard id step below under_id shut h =
      subst (λ o. PIdle (part_plan items guard id o)) (sym (plan_found items facts flag_of IsFlag holds step below
      under_id))
      (by (branch_by step below) refl)
    where
      bare : (b : Bool) → needs_drop items id ≡ b → ShutIf (true && b) guard → PIdle (whole_plan guard b)
      bare true n shut = guarded-idle guard Entire shut
      bare false n shut = tt

      by : (o : Option Tree) → branch_by step below ≡ o →
          PIdle (part_plan items guard id (option_map_or (λ tree. Some (plan_of items facts flag_of tree
          (stepped items step under_id))) o None))
      by None e =
          bare (needs_drop items id) refl
          (subst (λ o. ShutIf (is_none_tree o && needs_drop items id) guard) e shut)
      by (Some tree) e =
          listed-idle step (plan_of items facts flag_of tree (stepped items step under_id)) (under below under_id) h
          (plan_found items facts flag_of IsFlag holds step below under_id ∙ ap (λ o. option_map_or (λ tree. Some
          (plan_of items facts flag_of tree
          (stepped items step under_id))) o None) e)

  parts-idle : (guard : Option ℕ) (ids : List TyId) (step_of : ℕ → Step) (below : Branches) (under_id : TyId) (n : ℕ) →
      ShutIf (any_bare items ids step_of below n) guard → ListIdle (under below under_id) →
      AllIdle items IsFlag holds (part_plans items guard ids step_of (under below under_id) n)
  parts-idle guard [] step_of below under_id n shut h = tt
  parts-idle guard (id ∷ ids) step_of below under_id n shut h = (
    part-idle guard id (step_of n) below under_id
        (shut-first (is_bare (step_of n) below && needs_drop items id) (any_bare items ids step_of below (suc n))
        guard shut)
        h,
    parts-idle guard ids step_of below under_id (suc n)
        (shut-second (is_bare (step_of n) below && needs_drop items id) (any_bare items ids step_of below (suc n)) guard
        shut) h,
  )

  content-idle : (guard : Option ℕ) → PShut guard → (content : TyId) (below : Branches) (under_id : TyId) →
      ListIdle (under below under_id) → PIdle (part_plan items guard content (plan_by ToContent (under below under_id)))
  content-idle guard shut content below under_id h =
      part-idle guard content ToContent below under_id
      (shut-if (is_bare ToContent below && needs_drop items content) guard shut) h

  apart-idle : (guard : Option ℕ) (b : Bool) (ty : Ty) (below : Branches) (under_id : TyId) →
      ShutIf (apart_reads items b ty below) guard → ListIdle (under below under_id) →
      PIdle (taken_apart items guard b ty (under below under_id))
  apart-idle guard b (Ty.Boxed content) below id shut h = (shut, content-idle guard shut content below id h)
  apart-idle guard true (Ty.Adt n) below id shut h =
      guarded-idle guard (ByVariant (variant_plans items (variants_of (slice_get items.adts n)) (under below id) 0))
      shut
  apart-idle guard false other below id shut h = parts-idle guard (parts_of items other 0) ToPart below id 0
      shut h
  apart-idle guard true other below id shut h = parts-idle guard (parts_of items other 0) ToPart below
      id 0 shut h

  inner-idle : (guard : Option ℕ) (below : Branches) (id : TyId) → ShutIf (reads_flag items below id) guard →
      (has_drop_impl items id ≡ false → ListIdle (under below id)) →
      PIdle (inner_plan items facts flag_of below id (under below id) guard)
  inner-idle guard no_branch id shut h = guarded-idle guard Entire shut
  inner-idle guard (a_branch step tree rest) id shut h = by (has_drop_impl items id) refl (type_at items id) shut
    where
      below : Branches
      below = a_branch step tree rest

      by : (b : Bool) → has_drop_impl items id ≡ b → (o : Option Ty) →
          ShutIf (unless_reads items b o (a_branch step tree rest)) guard →
          PIdle (unless_impl items facts flag_of guard b o (under (a_branch step tree rest) id))
      by true e o shut = guarded-idle guard Entire shut
      by false e None shut = guarded-idle guard Entire shut
      by false e (Some ty) shut = apart-idle guard (is_enum items ty) ty (a_branch step tree rest) id shut (h e)

  mutual
    -- all flags of the plan are false
    pub idle : (tree : Tree) (id : TyId) (p : Presence) → itself_gone p ≡ true → Told items facts flag_of IsFlag holds
        p tree → Flagged items facts flag_of IsFlag holds tree id →
        PIdle (plan_at tree id)
    idle (at_path number below) id p g t f = by (needs_drop items id) refl (facts.present number) refl
        (sure_at items facts flag_of IsFlag holds (at_path number below)) refl (facts.gone number) may (flag_of
        number) refl
        (λ h. idles below id p g t.1 t.3 (f.1 h))
      where
        may : facts.gone number ≡ true
        may = subst (λ b. possible facts (not b) number ≡ true) g t.0.may_be

        shut : (guard : Option ℕ) → flag_of number ≡ guard → needs_drop items id ≡ true → facts.present number ≡ true →
            ShutIf (reads_flag items below id) guard
        shut None e en ea = none-shut (reads_flag items below id) refl
          where
            none-shut : (b : Bool) → reads_flag items below id ≡ b → ShutIf b None
            none-shut true r = let x = f.0 en ea may r in absurd (none-some x.0 (sym e ∙ x.1))
            none-shut false r = tt
        shut (Some flag) e en ea =
            shut-if (reads_flag items below id) (Some flag)
            (let m = t.0.flag flag e in (m.0, m.1 ∙ ap (λ b. Truth (not b)) g))

        by : (n : Bool) → needs_drop items id ≡ n → (a : Bool) → facts.present number ≡ a →
            (w : Bool) → sure_at items facts flag_of IsFlag holds (at_path number below) ≡ w → (m : Bool) → m ≡ true →
            (guard : Option ℕ) →
            flag_of number ≡ guard → (has_drop_impl items id ≡ false → ListIdle (under below id)) →
            PIdle (decided n a w m guard (inner_plan items facts flag_of below id (under below id)))
        by false en a ea w ew m em guard e h = tt
        by true en false ea w ew m em guard e h = tt
        by true en true ea true ew m em guard e h =
            absurd (false≢true (ap not (sym may) ∙ first_so (not (facts.gone number)) (sure_under items facts flag_of
            IsFlag holds below) ew))
        by true en true ea false ew true em guard e h = inner-idle guard below id (shut guard e en ea) h
        by true en true ea false ew false em guard e h = absurd (false≢true em)

    idles : (below : Branches) (id : TyId) (p : Presence) → itself_gone p ≡ true → ToldBelow items facts flag_of
        IsFlag holds p below →
        Sunk items facts flag_of IsFlag holds p below → BelowFlagged items facts flag_of IsFlag holds below id →
        ListIdle (under below id)
    idles no_branch id p g t u f = tt
    idles (a_branch step tree rest) id p g t u f =
        (idle tree (stepped items step id) (presence_at step p) (u.0 g) t.0 f.0, idles rest id p g t.1 u.1 f.1)
