-- The plan of a drop fits what stands at its place: values as their types say, of which what is gone is told along the
-- tree of paths by the facts and by the flags.
use Rattle.std.proofs.Common.{◌≡◌, inr, ℕ, not, Bool, true, false, List, Option, Some, None, is_some, refl, ap, sym, ◌∙◌, subst, slice_get}
use Rattle.std.specs.Prelude.{option_and_then}
use Rattle.std.proofs.lemmas.Bool.{false≢true}
use Rattle.std.proofs.lemmas.Bool.Decides.{Decides-eqb}
use Rattle.std.proofs.lemmas.Option.{none-some}
use Rattle.mir_ty.specs.declared.adt.Variant.{Variant}
use Rattle.mir_ty.specs.declared.ty.Ty.{Ty}
use Rattle.mir_ty.specs.declared.ty.TyId.{TyId}
use Rattle.mir_ty.specs.Facts.{needs_drop, has_drop_impl, a_part}
use Rattle.mir_ty.specs.ItemTable.{ItemTable, type_at}
use Rattle.mir_ty.specs.Parts.{variants_of}
use Rattle.store_model.specs.Abstract.Presence.{Presence, itself_gone, presence_at, all_present}
use Rattle.store_model.specs.Concrete.Drops.{drop_impl}
use Rattle.store_model.specs.Concrete.Location.{DynamicType, OfType, concrete_ty}
use Rattle.store_model.specs.Places.Place.{Step, ToPart, ToField, ToContent, ToElement, is_enum, is_reference, step_ty}
use Rattle.store_model.specs.Places.TypeForms.{is_bool, is_unit, box_content, int_kind}
use Rattle.store_model.specs.Values.Datum.{Datum, Data, Gone, Number, Truth, UnitValue, Aggregate, Box, Address, no_part, a_part}
use Rattle.store_model.specs.Values.Wholeness.{is_whole}
use Rattle.drop_values.specs.Facts.{Tree, at_path, Branches, no_branch, a_branch, Facts, possible}
use Rattle.drop_values.specs.Plan as plan
use Rattle.drop_values.specs.Plan.{Plan, Nothing, Entire, ByFlag, InParts, OfBox, ByVariant, Open, Idle}
use Rattle.drop_values.specs.Planning.{guarded, decided, variant_plans, taken_apart, IsTyped, AreTyped, unless_impl, inner_plan, plan_of, plans_below}
use Rattle.drop_values.specs.Typed.{variant_if, has_variant, part_step, Fits, Proper, a_type, IsFull}
use Rattle.drop_values.proofs.Fits.{whole_if_present, parts_whole}
use Rattle.drop_values.proofs.Sound.{BodyFull, Sound}
use Rattle.drop_values.proofs.FoundAs.{no_and_yes, IsOf, itself, object, quiet, unneeded, dyn_needs, has_impl_of, no_impl, number_scalar, truth_scalar, unit_scalar, reference_scalar, not_scalar}
use Rattle.drop_values.proofs.Told.{Else, Told, ToldBelow, Flagged, BelowFlagged, sure_at, sure-whole}
use Rattle.drop_values.proofs.IdlePlans.{idle}
use Rattle.drop_values.proofs.PlanParts.{PlanFits as PlanFitsOf, AllFit as AllFitOf, none_fit, one_fits, Opened as OpenedOf, fully, guarded-fits, in-parts-fit, by-variant-fits, of-box-fits}

module _ (items : ItemTable) (facts : Facts) (flag_of : ℕ → Option ℕ) (IsFlag : ℕ → Type 0) (holds : ℕ → Datum) where
  abbrev PFits : Plan → Datum → DynamicType → Type 0
  PFits = plan.Fits items IsFlag holds

  abbrev plan_at : Tree → TyId → Plan
  plan_at = plan_of items facts flag_of

  abbrev PlanFits : Datum → Type 0
  PlanFits = PlanFitsOf items facts flag_of IsFlag holds

  abbrev AllFit : Data → Type 0
  AllFit = AllFitOf items facts flag_of IsFlag holds

  abbrev Inner : Datum → Type 0
  Inner (Aggregate variant serial parts) = AllFit parts
  Inner (Box serial impl_no inside) = PlanFits inside
  Inner _ = Unit {0}

  abbrev Opened : Option ℕ → TyId → Ty → Presence → Branches → Type 0
  Opened = OpenedOf items facts flag_of IsFlag holds

  abbrev under : Branches → TyId → List (Step × Plan)
  under below id = plans_below items facts flag_of below id

  pub leaf-whole : (d : Datum) (found : DynamicType) (p : Presence) → itself_gone p ≡ false →
      ((step : Step) → all_present (presence_at step p) ≡ true) → Fits items found p d → is_whole d ≡ true
  leaf-whole Gone found p g h k = no_and_yes (itself_gone p) k g
  leaf-whole (Number number) found p g h k = refl
  leaf-whole (Truth truth) found p g h k = refl
  leaf-whole UnitValue found p g h k = refl
  leaf-whole (Address address) found p g h k = refl
  leaf-whole (Aggregate variant serial parts) found p g h k = parts_whole items parts _ _
      (λ n. h (part_step items found variant n)) k.3
  leaf-whole (Box serial impl_no inside) found p g h k = whole_if_present items inside k.2.0 (presence_at ToContent p)
      (h ToContent) k.2.2

  -- a value whose type has a `Drop` impl is full
  impl-full : (d : Datum) (found : DynamicType) (p : Presence) (n : ℕ) (of : ℕ × ℕ) → itself_gone p ≡ false →
      concrete_ty items found ≡ Some (Ty.Adt n) → drop_impl items (concrete_ty items found) ≡ Some of →
      Proper items found → Fits items found p d → Sound items d found → IsFull items found d
  impl-full Gone found p n of g is impl r k s = no_and_yes (itself_gone p) k g
  impl-full (Number number) found p n of g is impl r k s = (r, (refl, k.1))
  impl-full (Truth truth) found p n of g is impl r k s = (r, (refl, k.1))
  impl-full UnitValue found p n of g is impl r k s = (r, (refl, k.1))
  impl-full (Address address) found p n of g is impl r k s = (r, (refl, k.1))
  impl-full (Aggregate variant serial parts) found p n of g is impl r k s =
      subst (λ o. BodyFull items o found (Aggregate variant serial parts)) impl s.0
  impl-full (Box serial impl_no inside) found p n of g is impl r k s =
      absurd (none-some k.1.0 (sym (ap box_content is) ∙ k.1.1))

  apart-fits : (guard : Option ℕ) (d : Datum) (ty : Ty) (id : TyId) (p : Presence) (below : Branches) →
      Inner d → Opened guard id ty p below → Fits items (OfType id) p d → Sound items d (OfType id) →
      PFits (taken_apart items guard (is_enum items ty) ty (under below id)) d (OfType id)
  apart-fits guard Gone ty id p below ih o k s = no_and_yes (itself_gone p) k o.there
  apart-fits guard (Number number) ty id p below ih o k s = not_scalar items id ty o.is o.need
      (number_scalar items ty k.1.0 (sym (ap int_kind o.is) ∙ k.1.1))
  apart-fits guard (Truth truth) ty id p below ih o k s = not_scalar items id ty o.is o.need
      (truth_scalar items ty (sym (ap is_bool o.is) ∙ k.1))
  apart-fits guard UnitValue ty id p below ih o k s = not_scalar items id ty o.is o.need
      (unit_scalar items ty (sym (ap is_unit o.is) ∙ k.1))
  apart-fits guard (Address address) ty id p below ih o k s = not_scalar items id ty o.is o.need
      (reference_scalar items ty (sym (ap is_reference o.is) ∙ k.1))
  apart-fits guard (Box serial impl_no inside) (Ty.Boxed t) id p below ih o k s =
      of-box-fits items facts flag_of IsFlag holds guard t id serial impl_no inside p below o ih k s
  apart-fits guard (Aggregate variant serial parts) (Ty.Adt n) id p below ih o k s =
      by (is_enum items (Ty.Adt n)) refl (sym (ap (λ x. has_variant items x variant) o.is) ∙ k.2)
    where
      by : (b : Bool) → is_enum items (Ty.Adt n) ≡ b → variant_if items b (slice_get items.adts n) variant ≡ true →
          PFits (taken_apart items guard b (Ty.Adt n) (under below id)) (Aggregate variant serial parts) (OfType id)
      by true e h = variant-fits (slice_get (variants_of (slice_get items.adts n)) variant) refl h
        where
          variant-fits : (x : Option Variant) → slice_get (variants_of (slice_get items.adts n)) variant ≡ x →
              is_some x ≡ true → PFits (guarded guard
              (ByVariant (variant_plans items (variants_of (slice_get items.adts n)) (under below id) 0)))
              (Aggregate variant serial parts) (OfType id)
          variant-fits None z h = absurd (false≢true h)
          variant-fits (Some v) z h = by-variant-fits items facts flag_of IsFlag holds guard n id variant serial parts p
              below o ih e v z k s
      by false e h = in-parts-fit items facts flag_of IsFlag holds guard
          (Ty.Adt n) id variant serial parts p below o ih e
          ((Decides-eqb variant 0).0 h) k s
  apart-fits guard (Aggregate variant serial parts) (Ty.Tuple ts) id p below ih o k s =
      in-parts-fit items facts flag_of IsFlag holds guard (Ty.Tuple ts) id variant serial parts p below o ih refl
      ((Decides-eqb variant 0).0 (sym (ap (λ x. has_variant items x variant) o.is) ∙ k.2)) k s
  apart-fits guard (Aggregate variant serial parts) (Ty.Array t c) id p below ih o k s =
      in-parts-fit items facts flag_of IsFlag holds guard (Ty.Array t c) id variant serial parts p below o ih refl
      ((Decides-eqb variant 0).0 (sym (ap (λ x. has_variant items x variant) o.is) ∙ k.2)) k s
  apart-fits guard (Aggregate variant serial parts) (Ty.Closure n) id p below ih o k s =
      in-parts-fit items facts flag_of IsFlag holds guard (Ty.Closure n) id variant serial parts p below o ih refl
      ((Decides-eqb variant 0).0 (sym (ap (λ x. has_variant items x variant) o.is) ∙ k.2)) k s
  apart-fits guard (Box serial impl_no inside) other id p below ih o k s =
      absurd (none-some k.1.0 (sym (ap box_content o.is) ∙ k.1.1))
  apart-fits guard (Aggregate variant serial parts) other id p below ih o k s =
      absurd (false≢true (sym (ap (λ x. has_variant items x variant) o.is) ∙ k.2))

  -- the plan where the own part of a path is there
  inner-fits : (guard : Option ℕ) → Open items IsFlag holds guard → (d : Datum) (below : Branches)
      (id : TyId) (found : DynamicType) (p : Presence) → Inner d → itself_gone p ≡ false → needs_drop items id ≡ true →
      IsOf items found id →
      ToldBelow items facts flag_of IsFlag holds p below → Else items facts flag_of IsFlag holds p below →
      (has_drop_impl items id ≡ false → BelowFlagged items facts flag_of IsFlag holds below id) →
      AreTyped items below id → Fits items found p d →
      Sound items d found → PFits (inner_plan items facts flag_of below id (under below id) guard) d found
  inner-fits guard opens d no_branch id found p ih g need is t e f y k s =
      guarded-fits items facts flag_of IsFlag holds guard Entire d found opens
      (fully items facts flag_of IsFlag holds d found id p is k (leaf-whole d found p g (λ step. e step refl g) k))
  inner-fits guard opens d (a_branch step tree rest) id _ p ih g need (object _ impl_no n dyn has) t e f y k s =
      absurd (no_step step (sym (ap (option_and_then (step_ty items step)) dyn) ∙ y.0.1))
    where
      no_step : (step : Step) → step_ty items step (Ty.Dyn n) ≡ Some y.0.0 → ⊥
      no_step (ToPart m) e = none-some y.0.0 e
      no_step (ToField v m) e = none-some y.0.0 e
      no_step ToContent e = none-some y.0.0 e
      no_step (ToElement i) e = none-some y.0.0 e
  inner-fits guard opens d (a_branch step tree rest) id _ p ih g need (itself _) t e f y k s =
      by (has_drop_impl items id) refl
    where
      below : Branches
      below = a_branch step tree rest

      by : (b : Bool) → has_drop_impl items id ≡ b →
          PFits (unless_impl items facts flag_of guard b (type_at items id) (under below id)) d (OfType id)
      by true h = let i = has_impl_of items (type_at items id) h in
          guarded-fits items facts flag_of IsFlag holds guard Entire d
          (OfType id) opens (impl-full d (OfType id) p i.adt i.of g i.type_is i.impl_is (a_type id) k s)
      by false h = by_ty (type_at items id) refl
        where
          by_ty : (o : Option Ty) → type_at items id ≡ o →
              PFits (unless_impl items facts flag_of guard false o (under below id)) d (OfType id)
          by_ty None z = absurd (none-some y.0.0 (sym (ap (option_and_then (step_ty items step)) z) ∙ y.0.1))
          by_ty (Some ty) z = apart-fits guard d ty id p below ih
              (record {
                is = z;
                there = g;
                need = need;
                no_body = no_impl items (type_at items id) h;
                told =
                    t;
                otherwise = e;
                flagged = f h;
                typed = y;
                opens = opens;
              }) k s

  gone-is : (d : Datum) (found : DynamicType) (p : Presence) → itself_gone p ≡ true → Fits items found p d → d ≡ Gone
  gone-is Gone found p g k = refl
  gone-is other found p g k = no_and_yes (itself_gone p) g k.0

  abbrev PIdle : Plan → Type 0
  PIdle = Idle items IsFlag holds

  idle-fits : (plan : Plan) (d : Datum) (found : DynamicType) → d ≡ Gone → PIdle plan → PFits plan d found
  idle-fits Nothing d found e i = subst (λ d. PFits Nothing d found) (sym e) (refl, tt)
  idle-fits Entire d found e i = absurd i
  idle-fits (ByFlag flag plan) d found e i = (i.0, inr (i.1, e))
  idle-fits (InParts plans) d found e i = inr (e, i)
  idle-fits (OfBox guard plan) d found e i = inr (e, i.0, i.1)
  idle-fits (ByVariant cases) d found e i = absurd i

  node : (d : Datum) → Inner d → PlanFits d
  node d ih = record { at = go }
    where
      go : (tree : Tree) (id : TyId) (found : DynamicType) (p : Presence) → IsOf items found id →
          Told items facts flag_of IsFlag holds p tree → Flagged items facts flag_of IsFlag holds tree id → IsTyped
          items tree id → Fits items found p d → Sound items d found →
          PFits (plan_at tree id) d found
      go (at_path number below) id found p is t f y k s = by_gone (itself_gone p) refl
        where
          none-there : needs_drop items id ≡ false → PFits Nothing d found
          none-there n = by_found found is k
            where
              by_found : (found : DynamicType) → IsOf items found id → Fits items found p d → PFits Nothing d found
              by_found _ (itself _) k = quiet items d (OfType id) p (unneeded id n) k
              by_found _ (object _ impl_no m dyn has) k = no_and_yes (needs_drop items id) (dyn_needs items id m dyn) n

          inner-there : (guard : Option ℕ) → Open items IsFlag holds guard → needs_drop items id ≡ true →
              itself_gone p ≡ false → PFits (inner_plan items facts flag_of below id (under below id) guard) d found
          inner-there guard opens need g = inner-fits guard opens d below id found p ih g need is t.1 t.2 f.1 y k s

          opens-there : (guard : Option ℕ) → flag_of number ≡ guard → itself_gone p ≡ false →
              Open items IsFlag holds guard
          opens-there None e g = tt
          opens-there (Some flag) e g = let m = t.0.flag flag e in (m.0, m.1 ∙ ap (λ b. Truth (not b)) g)

          by : itself_gone p ≡ false → (n : Bool) → needs_drop items id ≡ n → (a : Bool) → facts.present number ≡ a →
              (w : Bool) → sure_at items facts flag_of IsFlag holds (at_path number below) ≡ w → (g : Bool) →
              PFits (decided n a w g (flag_of number) (inner_plan items facts flag_of below id (under below id)))
              d found
          by h false en a ea w ew g = none-there en
          by h true en false ea w ew g = no_and_yes (facts.present number)
              (subst (λ b. possible facts (not b) number ≡ true) h t.0.may_be) ea
          by h true en true ea true ew g = fully items facts flag_of IsFlag holds d found id p is k
              (sure-whole items facts flag_of IsFlag holds d
              (at_path number below) id found p ew
              t y k)
          by h true en true ea false ew true = inner-there (flag_of number) (opens-there (flag_of number) refl h) en h
          by h true en true ea false ew false = inner-there None tt en h

          by_gone : (b : Bool) → itself_gone p ≡ b → PFits (plan_at (at_path number below) id) d found
          by_gone true g = idle-fits (plan_at (at_path number below) id) d found (gone-is d found p g k)
              (idle items facts flag_of IsFlag holds (at_path number below) id p g t f)
          by_gone false g = by g (needs_drop items id) refl (facts.present number) refl
              (sure_at items facts flag_of IsFlag holds (at_path number below)) refl (facts.gone number)

  mutual
    pub plan-fits : (d : Datum) → PlanFits d
    plan-fits Gone = node Gone tt
    plan-fits (Number number) = node (Number number) tt
    plan-fits (Truth truth) = node (Truth truth) tt
    plan-fits UnitValue = node UnitValue tt
    plan-fits (Address address) = node (Address address) tt
    plan-fits (Aggregate variant serial parts) = node (Aggregate variant serial parts) (plans-fit parts)
    plan-fits (Box serial impl_no inside) = node (Box serial impl_no inside) (plan-fits inside)

    plans-fit : (parts : Data) → AllFit parts
    plans-fit no_part = none_fit
    plans-fit (a_part first rest) = one_fits first rest (plan-fits first) (plans-fit rest)
