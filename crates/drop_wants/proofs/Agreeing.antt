-- A plan that is made with one number for each flag, and then renumbered, is the plan that is made with the other numbers,
-- where these are of all flags that the plan reads.
use Rattle.std.proofs.Common.{◌≡◌, ◌⊎◌, inl, inr, ◌∙◌, ◌∷◌, [], ℕ, suc, ◌==◌, not, Bool, true, false, ◌&&◌, ◌||◌, List, Option, Some, None, slice_get, if◌then◌else◌, refl, sym, ap, subst}
use Rattle.std.specs.Prelude.{option_map}
use Rattle.std.proofs.lemmas.Bool.{eq-eqb}
use Rattle.mir_ty.specs.declared.adt.Variant.{Variant}
use Rattle.mir_ty.specs.declared.ty.Ty.{Ty}
use Rattle.mir_ty.specs.declared.ty.TyId.{TyId}
use Rattle.mir_ty.specs.Facts.{needs_drop, has_drop_impl}
use Rattle.mir_ty.specs.ItemTable.{ItemTable, type_at}
use Rattle.mir_ty.specs.Parts.{parts_of, variants_of}
use Rattle.store_model.specs.Places.Place.{Step, ToPart, ToField, ToContent, is_enum, same_step}
use Rattle.drop_values.specs.Facts.{Tree, at_path, Branches, no_branch, a_branch, Facts}
use Rattle.drop_values.specs.Plan.{Plan, Entire, ByFlag, InParts, OfBox, ByVariant, Plans, a_plan, Cases, a_case}
use Rattle.drop_values.specs.Planning.{plan_by, guarded, whole_plan, decided, part_plan, part_plans, variant_plans, taken_apart, stepped, sure, sure_below, unless_impl, inner_plan, plan_of, plans_below}
use Rattle.drop_laws.specs.Rungs.{is_guard, reads, any_reads, some_reads}
use Rattle.drop_laws.proofs.ApartAs.{Apart, boxed, enum, plainly, apart_as}
use Rattle.drop_wants.specs.Renumbered.{renumbered, all_renumbered, each_renumbered}

or-first : (a b : Bool) → a ≡ true → (a || b) ≡ true
or-first true b h = refl
or-first false b h = absurd (cc)

or-second : (a b : Bool) → b ≡ true → (a || b) ≡ true
or-second true b h = refl
or-second false b h = h

-- each path has one flag for its own number, or none by either numbers
module _ (items : ItemTable) (facts : Facts) (own other : ℕ → Option ℕ) (number : ℕ → ℕ)
    (same : (n : ℕ) → ((own n ≡ None) × (other n ≡ None)) ⊎ (own n ≡ Some n)) where
  -- the other numbers are of each flag that a plan reads
  abbrev pub Agrees : Plan → Type 0
  Agrees plan = (k : ℕ) → reads k plan ≡ true → other k ≡ Some (number k)

  abbrev AllAgree : Plans → Type 0
  AllAgree plans = (k : ℕ) → any_reads k plans ≡ true → other k ≡ Some (number k)

  abbrev EachAgrees : Cases → Type 0
  EachAgrees cases = (k : ℕ) → some_reads k cases ≡ true → other k ≡ Some (number k)

  -- guards by the one and by the other numbers
  abbrev AreGuards : Option ℕ → Option ℕ → Type 0
  AreGuards one two = ((one ≡ None) × (two ≡ None)) ⊎ ((k : ℕ) × (one ≡ Some k) × (two ≡ other k))

  -- plans of the same parts, the second with the other numbers
  abbrev AreAlike : List (Step × Plan) → List (Step × Plan) → Type 0
  AreAlike [] [] = Unit {0}
  AreAlike [] (q ∷ qs) = ⊥
  AreAlike (p ∷ ps) [] = ⊥
  AreAlike (p ∷ ps) (q ∷ qs) = (p.0 ≡ q.0) × (Agrees p.1 → renumbered number p.1 ≡ q.1) × AreAlike ps qs

  guard-as : (one two : Option ℕ) (plan after : Plan) → AreGuards one two → Agrees (guarded one plan) →
      (Agrees plan → renumbered number plan ≡ after) → renumbered number (guarded one plan) ≡ guarded two after
  guard-as one two plan after (inl none) agrees inner =
      let within : Agrees plan = subst (λ (g : Option ℕ). Agrees (guarded g plan)) none.0 agrees in
      ap (λ (g : Option ℕ). renumbered number (guarded g plan)) none.0 ∙ inner within
      ∙ sym (ap (λ (g : Option ℕ). guarded g after) none.1)
  guard-as one two plan after (inr some) agrees inner =
      let k = some.0 in
      let flagged : Agrees (ByFlag k plan) = subst (λ (g : Option ℕ). Agrees (guarded g plan)) some.1 agrees in
      let within : Agrees plan = λ n h. flagged n (or-second (k == n) (reads n plan) h) in
      let flag : other k ≡ Some (number k) = flagged k (or-first (k == k) (reads k plan) (eq-eqb k k refl)) in
      ap (λ (g : Option ℕ). renumbered number (guarded g plan)) some.1
      ∙ ap (ByFlag (number k)) (inner within)
      ∙ sym (ap (λ (g : Option ℕ). guarded g after) (some.2 ∙ flag))

  entire-as : (one two : Option ℕ) → AreGuards one two → Agrees (guarded one Entire) →
      renumbered number (guarded one Entire) ≡ guarded two Entire
  entire-as one two guards agrees = guard-as one two Entire Entire guards agrees (λ a. refl)

  whole-as : (one two : Option ℕ) → AreGuards one two → (needs : Bool) → Agrees (whole_plan one needs) →
      renumbered number (whole_plan one needs) ≡ whole_plan two needs
  whole-as one two guards true agrees = entire-as one two guards agrees
  whole-as one two guards false agrees = refl

  part-as : (one two : Option ℕ) → AreGuards one two → (id : TyId) (step : Step) (ps qs : List (Step × Plan)) →
      AreAlike ps qs → Agrees (part_plan items one id (plan_by step ps)) →
      renumbered number (part_plan items one id (plan_by step ps)) ≡ part_plan items two id (plan_by step qs)
  part-as one two guards id step [] [] alike agrees = whole-as one two guards (needs_drop items id) agrees
  part-as one two guards id step [] (q ∷ qs) alike agrees = absurd alike
  part-as one two guards id step (p ∷ ps) [] alike agrees = absurd alike
  part-as one two guards id step (p ∷ ps) (q ∷ qs) alike agrees =
      by (same_step step p.0) (same_step step q.0) (ap (same_step step) alike.0) agrees
      (part-as one two guards id step ps qs alike.2)
    where
      by : (a b : Bool) → a ≡ b → Agrees (part_plan items one id (if a then Some p.1 else plan_by step ps)) →
          (Agrees (part_plan items one id (plan_by step ps)) →
          renumbered number (part_plan items one id (plan_by step ps)) ≡ part_plan items two id (plan_by step qs)) →
          renumbered number (part_plan items one id (if a then Some p.1 else plan_by step ps))
          ≡ part_plan items two id (if b then Some q.1 else plan_by step qs)
      by true true e agrees rest = alike.1 agrees
      by true false e agrees rest = absurd (cc)
      by false true e agrees rest = absurd (cc)
      by false false e agrees rest = rest agrees

  parts-as : (one two : Option ℕ) → AreGuards one two → (ids : List TyId) (step : ℕ → Step) (ps qs : List (Step × Plan)) (n : ℕ) →
      AreAlike ps qs → AllAgree (part_plans items one ids step ps n) →
      all_renumbered number (part_plans items one ids step ps n) ≡ part_plans items two ids step qs n
  parts-as one two guards [] step ps qs n alike agrees = refl
  parts-as one two guards (id ∷ ids) step ps qs n alike agrees =
      let plan : Plan = part_plan items one id (plan_by (step n) ps) in
      let rest : Plans = part_plans items one ids step ps (suc n) in
      let first = part-as one two guards id (step n) ps qs alike
      (λ k h. agrees k (or-first (reads k plan) (any_reads k rest) h)) in
      let others = parts-as one two guards ids step ps qs (suc n) alike
      (λ k h. agrees k (or-second (reads k plan) (any_reads k rest) h)) in
      λ i. a_plan (first i) (others i)

  variants-as : (variants : List Variant) (ps qs : List (Step × Plan)) (n : ℕ) → AreAlike ps qs →
      EachAgrees (variant_plans items variants ps n) →
      each_renumbered number (variant_plans items variants ps n) ≡ variant_plans items variants qs n
  variants-as [] ps qs n alike agrees = refl
  variants-as (variant ∷ variants) ps qs n alike agrees =
      let parts : Plans = part_plans items None variant.fields (ToField n) ps 0 in
      let rest : Cases = variant_plans items variants ps (suc n) in
      let first = parts-as None None (inl (refl, refl)) variant.fields (ToField n) ps qs 0 alike
      (λ k h. agrees k (or-first (any_reads k parts) (some_reads k rest) h)) in
      let others = variants-as variants ps qs (suc n) alike
      (λ k h. agrees k (or-second (any_reads k parts) (some_reads k rest) h)) in
      λ i. a_case n (first i) (others i)

  box-as : (one two : Option ℕ) → AreGuards one two → (inside after : Plan) → Agrees (OfBox one inside) →
      (Agrees inside → renumbered number inside ≡ after) → renumbered number (OfBox one inside) ≡ OfBox two after
  box-as one two (inl none) inside after agrees inner =
      let within : Agrees inside = λ n h. agrees n (or-second (is_guard one n) (reads n inside) h) in
      let guard : option_map number one ≡ two = ap (option_map number) none.0 ∙ sym none.1 in
      λ i. OfBox (guard i) (inner within i)
  box-as one two (inr some) inside after agrees inner =
      let k = some.0 in
      let within : Agrees inside = λ n h. agrees n (or-second (is_guard one n) (reads n inside) h) in
      let mine : is_guard one k ≡ true = ap (λ (g : Option ℕ). is_guard g k) some.1 ∙ eq-eqb k k refl in
      let flag : other k ≡ Some (number k) = agrees k (or-first (is_guard one k) (reads k inside) mine) in
      let guard : option_map number one ≡ two = ap (option_map number) some.1 ∙ sym (some.2 ∙ flag) in
      λ i. OfBox (guard i) (inner within i)

  apart-of : (one two : Option ℕ) → AreGuards one two → (ps qs : List (Step × Plan)) → AreAlike ps qs → (ty : Ty) →
      Apart items ty → Agrees (taken_apart items one (is_enum items ty) ty ps) →
      renumbered number (taken_apart items one (is_enum items ty) ty ps) ≡ taken_apart items two (is_enum items ty) ty qs
  apart-of one two guards ps qs alike _ (boxed content) agrees =
      box-as one two guards (part_plan items one content (plan_by ToContent ps))
      (part_plan items two content (plan_by ToContent qs)) agrees
      (part-as one two guards content ToContent ps qs alike)
  apart-of one two guards ps qs alike _ (enum n en) agrees =
      let variants : List Variant = variants_of (slice_get items.adts n) in
      let cases : Cases = variant_plans items variants ps 0 in
      let known : Agrees (guarded one (ByVariant cases)) = subst Agrees (en.apart one ps) agrees in
      ap (renumbered number) (en.apart one ps)
      ∙ guard-as one two (ByVariant cases) (ByVariant (variant_plans items variants qs 0)) guards known
      (λ a. ap ByVariant (variants-as variants ps qs 0 alike a))
      ∙ sym (en.apart two qs)
  apart-of one two guards ps qs alike _ (plainly ty p) agrees =
      let known : Agrees (InParts (part_plans items one (parts_of items ty 0) ToPart ps 0)) =
      subst Agrees (p.apart one ps) agrees in
      ap (renumbered number) (p.apart one ps)
      ∙ ap InParts (parts-as one two guards (parts_of items ty 0) ToPart ps qs 0 alike known)
      ∙ sym (p.apart two qs)

  unless-as : (one two : Option ℕ) → AreGuards one two → (ps qs : List (Step × Plan)) → AreAlike ps qs →
      (impl : Bool) (ty : Option Ty) → Agrees (unless_impl items facts own one impl ty ps) →
      renumbered number (unless_impl items facts own one impl ty ps) ≡ unless_impl items facts other two impl ty qs
  unless-as one two guards ps qs alike true ty agrees = entire-as one two guards agrees
  unless-as one two guards ps qs alike false None agrees = entire-as one two guards agrees
  unless-as one two guards ps qs alike false (Some ty) agrees =
      apart-of one two guards ps qs alike ty (apart_as items ty) agrees

  inner-as : (one two : Option ℕ) → AreGuards one two → (under : Branches) (id : TyId) (ps qs : List (Step × Plan)) →
      AreAlike ps qs → Agrees (inner_plan items facts own under id ps one) →
      renumbered number (inner_plan items facts own under id ps one) ≡ inner_plan items facts other under id qs two
  inner-as one two guards no_branch id ps qs alike agrees = entire-as one two guards agrees
  inner-as one two guards (a_branch step tree rest) id ps qs alike agrees =
      unless-as one two guards ps qs alike (has_drop_impl items id) (type_at items id) agrees

  -- whether all of a path is there has nothing to do with flags
  mutual
    sure-same : (tree : Tree) → sure items facts own tree ≡ sure items facts other tree
    sure-same (at_path n under) = ap (λ (b : Bool). not (facts.gone n) && b) (below-same under)

    below-same : (under : Branches) → sure_below items facts own under ≡ sure_below items facts other under
    below-same no_branch = refl
    below-same (a_branch step tree rest) = λ i. sure-same tree i && below-same rest i

  own-guards : (n : ℕ) → AreGuards (own n) (other n)
  own-guards n = elim (same n) [
    | inl none ↦ inl none
    | inr some ↦ inr (n, some, refl)
  ]

  mutual
    pub plan-as : (tree : Tree) (id : TyId) → Agrees (plan_of items facts own tree id) →
        renumbered number (plan_of items facts own tree id) ≡ plan_of items facts other tree id
    plan-as (at_path n under) id agrees =
        by (needs_drop items id) (facts.present n) (sure items facts own (at_path n under))
        (sure items facts other (at_path n under)) (sure-same (at_path n under)) (facts.gone n) agrees
        (λ one two guards. inner-as one two guards under id (plans_below items facts own under id)
        (plans_below items facts other under id) (plans-as under id))
      where
        inner : (ℕ → Option ℕ) → Option ℕ → Plan
        inner flags guard = inner_plan items facts flags under id (plans_below items facts flags under id) guard

        by : (needs present sure_one sure_two : Bool) → sure_one ≡ sure_two → (gone : Bool) →
            Agrees (decided needs present sure_one gone (own n) (inner own)) →
            ((one two : Option ℕ) → AreGuards one two → Agrees (inner own one) →
            renumbered number (inner own one) ≡ inner other two) →
            renumbered number (decided needs present sure_one gone (own n) (inner own))
            ≡ decided needs present sure_two gone (other n) (inner other)
        by false present s t e gone agrees within = refl
        by true false s t e gone agrees within = refl
        by true true true true e gone agrees within = refl
        by true true true false e gone agrees within = absurd (cc)
        by true true false true e gone agrees within = absurd (cc)
        by true true false false e true agrees within = within (own n) (other n) (own-guards n) agrees
        by true true false false e false agrees within = within None None (inl (refl, refl)) agrees

    plans-as : (under : Branches) (id : TyId) →
        AreAlike (plans_below items facts own under id) (plans_below items facts other under id)
    plans-as no_branch id = tt
    plans-as (a_branch step tree rest) id = (refl, plan-as tree (stepped items step id), plans-as rest id)
