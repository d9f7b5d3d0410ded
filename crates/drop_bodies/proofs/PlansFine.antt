-- The blocks of the ladder of a plan are fine where the plan is that of a place of its type: each rung and test is of a
-- place with a type, a box is freed where there is one, a variant is tested where the value is of an enum that has it.
use Rattle.std.proofs.Common.{◌≡◌, ◌∙◌, ◌∷◌, [], ◌++◌, ◌+◌, ℕ, suc, Bool, true, false, List, Option, Some, None, map, slice_get, refl, sym, ap, subst, arith}
use Rattle.std.specs.Prelude.{option_and_then, unwrap_or, if◌then◌else◌}
use Rattle.std.proofs.lemmas.Option.{none-some, same_Some}
use Rattle.mir_ty.specs.declared.adt.Variant.{Variant}
use Rattle.mir_ty.specs.declared.ty.Ty.{Ty}
use Rattle.mir_ty.specs.declared.ty.TyId.{TyId}
use Rattle.mir_ty.specs.Facts.{needs_drop, has_drop_impl}
use Rattle.mir_ty.specs.ItemTable.{ItemTable, type_at}
use Rattle.mir_ty.specs.Parts.{parts_of, variants_of}
use Rattle.store_model.specs.Places.Place as plain
use Rattle.store_model.specs.Places.Place.{ToPart, ToField, ToContent, same_step, is_enum, step_ty, ty_along, place_ty}
use Rattle.cfg_graph.specs.declared.graph.Block.{Block}
use Rattle.cfg_graph.specs.declared.place.Place.{Place}
use Rattle.cfg_graph.specs.declared.place.Step.{Step}
use Rattle.cfg_graph.specs.Places.{named_step, index_locals, place_id}
use Rattle.cfg_graph.proofs.WholePlaces.{same_step-sound}
use Rattle.drop_elaborate.specs.Ladder.{place_below}
use Rattle.drop_values.specs.Facts.{Tree, at_path, Branches, no_branch, a_branch, Facts}
use Rattle.drop_values.specs.Plan.{Plan, Entire, InParts, ByVariant}
use Rattle.drop_values.specs.Planning.{plan_by, guarded, whole_plan, decided, part_plan, part_plans, variant_plans, taken_apart, IsTyped, AreTyped, stepped, sure, unless_impl, inner_plan, plan_of, plans_below}
use Rattle.drop_bodies.proofs.LadderKept.{DropFine, FreeFine, FlagFine, CaseFine, GuardFine, RungsFine, PartsFine, CasesFine}

-- a step to a part of a value
pub data Inward : Step → Type 0 where
  part : (n : ℕ) → Inward (Step.Part n)
  field : (variant n : ℕ) → Inward (Step.Field variant n)
  content : Inward Step.Inside

-- a place of a type; of the local and of the indices of its steps something holds that goes on with it
module _ (items : ItemTable) (locals : List TyId) (Good : ℕ → List ℕ → Type 0) where
  pub record At (place : Place) (id : TyId) : Type 0 where
    pub typed : place_id items locals place ≡ Some id
    pub good : Good place.local (index_locals place.steps)

  indices-same : (steps : List Step) (step : Step) → Inward step → index_locals (steps ++ step ∷ []) ≡ index_locals steps
  indices-same [] _ (part n) = refl
  indices-same [] _ (field v n) = refl
  indices-same [] _ content = refl
  indices-same (Step.Index local ∷ steps) step i = ap (λ l. local ∷ l) (indices-same steps step i)
  indices-same (Step.Part n ∷ steps) step i = indices-same steps step i
  indices-same (Step.Field v n ∷ steps) step i = indices-same steps step i
  indices-same (Step.Inside ∷ steps) step i = indices-same steps step i

  along : (steps : List Step) (step : Step) (start id next : TyId) → ty_along items (map named_step steps) start ≡ Some id →
      option_and_then (step_ty items (named_step step)) (type_at items id) ≡ Some next →
      ty_along items (map named_step (steps ++ step ∷ [])) start ≡ Some next
  along [] step start id next e h =
      let same = same_Some start id e in
      ap (λ o. option_and_then (ty_along items []) o)
      (subst (λ x. option_and_then (step_ty items (named_step step)) (type_at items x) ≡ Some next) (sym same) h)
  along (first ∷ steps) step start id next e h =
      by (option_and_then (step_ty items (named_step first)) (type_at items start)) (λ x y. along steps step x id next y h) e
    where
      by : (o : Option TyId) → ((x : TyId) → ty_along items (map named_step steps) x ≡ Some id →
          ty_along items (map named_step (steps ++ step ∷ [])) x ≡ Some next) →
          option_and_then (ty_along items (map named_step steps)) o ≡ Some id →
          option_and_then (ty_along items (map named_step (steps ++ step ∷ []))) o ≡ Some next
      by None again e = absurd (none-some id e)
      by (Some x) again e = again x e

  pub further : (place : Place) (id next : TyId) (step : Step) → Inward step → At place id →
      option_and_then (step_ty items (named_step step)) (type_at items id) ≡ Some next → At (place_below place step) next
  further place id next step i at h = record {
    typed = by (slice_get locals place.local) at.typed;
    good = subst (Good place.local) (sym (indices-same place.steps step i)) at.good;
  }
    where
      by : (o : Option TyId) → option_and_then (ty_along items (map named_step place.steps)) o ≡ Some id →
          option_and_then (ty_along items (map named_step (place.steps ++ step ∷ []))) o ≡ Some next
      by None e = absurd (none-some id e)
      by (Some start) e = along place.steps step start id next e h

  -- ---- plans

  module _ (Q : Block → Type 0) (IsFlag : ℕ → Type 0)
      (drops : (place : Place) (id : TyId) → At place id → needs_drop items id ≡ true → DropFine Q place)
      (frees : (place : Place) (id inside : TyId) → At place id → type_at items id ≡ Some (Ty.Boxed inside) →
      FreeFine Q place)
      (flags : (flag : ℕ) → IsFlag flag → FlagFine Q flag)
      (cases : (place : Place) (id : TyId) (n v : ℕ) (variant : Variant) → At place id → type_at items id ≡ Some (Ty.Adt n) →
      is_enum items (Ty.Adt n) ≡ true → slice_get (variants_of (slice_get items.adts n)) v ≡ Some variant → CaseFine Q place v)
      (facts : Facts) (flag_of : ℕ → Option ℕ) (are_flags : (number flag : ℕ) → flag_of number ≡ Some flag → IsFlag flag) where
    abbrev Guard : Option ℕ → Type 0
    Guard o = (flag : ℕ) → o ≡ Some flag → IsFlag flag

    guard-fine : (o : Option ℕ) → Guard o → GuardFine Q o
    guard-fine None g = tt
    guard-fine (Some flag) g = flags flag (g flag refl)

    guarded-fine : (o : Option ℕ) (plan : Plan) (place : Place) → Guard o → RungsFine Q plan place →
        RungsFine Q (guarded o plan) place
    guarded-fine None plan place g fine = fine
    guarded-fine (Some flag) plan place g fine = (flags flag (g flag refl), fine)

    whole-fine : (o : Option ℕ) (needs : Bool) (place : Place) (id : TyId) → needs_drop items id ≡ needs → Guard o →
        At place id → RungsFine Q (whole_plan o needs) place
    whole-fine o true place id n g at = guarded-fine o Entire place g (drops place id at n)
    whole-fine o false place id n g at = tt

    decided-fine : (needs present sure gone : Bool) (flag : Option ℕ) (inner : Option ℕ → Plan) (place : Place) (id : TyId) →
        At place id → needs_drop items id ≡ needs → Guard flag →
        (needs_drop items id ≡ true → (o : Option ℕ) → Guard o → RungsFine Q (inner o) place) →
        RungsFine Q (decided needs present sure gone flag inner) place
    decided-fine false present sure gone flag inner place id at n g fine = tt
    decided-fine true false sure gone flag inner place id at n g fine = tt
    decided-fine true true true gone flag inner place id at n g fine = drops place id at n
    decided-fine true true false true flag inner place id at n g fine = fine n flag g
    decided-fine true true false false flag inner place id at n g fine = fine n None (λ m e. absurd (none-some m e))

    -- the plans of what lies below a place
    abbrev Below : List (plain.Step × Plan) → Place → Type 0
    Below plans place = (step : Step) (plan : Plan) → Inward step → plan_by (named_step step) plans ≡ Some plan →
        RungsFine Q plan (place_below place step)

    part-fine : (o : Option ℕ) (id : TyId) (place : Place) (step : Step) (plans : List (plain.Step × Plan)) → Inward step →
        Guard o → Below plans place → At (place_below place step) id →
        RungsFine Q (part_plan items o id (plan_by (named_step step) plans)) (place_below place step)
    part-fine o id place step plans i g below at = by (plan_by (named_step step) plans) refl
      where
        by : (p : Option Plan) → plan_by (named_step step) plans ≡ p →
            RungsFine Q (part_plan items o id p) (place_below place step)
        by None e = whole-fine o (needs_drop items id) (place_below place step) id refl g at
        by (Some plan) e = below step plan i e

    -- the parts from a number on, at the steps to them
    abbrev AllAt : (maker : ℕ → Step) → Place → List TyId → ℕ → Type 0
    AllAt maker place [] n = Unit {0}
    AllAt maker place (id ∷ ids) n = At (place_below place (maker n)) id × AllAt maker place ids (suc n)

    all-at : (maker : ℕ → Step) (place : Place) (ids : List TyId) (n : ℕ) →
        ((k : ℕ) (id : TyId) → slice_get ids k ≡ Some id → At (place_below place (maker (n + k))) id) → AllAt maker place ids n
    all-at maker place [] n h = tt
    all-at maker place (id ∷ ids) n h = (
      subst (λ m. At (place_below place (maker m)) id) (let e : n + 0 ≡ n = omega arith in e) (h 0 id refl),
      all-at maker place ids (suc n) (λ k other e.
          subst (λ m. At (place_below place (maker m)) other) (let s : n + suc k ≡ suc n + k = omega arith in s) (h (suc k) other e)),
    )

    part-plans-fine : (o : Option ℕ) (ids : List TyId) (plans : List (plain.Step × Plan)) (n : ℕ) (place : Place) →
        Guard o → Below plans place → AllAt Step.Part place ids n →
        PartsFine Q (part_plans items o ids ToPart plans n) Step.Part n place
    part-plans-fine o [] plans n place g below h = tt
    part-plans-fine o (id ∷ ids) plans n place g below h =
        (part-fine o id place (Step.Part n) plans (part n) g below h.0, part-plans-fine o ids plans (suc n) place g below h.1)

    field-plans-fine : (v : ℕ) (ids : List TyId) (plans : List (plain.Step × Plan)) (n : ℕ) (place : Place) →
        Below plans place → AllAt (λ n. Step.Field v n) place ids n →
        PartsFine Q (part_plans items None ids (ToField v) plans n) (λ n. Step.Field v n) n place
    field-plans-fine v [] plans n place below h = tt
    field-plans-fine v (id ∷ ids) plans n place below h = (
      part-fine None id place (Step.Field v n) plans (field v n) (λ m e. absurd (none-some m e)) below h.0,
      field-plans-fine v ids plans (suc n) place below h.1,
    )

    module _ (place : Place) (id : TyId) (at : At place id) (plans : List (plain.Step × Plan)) (below : Below plans place) where
      step-of : (ty : Ty) (step : Step) (next : TyId) → type_at items id ≡ Some ty →
          step_ty items (named_step step) ty ≡ Some next →
          option_and_then (step_ty items (named_step step)) (type_at items id) ≡ Some next
      step-of ty step next e h = ap (option_and_then (step_ty items (named_step step))) e ∙ h

      parts-fine : (o : Option ℕ) (ty : Ty) → type_at items id ≡ Some ty → is_enum items ty ≡ false → Guard o →
          RungsFine Q (InParts (part_plans items o (parts_of items ty 0) ToPart plans 0)) place
      parts-fine o ty e flat g =
          part-plans-fine o (parts_of items ty 0) plans 0 place g below
          (all-at Step.Part place (parts_of items ty 0) 0 (λ k next h.
          let zero_and : 0 + k ≡ k = omega arith in
          subst (λ m. At (place_below place (Step.Part m)) next) (sym zero_and)
          (further place id next (Step.Part k) (part k) at
          (step-of ty (Step.Part k) next e (ap (λ b. plain.unless_enum b (slice_get (parts_of items ty 0) k)) flat ∙ h)))))

      variants-fine : (n : ℕ) → type_at items id ≡ Some (Ty.Adt n) → is_enum items (Ty.Adt n) ≡ true →
          RungsFine Q (ByVariant (variant_plans items (variants_of (slice_get items.adts n)) plans 0)) place
      variants-fine n e enum = from (variants_of (slice_get items.adts n)) 0 (λ k variant h.
          subst (λ m. slice_get (variants_of (slice_get items.adts n)) m ≡ Some variant) (let z : k ≡ 0 + k = omega arith in z) h)
        where
          from : (variants : List Variant) (v : ℕ) → ((k : ℕ) (variant : Variant) → slice_get variants k ≡ Some variant →
              slice_get (variants_of (slice_get items.adts n)) (v + k) ≡ Some variant) →
              CasesFine Q (variant_plans items variants plans v) place
          from [] v h = tt
          from (variant ∷ variants) v h =
              let here : slice_get (variants_of (slice_get items.adts n)) v ≡ Some variant =
              subst (λ m. slice_get (variants_of (slice_get items.adts n)) m ≡ Some variant)
              (let z : v + 0 ≡ v = omega arith in z) (h 0 variant refl) in (
                cases place id n v variant at e enum here,
                field-plans-fine v variant.fields plans 0 place below
                    (all-at (λ n. Step.Field v n) place variant.fields 0 (λ k next f.
                    let zero_and : 0 + k ≡ k = omega arith in
                    subst (λ m. At (place_below place (Step.Field v m)) next) (sym zero_and)
                    (further place id next (Step.Field v k) (field v k) at
                    (step-of (Ty.Adt n) (Step.Field v k) next e
                    (ap (λ b. plain.part_if b (slice_get (parts_of items (Ty.Adt n) v) k)) enum
                    ∙ ap (λ o. slice_get (fields o) k) here ∙ f))))),
                from variants (suc v) (λ k other f.
                    subst (λ m. slice_get (variants_of (slice_get items.adts n)) m ≡ Some other)
                    (let s : v + suc k ≡ suc v + k = omega arith in s) (h (suc k) other f)),
              )
            where
              fields : Option Variant → List TyId
              fields None = []
              fields (Some variant) = variant.fields

      apart-fine : (o : Option ℕ) (enum : Bool) (ty : Ty) → type_at items id ≡ Some ty → is_enum items ty ≡ enum → Guard o →
          RungsFine Q (taken_apart items o enum ty plans) place
      apart-fine o enum (Ty.Boxed inside) e is g = (
        guard-fine o g,
        frees place id inside at e,
        part-fine o inside place Step.Inside plans content g below
            (further place id inside Step.Inside content at (step-of (Ty.Boxed inside) Step.Inside inside e refl)),
      )
      apart-fine o true (Ty.Adt n) e is g = guarded-fine o _ place g (variants-fine n e is)
      apart-fine o false (Ty.Adt n) e is g = parts-fine o (Ty.Adt n) e is g
      apart-fine o true (Ty.Int kind) e is g = parts-fine o (Ty.Int kind) e refl g
      apart-fine o false (Ty.Int kind) e is g = parts-fine o (Ty.Int kind) e refl g
      apart-fine o true Ty.Bool e is g = parts-fine o Ty.Bool e refl g
      apart-fine o false Ty.Bool e is g = parts-fine o Ty.Bool e refl g
      apart-fine o true Ty.Unit e is g = parts-fine o Ty.Unit e refl g
      apart-fine o false Ty.Unit e is g = parts-fine o Ty.Unit e refl g
      apart-fine o true Ty.Never e is g = parts-fine o Ty.Never e refl g
      apart-fine o false Ty.Never e is g = parts-fine o Ty.Never e refl g
      apart-fine o true (Ty.Tuple parts) e is g = parts-fine o (Ty.Tuple parts) e refl g
      apart-fine o false (Ty.Tuple parts) e is g = parts-fine o (Ty.Tuple parts) e refl g
      apart-fine o true (Ty.Array element count) e is g = parts-fine o (Ty.Array element count) e refl g
      apart-fine o false (Ty.Array element count) e is g = parts-fine o (Ty.Array element count) e refl g
      apart-fine o true (Ty.Closure n) e is g = parts-fine o (Ty.Closure n) e refl g
      apart-fine o false (Ty.Closure n) e is g = parts-fine o (Ty.Closure n) e refl g
      apart-fine o true (Ty.Shared to) e is g = parts-fine o (Ty.Shared to) e refl g
      apart-fine o false (Ty.Shared to) e is g = parts-fine o (Ty.Shared to) e refl g
      apart-fine o true (Ty.Unique to) e is g = parts-fine o (Ty.Unique to) e refl g
      apart-fine o false (Ty.Unique to) e is g = parts-fine o (Ty.Unique to) e refl g
      apart-fine o true (Ty.Dyn n) e is g = parts-fine o (Ty.Dyn n) e refl g
      apart-fine o false (Ty.Dyn n) e is g = parts-fine o (Ty.Dyn n) e refl g

      unless-fine : (o : Option ℕ) (impl : Bool) (t : Option Ty) → type_at items id ≡ t → needs_drop items id ≡ true →
          Guard o → RungsFine Q (unless_impl items facts flag_of o impl t plans) place
      unless-fine o true t e n g = guarded-fine o Entire place g (drops place id at n)
      unless-fine o false None e n g = guarded-fine o Entire place g (drops place id at n)
      unless-fine o false (Some ty) e n g = apart-fine o (is_enum items ty) ty e refl g

    -- what is done where the own part of a place is there, by the paths below it
    inner-fine : (under : Branches) (id : TyId) (place : Place) → At place id →
        Below (plans_below items facts flag_of under id) place → needs_drop items id ≡ true → (o : Option ℕ) → Guard o →
        RungsFine Q (inner_plan items facts flag_of under id (plans_below items facts flag_of under id) o) place
    inner-fine no_branch id place at below n o g = guarded-fine o Entire place g (drops place id at n)
    inner-fine (a_branch step tree rest) id place at below n o g =
        unless-fine place id at (plans_below items facts flag_of (a_branch step tree rest) id) below o
        (has_drop_impl items id) (type_at items id) refl n g

    -- the plan at a step is the first one, or one of the others
    either-plan : (R : Plan → Type 0) (s step : plain.Step) (found plan : Plan) (others : Option Plan) →
        (s ≡ step → R found) → (others ≡ Some plan → R plan) →
        (if same_step s step then Some found else others) ≡ Some plan → R plan
    either-plan R s step found plan others here there e = by (same_step s step) refl e
      where
        by : (b : Bool) → same_step s step ≡ b → (if b then Some found else others) ≡ Some plan → R plan
        by true same e = subst R (same_Some found plan e) (here (same_step-sound s step same))
        by false same e = there e

    mutual
      pub rungs-fine : (tree : Tree) (id : TyId) (place : Place) → At place id → IsTyped items tree id →
          RungsFine Q (plan_of items facts flag_of tree id) place
      rungs-fine (at_path number under) id place at typed =
          decided-fine (needs_drop items id) (facts.present number) (sure items facts flag_of (at_path number under))
          (facts.gone number) (flag_of number)
          (inner_plan items facts flag_of under id (plans_below items facts flag_of under id)) place id at refl
          (λ flag e. are_flags number flag e)
          (λ n o g. inner-fine under id place at (λ s plan i e. below-fine under id place at typed s plan i e) n o g)

      below-fine : (under : Branches) (id : TyId) (place : Place) → At place id → AreTyped items under id → (s : Step) (plan : Plan) →
          Inward s → plan_by (named_step s) (plans_below items facts flag_of under id) ≡ Some plan →
          RungsFine Q plan (place_below place s)
      below-fine no_branch id place at typed s plan i e = absurd (none-some plan e)
      below-fine (a_branch step tree rest) id place at typed s plan i e =
          either-plan (λ p. RungsFine Q p (place_below place s)) (named_step s) step
          (plan_of items facts flag_of tree (stepped items step id)) plan
          (plan_by (named_step s) (plans_below items facts flag_of rest id))
          (λ is. subst (λ x. RungsFine Q (plan_of items facts flag_of tree x) (place_below place s))
          (sym (ap (λ o. unwrap_or o id) typed.0.1))
          (rungs-fine tree typed.0.0 (place_below place s) (further place id typed.0.0 s i at
          (subst (λ x. option_and_then (step_ty items x) (type_at items id) ≡ Some typed.0.0) (sym is) typed.0.1)) typed.0.2))
          (λ rest_is. below-fine rest id place at typed.1 s plan i rest_is) e
