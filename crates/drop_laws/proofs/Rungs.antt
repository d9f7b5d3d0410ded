-- A drop is dead exactly where its plan has no rung, and plain where no path at or below its place may be gone.
use Rattle.std.proofs.Common.{◌≡◌, ◌∙◌, ◌∷◌, [], ℕ, nat_lt, Bool, true, false, ◌||◌, List, Option, Some, None, flat_map, length, slice_get, refl, sym, ap}
use Rattle.std.specs.Prelude.{option_and_then, option_map, unwrap_or}
use Rattle.std.specs.List.{list_any}
use Rattle.std.specs.Cmp.{first_so, second_so}
use Rattle.std.proofs.lemmas.Bool.{false≢true}
use Rattle.std.proofs.lemmas.Option.{none-some, same_Some}
use Rattle.mir_ty.proofs.ListLemmas.{Contains-slice_get}
use Rattle.mir_ty.specs.declared.adt.Variant.{Variant}
use Rattle.mir_ty.specs.declared.ty.Ty.{Ty}
use Rattle.mir_ty.specs.declared.ty.TyId.{TyId}
use Rattle.mir_ty.specs.Facts.{needs_drop, has_drop_impl}
use Rattle.mir_ty.specs.ItemTable.{ItemTable, type_at}
use Rattle.mir_ty.specs.Parts.{parts_of, fields_of, variants_of}
use Rattle.cfg_graph.specs.declared.graph.Body.{Body}
use Rattle.cfg_graph.specs.Moves.BadUses.{bad_uses_on}
use Rattle.cfg_graph.specs.Moves.Gone.{PathAction, below, reaches_whole, is_gone_after}
use Rattle.cfg_graph.specs.Moves.Paths.{IsPath}
use Rattle.move_paths.specs.Forest.{PathForest, IsForest, is_local, is_above_change, is_path}
use Rattle.move_paths.specs.Uses.{block_uses}
use Rattle.store_model.specs.Places.Place.{Step, ToPart, ToField, ToContent, ToElement, Place, is_enum, is_reference, content_of, part_if, unless_enum, step_ty, ty_along, watched, watched_content}
use Rattle.store_model.specs.Places.TypeForms.{is_dyn}
use Rattle.drop_values.specs.Facts.{Tree, at_path, Branches, no_branch, a_branch, Facts}
use Rattle.drop_values.specs.Plan.{Plan, Entire, ByVariant}
use Rattle.drop_values.specs.Planning.{branch_by, plan_by, decided, part_plan, part_plans, variant_plans, taken_apart, stepped, sure, sure_below, unless_impl, inner_plan, plan_of, plans_below}
use Rattle.drop_elaborate.proofs.DeadDrops.{box-numbered, impl-numbered, below-type, unneeded-dead}
use Rattle.drop_elaborate.proofs.PathSpares.{then-some}
use Rattle.drop_elaborate.proofs.ReadyBody.{BodyIsReady}
use Rattle.drop_elaborate.specs.Kinds.{is_box, is_numbered, place_id, Comes, IsDead, IsSure, MayBe, AreFacts, IsTree}
use Rattle.drop_laws.proofs.BelowPaths.{branch-sure, is-not}
use Rattle.drop_laws.proofs.BelowPaths.{below-nil, below-step, plan-by}
use Rattle.drop_laws.proofs.Living.{Living, watched-first, watched-one, whole-alive, alive-above}
use Rattle.drop_laws.proofs.ApartAs.{Plainly, AsEnum, Apart, boxed, enum, plainly, apart_as}
use Rattle.drop_laws.proofs.Inductions.{along-tree}
use Rattle.drop_laws.proofs.NumberedBelow.{typed-needs}
use Rattle.drop_laws.proofs.PathPlaces.{sunk, there-below, step-type, step-typed, comes-sunk, no-path-spared}
use Rattle.drop_laws.proofs.PlanParts.{guarded-rung, whole-rung, some-part, part-some, some-variant, variant-some}
use Rattle.drop_laws.specs.Rungs.{has_rung, any_rung, some_rung}

pub part-there : {A : Type 0} (b : Bool) (o : Option A) (x : A) → b ≡ false → unless_enum b o ≡ Some x → o ≡ Some x
part-there true o x off e = absurd (false≢true (sym off))
part-there false o x off e = e

pub field-there : {A : Type 0} (b : Bool) (o : Option A) (x : A) → part_if b o ≡ Some x → o ≡ Some x
field-there true o x e = e
field-there false o x e = absurd (none-some x e)

pub variant-there : (variants : List Variant) (v j : ℕ) (id : TyId) → slice_get (fields_of (slice_get variants v)) j ≡
    Some id →
    (variant : Variant) × (slice_get variants v ≡ Some variant) × (slice_get variant.fields j ≡ Some id)
variant-there variants v j id e = by (slice_get variants v) refl e
  where
    by : (o : Option Variant) → slice_get variants v ≡ o → slice_get (fields_of o) j ≡ Some id →
        (variant : Variant) × (slice_get variants v ≡ Some variant) × (slice_get variant.fields j ≡ Some id)
    by None at e = absurd (none-some id e)
    by (Some variant) at e = (variant, at, e)

module _ (items : ItemTable) where
  pub part-type : (id next : TyId) (ty : Ty) (n : ℕ) → type_at items id ≡ Some ty → is_enum items ty ≡ false →
      slice_get (parts_of items ty 0) n ≡ Some next →
      option_and_then (step_ty items (ToPart n)) (type_at items id) ≡ Some next
  part-type id next ty n at off e =
      ap (option_and_then (step_ty items (ToPart n))) at
      ∙ ap (λ (b : Bool). unless_enum b (slice_get (parts_of items ty 0) n)) off ∙ e

  pub field-type : (id next : TyId) (k v n : ℕ) → type_at items id ≡ Some (Ty.Adt k) → is_enum items (Ty.Adt k) ≡ true →
      slice_get (parts_of items (Ty.Adt k) v) n ≡ Some next →
      option_and_then (step_ty items (ToField v n)) (type_at items id) ≡ Some next
  field-type id next k v n at yes_it e =
      ap (option_and_then (step_ty items (ToField v n))) at
      ∙ ap (λ (b : Bool). part_if b (slice_get (parts_of items (Ty.Adt k) v) n)) yes_it ∙ e

module _ (items : ItemTable) (bodies : ℕ) (body : Body) (ready : BodyIsReady items bodies body)
    (fine : (path : List ℕ) (given : List Bool) → IsPath items body path given → bad_uses_on items body path ≡ [])
    (forest : PathForest) (is_forest : IsForest items body forest) (n : ℕ) (facts : Facts)
    (are_facts : AreFacts items body forest.paths n facts) (flag_of : ℕ → Option ℕ) where
  abbrev paths : List Place
  paths = forest.paths

  abbrev gone : List PathAction → Place → Bool
  gone acts q = is_gone_after items body acts q

  abbrev planned : Tree → TyId → Plan
  planned tree id = plan_of items facts flag_of tree id

  abbrev plans : Branches → TyId → List (Step × Plan)
  plans under id = plans_below items facts flag_of under id

  abbrev Alive : Place → Type 0
  Alive q = Living items bodies body ready n q

  abbrev IsTreeAt : Place → Tree → Type 0
  IsTreeAt q tree = IsTree items body paths q tree

  abbrev OfType : Place → TyId → Type 0
  OfType q id = place_id items body q ≡ Some id

  pub is-path : (number : ℕ) (q : Place) → slice_get paths number ≡ Some q → is_path items body q ≡ true
  is-path number q e = (is_forest.each q).0 (Contains-slice_get paths number q e)

  pub local-there : (number : ℕ) (q : Place) → slice_get paths number ≡ Some q → nat_lt q.local (length body.locals) ≡
      true
  local-there number q e =
      first_so (nat_lt q.local (length body.locals)) (is_local q.steps || list_any (is_above_change items body q)
      (flat_map block_uses body.blocks)) (is-path number q e)

  -- ---- what lies below a path

  module _ (q : Place) (number : ℕ) (under : Branches) (is : IsTreeAt q (at_path number under)) where
    pub bare-there : (before : List PathAction) → Comes items body n before → gone before q ≡ false → (step : Step) →
        branch_by step under ≡ None → (rest : List Step) → gone before (below q (step ∷ rest)) ≡ false
    bare-there before comes there step none rest =
        there-below items body before q step
        (no-path-spared items body fine n before comes q step (local-there number q is.0) (is.2 step none)) there rest

    -- nothing at or below it may be gone
    pub not-gone : facts.gone number ≡ false → (before : List PathAction) → Comes items body n before → gone before q
        ≡ false
    not-gone off before comes = by (gone before q) refl
      where
        by : (b : Bool) → gone before q ≡ b → gone before q ≡ false
        by false e = e
        by true e = absurd (false≢true (sym off ∙ (are_facts.gone number q is.0).1 (before, comes, e)))

  pub sure-whole : (tree : Tree) (q : Place) → IsTreeAt q tree → sure items facts flag_of tree ≡ true → IsSure items
      body n q
  sure-whole = along-tree items body paths (λ q tree. sure items facts flag_of tree ≡ true → IsSure items body n q) kept
    where
      kept : (q : Place) (number : ℕ) (under : Branches) → IsTreeAt q (at_path number under) →
          ((step : Step) (tree : Tree) → branch_by step under ≡ Some tree → IsTreeAt (below q (step ∷ [])) tree
          × (sure items facts flag_of tree ≡ true → IsSure items body n (below q (step ∷ [])))) →
          sure items facts flag_of (at_path number under) ≡ true → IsSure items body n q
      kept q number under is lower all before comes steps = at_steps steps
        where
          there : gone before q ≡ false
          there =
              not-gone q number under is
              (is-not (facts.gone number) (first_so _ (sure_below items facts flag_of under) all)) before comes

          at_branch : (step : Step) (rest : List Step) (o : Option Tree) → branch_by step under ≡ o →
              gone before (below q (step ∷ rest)) ≡ false
          at_branch step rest None e = bare-there q number under is before comes there step e rest
          at_branch step rest (Some tree) e =
              ap (gone before) (sym (below-step q step rest))
              ∙ (lower step tree e).1
              (branch-sure items facts flag_of step tree under e
              (second_so _ (sure_below items facts flag_of under) all)) before comes rest

          at_steps : (steps : List Step) → gone before (below q steps) ≡ false
          at_steps [] = ap (gone before) (below-nil q) ∙ there
          at_steps (step ∷ rest) = at_branch step rest (branch_by step under) refl

  -- ---- the plan of a part

  pub part-is : (under : Branches) (guard : Option ℕ) (step : Step) (id next : TyId) →
      option_and_then (step_ty items step) (type_at items id) ≡ Some next → (o : Option Tree) → branch_by step under ≡
      o →
      part_plan items guard next (plan_by step (plans under id))
      ≡ part_plan items guard next (option_map (λ tree. planned tree next) o)
  part-is under guard step id next e o at =
      ap (part_plan items guard next) (plan-by items facts flag_of step under id)
      ∙ ap (λ (p : Option Tree). part_plan items guard next (option_map (λ tree. planned tree (stepped items step id))
      p)) at
      ∙ ap (λ (z : TyId). part_plan items guard next (option_map (λ tree. planned tree z) o))
      (ap (λ (z : Option TyId). unwrap_or z id) e)

  module _ (q : Place) (number : ℕ) (under : Branches) (is : IsTreeAt q (at_path number under)) (id : TyId)
      (typed : OfType q id) (needs : needs_drop items id ≡ true) where
    abbrev branch_type : Step → TyId → Type 0
    branch_type step next = option_and_then (step_ty items step) (type_at items id) ≡ Some next

    module _ (present : facts.present number ≡ true)
        (lower : (step : Step) (tree : Tree) (next : TyId) → branch_by step under ≡ Some tree →
        OfType (below q (step ∷ [])) next → has_rung (planned tree next) ≡ true → Alive (below q (step ∷ [])))
        (guard : Option ℕ) where
      here : MayBe items body n q false
      here = (are_facts.present number q is.0).0 present

      itself : is_numbered items body id ≡ true → Alive q
      itself numbered = record {
        before = here.0;
        comes = here.1;
        steps = [];
        id = id;
        stays = refl;
        typed = ap (place_id items body) (below-nil q) ∙ typed;
        numbered = numbered;
        there = ap (gone here.0) (below-nil q) ∙ here.2;
      }

      part-alive : (guard : Option ℕ) (step : Step) (next : TyId) → branch_type step next →
          reaches_whole (watched items (Some id) (step ∷ [])) ≡ true →
          has_rung (part_plan items guard next (plan_by step (plans under id))) ≡ true → Alive q
      part-alive guard step next e within rung =
          alive-above items bodies body ready n q step id next typed e within
          (by (branch_by step under) refl
          (sym (ap has_rung (part-is under guard step id next e (branch_by step under) refl)) ∙ rung))
        where
          by : (o : Option Tree) → branch_by step under ≡ o →
              has_rung (part_plan items guard next (option_map (λ tree. planned tree next) o)) ≡ true →
              Alive (below q (step ∷ []))
          by (Some tree) at h = lower step tree next at (step-type items body q step id next typed e) h
          by None at h =
              whole-alive items bodies body ready n (below q (step ∷ [])) next (step-type items body q step id next
              typed e)
              (sym (whole-rung guard (needs_drop items next)) ∙ h) here.0 here.1
              (λ steps. ap (gone here.0) (below-step q step steps)
              ∙ bare-there q number under is here.0 here.1 here.2 step at steps)

      all-alive : under ≡ no_branch → Alive q
      all-alive none = whole-alive items bodies body ready n q id typed needs here.0 here.1 at_steps
        where
          at_steps : (steps : List Step) → gone here.0 (below q steps) ≡ false
          at_steps [] = ap (gone here.0) (below-nil q) ∙ here.2
          at_steps (step ∷ rest) =
              bare-there q number under is here.0 here.1 here.2 step (ap (branch_by step) none) rest

      apart-alive : (ty : Ty) → type_at items id ≡ Some ty → Apart items ty →
          has_rung (taken_apart items guard (is_enum items ty) ty (plans under id)) ≡ true → Alive q
      apart-alive _ at (boxed content) h = itself (box-numbered items body id content at)
      apart-alive _ at (enum k en) h =
          let r = some-variant items has_rung any_rung (λ plan rest. refl) refl some_rung (λ v all rest. refl) refl
          (variants_of (slice_get items.adts k)) (plans under id)
          (sym (ap has_rung (en.apart guard (plans under id))
          ∙ guarded-rung guard (ByVariant (variant_plans items (variants_of (slice_get items.adts k)) (plans under id)
          0))) ∙ h) in
          part-alive None (ToField r.number r.part.part) r.part.id
          (field-type items id r.part.id k r.number r.part.part at en.enum
          (ap (λ (o : Option Variant). slice_get (fields_of o) r.part.part) r.at ∙ r.part.there)) refl r.part.holds
      apart-alive _ at (plainly ty p) h =
          let r = some-part items has_rung any_rung (λ plan rest. refl) refl guard (parts_of items ty 0) ToPart (plans
          under id)
          (sym (ap has_rung (p.apart guard (plans under id))) ∙ h) in
          part-alive guard (ToPart r.part) r.id (part-type items id r.id ty r.part at p.no_enum r.there) refl r.holds

      unless-alive : (b : Bool) → has_drop_impl items id ≡ b → (o : Option Ty) → type_at items id ≡ o →
          has_rung (unless_impl items facts flag_of guard b o (plans under id)) ≡ true → Alive q
      unless-alive true eb o eo h = itself (impl-numbered items body id eb)
      unless-alive false eb None eo h = absurd (typed-needs items body ready.one_variant id eo needs)
      unless-alive false eb (Some ty) eo h = apart-alive ty eo (apart_as items ty) h

      inner-alive : (u : Branches) → under ≡ u → has_rung (inner_plan items facts flag_of u id (plans under id) guard)
          ≡ true → Alive q
      inner-alive no_branch e h = all-alive e
      inner-alive (a_branch step tree rest) e h = unless-alive (has_drop_impl items id) refl (type_at items id) refl h

    -- ---- a plan without one

    module _ (lower : (step : Step) (tree : Tree) (next : TyId) → branch_by step under ≡ Some tree →
        OfType (below q (step ∷ [])) next → has_rung (planned tree next) ≡ false → IsDead items body n (below q (step
        ∷ []))) where
      part-dead : (guard : Option ℕ) (step : Step) (next : TyId) → branch_type step next →
          (has_rung (part_plan items guard next (plan_by step (plans under id))) ≡ true → ⊥) →
          IsDead items body n (below q (step ∷ []))
      part-dead guard step next e none = by (branch_by step under) refl
          (has_rung (part_plan items guard next (plan_by step (plans under id)))) refl
        where
          under_it : OfType (below q (step ∷ [])) next
          under_it = step-type items body q step id next typed e

          by : (o : Option Tree) → branch_by step under ≡ o → (b : Bool) →
              has_rung (part_plan items guard next (plan_by step (plans under id))) ≡ b →
              IsDead items body n (below q (step ∷ []))
          by o at true h = absurd (none h)
          by (Some tree) at false h =
              lower step tree next at under_it (sym (ap has_rung (part-is under guard step id next e (Some tree) at))
              ∙ h)
          by None at false h =
              unneeded-dead items body n (below q (step ∷ [])) next under_it
              (sym (whole-rung guard (needs_drop items next)) ∙ sym (ap has_rung (part-is under guard step id next e
              None at)) ∙ h)

      dead-steps : is_numbered items body id ≡ false →
          ((step : Step) (next : TyId) → branch_type step next → reaches_whole (watched items (Some id) (step ∷ [])) ≡
          true →
          IsDead items body n (below q (step ∷ []))) → IsDead items body n q
      dead-steps no_number each before [] i comes stays t numbered =
          let same : id ≡ i = same_Some id i (sym typed ∙ sym (ap (place_id items body) (below-nil q)) ∙ t) in
          absurd (false≢true (sym no_number ∙ ap (is_numbered items body) same ∙ numbered))
      dead-steps no_number each before (step ∷ rest) i comes stays t numbered =
          let on : reaches_whole (watched items (Some id) (step ∷ rest)) ≡ true =
          sym (ap (λ (o : Option TyId). reaches_whole (watched items o (step ∷ rest))) typed) ∙ stays in
          let within = watched-first items step rest id on in
          let along : ty_along items (step ∷ rest) id ≡ Some i =
          sym (below-type items body q (step ∷ rest) ∙ ap (option_and_then (ty_along items (step ∷ rest))) typed) ∙ t in
          let next = then-some items body (ty_along items rest) (option_and_then (step_ty items step) (type_at items
          id)) i along in
          ap (gone before) (sym (below-step q step rest))
          ∙ each step next.0 next.1 within before rest i comes
          (ap (λ (o : Option TyId). reaches_whole (watched items o rest)) (step-type items body q step id next.0 typed
          next.1)
          ∙ sym (watched-one items step rest id next.0 next.1 within) ∙ on)
          (ap (place_id items body) (below-step q step rest) ∙ t) numbered

      not-true : (b : Bool) → b ≡ false → b ≡ true → ⊥
      not-true b off e = false≢true (sym off ∙ e)

      plain-steps : (ty : Ty) (p : Plainly items ty) → type_at items id ≡ Some ty → (guard : Option ℕ) →
          any_rung (part_plans items guard (parts_of items ty 0) ToPart (plans under id) 0) ≡ false → (step : Step)
          (next : TyId) →
          step_ty items step ty ≡ Some next → branch_type step next →
          reaches_whole (watched items (Some id) (step ∷ [])) ≡ true → IsDead items body n (below q (step ∷ []))
      plain-steps ty p at guard none (ToPart j) next s e within =
          part-dead guard (ToPart j) next e (λ h. not-true _ none
          (part-some items has_rung any_rung (λ plan rest. refl) refl guard (parts_of items ty 0) ToPart (plans under
          id) j next
          (part-there (is_enum items ty) (slice_get (parts_of items ty 0) j) next p.no_enum s) h))
      plain-steps ty p at guard none (ToField v j) next s e within =
          absurd (none-some next (sym (ap (λ (b : Bool). part_if b (slice_get (parts_of items ty v) j)) p.no_enum) ∙ s))
      plain-steps ty p at guard none ToContent next s e within =
          absurd (false≢true (sym (ap (λ (b : Bool). reaches_whole (watched_content b (watched items (option_and_then
          content_of (type_at items id)) [])))
          (ap is_reference at ∙ p.content next s)) ∙ within))
      plain-steps ty p at guard none (ToElement i) next s e within = absurd (false≢true within)

      enum-steps : (k : ℕ) (en : AsEnum items k) → type_at items id ≡ Some (Ty.Adt k) →
          some_rung (variant_plans items (variants_of (slice_get items.adts k)) (plans under id) 0) ≡ false →
          (step : Step) (next : TyId) → step_ty items step (Ty.Adt k) ≡ Some next → branch_type step next →
          reaches_whole (watched items (Some id) (step ∷ [])) ≡ true → IsDead items body n (below q (step ∷ []))
      enum-steps k en at none (ToPart j) next s e within =
          absurd (none-some next (sym (ap (λ (b : Bool). unless_enum b (slice_get (parts_of items (Ty.Adt k) 0) j))
          en.enum) ∙ s))
      enum-steps k en at none (ToField v j) next s e within =
          let there = field-there (is_enum items (Ty.Adt k)) (slice_get (parts_of items (Ty.Adt k) v) j) next s in
          let variant = variant-there (variants_of (slice_get items.adts k)) v j next there in
          part-dead None (ToField v j) next e (λ h. not-true _ none
          (variant-some items has_rung any_rung (λ plan rest. refl) refl some_rung (λ v all rest. refl) refl
          (variants_of (slice_get items.adts k)) (plans under id) v variant.0 j next variant.1 variant.2 h))
      enum-steps k en at none ToContent next s e within = absurd (none-some next s)
      enum-steps k en at none (ToElement i) next s e within = absurd (none-some next s)

      no-dyn : (step : Step) (next : TyId) → branch_type step next → (ty : Ty) → type_at items id ≡ Some ty → Plainly
          items ty →
          is_dyn (Some ty) ≡ false
      no-dyn step next e ty at p = by (is_dyn (Some ty)) refl
        where
          by : (b : Bool) → is_dyn (Some ty) ≡ b → is_dyn (Some ty) ≡ false
          by false d = d
          by true d =
              absurd (none-some next (sym (ap (option_and_then (step_ty items step)) at ∙ p.solid d step) ∙ e))

      unnumbered : (o : Option Ty) → type_at items id ≡ o → is_box o ≡ false → is_dyn o ≡ false →
          has_drop_impl items id ≡ false → is_numbered items body id ≡ false
      unnumbered o at box dyn impl =
          ap (λ (p : Option Ty). is_box p || (is_dyn p || has_drop_impl items id)) at
          ∙ ap (λ (b : Bool). b || (is_dyn o || has_drop_impl items id)) box
          ∙ ap (λ (b : Bool). b || has_drop_impl items id) dyn ∙ impl

      apart-dead : (step : Step) (next : TyId) → branch_type step next → has_drop_impl items id ≡ false → (guard :
          Option ℕ)
          (ty : Ty) → type_at items id ≡ Some ty → Apart items ty →
          has_rung (taken_apart items guard (is_enum items ty) ty (plans under id)) ≡ false → IsDead items body n q
      apart-dead first to e impl guard _ at (boxed content) h = absurd (false≢true (sym h))
      apart-dead first to e impl guard _ at (enum k en) h =
          dead-steps (unnumbered (Some (Ty.Adt k)) at refl refl impl)
          (λ step next s within. enum-steps k en at
          (sym (ap has_rung (en.apart guard (plans under id))
          ∙ guarded-rung guard (ByVariant (variant_plans items (variants_of (slice_get items.adts k)) (plans under id)
          0))) ∙ h)
          step next (sym (ap (option_and_then (step_ty items step)) at) ∙ s) s within)
      apart-dead first to e impl guard _ at (plainly ty p) h =
          dead-steps (unnumbered (Some ty) at p.no_box (no-dyn first to e ty at p) impl)
          (λ step next s within. plain-steps ty p at guard (sym (ap has_rung (p.apart guard (plans under id))) ∙ h)
          step next (sym (ap (option_and_then (step_ty items step)) at) ∙ s) s within)

      unless-dead : (step : Step) (next : TyId) → branch_type step next → (guard : Option ℕ) (b : Bool) →
          has_drop_impl items id ≡ b → (o : Option Ty) → type_at items id ≡ o →
          has_rung (unless_impl items facts flag_of guard b o (plans under id)) ≡ false → IsDead items body n q
      unless-dead step next e guard true eb o eo h = absurd (false≢true (sym h ∙ guarded-rung guard Entire))
      unless-dead step next e guard false eb None eo h = absurd (false≢true (sym h ∙ guarded-rung guard Entire))
      unless-dead step next e guard false eb (Some ty) eo h = apart-dead step next e eb guard ty eo (apart_as items
          ty) h

      inner-dead : (guard : Option ℕ) (u : Branches) → under ≡ u → IsTreeAt q (at_path number u) →
          has_rung (inner_plan items facts flag_of u id (plans under id) guard) ≡ false → IsDead items body n q
      inner-dead guard no_branch e t h = absurd (false≢true (sym h ∙ guarded-rung guard Entire))
      inner-dead guard (a_branch step (at_path k lowest) rest) e t h =
          let s = step-typed items body bodies ready q step id typed (is-path k (below q (step ∷ [])) t.1.0.0) in
          unless-dead step s.0 s.1 guard (has_drop_impl items id) refl (type_at items id) refl h

  pub rung-alive : (tree : Tree) (q : Place) → IsTreeAt q tree → (id : TyId) → OfType q id →
      has_rung (planned tree id) ≡ true → Alive q
  rung-alive = along-tree items body paths (λ q tree. (id : TyId) → OfType q id → has_rung (planned tree id) ≡ true →
      Alive q) kept
    where
      kept : (q : Place) (number : ℕ) (under : Branches) → IsTreeAt q (at_path number under) →
          ((step : Step) (tree : Tree) → branch_by step under ≡ Some tree → IsTreeAt (below q (step ∷ [])) tree
          × ((id : TyId) → OfType (below q (step ∷ [])) id → has_rung (planned tree id) ≡ true → Alive (below q (step
          ∷ [])))) →
          (id : TyId) → OfType q id → has_rung (planned (at_path number under) id) ≡ true → Alive q
      kept q number under is lower id typed rung =
          by (needs_drop items id) refl (facts.present number) refl (sure items facts flag_of (at_path number under))
          refl
          (facts.gone number) rung
        where
          inner : needs_drop items id ≡ true → facts.present number ≡ true → (guard : Option ℕ) →
              has_rung (inner_plan items facts flag_of under id (plans under id) guard) ≡ true → Alive q
          inner needs present guard h =
              inner-alive q number under is id typed needs present
              (λ step tree next at t h. (lower step tree at).1 next t h) guard under refl h

          by : (a : Bool) → needs_drop items id ≡ a → (b : Bool) → facts.present number ≡ b → (s : Bool) →
              sure items facts flag_of (at_path number under) ≡ s → (g : Bool) →
              has_rung (decided a b s g (flag_of number) (inner_plan items facts flag_of under id (plans under id))) ≡
              true →
              Alive q
          by false ea b eb s es g h = absurd (false≢true h)
          by true ea false eb s es g h = absurd (false≢true h)
          by true ea true eb true es g h =
              let may = (are_facts.present number q is.0).0 eb in
              whole-alive items bodies body ready n q id typed ea may.0 may.1 (sure-whole (at_path number under) q is
              es may.0 may.1)
          by true ea true eb false es true h = inner ea eb (flag_of number) h
          by true ea true eb false es false h = inner ea eb None h

  pub no-rung-dead : (tree : Tree) (q : Place) → IsTreeAt q tree → (id : TyId) → OfType q id →
      has_rung (planned tree id) ≡ false → IsDead items body n q
  no-rung-dead = along-tree items body paths (λ q tree. (id : TyId) → OfType q id → has_rung (planned tree id) ≡ false
      → IsDead items body n q) kept
    where
      kept : (q : Place) (number : ℕ) (under : Branches) → IsTreeAt q (at_path number under) →
          ((step : Step) (tree : Tree) → branch_by step under ≡ Some tree → IsTreeAt (below q (step ∷ [])) tree
          × ((id : TyId) → OfType (below q (step ∷ [])) id → has_rung (planned tree id) ≡ false →
          IsDead items body n (below q (step ∷ [])))) →
          (id : TyId) → OfType q id → has_rung (planned (at_path number under) id) ≡ false → IsDead items body n q
      kept q number under is lower id typed rung =
          by (needs_drop items id) refl (facts.present number) refl (sure items facts flag_of (at_path number under))
          refl
          (facts.gone number) rung
        where
          inner : needs_drop items id ≡ true → (guard : Option ℕ) →
              has_rung (inner_plan items facts flag_of under id (plans under id) guard) ≡ false → IsDead items body n q
          inner needs guard h =
              inner-dead q number under is id typed needs
              (λ step tree next at t h. (lower step tree at).1 next t h) guard under refl is h

          absent : facts.present number ≡ false → IsDead items body n q
          absent off before steps i comes stays t numbered = by-gone (gone before q) refl
            where
              by-gone : (b : Bool) → gone before q ≡ b → gone before (below q steps) ≡ true
              by-gone true e = sunk items body before (comes-sunk items body fine n before comes) steps q e
              by-gone false e =
                  absurd (false≢true (sym off ∙ (are_facts.present number q is.0).1 (before, comes, e)))

          by : (a : Bool) → needs_drop items id ≡ a → (b : Bool) → facts.present number ≡ b → (s : Bool) →
              sure items facts flag_of (at_path number under) ≡ s → (g : Bool) →
              has_rung (decided a b s g (flag_of number) (inner_plan items facts flag_of under id (plans under id))) ≡
              false →
              IsDead items body n q
          by false ea b eb s es g h = unneeded-dead items body n q id typed ea
          by true ea false eb s es g h = absent eb
          by true ea true eb true es g h = absurd (false≢true (sym h))
          by true ea true eb false es true h = inner ea (flag_of number) h
          by true ea true eb false es false h = inner ea None h
